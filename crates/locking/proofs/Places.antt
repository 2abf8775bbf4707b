-- The table of places by the processors: a loop that marks the tasks of a list, and the total of a pending task by its
-- place. Assumes nothing.
use Rattle.std.proofs.Common.{◌≡◌, ℕ, ◌+◌, ◌<◌, ◌≤◌, Bool, true, false, ◌&&◌, ◌||◌, ltb, List, length, get_or, set, replicate, sym, refl, ◌∙◌, add-one, arith, length-set, get_or-set_other, get_or-set_same, le-ltb, lt-ltb, eq-eqb, ne_eqb}
use native.Mathlib.Decide.{ℕ_discrete, dec_lt}
use Rattle.std.specs.Prelude.{if◌then◌else◌}
use Rattle.search.specs.Words.{◌is◌}
use Rattle.search.specs.Below.{any_below}
use Rattle.search.specs.First.{first}
use Rattle.search.specs.Table.{table}
use Rattle.search.proofs.Firsts.{first_law}
use Rattle.search.proofs.Tables.{get_d_any, replicate_at, table_at, table_of, table_same}
use Rattle.search.proofs.Tests.{any_below_iff, any_below_none_iff}
use Rattle.numbers.specs.Limits.{most_processors, nobody, most_tasks}
use Rattle.processors.specs.Words.{place_of, link_of, run_of}
use Rattle.processors.specs.declared.Processors.{Processors}
use Rattle.protocol.specs.Records.{total_count}
use Rattle.protocol.specs.Words.{absent, spinning, suspended}
use Rattle.protocol.specs.Situations.{situation_of, total_of}
use Rattle.protocol.specs.declared.Situation.TheVariants.{Running, Spinning, LinkedOnly, Ready, Suspended}
use Rattle.locking.specs.Totals.{marked_by, total_awake, place_by, total_by}

-- ---- the tasks of a list marked
-- m is l with a place for each task among the first k of a list
pub record Marked (place : ℕ) (tasks l : List ℕ) (k : ℕ) (m : List ℕ) : Type 0 where
  pub long : length m ≡ most_tasks
  pub at : (t : ℕ) → t < most_tasks → get_or m t 0 ≡ (if any_below k (λ j. get_or tasks j nobody is t) then place else get_or l t 0)

pub marked_none : (place : ℕ) (tasks l : List ℕ) → length l ≡ most_tasks → Marked place tasks l 0 l
unfolding any_below
marked_none place tasks l h = record { long = h; at = λ t g. refl }

join_true : (b : Bool) (x y : ℕ) → x ≡ (if b || true then x else y)
join_true true x y = refl
join_true false x y = refl

join_false : (b : Bool) (x y : ℕ) → (if b then x else y) ≡ (if b || false then x else y)
join_false true x y = refl
join_false false x y = refl

pub marked_turn : (place : ℕ) (tasks l : List ℕ) (k : ℕ) (m : List ℕ) → k < length tasks → get_or tasks k 0 < most_tasks
    → Marked place tasks l k m → Marked place tasks l (k + 1) (set m (get_or tasks k 0) place)
unfolding any_below
marked_turn place tasks l k m h b r = record {
  long = length-set m (get_or tasks k 0) place ∙ r.long;
  at = λ t g. elim (ℕ_discrete t (get_or tasks k 0)) [
    | yes e ↦ rw (e, add-one k, get_or-set_same m (get_or tasks k 0) place 0 (omega (arith, r.long)), get_d_any tasks k nobody 0 h, eq-eqb (get_or tasks k 0) (get_or tasks k 0) refl) (join_true (any_below k (λ j. get_or tasks j nobody is get_or tasks k 0)) place (get_or l (get_or tasks k 0) 0))
    | no d ↦ rw (add-one k, get_or-set_other m (get_or tasks k 0) t place 0 d, r.at t g, get_d_any tasks k nobody 0 h, ne_eqb (get_or tasks k 0) t (λ e. d (sym e))) (join_false (any_below k (λ j. get_or tasks j nobody is t)) place (get_or l t 0))
  ];
}

-- one that is no task's number marks nothing
pub marked_past : (place : ℕ) (tasks l : List ℕ) (k : ℕ) (m : List ℕ) → k < length tasks → most_tasks ≤ get_or tasks k 0
    → Marked place tasks l k m → Marked place tasks l (k + 1) m
unfolding any_below
marked_past place tasks l k m h b r = record {
  long = r.long;
  at = λ t g. rw (add-one k, r.at t g, get_d_any tasks k nobody 0 h, ne_eqb (get_or tasks k 0) t (λ e. absurd (omega (arith, e)))) (join_false (any_below k (λ j. get_or tasks j nobody is t)) place (get_or l t 0));
}

-- some number below n passes where the first that does is below n
any_first : (n : ℕ) (ok : ℕ → Bool) → any_below n ok ≡ ltb (first ok 0 n) n
any_first n ok =
    let f = first_law ok 0 n in
    elim (dec_lt (first ok 0 n) n) [
      | yes h ↦ (any_below_iff n ok).1 (first ok 0 n, h, f.here (omega arith)) ∙ sym (lt-ltb (first ok 0 n) n h)
      | no h ↦ (any_below_none_iff n ok).1 (λ i g. f.before i (omega arith) (omega arith)) ∙ sym (le-ltb (first ok 0 n) n (omega arith))
    ]

pub marked_all : (place : ℕ) (tasks l m : List ℕ) → Marked place tasks l most_processors m → m ≡ marked_by place tasks l
marked_all place tasks l m r =
    table_of (λ t. if ltb (place_of tasks t) most_processors then place else get_or l t 0) m most_tasks 0 r.long
    (λ t h. r.at t h ∙ rw (any_first most_processors (λ j. get_or tasks j nobody is t)))

-- ---- the table of all places
pub places_all : (p : Processors)
    → marked_by (total_awake Running) p.running (marked_by (total_awake LinkedOnly) p.linked (replicate most_tasks (total_awake Ready))) ≡ table (place_by p) most_tasks
unfolding link_of run_of
places_all p =
    table_same (λ t. if ltb (place_of p.running t) most_processors then total_awake Running else get_or (marked_by (total_awake LinkedOnly) p.linked ready) t 0) (place_by p) most_tasks
    (λ t h. rw (
      table_at (λ t. if ltb (place_of p.linked t) most_processors then total_awake LinkedOnly else get_or ready t 0) most_tasks t 0 h,
      get_d_any ready t 0 (total_awake Ready) h,
      replicate_at most_tasks t (total_awake Ready),
    ))
  where
    ready : List ℕ
    ready = replicate most_tasks (total_awake Ready)

-- ---- the total by the place
pub place_low : (p : Processors) (t : ℕ) → place_by p t < total_count
place_low p t = go (ltb (run_of p t) most_processors) (ltb (link_of p t) most_processors)
  where
    go : (a b : Bool) → (if a then total_awake Running else if b then total_awake LinkedOnly else total_awake Ready) < total_count
    go true b = omega arith
    go false true = omega arith
    go false false = omega arith

pub total_by_low : (a place : ℕ) (foremost : Bool) → place < total_count → total_by a place foremost < total_count
total_by_low a place foremost h = go (a is suspended) (a is spinning && place is total_awake Running) foremost
  where
    go : (b c f : Bool) → (if b then total_of Suspended f else if c then total_awake Spinning else place) < total_count
    go true c true = omega arith
    go true c false = omega arith
    go false true f = omega arith
    go false false f = h

pub total_by_place : (a t : ℕ) (p : Processors) (foremost : Bool) → (a ≡ absent → ⊥) → total_by a (place_by p t) foremost ≡ total_of (situation_of a p t) foremost
total_by_place a t p foremost h = rw (ne_eqb a absent h) (go (a is suspended) (a is spinning) (ltb (run_of p t) most_processors) (ltb (link_of p t) most_processors))
  where
    go : (b c d e : Bool)
        → (if b then total_of Suspended foremost else if (c && (if d then total_awake Running else if e then total_awake LinkedOnly else total_awake Ready) is total_awake Running) then total_awake Spinning
        else if d then total_awake Running else if e then total_awake LinkedOnly else total_awake Ready)
        ≡ total_of (if b then Suspended else if d then (if c then Spinning else Running) else if e then LinkedOnly else Ready) foremost
    go true c d e = refl
    go false true true e = refl
    go false false true e = refl
    go false true false true = refl
    go false true false false = refl
    go false false false true = refl
    go false false false false = refl
