-- A job that is linked but not running after a move was so before it, or is the one that arrived. Assumes nothing.
use Prim.Native.Nat.{ℕ, ◌<◌}
use mathlib.Core.Path.{◌≡◌, refl, sym, ap, ◌∙◌}
use mathlib.Core.Bool.{Bool, true, false, ◌&&◌}
use mathlib.Core.Logic.{◌≢◌, ◌⊎◌, inl, inr, ⊎_elim}
use native.Mathlib.Omega.{arith}
use native.Mathlib.Decide.{dec_lt}
use lib.Dec.{ltb}
use borrow.Author.Tests.{lt-ltb, le-ltb, ltb-true}
use Rattle.std.specs.Prelude.{if◌then◌else◌}
use Rattle.search.proofs.Tests.{and_left}
use Rattle.numbers.specs.Limits.{most_processors, most_tasks, nobody}
use Rattle.processors.specs.Words.{link, runs, run_of, is_higher, is_awaited, place_on, link_on}
use Rattle.scheduler.specs.Arriving.{lowest_linked, can_preempt, displacing, arriving_on}
use Rattle.scheduler.specs.Leaving.{becoming_preemptable, next_task, filling, refilling, leaving_from, leaving, giving_way}
use Rattle.scheduler.specs.Placed.{Sized, Placed, LinkedOnly}
use Rattle.processors.specs.declared.Jobs.{Jobs}
use Rattle.processors.specs.declared.Processors.{Processors}
use Rattle.scheduler.proofs.Finds.{run_here}
use Rattle.scheduler.proofs.Moves.{Put, put_place, put_link, put_at}

-- k is given a link that runs there; what ran on k is linked nowhere else
placed_waits : (p p' : Processors) (k a u : ℕ) → Put p p' k a a → (runs p k ≢ nobody → (m : ℕ) → runs p k ≡ link p m → k ≡ m) → LinkedOnly p' u → LinkedOnly p u
placed_waits p p' k a u W only X =
    let m = X.linked.0 in
    let far : m ≢ k = λ e. X.waits k ((put_at p p' k a a W).1 ∙ sym (put_at p p' k a a W).0 ∙ ap (link p') (sym e) ∙ X.linked.1) in
    let was : link p m ≡ u = ⊎_elim (λ x. absurd (far x.0)) (λ x. sym x.1 ∙ X.linked.1) (W.view m) in
    record {
      task = X.task;
      linked = (m, was);
      waits = λ i e. ⊎_elim
          (λ x. let r : runs p k ≡ u = ap (runs p) (sym x.0) ∙ e in far (sym (only (λ z. omega (arith, X.task)) m (r ∙ sym was))))
          (λ x. X.waits i (x.2 ∙ e)) (W.view i);
    }

-- k is given a link and runs on
linked_waits : (p p' : Processors) (k a u : ℕ) → Put p p' k a (runs p k) → LinkedOnly p' u → (u ≡ a) ⊎ LinkedOnly p u
linked_waits p p' k a u W X =
    let still : (m : ℕ) → runs p' m ≡ runs p m = λ m. ⊎_elim (λ x. x.2 ∙ ap (runs p) (sym x.0)) (λ x. x.2) (W.view m) in
    ⊎_elim (λ x. inl (sym X.linked.1 ∙ x.1))
    (λ x. inr (record { task = X.task; linked = (X.linked.0, sym x.1 ∙ X.linked.1); waits = λ i e. X.waits i (still i ∙ e) })) (W.view X.linked.0)

-- ---- the rule for a freed processor
module _ (p : Processors) (j : Jobs) (k u : ℕ) (Z : Sized p) (l : k < most_processors) (idle : runs p k ≡ nobody) where
  filled : (v : ℕ) → LinkedOnly (filling p k v (run_of p v)) u → LinkedOnly p u
  unfolding filling
  filled v X = elim (dec_lt (run_of p v) most_processors) [
    | yes g ↦
        let q = run_of p v in
        let W₁ = put_link p q v Z g in
        let p₁ = link_on p q v in
        let X₁ = placed_waits p₁ _ k (link p q) u (put_place p₁ k (link p q) W₁.sized l) (λ d. absurd (d idle)) (rw (lt-ltb _ _ g) at X) in
        ⊎_elim (λ e. absurd (X₁.waits q (run_here p v g ∙ sym e))) (λ Y. Y) (linked_waits p p₁ q v u W₁ X₁)
    | no g ↦ placed_waits p (place_on p k v) k v u (put_place p k v Z l) (λ d. absurd (d idle)) (rw (le-ltb (run_of p v) most_processors (omega arith)) at X)
  ]

  refilled : LinkedOnly (refilling p j k) u → LinkedOnly p u
  unfolding refilling
  refilled X = elim (dec_lt (next_task p j) most_tasks) [
    | yes g ↦ filled (next_task p j) (rw (lt-ltb _ _ g) at X)
    | no g ↦ rw (le-ltb (next_task p j) most_tasks (omega arith)) at X
  ]

-- ---- the moves
module _ (p : Processors) (j : Jobs) (P : Placed p j) (t u : ℕ) where
  Z : Sized p
  Z = P.settled.sized

  own : (k : ℕ) → runs p k ≢ nobody → (m : ℕ) → runs p k ≡ link p m → k ≡ m
  own k d m e = P.settled.running_linked k m d e

  awaited_waits : (k : ℕ) → k < most_processors → (b : Bool) (other : Processors) → (LinkedOnly other u → LinkedOnly p u) → LinkedOnly (if b then place_on p k (link p k) else other) u → LinkedOnly p u
  awaited_waits k l true other f X = placed_waits p _ k (link p k) u (put_place p k (link p k) Z l) (own k) X
  awaited_waits k l false other f X = f X

  pub soften_waits : LinkedOnly (becoming_preemptable p t) u → LinkedOnly p u
  unfolding becoming_preemptable
  soften_waits X = elim (dec_lt (run_of p t) most_processors) [
    | yes g ↦ awaited_waits (run_of p t) g (is_awaited p (run_of p t)) p (λ x. x) (rw (lt-ltb _ _ g) at X)
    | no g ↦ rw (le-ltb (run_of p t) most_processors (omega arith)) at X
  ]

  pub going_waits : (j' : Jobs) → LinkedOnly (leaving p j' t) u → LinkedOnly p u
  unfolding leaving leaving_from
  going_waits j' X = elim (dec_lt (run_of p t) most_processors) [
    | yes g ↦
        let k = run_of p t in
        let W = put_place p k nobody Z g in
        awaited_waits k g (is_awaited p k) _
        (λ Y. placed_waits p _ k nobody u W (own k) (refilled (place_on p k nobody) j' k u W.sized g (put_at p _ k nobody nobody W).1 Y)) (rw (lt-ltb _ _ g) at X)
    | no g ↦ rw (le-ltb (run_of p t) most_processors (omega arith)) at X
  ]

  pub gives_way_waits : (j' : Jobs) → LinkedOnly (giving_way p j' t) u → LinkedOnly p u
  unfolding giving_way
  gives_way_waits j' X = go (ltb (next_task p j') most_tasks && is_higher j' (next_task p j') t) X
    where
      go : (b : Bool) → LinkedOnly (if b then leaving p j' t else p) u → LinkedOnly p u
      go true X = going_waits j' X
      go false X = X

  displaced_waits : (j' : Jobs) (k : ℕ) → LinkedOnly (displacing p j' t k) u → (u ≡ t) ⊎ LinkedOnly p u
  unfolding displacing
  displaced_waits j' k X = go (ltb k most_processors && is_higher j' t (link p k)) refl (can_preempt p j' k) X
    where
      go : (b : Bool) → (ltb k most_processors && is_higher j' t (link p k)) ≡ b → (c : Bool) → LinkedOnly (if b then if c then place_on p k t else link_on p k t else p) u → (u ≡ t) ⊎ LinkedOnly p u
      go false e c X = inr X
      go true e true X = inr (placed_waits p _ k t u (put_place p k t Z (ltb-true _ _ (and_left _ _ e))) (own k) X)
      go true e false X = linked_waits p _ k t u (put_link p k t Z (ltb-true _ _ (and_left _ _ e))) X

  pub coming_waits : (j' : Jobs) (k : ℕ) → LinkedOnly (arriving_on p j' t k) u → (u ≡ t) ⊎ LinkedOnly p u
  unfolding arriving_on
  coming_waits j' k X = elim (dec_lt k most_processors) [
    | yes h ↦ inr (placed_waits p (place_on p k t) k t u (put_place p k t Z h) (own k) (rw (lt-ltb _ _ h) at X))
    | no h ↦ displaced_waits j' (lowest_linked p j') (rw (le-ltb k most_processors (omega arith)) at X)
  ]
