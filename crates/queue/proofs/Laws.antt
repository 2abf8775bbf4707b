-- The laws of queues: a queue is a list that grows at its end and shrinks at its front. Assumes nothing.
use Prim.Native.Nat.{ℕ, zero, suc, ◌+◌, ◌-◌, ◌≤◌, ◌<◌}
use mathlib.Core.Path.{◌≡◌, refl, sym, ap, subst, ◌∙◌}
use mathlib.Core.Bool.{true}
use mathlib.Core.List.{[], ◌∷◌, ◌++◌}
use mathlib.Core.Logic.{◌≢◌, ◌⊎◌, inl, inr, ⊎_elim, ◌↔◌}
use native.Mathlib.Omega.{arith}
use native.Mathlib.Numerals.{add-one}
use native.Mathlib.Decide.{ℕ_discrete, dec_lt}
use lib.ListN.{length, set, take, drop, length-set, get_or-eq_default}
use lib.Seq.{length-take-le, take-suc-set, get_or_at, get_or-drop, get_or-set_other}
use borrow.Author.Tests.{lt-ltb, le-ltb, eqb-true, eq-eqb}
use Rattle.search.specs.Words.{◌is◌}
use Rattle.search.proofs.Tests.{tests, never}
use Rattle.search.proofs.Firsts.{first_law}
use Rattle.search.proofs.Pigeons.{pigeons}
use Rattle.queue.specs.Limits.{capacity}
use Rattle.numbers.specs.Limits.{nobody}
use Rattle.queue.specs.declared.Queue.{Queue}
use Rattle.queue.specs.Waiting.{waiting, waiter, empty, appended, moved_up, without_first, place_of, is_clear, is_tidy}
use Rattle.queue.specs.Tidy.{Tidy, Waits, Distinct}
use Rattle.search.proofs.Tables.{replicate_at}
use Rattle.queue.proofs.Lists.{take_past, snoc_other, moved_at, moved_length, moved_taken}

-- ---- the two edits by their cases
append_some : (q : Queue) (t : ℕ) → q.len < capacity → appended q t ≡ record { tasks = set q.tasks q.len t; len = q.len + 1 }
unfolding appended
append_some q t h = rw (lt-ltb q.len capacity h)

append_full : (q : Queue) (t : ℕ) → capacity ≤ q.len → appended q t ≡ q
unfolding appended
append_full q t h = rw (le-ltb q.len capacity h)

without_some : (q : Queue) → 0 < q.len → without_first q ≡ record { tasks = moved_up q.tasks; len = q.len - 1 }
unfolding without_first
without_some q h = rw (lt-ltb 0 q.len h)

without_none : (q : Queue) → q.len ≤ 0 → without_first q ≡ q
unfolding without_first
without_none q h = rw (le-ltb 0 q.len h)

-- ---- tidy queues
-- the test says what it tests
pub tidy_test : (q : Queue) → length q.tasks ≡ capacity → (is_tidy q ≡ true) ↔ Tidy q
unfolding is_tidy is_clear
tidy_test q s = (there, λ y. simp tests (y.fits, λ i _ g. y.blank i g))
  where
    there : is_tidy q ≡ true → Tidy q
    there h =
        let y = simp tests at h in
        record {
          sized = s;
          fits = y.0;
          blank = λ i g. elim (dec_lt i capacity) [ yes l ↦ y.1 i l g | no n ↦ get_or-eq_default q.tasks nobody (omega arith) ];
        }

-- the empty queue is tidy, and the edits keep a queue tidy
pub empty_tidy : Tidy empty
unfolding empty
empty_tidy = record { sized = refl; fits = omega arith; blank = λ i _. replicate_at capacity i nobody }

pub append_tidy : (q : Queue) (t : ℕ) → Tidy q → q.len < capacity → Tidy (appended q t)
append_tidy q t y h = subst Tidy (sym (append_some q t h)) record {
  sized = length-set q.tasks q.len t ∙ y.sized;
  fits = omega arith;
  blank = λ i g. get_or-set_other q.tasks q.len i t nobody (λ e. omega arith) ∙ y.blank i (omega arith);
}

pub without_tidy : (q : Queue) → Tidy q → Tidy (without_first q)
unfolding moved_up
without_tidy q y = elim (dec_lt 0 q.len) [
  | yes h ↦ subst Tidy (sym (without_some q h)) record {
    sized = moved_length q.tasks nobody (omega arith) ∙ y.sized;
    fits = omega arith;
    blank = λ i g. moved_at q.tasks i nobody ∙ y.blank (suc i) (omega arith);
  }
  | no n ↦ subst Tidy (sym (without_none q (omega arith))) y
]

-- ---- the waiting tasks as a list
-- as many wait as the length says
pub waiting_length : (q : Queue) → Tidy q → length (waiting q) ≡ q.len
unfolding waiting
waiting_length q y = length-take-le q.len q.tasks (omega arith)

-- who is appended waits behind the others
pub append_waiting : (q : Queue) (t : ℕ) → Tidy q → q.len < capacity → waiting (appended q t) ≡ waiting q ++ (t ∷ [])
unfolding waiting
append_waiting q t y h = ap waiting (append_some q t h) ∙ rw add-one (take-suc-set q.tasks q.len t (omega arith))

-- the others wait in the order they did
pub without_waiting : (q : Queue) → Tidy q → waiting (without_first q) ≡ drop 1 (waiting q)
unfolding waiting moved_up
without_waiting q y = elim (dec_lt 0 q.len) [
  | yes h ↦
      let z : suc (q.len - 1) ≡ q.len = omega arith in
      ap waiting (without_some q h) ∙ moved_taken (q.len - 1) q.tasks nobody (omega arith) ∙ ap (λ (n : ℕ). drop 1 (take n q.tasks)) z
  | no n ↦
      let z : q.len ≡ 0 = omega arith in
      ap waiting (without_none q (omega arith)) ∙ ap (λ (n : ℕ). take n q.tasks) z ∙ sym (ap (λ (n : ℕ). drop 1 (take n q.tasks)) z)
]

-- ---- how many wait
-- one more waits
pub append_len : (q : Queue) (t : ℕ) → q.len < capacity → (appended q t).len ≡ suc q.len
append_len q t h = ap (λ (x : Queue). x.len) (append_some q t h) ∙ add-one q.len

-- one fewer waits
pub without_len : (q : Queue) → (without_first q).len ≡ q.len - 1
without_len q = elim (dec_lt 0 q.len) [
  | yes h ↦ ap (λ (x : Queue). x.len) (without_some q h)
  | no n ↦ ap (λ (x : Queue). x.len) (without_none q (omega arith)) ∙ omega arith
]

-- ---- who waits at a place
-- nobody waits past the length
pub past_end : (q : Queue) (i : ℕ) → q.len ≤ i → waiter q i ≡ nobody
unfolding waiter waiting
past_end q i h = take_past q.len q.tasks i nobody h

-- who is appended waits at the last place
pub append_last : (q : Queue) (t : ℕ) → Tidy q → q.len < capacity → waiter (appended q t) q.len ≡ t
unfolding waiter
append_last q t y h = rw (append_waiting q t y h) (get_or_at (waiting q) t [] nobody q.len (waiting_length q y))

-- the other places are as they were
pub append_place : (q : Queue) (t i : ℕ) → Tidy q → i ≢ q.len → waiter (appended q t) i ≡ waiter q i
unfolding waiter
append_place q t i y d = elim (dec_lt q.len capacity) [
  | yes h ↦ rw (append_waiting q t y h) (snoc_other (waiting q) t i nobody (λ e. d (e ∙ waiting_length q y)))
  | no n ↦ ap (λ (x : Queue). waiter x i) (append_full q t (omega arith))
]

-- each waits a place further up
pub without_place : (q : Queue) (i : ℕ) → Tidy q → waiter (without_first q) i ≡ waiter q (suc i)
unfolding waiter
without_place q i y =
    let z : 1 + i ≡ suc i = omega arith in
    rw (without_waiting q y, get_or-drop 1 (waiting q) i nobody, z)

-- ---- who waits at all
-- a place of the longer queue is the new last one, or as it was
append_view : (q : Queue) (t i : ℕ) → Tidy q → q.len < capacity → i < (appended q t).len
    → ((i ≡ q.len) × (waiter (appended q t) i ≡ t)) ⊎ ((i < q.len) × (waiter (appended q t) i ≡ waiter q i))
append_view q t i y h l = elim (ℕ_discrete i q.len) [
  | yes e ↦ inl (e, ap (waiter (appended q t)) e ∙ append_last q t y h)
  | no d ↦ inr (omega (arith, append_len q t h), append_place q t i y d)
]

-- those who waited wait, and t
pub append_waits : (q : Queue) (t u : ℕ) → Tidy q → q.len < capacity → Waits (appended q t) u ↔ (Waits q u ⊎ (u ≡ t))
append_waits q t u y h = (
  λ w. ⊎_elim (λ a. inr (sym w.2 ∙ a.1)) (λ a. inl (w.0, a.0, sym a.1 ∙ w.2)) (append_view q t w.0 y h w.1),
  ⊎_elim
      (λ w. (w.0, omega (arith, append_len q t h), append_place q t w.0 y (λ e. omega arith) ∙ w.2))
      (λ e. (q.len, omega (arith, append_len q t h), append_last q t y h ∙ sym e)),
)

-- those who waited are the first and those who still wait
pub without_waits : (q : Queue) (u : ℕ) → Tidy q → 0 < q.len → Waits q u ↔ ((u ≡ waiter q 0) ⊎ Waits (without_first q) u)
without_waits q u y h = (
  λ w. there w.0 w.1 w.2,
  ⊎_elim (λ e. (0, h, sym e)) (λ w. (suc w.0, omega (arith, without_len q), sym (without_place q w.0 y) ∙ w.2)),
)
  where
    there : (i : ℕ) → i < q.len → waiter q i ≡ u → (u ≡ waiter q 0) ⊎ Waits (without_first q) u
    there zero l e = inl (sym e)
    there (suc i) l e = inr (i, omega (arith, without_len q), without_place q i y ∙ e)

-- ---- no task waits twice
-- one who did not wait is appended: no task waits twice
pub append_distinct : (q : Queue) (t : ℕ) → Tidy q → Distinct q → (Waits q t → ⊥) → Distinct (appended q t)
append_distinct q t y d new = elim (dec_lt q.len capacity) [
  | no n ↦ subst Distinct (sym (append_full q t (omega arith))) d
  | yes h ↦ λ i k l m e. ⊎_elim
      (λ a. ⊎_elim (λ b. omega arith) (λ b. absurd (new (k, b.0, omega arith))) (append_view q t k y h m))
      (λ a. ⊎_elim (λ b. absurd (new (i, a.0, omega arith))) (λ b. d i k a.0 b.0 (omega arith)) (append_view q t k y h m))
      (append_view q t i y h l)
]

-- the first goes: no task waits twice
pub without_distinct : (q : Queue) → Tidy q → Distinct q → Distinct (without_first q)
without_distinct q y d i k l m e =
    omega (arith, d (suc i) (suc k) (omega (arith, without_len q)) (omega (arith, without_len q)) (sym (without_place q i y) ∙ e ∙ without_place q k y))

-- the first does not wait any more
pub first_gone : (q : Queue) → Tidy q → Distinct q → Waits (without_first q) (waiter q 0) → ⊥
first_gone q y d w =
    let l : suc w.0 < q.len = omega (arith, without_len q) in
    omega (arith, d (suc w.0) 0 l (omega arith) (sym (without_place q w.0 y) ∙ w.2))

-- ---- the place of a task
-- t waits at place i: the first such place is not behind i
place_low : (q : Queue) (t i : ℕ) → waiter q i ≡ t → place_of q t ≤ i
unfolding place_of
place_low q t i e = elim (dec_lt i (place_of q t)) [
  | yes l ↦ never ((first_law (λ i. waiter q i is t) 0 capacity).before i (omega arith) l) (eq-eqb (waiter q i) t e)
  | no n ↦ omega arith
]

-- who waits at the place that was found
place_here : (q : Queue) (t : ℕ) → place_of q t < capacity → waiter q (place_of q t) ≡ t
unfolding place_of
place_here q t h = eqb-true (waiter q (place_of q t)) t ((first_law (λ i. waiter q i is t) 0 capacity).here h)

-- the place of the task that waits at place i is i
pub place_of_waiter : (q : Queue) (i : ℕ) → Tidy q → Distinct q → i < q.len → place_of q (waiter q i) ≡ i
place_of_waiter q i y d h =
    let l : place_of q (waiter q i) ≤ i = place_low q (waiter q i) i refl in
    d (place_of q (waiter q i)) i (omega arith) h (place_here q (waiter q i) (omega arith))

-- a task has a place exactly when it waits
pub place_of_some : (q : Queue) (t : ℕ) → Tidy q → t ≢ nobody → (place_of q t < capacity) ↔ Waits q t
place_of_some q t y some = (
  λ h. (
    place_of q t,
    elim (dec_lt (place_of q t) q.len) [ yes l ↦ l | no n ↦ absurd (some (sym (place_here q t h) ∙ past_end q (place_of q t) (omega arith))) ],
    place_here q t h,
  ),
  λ w. omega (arith, place_low q t w.0 w.2),
)

-- ---- how many distinct tasks there can be
-- distinct tasks below m: at most m wait
pub few : (q : Queue) (m : ℕ) → Distinct q → ((i : ℕ) → i < q.len → waiter q i < m) → q.len ≤ m
few q m d low = pigeons m q.len (waiter q) low d
