-- The answers 26 and 19 tell why a job is not on a processor. Assumes nothing.
use Prim.Native.Nat.{ℕ, ◌≤◌}
use mathlib.Core.Path.{◌≡◌, refl, subst, ◌∙◌}
use mathlib.Core.Bool.{Bool, true, false, ◌&&◌}
use mathlib.Core.List.{List, [], ◌∷◌, ◌++◌}
use mathlib.Core.Logic.{◌⊎◌, inl, inr, ⊎_elim}
use native.Mathlib.Omega.{arith}
use native.Mathlib.Decide.{ℕ_discrete}
use lib.ListN.{take, drop, take-append-drop}
use borrow.Author.Tests.{eqb-true, leb-true, eq-eqb, ne_eqb}
use Rattle.search.specs.Words.{◌is◌}
use Rattle.search.proofs.Tests.{and_left, and_right}
use Rattle.numbers.specs.Rows.{Row, first_of}
use Rattle.input.specs.Kinds.{arrival, finish}
use Rattle.input.specs.declared.Event.{Event}
use Rattle.protocol.specs.Situations.{situation, situation_refusal}
use Rattle.protocol.specs.Refusals.{event_rows, judge}
use Rattle.protocol.specs.Events.{Prefers, step_by}
use Rattle.protocol.specs.Demands.{is_of_job, is_earlier, TellsWhy}
use Rattle.protocol.specs.declared.State.{State}
use Rattle.protocol.proofs.Events.Numbers.{event_numbers}
use Rattle.protocol.proofs.Events.Situations.{only_suspended, of_suspended, only_off, of_off}

-- the numbers of all rows pass a test; it computes without the rows' tests
abbrev all_numbers : (ℕ → Bool) → List Row → Bool
all_numbers ok [] = true
all_numbers ok (row ∷ rows) = ok row.0 && all_numbers ok rows

-- rows in front of others: one of their numbers is given, or what the others give
in_front : (ok : ℕ → Bool) (rows others : List Row) → all_numbers ok rows ≡ true
    → (first_of (rows ++ others) ≡ first_of others) ⊎ (ok (first_of (rows ++ others)) ≡ true)
in_front ok [] others h = inl refl
in_front ok (row ∷ rows) others h = go row.1 refl (in_front ok rows others (and_right (ok row.0) _ h))
  where
    go : (b : Bool) → row.1 ≡ b → (first_of (rows ++ others) ≡ first_of others) ⊎ (ok (first_of (rows ++ others)) ≡ true)
        → (first_of (row ∷ rows ++ others) ≡ first_of others) ⊎ (ok (first_of (row ∷ rows ++ others)) ≡ true)
    go true q ih = inr (rw q (and_left _ _ h))
    go false q ih = rw q ih

module _ (s : State) (e : Event) where
  abbrev t : ℕ
  t = e.task

  -- what the job's situation gives
  abbrev refusal : ℕ
  refusal = situation_refusal (situation s t)

  -- the rows from 16 on, which look at the job
  abbrev later : ℕ
  later = first_of (drop 7 (event_rows s e))

  row26 : judge s e ≡ 26 → (is_of_job e ≡ true) × (refusal ≡ 26)
  unfolding event_rows
  row26 h = let z = ((event_numbers s e).job_suspended.0 h).applies in (and_left _ _ z, eqb-true _ _ (and_right (is_of_job e) _ z))

  row19 : judge s e ≡ 19 → (is_of_job e ≡ true) × (refusal ≡ 19)
  unfolding event_rows
  row19 h = let z = ((event_numbers s e).for_on_no_processor.0 h).applies in (and_left _ _ z, eqb-true _ _ (and_right (is_of_job e) _ z))

  earlier : (judge s e ≡ later) ⊎ (is_earlier (judge s e) ≡ true)
  unfolding judge event_rows
  earlier = subst (λ rows. (first_of rows ≡ later) ⊎ (is_earlier (first_of rows) ≡ true)) (take-append-drop 7 (event_rows s e))
      (in_front is_earlier (take 7 (event_rows s e)) (drop 7 (event_rows s e)) refl)

  no_arrival : is_of_job e ≡ true → (e.kind is arrival) ≡ false
  no_arrival h = let l : finish ≤ e.kind = leb-true _ _ (and_left _ _ h) in ne_eqb e.kind arrival (λ z. omega arith)

  later_26 : is_of_job e ≡ true → refusal ≡ 26 → later ≡ 26
  unfolding event_rows
  later_26 k h = rw (no_arrival k, k, h)

  later_19 : is_of_job e ≡ true → refusal ≡ 19 → later ≡ 19
  unfolding event_rows
  later_19 k h = rw (no_arrival k, k, h)

  told : TellsWhy s e (judge s e)
  told = record {
    suspended_given = λ h. let z = row26 h in (z.0, only_suspended s t z.1);
    off_given = λ h. let z = row19 h in (z.0, only_off s t z.1);
    of_suspended = λ k h. ⊎_elim (λ x. inl (x ∙ later_26 k (of_suspended s t h))) inr earlier;
    of_off = λ k h. ⊎_elim (λ x. inl (x ∙ later_19 k (of_off s t h))) inr earlier;
  }

  -- the answer is the refusal, whatever is suggested
  pub answer_tells : (pick : Prefers) → TellsWhy s e (step_by pick s e).answer
  unfolding step_by
  answer_tells pick = elim (ℕ_discrete (judge s e) 0) [ yes ok ↦ rw (eq-eqb (judge s e) 0 ok) (subst (TellsWhy s e) ok told) | no d ↦ rw (ne_eqb _ _ d) told ]
