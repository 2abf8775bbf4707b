-- What a verdict's number says of the rows, and how long its part is. Assumes nothing.
use Prim.Native.Nat.{ℕ, ◌≤◌}
use mathlib.Core.Path.{◌≡◌, refl, ◌∙◌}
use mathlib.Core.Bool.{Bool, true, false}
use mathlib.Core.List.{List}
use mathlib.Core.Logic.{◌≢◌, ◌↔◌}
use native.Mathlib.Omega.{arith}
use native.Mathlib.Decide.{ℕ_discrete}
use lib.ListN.{length, drop, length-drop}
use lib.Seq.{length-take-le}
use borrow.Author.Tests.{ne_eqb}
use Rattle.numbers.specs.Rows.{first_of}
use Rattle.numbers.specs.Numbered.{is_at_row, FirstAt, NoneApplies}
use Rattle.search.proofs.Tests.{tests}
use Rattle.numbers.proofs.Refusals.{Given, given_iff, none_iff, number_iff}
use Rattle.blocks.specs.Sizes.{payload_at, payload_size}
use Rattle.blocks.specs.Numbers.{BlockNumbers}
use Rattle.blocks.specs.Verdicts.{most_for, count, used_size, is_first, block_rows, verdict, used_part, number_of, length_of}

used_fits : (block : List ℕ) (first : Bool) → count block ≤ most_for first → used_size block first ≤ payload_size
used_fits block true h = omega arith
used_fits block false h = omega arith

module _ (block : List ℕ) (index : ℕ) where
  number_first : number_of (verdict block index) ≡ first_of (block_rows block index)
  unfolding verdict
  number_first = elim (ℕ_discrete (first_of (block_rows block index)) 0) [ yes e ↦ rw e | no d ↦ rw (ne_eqb _ _ d) ]

  -- the number is n, not 0, exactly when row n applies and no earlier one does
  pub judge_given : (n : ℕ) → n ≢ 0 → (number_of (verdict block index) ≡ n) ↔ Given (block_rows block index) n
  judge_given n d = rw number_first (given_iff (block_rows block index) n d)

  -- and 0 exactly when no row applies
  pub judge_none : (number_of (verdict block index) ≡ 0) ↔ NoneApplies (block_rows block index)
  unfolding block_rows
  judge_none = rw number_first (none_iff (block_rows block index) refl)

  -- the used part has the length that the verdict says
  pub used_length : length (used_part block (verdict block index)) ≡ length_of (verdict block index)
  unfolding verdict block_rows
  used_length = elim (ℕ_discrete (first_of (block_rows block index)) 0) [
    | yes e ↦
        let none = judge_none.0 (number_first ∙ e) in
        let size = simp tests at (none 0 (omega arith)) in
        let counted = simp tests at (none 4 (omega arith)) in
        let fits = used_fits block (is_first block index) counted.1 in
        rw e (length-take-le _ (drop payload_at block) (omega (arith, length-drop payload_at block)))
    | no d ↦ rw (ne_eqb _ _ d)
  ]

  -- each number, by its row
  given_at : (n i : ℕ) → n ≢ 0 → is_at_row (block_rows block index) n i ≡ true → (number_of (verdict block index) ≡ n) ↔ FirstAt (block_rows block index) i
  given_at n i d m = rw number_first (number_iff (block_rows block index) n i d m)

  pub block_numbers : BlockNumbers block index
  unfolding block_rows
  block_numbers = record {
    accepted = judge_none;
    for_size_wrong = given_at 30 0 (λ e. omega arith) refl;
    for_check_wrong = given_at 31 1 (λ e. omega arith) refl;
    for_number_wrong = given_at 32 2 (λ e. omega arith) refl;
    kind_wrong = given_at 33 3 (λ e. omega arith) refl;
    count_wrong = given_at 34 4 (λ e. omega arith) refl;
    for_filler_wrong = given_at 35 5 (λ e. omega arith) refl;
  }
