-- A verdict as the code has it: its number and its used part are those of the verdict, which fixes it. Assumes nothing.
use Prim.Native.Nat.{ℕ}
use mathlib.Core.Path.{◌≡◌, refl, ap, sym}
use mathlib.Core.List.{List}
use Rattle.std.specs.Prelude.{Result, Ok, Err}
use Rattle.std.specs.Result.{result_ok}
use Rattle.search.specs.Views.{TellsApart}
use Rattle.numbers.specs.Answers.{answer_of}
use Rattle.numbers.proofs.Apart.{numbers_apart, numbered}
use Rattle.numbers.specs.declared.answers.Refusal.{Refusal}
use Rattle.blocks.specs.Verdicts.{verdict_from, number_of, length_of, used_part, part_of_length}

pub number_from : (r : Result ℕ Refusal) → number_of (verdict_from r) ≡ answer_of r
number_from (Ok n) = refl
number_from (Err refusal) = refl

pub part_from : (block : List ℕ) (r : Result ℕ Refusal) → part_of_length block (result_ok r) ≡ used_part block (verdict_from r)
part_from block (Ok n) = refl
part_from block (Err refusal) = refl

pub verdicts_apart : TellsApart verdict_from
verdicts_apart (Ok n) (Ok k) e = ap Ok (ap length_of e)
verdicts_apart (Ok n) (Err q) e = absurd (numbered q (sym (ap number_of e)))
verdicts_apart (Err r) (Ok k) e = absurd (numbered r (ap number_of e))
verdicts_apart (Err r) (Err q) e = ap Err (numbers_apart r q (ap number_of e))
