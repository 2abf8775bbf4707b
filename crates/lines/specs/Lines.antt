-- A line as the lists of refusals give it, and as the code does.
use Rattle.std.specs.Prelude.{ℕ, Result, Ok, Err}
use Rattle.numbers.specs.Answers.{number_of}
use Rattle.numbers.specs.declared.answers.Refusal.{Refusal}

-- a line's number from the list, and its length: 0 where it is refused
pub record Line : Type 0 where
  pub number : ℕ
  pub len : ℕ

-- what the code returns of a line: its length, or why it is refused
abbrev pub line_from : Result ℕ Refusal → Line
line_from (Ok len) = record { number = 0; len = len }
line_from (Err refusal) = record { number = number_of refusal; len = 0 }
