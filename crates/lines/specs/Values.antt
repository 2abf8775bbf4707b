-- RULES.md, 'Printing': the printed digits of a number read back as that number.
use Rattle.std.specs.Prelude.{ℕ, ◌<◌, ◌^◌, ◌≡◌, ◌≢◌, get_or}
use Rattle.search.specs.Texts.{decimal, value_behind}

-- the digits of n have the value n, and do not begin with a zero unless n is 0
pub record ReadsBack (n : ℕ) : Type 0 where
  pub value : value_behind 0 (decimal n) ≡ n
  pub leading : n ≢ 0 → get_or (decimal n) 0 0 ≢ 48

-- that holds of every number of 64 bits
abbrev pub DigitsReadBack : Type 0
DigitsReadBack = (n : ℕ) → n < 2 ^ 64 → ReadsBack n
