-- What is stated about a list of refusals: which row is the first that applies, and which row has which number.
use Rattle.std.specs.Prelude.{ℕ, zero, suc, ◌<◌, ◌≡◌, Bool, true, false, ◌&&◌, List, [], ◌∷◌, length, get_or}
use Rattle.search.specs.Words.{◌is◌, ◌isn't◌}
use Rattle.numbers.specs.Rows.{Row}

-- no row's number is 0; it computes without the rows' tests
abbrev pub is_numbered : List Row → Bool
is_numbered [] = true
is_numbered (row ∷ rows) = row.0 isn't 0 && is_numbered rows

-- no row has the number n; it computes without the rows' tests
abbrev pub is_missing : List Row → ℕ → Bool
is_missing [] n = true
is_missing (row ∷ rows) n = row.0 isn't n && is_missing rows n

-- row i has the number n, and no other row has it; it computes without the rows' tests
abbrev pub is_at_row : List Row → ℕ → ℕ → Bool
is_at_row [] n i = false
is_at_row (row ∷ rows) n zero = row.0 is n && is_missing rows n
is_at_row (row ∷ rows) n (suc i) = row.0 isn't n && is_at_row rows n i

-- what is read past the last row; it never applies
abbrev pub no_row : Row
no_row = (0, false)

-- row i applies, and no earlier one does
pub record FirstAt (rows : List Row) (i : ℕ) : Type 0 where
  pub applies : (get_or rows i no_row).1 ≡ true
  pub earlier : (k : ℕ) → k < i → (get_or rows k no_row).1 ≡ false

-- no row applies
abbrev pub NoneApplies : List Row → Type 0
NoneApplies rows = (k : ℕ) → k < length rows → (get_or rows k no_row).1 ≡ false
