-- A list of refusals. Each row is a number and the test that gives it; the first row that applies decides.
use Rattle.std.specs.Prelude.{ℕ, Bool, List, [], ◌∷◌, if◌then◌else◌}

infix 28 ◌when◌
infixr 20 ◌otherwise◌
-- a number, and whether it applies
abbrev pub Row : Type 0
Row = ℕ × Bool

-- a row: the number n, if b
abbrev pub ◌when◌ : ℕ → Bool → Row
n when b = (n, b)

-- a row, and the rows after it
abbrev pub ◌otherwise◌ : Row → List Row → List Row
row otherwise rows = row ∷ rows

-- the number of the first row that applies, or 0
abbrev pub first_of : List Row → ℕ
first_of [] = 0
first_of (row ∷ rows) = if row.1 then row.0 else first_of rows
