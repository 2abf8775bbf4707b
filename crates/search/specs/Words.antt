-- Short names, for writing tests, of what the library has.
use Rattle.std.specs.Prelude.{ℕ, Bool, not, ◌||◌, eqb}

infix 40 ◌is◌
infix 40 ◌isn't◌
infixr 25 ◌implies◌
abbrev pub ◌is◌ : ℕ → ℕ → Bool
a is b = eqb a b

abbrev pub ◌isn't◌ : ℕ → ℕ → Bool
a isn't b = not (eqb a b)

abbrev pub ◌implies◌ : Bool → Bool → Bool
a implies b = not a || b
