-- What it takes for an equation of a function of a result to fix the result.
use Rattle.std.specs.Prelude.{◌≡◌}

-- the function tells any two results apart
abbrev pub TellsApart : {R V : Type 0} → (R → V) → Type 0
TellsApart {R} view = (r q : R) → view r ≡ view q → r ≡ q
