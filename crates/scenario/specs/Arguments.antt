-- A word as one of a sort: whether it is one, and its value.
use Rattle.std.specs.Prelude.{ℕ, Bool}

pub record Argument : Type 0 where
  pub right : Bool
  pub value : ℕ
