-- The number of a chosen move. Assumes nothing.
use Rattle.std.proofs.Common.{◌≡◌, Bool, true, false, refl}
use Rattle.std.specs.Prelude.{if◌then◌else◌}
use Rattle.locking.specs.Edits.{turn_no}
use Rattle.locking.specs.declared.acting.Turn.{Turn}

pub turn_if : (b : Bool) (x y : Turn) → turn_no (if b then x else y) ≡ (if b then turn_no x else turn_no y)
turn_if true x y = refl
turn_if false x y = refl
