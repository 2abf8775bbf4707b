-- RULES.md, 'The worked cases': the four impostors differ from `step`.
use Rattle.std.proofs.Common.{ap, arith}
use Rattle.std.specs.Prelude.{ℕ}
use Rattle.processors.specs.Words.{runs}
use Rattle.protocol.specs.Replies.{Reply}
use Rattle.protocol.specs.Cases.{differences}
use Rattle.protocol.specs.Impostors.{RefusingDiffers, IdlingDiffers, RepeatingDiffers, ClaimingDiffers}

-- the task that processor k runs
abbrev on : ℕ → Reply → ℕ
on k r = runs r.state.processors k

pub refusing_differs : RefusingDiffers
refusing_differs n d e = d (omega (arith, differences.0, ap (λ (r : Reply). r.answer) e))

pub idling_differs : IdlingDiffers
idling_differs e = omega (arith, differences.1, differences.2, ap (on 0) e)

pub repeating_differs : RepeatingDiffers
repeating_differs e = omega (arith, differences.3, differences.4, ap (on 1) e)

pub claiming_differs : ClaimingDiffers
claiming_differs e = omega (arith, differences.3, differences.4, ap (on 1) e)
