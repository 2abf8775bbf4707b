use mathlib.Core.Path.{◌∙◌}
use borrow.Author.Rules.{rules}
use Rattle.setups.specs.Sized.{Sized}
use Rattle.setups.proofs.Cleared.{same_as_cleared}
use Rattle.setups.proofs.clearing.is_clear.Goals as goal

pub returns : goal.returns
returns c =
    let s = c.args.setup in
    let z : Sized s = record { periods = search rules; kinds = search rules; outer = search rules; inner = search rules } in
    c.eq.ensures ∙ rw c.clear.ensures (same_as_cleared s z)
