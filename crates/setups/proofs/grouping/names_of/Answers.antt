use mathlib.Core.Path.{◌∙◌}
use borrow.Author.Rules.{rules}
use Rattle.std.proofs.lemmas.Iterator.{YieldsList-from_slice, YieldsList-from_take, YieldsList-from_zip}
use Rattle.std.proofs.lemmas.Iterator.Consumers.{fold_from_yields_List}
use Rattle.setups.specs.Sized.{Sized}
use Rattle.setups.specs.Naming.{joined_pair}
use Rattle.setups.proofs.Folded.{names_folded}
use Rattle.setups.proofs.grouping.names_of.Goals as goal

pub returns : goal.returns
returns c =
    let s = c.args.setup in
    let z : Sized s = record { periods = search rules; kinds = search rules; outer = search rules; inner = search rules } in
    fold_from_yields_List _ (joined_pair s) _ _ c.fold.ensures.ran
    (YieldsList-from_take s.pairs (YieldsList-from_zip (YieldsList-from_slice s.outer (search rules)) (YieldsList-from_slice s.inner (search rules))) (search rules))
    (λ a x b q k. search rules)
    ∙ rw c.each_alone.ensures (names_folded s z)
