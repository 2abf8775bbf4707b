-- `is_blank` meets its contract. Assumes nothing.
use Rattle.std.proofs.Common.{rules, refl, true, ◌&&◌, ◌∙◌, ◌-◌}
use Rattle.std.proofs.lemmas.Iterator.{YieldsList-from_range}
use Rattle.std.proofs.lemmas.Iterator.Consumers.{fold_from_yields_List}
use Rattle.search.specs.Words.{◌is◌}
use Rattle.blocks.specs.Verdicts.{is_blank, payload}
use Rattle.blocks.proofs.Ranges.{fold_range}
use Rattle.blocks.proofs.kinds.is_blank.Goals as goal

pub returns : goal.returns
unfolding is_blank
returns c =
    let s = c.args in
    fold_from_yields_List _ (λ ok i. ok && (payload s.block.now i is 0)) _ _ c.fold.ensures.ran
    (YieldsList-from_range s.from s.to _ refl refl) (λ ok i b q k. search rules)
    ∙ fold_range _ s.from (s.to - s.from) _ true (λ i. refl)
