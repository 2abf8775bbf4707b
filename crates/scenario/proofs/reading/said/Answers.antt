-- A line without a carriage return, up to its remark. Assumes nothing.
use Rattle.std.proofs.Common.{rules, tests, ◌≡◌, take, refl}
use Rattle.search.specs.Words.{◌is◌}
use Rattle.scenario.specs.Words.{hash, said, unended_length}
use Rattle.scenario.proofs.Words.{unended_is}
use Rattle.scenario.proofs.reading.said.Goals as goal

pub returns : goal.returns
unfolding said
returns c =
    let l = c.args.line.now in
    let unended : c.unwrap_or-unended.result.now ≡ take (unended_length l) l =
    rw c.unwrap_or-unended.ensures (unended_is l _ _ refl c.strip_suffix.ensures.cases) in
    let parts = c.split_at_first.ensures (λ x. x is hash) (λ x b k. search (rules, tests)) in
    rw unended at parts.0
