-- `@`, and the rest of the word. Assumes nothing.
use Rattle.std.proofs.Common.{sym, ◌∙◌}
use Rattle.scenario.specs.Items.{tick_in, most_of}
use Rattle.scenario.proofs.Words.{prefix_is}
use Rattle.scenario.proofs.reading.tick_in.Goals as goal

pub returns-in_err-strip_prefix : goal.returns-in_err-strip_prefix
unfolding tick_in most_of
returns-in_err-strip_prefix c =
    rw (c.from_residual.ensures, sym (prefix_is c.args.word.now 63) ∙ c.in_err-strip_prefix.ensures.cases)

pub returns : goal.returns
unfolding tick_in most_of
returns c =
    let cases = c.in_ok-strip_prefix.ensures.cases in
    rw (c.period_in.ensures, sym (prefix_is c.args.word.now 63) ∙ cases.0, cases.1)
