-- The two kinds of resource. Assumes nothing.
use Rattle.scenario.specs.Items.{kind_in}
use Rattle.scenario.specs.Reads.{argument_from}
use Rattle.scenario.proofs.Words.{beside_is}
use Rattle.scenario.proofs.reading.kind_in.Goals as goal

pub returns : goal.returns
unfolding kind_in
returns c = rw (c.beside.ensures, beside_is argument_from c.args.word.now)
