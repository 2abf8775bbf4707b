-- The names of the items, in order. Assumes nothing.
use Rattle.search.specs.First.{first}
use Rattle.scenario.specs.Items.{item_named, entry_at}
use Rattle.scenario.specs.Named.{place_of}
use Rattle.scenario.proofs.Words.{beside_is}
use Rattle.scenario.proofs.items.Name.of.Goals as goal

pub returns : goal.returns
unfolding item_named first entry_at
returns c = rw (c.beside.ensures, beside_is place_of c.args.word.now)
