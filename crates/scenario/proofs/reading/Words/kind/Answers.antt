-- A kind is what its reader gives of the first word. Assumes nothing.
use Rattle.std.proofs.Common.{rules}
use Rattle.scenario.specs.Words.{first_word}
use Rattle.scenario.specs.Items.{argument_of, most_of}
use Rattle.scenario.specs.declared.faults.Sort.TheVariants.{Kind}
use Rattle.scenario.proofs.Words.{read_is}
use Rattle.scenario.proofs.reading.Words.kind.Goals as goal

pub returns-clause-word : goal.returns-clause-word
unfolding argument_of most_of
returns-clause-word c =
    read_is Kind (first_word c.args.self.now.rest.now) c.next.result (λ l o k. search rules) c.next.ensures.word
