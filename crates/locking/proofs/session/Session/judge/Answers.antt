use Rattle.locking.proofs.Holding.{few_read, has_parts}
use Rattle.locking.proofs.session.Session.judge.Goals as goal

pub judge_parts-requires : goal.judge_parts-requires
judge_parts-requires c = λ h. rw c.task.ensures (few_read c.requires.1 h c.args.e.task)

pub returns : goal.returns
returns c = λ s H. c.judge_parts.ensures s (rw c.task.ensures (has_parts H c.args.e))
