-- Of a state that is not sound the answer is 9, whatever else it has. Assumes nothing.
use Rattle.std.proofs.Common.{sym, ◌∙◌, arith}
use Rattle.locking.proofs.Accepted.{unsound_judged}
use Rattle.locking.proofs.Judged.{parts_judged}
use Rattle.locking.proofs.judging.judge_parts.Goals as goal

pub judge_sound-requires : goal.judge_sound-requires
judge_sound-requires c = c.requires c.if-sound.true

pub returns-then-sound : goal.returns-then-sound
returns-then-sound c = λ s has. c.judge_sound.ensures ∙ parts_judged s c.args.task c.args.e (omega (arith, c.requires c.if-sound.true)) (record { given = has.given; timed = has.timed; totals = has.totals; recorded = has.recorded; placed = has.placed; named = has.named; truly = sym c.if-sound.true ∙ has.truly })

pub returns-else-sound : goal.returns-else-sound
returns-else-sound c = λ s has. sym (unsound_judged s c.args.e (sym has.truly ∙ c.if-sound.false))
