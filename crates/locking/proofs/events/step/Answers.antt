use Rattle.std.proofs.Common.{◌≡◌, ◌∙◌, arith}
use Rattle.std.proofs.lemmas.Grind.{common_steps}
use Rattle.numbers.specs.Answers.{number_of}
use Rattle.protocol.specs.Replies.{reply_from}
use Rattle.locking.proofs.Accepted.{refused_reply, step_answer}
use Rattle.locking.proofs.events.step.Goals as goal

pub returns-in_err-take : goal.returns-in_err-take
returns-in_err-take c =
    let s = c.args.state in
    let e = c.args.e in
    let refusal = c.in_err-take.field-0.0 in
    let same : reply_from s c.from_residual.result ≡ record { answer = number_of refusal; state = s } = grind (arith, common_steps) in
    rw same (refused_reply s e refusal ((c.in_err-take.ensures s c.begin-session.ensures).0 ∙ step_answer s e))
