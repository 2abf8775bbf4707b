use Rattle.std.proofs.Common.{◌≡◌, sym, ◌∙◌, arith}
use Rattle.std.proofs.lemmas.Grind.{common_steps}
use Rattle.numbers.specs.Answers.{number_of, answer_of}
use Rattle.protocol.specs.Refusals.{judge}
use Rattle.locking.proofs.Accepted.{step_answer}
use Rattle.locking.proofs.Holding.{refused}
use Rattle.locking.proofs.session.Session.take.Goals as goal

pub returns-in_err-judge : goal.returns-in_err-judge
returns-in_err-judge c = λ s H.
    let refusal = c.in_err-judge.field-0.0 in
    let same : answer_of c.from_residual.result ≡ number_of refusal = grind (arith, common_steps) in
    rw same (refused H c.args.e refusal (c.in_err-judge.ensures s H))

pub returns : goal.returns
returns c = λ s H.
    let ok : judge s c.args.e ≡ 0 = sym (c.in_ok-judge.ensures s H) in
    (sym (step_answer s c.args.e ∙ ok), c.accept.ensures s H ok)
