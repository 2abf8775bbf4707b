-- What the code returns is what the rules give, in order. Assumes nothing.
use mathlib.Core.Path.{◌≡◌, sym, ◌∙◌}
use borrow.Author.Rules.{rules}
use borrow.Author.Tests.{eqb-false}
use Rattle.std.specs.Prelude.{Err}
use Rattle.numbers.specs.Answers.{number_of}
use Rattle.numbers.proofs.Answered.{refusal_counts}
use Rattle.locking.proofs.Shapes.{shaped, periods_short}
use Rattle.plain.proofs.Sorted.{orders_same, orders_differ}
use Rattle.plain.proofs.Sessions.{disordered, step_refuses, step_accepts}
use Rattle.plain.proofs.stepping.step.Goals as goal

pub returns-then-ne : goal.returns-then-ne
returns-then-ne c =
    let x = c.args.x in
    let g = c.well_formed.0 in
    let s = g.1.1.0 in
    disordered x c.args.e g.1.1.1.0.1.1.0.1.0.1 (shaped x.state _ s) (periods_short x.state _ s)
    (rw c.order_of.ensures at (orders_differ x.order c.order_of.result (sym c.ne.ensures ∙ c.if-ne.true)))

pub returns-in_err-after : goal.returns-in_err-after
returns-in_err-after c =
    let x = c.args.x in
    let g = c.well_formed.0 in
    let s = g.1.1.0 in
    let refusal = c.in_err-after.field-0.0 in
    let e : c.from_residual.result ≡ Err refusal = search rules in
    rw e (step_refuses x c.args.e g.1.1.1.0.1.1.0.1.0.1 (shaped x.state _ s) (periods_short x.state _ s)
    (orders_same x.order c.order_of.result (sym c.ne.ensures ∙ c.if-ne.false) ∙ c.order_of.ensures)
    (number_of refusal) c.in_err-after.ensures (eqb-false _ _ (refusal_counts refusal)))

pub returns : goal.returns
returns c =
    let x = c.args.x in
    let g = c.well_formed.0 in
    let s = g.1.1.0 in
    rw (c.placed-processors.ensures, c.order_of-now.ensures)
    (step_accepts x c.args.e g.1.1.1.0.1.1.0.1.0.1 (shaped x.state _ s) (periods_short x.state _ s)
    (orders_same x.order c.order_of.result (sym c.ne.ensures ∙ c.if-ne.false) ∙ c.order_of.ensures)
    c.in_ok-after.after c.in_ok-after.ensures)
