-- The order that the code computes is that of the state begun with. Assumes nothing.
use mathlib.Core.Path.{◌≡◌, ap}
use borrow.Author.Rules.{rules}
use Rattle.std.specs.Prelude.{Err}
use Rattle.plain.specs.Orders.{order_of}
use Rattle.plain.specs.Engine.{plain_reply, plain_begin}
use Rattle.plain.specs.Reading.{order_in}
use Rattle.plain.proofs.Sessions.{begun_order}
use Rattle.plain.proofs.stepping.begin.Goals as goal

pub returns-in_err-state : goal.returns-in_err-state
unfolding plain_begin
returns-in_err-state c =
    let e : c.from_residual.result ≡ Err c.in_err-state.field-0.0 = search rules in
    rw e (ap plain_reply c.in_err-state.ensures)

pub returns : goal.returns
unfolding plain_begin
returns c =
    let e = c.in_ok-state.ensures in
    let order : order_in c.in_ok-state.state ≡ order_of c.in_ok-state.state = rw (← e) at (begun_order c.args.setup) in
    rw (c.order_of-order.ensures, order) (ap plain_reply e)
