-- The loop's invariant: the records passed have the totals of the table. Assumes nothing.
use Rattle.std.proofs.Common.{◌≡◌, ◌<◌, length, arith, rules}
use Rattle.search.proofs.Tables.{table_none, table_turn, table_all}
use Rattle.numbers.specs.Limits.{most_tasks}
use Rattle.states.proofs.Tables.{task_read}
use Rattle.locking.specs.Totals.{counted}
use Rattle.locking.proofs.Charging.{rest_at}
use Rattle.locking.proofs.Totals.{record_in}
use Rattle.locking.proofs.counting.with_totals.Goals as goal

pub loop-t-init : goal.loop-t-init
loop-t-init c = (search rules, table_none (record_in c.args.tasks c.args.totals) _)

pub loop-t-preserved : goal.loop-t-preserved
loop-t-preserved c =
    let a = c.args in
    let o = c.loop-t in
    let l : o.t < length a.tasks = search rules in (
      search rules,
      rw (c.with_row.ensures, c.row_of.ensures, o.invariant.1, rest_at, task_read a.tasks o.t l) (table_turn (record_in a.tasks a.totals) a.tasks o.t l),
    )

pub returns : goal.returns
unfolding counted
returns c =
    let a = c.args in
    let o = c.loop-t in
    let e : o.t ≡ most_tasks = omega arith in
    rw (o.invariant.1, e) (table_all (record_in a.tasks a.totals) a.tasks most_tasks (search rules))
