-- The loop's invariant: the totals passed are in the table. Assumes nothing.
use Rattle.std.proofs.Common.{◌≡◌, ◌/◌, replicate, refl, arith, rules}
use Rattle.search.proofs.Tables.{table_none, table_turn, table_all}
use Rattle.protocol.specs.Records.{total_count}
use Rattle.states.proofs.Tables.{task_read}
use Rattle.locking.specs.Totals.{all_totals, totals_in}
use Rattle.locking.proofs.Totals.{total_in}
use Rattle.locking.proofs.counting.totals_of.Goals as goal

pub loop-k-init : goal.loop-k-init
loop-k-init c = (search rules, table_none (total_in c.args.tasks) _)

pub loop-k-preserved : goal.loop-k-preserved
loop-k-preserved c =
    let tasks = c.args.tasks in
    let o = c.loop-k in
    (search rules, rw (o.invariant.1, task_read tasks (o.k / total_count) (search rules)) (table_turn (total_in tasks) (replicate all_totals 0) o.k (search rules)))

pub returns : goal.returns
unfolding totals_in
returns c =
    let e : c.loop-k.k ≡ all_totals = omega arith in
    rw (c.loop-k.invariant.1, e) (table_all (total_in c.args.tasks) (replicate all_totals 0) all_totals refl)
