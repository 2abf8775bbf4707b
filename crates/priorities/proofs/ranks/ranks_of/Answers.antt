-- The loop's invariant: the ranks tell who is raised by the groups passed. Assumes nothing.
use Prim.Native.Nat.{suc, ◌-◌}
use mathlib.Core.Path.{◌≡◌, ap, ◌∙◌}
use native.Mathlib.Omega.{arith}
use lib.ListN.{length, get_or}
use borrow.Author.Rules.{rules}
use Rattle.search.specs.First.{first}
use Rattle.search.specs.Table.{table}
use Rattle.numbers.specs.Limits.{most_tasks, most_resources}
use Rattle.protocol.specs.Records.{no_group}
use Rattle.protocol.specs.declared.Group.{Group}
use Rattle.states.proofs.Tables.{group_read}
use Rattle.priorities.specs.Bounds.{rank_before}
use Rattle.priorities.proofs.Ruled.{raising, passing}
use Rattle.priorities.proofs.ranks.ranks_of.Goals as goal

pub loop-g-init : goal.loop-g-init
unfolding first
loop-g-init c =
    let count = c.min-count.result in
    let past : c.entry-past.result ≡ get_or c.args.groups count no_group = search rules in
    let none : count - count ≡ 0 = omega arith in
    (omega (arith, c.min-count.ensures), rw none (c.unraised-ranks.ensures ∙ ap (λ (x : Group). table (rank_before c.args.own x.queue) most_tasks) past))

pub loop-g-preserved-then-kinds-g : goal.loop-g-preserved-then-kinds-g
loop-g-preserved-then-kinds-g c =
    let groups = c.args.groups in
    let count = c.min-count.result in
    let a = c.loop-g in
    let g = a.g - 1 in
    let grouped : length groups ≡ most_resources = search rules in
    let read = group_read groups g (omega arith) in
    let here : a.g ≡ suc g = omega arith in
    let there : count - g ≡ suc (count - a.g) = omega arith in
    let raised = raising c.args.own c.args.kinds groups g (count - a.g) (rw (c.from-holder.ensures, read) at c.if-kinds-g.true) in
    (a.invariant.0, rw (there, c.least_waiting.ensures, c.from-holder.ensures, read, a.invariant.1) (rw (← here) at raised))

pub loop-g-preserved : goal.loop-g-preserved
loop-g-preserved c =
    let groups = c.args.groups in
    let count = c.min-count.result in
    let a = c.loop-g in
    let g = a.g - 1 in
    let grouped : length groups ≡ most_resources = search rules in
    let read = group_read groups g (omega arith) in
    let here : a.g ≡ suc g = omega arith in
    let there : count - g ≡ suc (count - a.g) = omega arith in
    let passed = passing c.args.own c.args.kinds groups g (count - a.g) (rw (c.from-holder.ensures, read) at c.if-kinds-g.false) in
    (a.invariant.0, rw (there, a.invariant.1) (rw (← here) at passed))

pub returns : goal.returns
returns c =
    let count = c.min-count.result in
    let e : c.loop-g.g ≡ 0 = omega arith in
    let z : count - 0 ≡ count = omega arith in
    rw (e, z, c.min-count.ensures) at c.loop-g.invariant.1
