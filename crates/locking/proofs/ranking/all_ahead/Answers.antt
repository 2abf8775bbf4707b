-- The loop's invariant: those ahead of the suspended tasks passed are counted. Assumes nothing.
use Rattle.std.proofs.Common.{◌≡◌, refl, arith}
use Rattle.locking.proofs.Ahead.{ranked_none, ranked_turn, ranked_past, ranked_all}
use Rattle.locking.proofs.ranking.all_ahead.Goals as goal
use Rattle.locking.proofs.ranking.all_ahead.Goals.{else-count-le-TASKS, else-stands-t-eq-SUSPENDED, then-count-le-TASKS, then-stands-t-eq-SUSPENDED}

pub loop-t-init : goal.loop-t-init
loop-t-init c = (omega arith, elim c.if-count-le-TASKS.branch [ then-count-le-TASKS w ↦ omega (arith, w.if-count-le-TASKS.true, w.tasks-is) | else-count-le-TASKS w ↦ omega (arith, w.tasks-is) ], ranked_none c.args.stands.now c.args.own.now c.if-count-le-TASKS.tasks _ refl)

pub loop-t-preserved : goal.loop-t-preserved
loop-t-preserved c =
    let a = c.args in
    let o = c.loop-t in (
      omega arith,
      o.invariant.1,
      elim c.if-stands-t-eq-SUSPENDED.branch [ then-stands-t-eq-SUSPENDED w ↦ rw (w.ahead-is, w.ahead_of.ensures) (ranked_turn a.stands.now a.own.now c.if-count-le-TASKS.tasks o.t o.ahead (omega (arith, o.invariant.1)) o.invariant.2) | else-stands-t-eq-SUSPENDED w ↦ rw w.ahead-is (ranked_past a.stands.now a.own.now c.if-count-le-TASKS.tasks o.t o.ahead w.if-stands-t-eq-SUSPENDED.false o.invariant.2) ],
    )

pub returns : goal.returns
returns c =
    let a = c.args in
    let o = c.loop-t in
    λ h.
    let all : c.if-count-le-TASKS.tasks ≡ a.count = elim c.if-count-le-TASKS.branch [ then-count-le-TASKS w ↦ w.tasks-is | else-count-le-TASKS w ↦ absurd (omega (arith, w.if-count-le-TASKS.false, h)) ] in
    let e : o.t ≡ c.if-count-le-TASKS.tasks = omega (arith, o.invariant.0, c.loop-t-test.false) in
    ranked_all a.stands.now a.own.now a.count o.ahead (rw (e, all) at o.invariant.2)
