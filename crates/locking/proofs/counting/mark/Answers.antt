-- The loop's invariant: the tasks of the processors passed are marked. Assumes nothing.
use Rattle.std.proofs.Common.{◌≡◌, sym, ◌∙◌, arith, rules}
use Rattle.numbers.specs.Limits.{most_processors}
use Rattle.locking.proofs.Places.{marked_none, marked_turn, marked_past, marked_all}
use Rattle.locking.proofs.counting.mark.Goals as goal
use Rattle.locking.proofs.counting.mark.Goals.{else-t-lt-TASKS, then-t-lt-TASKS}

pub loop-k-init : goal.loop-k-init
loop-k-init c = (search rules, marked_none c.args.place c.args.tasks c.args.places.now c.requires)

pub bounds-places-t : goal.bounds-places-t
bounds-places-t c = omega (arith, c.loop-k.invariant.1.long, c.if-t-lt-TASKS.true)

pub loop-k-preserved : goal.loop-k-preserved
loop-k-preserved c =
    let a = c.args in
    let o = c.loop-k in (
      omega arith,
      elim c.if-t-lt-TASKS.branch [ then-t-lt-TASKS w ↦ rw w.places-is (marked_turn a.place a.tasks a.places.now o.k o.places (omega arith) w.if-t-lt-TASKS.true o.invariant.1) | else-t-lt-TASKS w ↦ rw w.places-is (marked_past a.place a.tasks a.places.now o.k o.places (omega arith) w.if-t-lt-TASKS.false o.invariant.1) ],
    )

pub shape_of-places : goal.shape_of-places
shape_of-places c = c.loop-k.invariant.1.long ∙ sym c.requires

pub returns : goal.returns
returns c =
    let a = c.args in
    let o = c.loop-k in
    let e : o.k ≡ most_processors = omega arith in
    marked_all a.place a.tasks a.places.now o.places (rw e at o.invariant.1)
