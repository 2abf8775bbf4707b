-- The loop's invariant: the counts of the suspended tasks passed are corrected. Assumes nothing.
use Rattle.std.proofs.Common.{◌≡◌, ◌<◌, length, sym, ◌∙◌, arith}
use Rattle.locking.proofs.Ahead.{corrected_none, corrected_lost, corrected_low, corrected_turn, corrected_past, corrected_all}
use Rattle.locking.proofs.ranking.correct.Goals as goal
use Rattle.locking.proofs.ranking.correct.Goals.{else-stands-u, then-stands-u}

pub loop-u-init : goal.loop-u-init
loop-u-init c =
    let a = c.args in
    (omega arith, corrected_none a.stands.now a.own.now a.count a.t a.was a.before a.ahead.now c.requires.4)

pub bounds-ahead-u : goal.bounds-ahead-u
bounds-ahead-u c = omega (arith, c.requires.0, c.loop-u.invariant.1.long)

pub corrected-requires : goal.corrected-requires
corrected-requires c =
    let a = c.args in
    let o = c.loop-u in
    let p = c.requires in
    let stood : a.t < length a.stands.now = omega (arith, p.0, p.1, p.2) in
    let ranked : a.t < length a.own.now = omega (arith, p.0, p.1, p.3) in (
      λ e. corrected_lost a.stands.now a.own.now a.count a.t a.was a.before p.1 stood ranked o.u o.ahead c.loop-u-test.true c.if-stands-u.true o.invariant.1 (sym c.is_lower-lost.ensures ∙ e),
      omega (arith, p.0, corrected_low a.stands.now a.own.now a.count a.t a.was a.before p.1 stood ranked o.u o.ahead c.loop-u-test.true c.if-stands-u.true o.invariant.1),
    )

pub bounds-ahead-u-then-stands-u : goal.bounds-ahead-u-then-stands-u
bounds-ahead-u-then-stands-u c = omega (arith, c.requires.0, c.loop-u.invariant.1.long)

pub loop-u-preserved : goal.loop-u-preserved
loop-u-preserved c =
    let a = c.args in
    let o = c.loop-u in
    let p = c.requires in
    let stood : a.t < length a.stands.now = omega (arith, p.0, p.1, p.2) in
    let ranked : a.t < length a.own.now = omega (arith, p.0, p.1, p.3) in (
      omega arith,
      elim c.if-stands-u.branch [ then-stands-u w ↦ rw (w.ahead-is, w.corrected.ensures, w.is_lower-won.ensures, w.is_lower-lost.ensures) (corrected_turn a.stands.now a.own.now a.count a.t a.was a.before p.1 stood ranked o.u o.ahead c.loop-u-test.true p.0 w.if-stands-u.true o.invariant.1) | else-stands-u w ↦ rw w.ahead-is (corrected_past a.stands.now a.own.now a.count a.t a.was a.before o.u o.ahead w.if-stands-u.false o.invariant.1) ],
    )

pub shape_of-ahead : goal.shape_of-ahead
shape_of-ahead c = c.loop-u.invariant.1.long ∙ sym c.requires.4.long

pub returns : goal.returns
returns c =
    let a = c.args in
    let o = c.loop-u in
    let e : o.u ≡ a.count = omega arith in
    corrected_all a.stands.now a.own.now a.count a.t a.was a.before o.ahead (rw e at o.invariant.1)
