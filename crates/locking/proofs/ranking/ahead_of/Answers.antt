-- The loop's invariant: those ahead among the tasks passed are counted. Assumes nothing.
use Rattle.std.proofs.Common.{◌≡◌, get_or, sym, arith}
use Rattle.search.proofs.Pigeons.{how_many_none, how_many_turn, how_many_most}
use Rattle.protocol.specs.Words.{absent}
use Rattle.locking.specs.Ranking.{is_lower}
use Rattle.locking.proofs.ranking.ahead_of.Goals as goal
use Rattle.locking.proofs.ranking.ahead_of.Goals.{else-is_lower, then-is_lower}

pub loop-u-init : goal.loop-u-init
loop-u-init c = (omega arith, sym (how_many_none _))

pub overflow_add-ahead : goal.overflow_add-ahead
overflow_add-ahead c =
    let a = c.args in
    let o = c.loop-u in
    omega (arith, o.invariant.1, c.requires.0, how_many_most (λ u. is_lower (get_or a.stands.now u absent) (get_or a.own.now u 0) (get_or a.own.now a.t 0)) o.u)

pub loop-u-preserved : goal.loop-u-preserved
loop-u-preserved c =
    let a = c.args in
    let o = c.loop-u in
    let turn = how_many_turn (λ u. is_lower (get_or a.stands.now u absent) (get_or a.own.now u 0) (get_or a.own.now a.t 0)) o.u in (
      omega arith,
      elim c.if-is_lower.branch [ then-is_lower w ↦ let x = rw (sym c.is_lower.ensures, w.if-is_lower.true) at turn in omega (arith, x, w.ahead-is, o.invariant.1) | else-is_lower w ↦ let x = rw (sym c.is_lower.ensures, w.if-is_lower.false) at turn in omega (arith, x, w.ahead-is, o.invariant.1) ],
    )

pub returns : goal.returns
returns c =
    let e : c.loop-u.u ≡ c.args.count = omega arith in
    rw e at c.loop-u.invariant.1
