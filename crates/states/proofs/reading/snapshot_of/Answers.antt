use borrow.Author.Rules.{rules}
use mathlib.Core.Path.{◌≡◌}
use native.Mathlib.Omega.{arith}
use Rattle.numbers.specs.Limits.{most_processors}
use Rattle.states.specs.Writing.{places}
use Rattle.states.proofs.Writing.{line_turn, line_whole}
use Rattle.states.proofs.reading.snapshot_of.Goals as goal

pub loop-k-init : goal.loop-k-init
unfolding places
loop-k-init c = search rules

pub loop-k-preserved : goal.loop-k-preserved
loop-k-preserved c =
    let o = c.loop-k in
    let a = c.args in
    (omega arith, rw (c.link_at.ensures, c.runs_at.ensures, o.invariant.1) (line_turn a.answer a.p o.k (omega arith)))

pub returns : goal.returns
returns c =
    let o = c.loop-k in
    let a = c.args in
    let e : o.k ≡ most_processors = omega arith in
    rw (e, line_whole a.answer a.p) at o.invariant.1
