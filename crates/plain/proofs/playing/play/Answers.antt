-- Each event is a step of the session; the buffer follows. Assumes nothing.
use Prim.Native.Nat.{ℕ, ◌+◌}
use mathlib.Core.Path.{◌≡◌, ap, ◌∙◌}
use native.Mathlib.Omega.{arith}
use mathlib.Core.List.{List}
use lib.ListN.{length}
use Rattle.states.specs.Writing.{put_at}
use Rattle.locking.specs.Playing.{playable, played}
use Rattle.locking.proofs.Shapes.{shaped, periods_short}
use Rattle.locking.proofs.Along.{long_along}
use Rattle.plain.specs.Engine.{PlainReply, plain_step}
use Rattle.plain.proofs.Parts.{Along, handed_on, along_start, along_turn}
use Rattle.plain.proofs.playing.play.Goals as goal
use Rattle.plain.proofs.playing.play.Goals.{After-snapshot_of}

-- one event more
goes_on : (c : After-snapshot_of) {next : ℕ} {after : List ℕ}
    → let o = c.loop-i in
    let a = c.args in
    (next, after) ≡ put_at o.out o.at c.snapshot_of.result
    → Along a.state a.part.now a.out.now (o.i + 1) c.unwrap_or-x.result after next
goes_on c {next} {after} put =
    let o = c.loop-i in
    let reply : PlainReply = record { answer = c.answer_of-answer.result; session = c.unwrap_or-x.result } in
    along_turn _ _ _ o.i o.x o.out o.at o.invariant.2 (omega (arith, o.invariant.1, c.loop-i-test.true)) reply
    (rw (c.answer_of-answer.ensures, c.unwrap_or-x.ensures) (handed_on o.x c.step-stepped.result) ∙ c.step-stepped.ensures ∙ ap (plain_step o.x) c.event_at.ensures)
    c.snapshot_of.result c.snapshot_of.ensures (omega arith) next after put

pub loop-i-init : goal.loop-i-init
unfolding playable
loop-i-init c = (
  omega arith,
  c.min-count.ensures ∙ rw c.event_count.ensures,
  rw c.order_of.ensures (along_start c.args.state _ _ (shaped c.args.state _ c.well_formed.0) (periods_short c.args.state _ c.well_formed.0)),
)

pub loop-i-preserved : goal.loop-i-preserved
loop-i-preserved c = (omega (arith, c.loop-i-test.true), c.loop-i.invariant.1, goes_on (goal.at.loop-i-preserved c).After-snapshot_of c.put_snapshot-at.ensures)

pub shape_of-out : goal.shape_of-out
shape_of-out c = ap length c.loop-i.invariant.2.buffer ∙ long_along _ _ _ c.loop-i.i

pub returns : goal.returns
unfolding played
returns c = let done : c.loop-i.i ≡ c.min-count.result = omega (arith, c.loop-i-test.false, c.loop-i.invariant.0) in rw (c.loop-i.invariant.2.state, c.loop-i.invariant.2.buffer, done, c.loop-i.invariant.1)
