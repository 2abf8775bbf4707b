-- The session follows the rules event by event, and each line is written where there is room for it. Assumes nothing.
use Rattle.std.proofs.Common.{◌≡◌, ◌+◌, ◌≤◌, length, refl, ap, ◌∙◌, subst, arith}
use Rattle.input.specs.Layout.{event_in}
use Rattle.input.specs.declared.Event.{Event}
use Rattle.protocol.specs.Events.{step}
use Rattle.protocol.specs.declared.State.{State}
use Rattle.states.specs.Writing.{snapshot_size, snapshot_of}
use Rattle.states.proofs.Writing.{put_room}
use Rattle.locking.specs.Holding.{Holds}
use Rattle.locking.specs.Playing.{playable, played_to, written_to, played}
use Rattle.locking.proofs.Along.{long_along, room_along, played_turn, buffer_turn}
use Rattle.locking.proofs.playing.play.Goals as goal

pub loop-i-init : goal.loop-i-init
unfolding played_to written_to playable
loop-i-init c = (omega arith, refl, rw (c.min-count.ensures, c.event_count.ensures), c.begin-session.ensures, refl)

pub loop-i-preserved : goal.loop-i-preserved
loop-i-preserved c =
    let s = c.args.state in
    let part = c.args.part.now in
    let out = c.args.out.now in
    let o = c.loop-i in
    let before : State = played_to s part o.i in
    let e = c.event_at.result in
    let line = c.snapshot_of-snapshot.result in
    let taken = c.take-taken.ensures before o.invariant.3 in
    let replied : (step before e).state ≡ (step before (event_in part o.i)).state = ap (λ (x : Event). (step before x).state) c.event_at.ensures in
    let said : c.answer_of.result ≡ (step before (event_in part o.i)).answer = c.answer_of.ensures ∙ taken.0 ∙ ap (λ (x : Event). (step before x).answer) c.event_at.ensures in
    let room : o.at + snapshot_size ≤ length o.out = rw (o.invariant.1, o.invariant.4) (room_along s part out o.i (omega (arith, c.loop-i-test.true, o.invariant.2))) in
    let n : length line ≡ snapshot_size = omega arith in
    let put = put_room o.out o.at line _ _ c.put_snapshot-at.ensures (omega (arith, room, n)) in (
      omega (arith, c.loop-i-test.true),
      omega (arith, put.0, n, o.invariant.1),
      o.invariant.2,
      subst (λ (x : State). Holds x c.take-taken.new.self) (played_turn s part o.i (step before e).state replied) taken.1,
      (rw (o.invariant.1, o.invariant.4) at put.1) ∙ buffer_turn s part out o.i c.answer_of.result (step before e).state line said replied (c.snapshot_of-snapshot.ensures ∙ ap (snapshot_of c.answer_of.result) taken.1.keeps.placed),
    )

pub shape_of-out : goal.shape_of-out
shape_of-out c = ap length c.loop-i.invariant.4 ∙ long_along c.args.state c.args.part.now c.args.out.now c.loop-i.i

pub returns : goal.returns
unfolding played
returns c =
    let o = c.loop-i in
    let all : o.i ≡ playable c.args.part.now c.args.out.now = omega (arith, c.loop-i-test.false, o.invariant.0, o.invariant.2) in
    rw (c.end-state.ensures _ o.invariant.3, o.invariant.4, all, o.invariant.2)
