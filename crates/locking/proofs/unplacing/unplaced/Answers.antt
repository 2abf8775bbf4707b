-- The answer is that of the rules, and an accepted event is charged and edited. Assumes nothing.
use Rattle.std.proofs.Common.{◌≡◌, ◌≤◌, sym, eq-eqb, arith}
use Rattle.std.proofs.lemmas.Grind.{common_steps}
use Rattle.numbers.proofs.Answered.{refusal_counts}
use Rattle.input.specs.Kinds.{request as asking, completion}
use Rattle.setups.specs.Naming.{group_of}
use Rattle.protocol.specs.Refusals.{judge}
use Rattle.protocol.specs.Events.{charged as charged_rule}
use Rattle.protocol.specs.Edited.{unplaced as unplaced_rule}
use Rattle.protocol.proofs.Sound.Reflect.{sound_of_test}
use Rattle.locking.proofs.Accepted.{accepted_sound, can_act, g_in}
use Rattle.locking.proofs.Shapes.{shaped, periods_short}
use Rattle.locking.proofs.unplacing.unplaced.Goals as goal

pub returns-in_err-judge_event : goal.returns-in_err-judge_event
unfolding unplaced_rule
returns-in_err-judge_event c = grind (arith, common_steps, refusal_counts)

pub charged-later-requires : goal.charged-later-requires
charged-later-requires c = sym c.in_ok-judge_event.ensures

pub edit_state-requires : goal.edit_state-requires
unfolding charged_rule group_of
edit_state-requires c =
    let s = c.args.state in
    let e = c.args.e in
    let ok : judge s e ≡ 0 = sym c.in_ok-judge_event.ensures in
    let Q = sound_of_test s (shaped s _ c.well_formed.0) (accepted_sound s e ok) in
    let at : (asking ≤ e.kind) × (e.kind ≤ completion) → c.place_in.result ≡ group_of s.setup e.resource = λ k. (rw c.names_of-naming.ensures at c.place_in.ensures.1) (g_in s e Q ok k) in
    rw c.charged-later.ensures (can_act s e Q ok (periods_short s _ c.well_formed.0), c.place_in.ensures.0, at)

pub returns : goal.returns
unfolding unplaced_rule charged_rule
returns c =
    let ok : judge c.args.state c.args.e ≡ 0 = sym c.in_ok-judge_event.ensures in
    rw (c.edit_state.ensures, c.charged-later.ensures, eq-eqb (judge c.args.state c.args.e) 0 ok)
