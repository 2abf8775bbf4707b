-- A part of events, one after another: the session and the buffer follow the rules. Assumes nothing.
use Prim.Native.Nat.{ℕ, ◌+◌, ◌*◌, ◌<◌, ◌≤◌}
use mathlib.Core.Path.{◌≡◌, refl, sym, ap, subst, ◌∙◌}
use mathlib.Core.List.{List}
use native.Mathlib.Omega.{arith}
use lib.ListN.{length}
use Rattle.std.specs.Prelude.{Result, Ok, Err}
use Rattle.std.specs.Result.{result_unwrap_or}
use Rattle.numbers.specs.Answers.{answer_of}
use Rattle.numbers.specs.declared.answers.Refusal.{Refusal}
use Rattle.input.specs.Layout.{event_in}
use Rattle.input.specs.declared.Event.{Event}
use Rattle.protocol.specs.Events.{step}
use Rattle.protocol.specs.declared.State.{State}
use Rattle.protocol.proofs.Sound.Reflect.{Shaped}
use Rattle.states.specs.Writing.{snapshot_size, snapshot_of, put_at}
use Rattle.states.proofs.Writing.{put_room}
use Rattle.locking.specs.Playing.{playable, played_to, written_to, reply_to}
use Rattle.locking.proofs.Along.{room_along, played_turn, buffer_turn}
use Rattle.plain.specs.Orders.{order_of, is_ordered}
use Rattle.plain.specs.Engine.{PlainReply, plain_reply_from, plain_step}
use Rattle.plain.specs.Reading.{order_in}
use Rattle.plain.specs.declared.Plain.{Plain}
use Rattle.plain.proofs.Sorted.{same_self}
use Rattle.plain.proofs.Sessions.{Short, sound_order, Kept, follows}

-- what is handed on of a step: its answer, and the session after it
pub handed_on : (x : Plain) (r : Result Plain Refusal) → record { answer = answer_of r; session = result_unwrap_or r x } ≡ plain_reply_from x r
handed_on x (Ok y) = refl
handed_on x (Err e) = refl

module _ (s : State) (part lent : List ℕ) where
  -- after i events: the session x, the buffer, and the next write position
  pub record Along (i : ℕ) (x : Plain) (out : List ℕ) (at : ℕ) : Type 0 where
    pub state : x.state ≡ played_to s part i
    pub kept : Kept x
    pub buffer : out ≡ written_to s part lent i
    pub place : at ≡ snapshot_size * i

  pub along_start : Shaped s → Short s.setup → Along 0 (record { state = s; order = order_in s }) lent 0
  unfolding played_to written_to is_ordered
  along_start Z short = record {
    state = refl;
    kept = λ h. rw (sound_order s Z short h) (same_self (order_of s));
    buffer = refl;
    place = refl;
  }

  pub along_turn : (i : ℕ) (x : Plain) (out : List ℕ) (at : ℕ) → Along i x out at → i < playable part lent
      → (y : PlainReply) → y ≡ plain_step x (event_in part i) → (line : List ℕ) → line ≡ snapshot_of y.answer y.session.state.processors → length line ≡ snapshot_size
      → (next : ℕ) (after : List ℕ) → (next, after) ≡ put_at out at line → Along (i + 1) y.session after next
  along_turn i x out at A l y q line n long next after put =
      let e = event_in part i in
      let F = follows x e A.kept in
      let answer : y.answer ≡ (reply_to s part i).answer = ap (λ (z : PlainReply). z.answer) q ∙ F.answer ∙ ap (λ (z : State). (step z e).answer) A.state in
      let state : y.session.state ≡ (reply_to s part i).state = ap (λ (z : PlainReply). z.session.state) q ∙ F.state ∙ ap (λ (z : State). (step z e).state) A.state in
      let room : at + length line ≤ length out = rw A.buffer (omega (arith, A.place, long, room_along s part lent i l)) in
      let w = put_room out at line next after put room in
      record {
        state = played_turn s part i y.session.state state;
        kept = ap_kept x y e q F.kept;
        buffer = w.1 ∙ rw (A.buffer, A.place) (buffer_turn s part lent i y.answer y.session.state line answer state n);
        place = omega (arith, w.0, A.place, long);
      }
    where
      ap_kept : (x : Plain) (y : PlainReply) (e : Event) → y ≡ plain_step x e → Kept (plain_step x e).session → Kept y.session
      ap_kept x y e q k = subst (λ (z : PlainReply). Kept z.session) (sym q) k
