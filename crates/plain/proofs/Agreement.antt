-- The engines agree: a session in the order of its state is stepped as the rules step the state. Assumes nothing.
use Prim.Native.Nat.{ℕ}
use mathlib.Core.Path.{◌≡◌, refl, ap, ◌∙◌}
use mathlib.Core.List.{List, [], ◌∷◌}
use lib.ListN.{get_or, take}
use Rattle.input.specs.Kinds.{no_event}
use Rattle.input.specs.declared.Setup.{Setup}
use Rattle.input.specs.declared.Event.{Event}
use Rattle.protocol.specs.Words.{task}
use Rattle.protocol.specs.Events.{begin, run_by, step, run, reply_at}
use Rattle.protocol.specs.declared.State.{State}
use Rattle.states.specs.Writing.{snapshot_of}
use Rattle.plain.specs.Orders.{order_of, ordered, is_ordered}
use Rattle.plain.specs.Engine.{PlainReply, plain_reply, plain_begin, plain_step, plain_run}
use Rattle.plain.specs.Agreement.{plain_reply_at, EnginesAlwaysAgree}
use Rattle.plain.specs.declared.Plain.{Plain}
use Rattle.plain.proofs.Sorted.{same_self}

pub ordered_step : (s : State) (e : Event) → plain_step (ordered s) e ≡ plain_reply (step s e)
unfolding plain_step is_ordered
ordered_step s e = rw (same_self (order_of s))

ordered_run : (s : State) (es : List Event) → plain_run (ordered s) es ≡ ordered (run s es)
unfolding plain_run run run_by step
ordered_run s [] = refl
ordered_run s (e ∷ es) = ap (λ (x : PlainReply). plain_run x.session es) (ordered_step s e) ∙ ordered_run (step s e).state es

module _ (c : Setup) (es : List Event) where
  begun_run : (fs : List Event) → plain_run (plain_begin c).session fs ≡ ordered (run (begin c).state fs)
  unfolding plain_begin
  begun_run fs = ordered_run (begin c).state fs

  reply_is : (n : ℕ) → plain_reply_at c es n ≡ plain_reply (reply_at (begin c).state es n)
  reply_is n = ap (λ (x : Plain). plain_step x (get_or es n no_event)) (begun_run (take n es)) ∙ ordered_step _ _

pub engines_agree : EnginesAlwaysAgree
unfolding plain_begin
engines_agree c es = record {
  setup = refl;
  answers = λ n. ap (λ (x : PlainReply). x.answer) (reply_is c es n);
  lines = λ n. ap (λ (x : PlainReply). snapshot_of x.answer x.session.state.processors) (reply_is c es n);
  totals = λ t. ap (λ (x : Plain). (task x.state t).totals) (begun_run c es es);
  states = ap (λ (x : Plain). x.state) (begun_run c es es);
}
