-- A session at a state of the rules: what its type tells, and what an accepted event may do on it. Assumes nothing.
use Rattle.std.proofs.Common.{◌≡◌, ℕ, ◌+◌, ◌<◌, ◌≤◌, true, List, [], length, get_or, sym, ap, ◌∙◌, subst, arith}
use native.Mathlib.Decide.{dec_lt}
use lib.ListN.{get_or-eq_default}
use Rattle.std.proofs.lemmas.Bool.{eqb-false}
use Rattle.numbers.specs.Answers.{number_of}
use Rattle.numbers.specs.declared.answers.Refusal.{Refusal}
use Rattle.numbers.proofs.Answered.{refusal_counts}
use Rattle.numbers.specs.Limits.{most_tasks, most_resources, most_requests, nothing}
use Rattle.input.specs.Words.{period, due_at}
use Rattle.input.specs.declared.Setup.{Setup}
use Rattle.input.specs.declared.Event.{Event}
use Rattle.setups.specs.Naming.{names}
use Rattle.protocol.specs.Records.{no_task, no_group, with_totals}
use Rattle.protocol.specs.Refusals.{ticks_to, judge}
use Rattle.protocol.specs.Words.{task}
use Rattle.protocol.specs.Events.{step}
use Rattle.protocol.specs.declared.Task.{Task}
use Rattle.protocol.specs.declared.State.{State}
use Rattle.protocol.proofs.Sound.Statements.{Sound}
use Rattle.protocol.proofs.Sound.Reflect.{Shaped, sound_of_test, test_of_sound}
use Rattle.protocol.proofs.Events.Step.{grouped, step_sound, step_setup}
use Rattle.locking.specs.Edits.{Edit, editing}
use Rattle.locking.specs.Keeping.{Keeps}
use Rattle.states.proofs.Tables.{group_read}
use Rattle.locking.specs.Ranking.{Ranked}
use Rattle.locking.specs.Holding.{Typed, Holds}
use Rattle.locking.specs.Steps.{HasParts}
use Rattle.locking.specs.Totals.{row_of}
use Rattle.locking.specs.declared.session.Session.{Session}
use Rattle.locking.proofs.Accepted.{accepted_sound, few_open, refused_stays, step_answer}
use Rattle.locking.proofs.Accepting.{Accepts}
use Rattle.locking.proofs.Keeping.{keeps_task}

-- ---- what the types tell
pub typed_as : (s : State) → Shaped s → ((t : ℕ) → period s.setup t < 65536) → Typed s
typed_as s Z short = record {
  tasks = Z.sized.tasks;
  groups = Z.sized.groups;
  requests = Z.sized.requests;
  totals = Z.sized.totals;
  linked = Z.processors.links;
  running = Z.processors.runnings;
  queues = Z.queues;
  periods = short;
}

pub shaped_as : {s : State} → Typed s → Shaped s
shaped_as T = record {
  sized = record { tasks = T.tasks; groups = T.groups; requests = T.requests; totals = T.totals };
  processors = record { links = T.linked; runnings = T.running };
  queues = T.queues;
}

-- a sound state has its lengths by itself
sound_shaped : (s : State) → Sound s → Shaped s
sound_shaped s Q = record { sized = Q.steady.sized; processors = Q.placed.settled.sized; queues = λ g. (Q.steady.blank.queues g).sized }

-- ---- a session at a state
module _ {s : State} {x : Session} (H : Holds s x) where
  -- a task's record is that of the session, but for its totals
  pub record_read : (t : ℕ) → (w : List ℕ) × (task s t ≡ with_totals w (get_or x.state.tasks t no_task))
  record_read t = elim (dec_lt t most_tasks) [
    | yes l ↦ (row_of x.totals t, keeps_task s _ _ _ _ _ _ _ _ H.keeps t l)
    | no l ↦ (
      no_task.totals,
      get_or-eq_default s.tasks no_task (omega (arith, H.typed.tasks)) ∙ ap (with_totals no_task.totals) (sym (get_or-eq_default x.state.tasks no_task (omega (arith, H.keeps.few)))),
    )
  ]

  -- what an answer is made of
  pub has_parts : (e : Event) → HasParts s x.state.setup x.state.clock (get_or x.state.tasks e.task no_task) x.state.processors x.naming x.sound e
  has_parts e = record {
    given = H.given;
    timed = H.keeps.timed;
    totals = (record_read e.task).0;
    recorded = (record_read e.task).1;
    placed = H.keeps.placed;
    named = H.named ∙ ap names (sym H.given);
    truly = H.tested;
  }

  pub few_read : x.sound ≡ true → (t : ℕ) → (get_or x.state.tasks t no_task).depth ≤ most_requests
  few_read h t = omega (arith, ap (λ (k : Task). k.depth) (record_read t).1, few_open s (shaped_as H.typed) (sym H.tested ∙ h) t)

  module _ (e : Event) (ok : judge s e ≡ 0) where
    is_sound : Sound s
    is_sound = sound_of_test s (shaped_as H.typed) (accepted_sound s e ok)

    -- an accepted event
    pub accepts : (ticks : ℕ) → ticks ≡ ticks_to x.state.clock e.tick
        → Accepts s e x.state.setup x.state.clock x.state.tasks x.state.groups x.state.processors x.totals x.kept.own x.kept.modes x.kept.stands x.ahead ticks
    accepts ticks stepped = record {
      sound = is_sound;
      ok = ok;
      given = H.given;
      short = H.typed.periods;
      keeps = H.keeps;
      ranked = subst (λ (c : Setup). Ranked x.kept.stands x.kept.own c.tasks x.ahead) H.given (H.ranked (rw H.given (grouped s e is_sound ok).few_tasks));
      stepped = stepped ∙ ap (λ (n : ℕ). ticks_to n e.tick) H.keeps.timed;
    }

    -- after it
    module _ (y : Session) (given : y.state.setup ≡ x.state.setup) (tested : y.sound ≡ x.sound) (named : y.naming ≡ x.naming)
        (keeps : Keeps (step s e).state y.state.clock y.state.tasks y.state.groups y.state.processors y.totals y.kept.own y.kept.modes y.kept.stands)
        (ranked : Ranked y.kept.stands y.kept.own x.state.setup.tasks y.ahead) where
      pub goes_on : Holds (step s e).state y
      goes_on =
          let next : State = (step s e).state in
          let Q : Sound next = step_sound s e is_sound in
          let same : next.setup ≡ s.setup = step_setup s e is_sound in
          record {
            typed = typed_as next (sound_shaped next Q) (λ t. subst (λ (c : Setup). period c t < 65536) (sym same) (H.typed.periods t));
            given = given ∙ H.given ∙ sym same;
            tested = tested ∙ H.tested ∙ accepted_sound s e ok ∙ sym (test_of_sound next Q);
            named = named ∙ H.named ∙ ap names (sym same);
            keeps = keeps;
            ranked = λ _. subst (λ (c : Setup). Ranked y.kept.stands y.kept.own c.tasks y.ahead) (sym given) ranked;
          }

  -- a refused event leaves it
  pub stays : (e : Event) → (judge s e ≡ 0 → ⊥) → Holds (step s e).state x
  stays e refused = subst (λ (z : State). Holds z x) (sym (refused_stays s e refused)) H

-- ---- an accepted event's edit, at place g, after its ticks
pub record Edits (s : State) (x : Session) (e : Event) (ticks g : ℕ) (d : Edit) : Type 0 where
  pub accepted : Accepts s e x.state.setup x.state.clock x.state.tasks x.state.groups x.state.processors x.totals x.kept.own x.kept.modes x.kept.stands x.ahead ticks
  pub inside : g < most_resources
  pub placed : get_or (names x.state.setup) e.resource nothing < most_resources → g ≡ get_or (names x.state.setup) e.resource nothing
  pub edit : d ≡ editing x.state.setup.kinds (due_at x.state.setup e.task (x.state.clock + ticks)) (x.state.clock + ticks) (get_or x.state.tasks e.task no_task) (get_or x.state.groups g no_group) e

module _ {s : State} {x : Session} (H : Holds s x) (e : Event) (ok : judge s e ≡ 0) {ticks g : ℕ} (stepped : ticks ≡ ticks_to x.state.clock e.tick)
    (place : (g < most_resources) × (get_or x.naming e.resource nothing < most_resources → g ≡ get_or x.naming e.resource nothing)) where
  pub place_as : get_or (names x.state.setup) e.resource nothing < most_resources → g ≡ get_or (names x.state.setup) e.resource nothing
  place_as = subst (λ (l : List ℕ). get_or l e.resource nothing < most_resources → g ≡ get_or l e.resource nothing) (H.named ∙ ap names (sym H.given)) place.1

  pub edits : {d : Edit} {due : ℕ} {k : Task} → due ≡ due_at x.state.setup e.task (x.state.clock + ticks) → k ≡ get_or x.state.tasks e.task no_task
      → d ≡ editing x.state.setup.kinds due (x.state.clock + ticks) k (get_or x.state.groups g record { holder = 0; queue = record { tasks = []; len = 0 } }) e
      → Edits s x e ticks g d
  edits due-is k-is d-is = record {
    accepted = accepts H e ok ticks stepped;
    inside = place.0;
    placed = place_as;
    edit = rw (due-is, k-is, group_read x.state.groups g (omega (arith, ap length H.keeps.grouped, H.typed.groups, place.0))) at d-is;
  }

-- a refused event is answered with its refusal
pub refused : {s : State} {x : Session} → Holds s x → (e : Event) (refusal : Refusal) → number_of refusal ≡ judge s e → (number_of refusal ≡ (step s e).answer) × Holds (step s e).state x
refused {s} H e refusal h = (h ∙ sym (step_answer s e), stays H e (λ q. eqb-false _ _ (refusal_counts refusal) (h ∙ q)))
