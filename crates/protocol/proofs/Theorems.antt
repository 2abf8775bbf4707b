-- The theorems, of every run from an accepted set-up. The statements are those of specs/Demands. Assumes nothing.
use mathlib.Core.Path.{◌≡◌, refl, ap, subst, ◌∙◌}
use mathlib.Core.List.{List}
use borrow.Author.Tests.{eq-eqb, ne_eqb}
use Rattle.search.specs.Below.{all_below}
use Rattle.search.proofs.Tables.{replicate_at}
use Rattle.numbers.specs.Limits.{most_processors, most_tasks, most_resources, nobody}
use Rattle.processors.specs.Words.{none_linked}
use Rattle.setups.specs.Refusals.{setup_refusal}
use Rattle.setups.specs.Clearing.{cleared, empty_from, is_clear}
use Rattle.input.specs.declared.Setup.{Setup}
use Rattle.protocol.specs.Records.{no_task, no_group}
use Rattle.protocol.specs.Events.{Move, fresh, begin, after}
use Rattle.protocol.specs.Demands.{Given, LinksHighest, ShortQueue, AlwaysSound, AlwaysDemand3, AlwaysCharges, AlwaysSums, ForemostAreHighest, RefusedLeftOut, RefusedKeeps, AnswersTellWhy, RefusedIsEmpty}
use Rattle.protocol.proofs.Sound.Statements.{Sound}
use Rattle.protocol.proofs.Sound.Begin.{begin_sound}
use Rattle.protocol.proofs.Sound.Reflect.{test_of_sound}
use Rattle.protocol.proofs.Events.Step.{run_sound_by, run_setup_by, refused_out, refused_keeps_by}
use Rattle.protocol.proofs.Events.Reasons.{answer_tells}
use Rattle.protocol.proofs.Demands.Foremost.{foremost_highest}
use Rattle.protocol.proofs.Demands.Totals.{charges, totals_after}
use Rattle.protocol.proofs.Demands.SoundStates.{priorities_apart, links_highest, one_holder, chains_end, one_place}
use Rattle.protocol.proofs.Demands.ShortQueues.{short_queue}

start : (c : Setup) → Given c → Sound (begin c).state
start c g = begin_sound c g.accepted g.start

module _ (c : Setup) (g : Given c) (ms : List Move) where
  Q : Sound (after c ms)
  Q = run_sound_by (begin c).state ms (start c g)

  -- the set-up is the one given, cleared, so m is the number of processors given
  same_setup : (after c ms).setup ≡ cleared c
  unfolding begin fresh
  same_setup = run_setup_by (begin c).state ms (start c g) ∙ rw (eq-eqb (setup_refusal c) 0 g.accepted)

  same_count : (after c ms).setup.processors ≡ c.processors
  unfolding cleared
  same_count = ap (λ (x : Setup). x.processors) same_setup

-- ---- the state is sound
pub sound_after : AlwaysSound
sound_after c g ms = test_of_sound (after c ms) (Q c g ms)

-- ---- demand 3
pub demand_3_after : AlwaysDemand3
demand_3_after c g ms =
    let s = after c ms in
    let q = Q c g ms in
    record {
      links = subst (LinksHighest s) (same_count c g ms) (links_highest s q);
      apart = priorities_apart s q;
      holders = one_holder s q;
      chains = chains_end s q;
      places = one_place s q;
      queues = λ pick e ok k short outer. subst (ShortQueue s pick e) (same_count c g ms) (short_queue s pick e q ok k short outer);
    }

-- ---- totals
pub charges_after : AlwaysCharges
charges_after c g ms pick e t ok h = charges (after c ms) pick e t (Q c g ms) ok h

pub totals_sum_after : AlwaysSums
totals_sum_after c g ms t = ((Q c g ms).steady.sized.totals t, totals_after c g ms t)

pub foremost_are_highest : ForemostAreHighest
foremost_are_highest = foremost_highest

-- ---- refused events and set-ups
pub refused_out_after : RefusedLeftOut
refused_out_after c g ms m ns h = refused_out (begin c).state ms ns m h

pub refused_kept : RefusedKeeps
refused_kept = refused_keeps_by

pub answers_tell_why : AnswersTellWhy
answers_tell_why pick s e = answer_tells s e pick

pub refused_empty : RefusedIsEmpty
unfolding begin fresh none_linked is_clear empty_from all_below
refused_empty c h = rw (ne_eqb (setup_refusal c) 0 h) (
  refl,
  record {
    processors = (refl, refl);
    counts = (refl, refl, refl);
    tables = refl;
    clock = (refl, refl);
    links = λ k. (replicate_at most_processors k nobody, replicate_at most_processors k nobody);
    tasks = λ t. replicate_at most_tasks t no_task;
    groups = λ g. replicate_at most_resources g no_group;
  },
)
