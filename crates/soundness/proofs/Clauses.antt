-- The code's order of the clauses against the document's: the clauses of the locks are tested before the placement.
-- Assumes nothing.
use mathlib.Core.Path.{◌≡◌, refl}
use mathlib.Core.Bool.{Bool, true, false, ◌&&◌, and-true, and-false}
use Rattle.search.specs.Words.{◌is◌}
use Rattle.search.specs.Below.{all_below}
use Rattle.scheduler.specs.PlacedTest.{is_placed}
use Rattle.numbers.specs.Limits.{most_tasks, most_resources}
use Rattle.protocol.specs.Sound.{requests_sound, waiting_sound, group_sound, empty_sound, sound}
use Rattle.protocol.specs.Ranks.{jobs}
use Rattle.protocol.specs.declared.State.{State}
use Rattle.soundness.specs.Parts.{frame_sound, locks_sound, placement_sound}

reordered : (f n p a b g e : Bool) → (f && n && p && a && b && g && e) ≡ (f && (a && b && g) && (n && p) && e)
reordered false n p a b g e = refl
reordered true false p a b g e = rw (and-false (a && b && g))
reordered true true false a b g e = rw (and-false (a && b && g))
reordered true true true a b g e = rw (and-true (a && b && g))

module _ (s : State) where
  pub sound_parts : sound s ≡ (frame_sound s && locks_sound s && placement_sound s && all_below most_tasks (empty_sound s.setup s))
  unfolding sound
  sound_parts =
      reordered (frame_sound s) (s.processors.count is s.setup.processors) (is_placed s.processors (jobs s.setup s))
      (all_below most_tasks (requests_sound s.setup s)) (all_below most_tasks (waiting_sound s.setup s))
      (all_below most_resources (group_sound s.setup s)) (all_below most_tasks (empty_sound s.setup s))
