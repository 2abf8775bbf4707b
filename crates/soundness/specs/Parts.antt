-- The clauses of the sound state in three parts, in the order in which the code tests them.
use Rattle.std.specs.Prelude.{ℕ, ◌<◌, ◌≡◌, Bool, true, ◌&&◌, length}
use Rattle.search.specs.Words.{◌is◌}
use Rattle.search.specs.Below.{all_below}
use Rattle.scheduler.specs.PlacedTest.{is_placed}
use Rattle.numbers.specs.Limits.{most_tasks, most_resources}
use Rattle.input.specs.Words.{period}
use Rattle.setups.specs.Refusals.{setup_refusal}
use Rattle.setups.specs.Clearing.{is_clear}
use Rattle.protocol.specs.Ranks.{jobs}
use Rattle.protocol.specs.Sound.{clock_sound, times_sound, requests_sound, waiting_sound, group_sound}
use Rattle.protocol.specs.declared.State.{State}
use Rattle.priorities.specs.Bounds.{jobs_in}

-- the set-up, the clock and the times
abbrev pub frame_sound : State → Bool
frame_sound s =
    setup_refusal s.setup is 0 && is_clear s.setup
    && clock_sound s.setup s && all_below most_tasks (times_sound s.setup s)

-- where these hold, what the code computes for the scheduler is the rule's `jobs`, whatever the depths and queues.
-- The types give the other two conditions: the length of the table of tasks, and periods of two bytes.
abbrev pub ViewIsRuled : Type 0
ViewIsRuled =
    (s : State) → length s.tasks ≡ most_tasks → ((t : ℕ) → period s.setup t < 65536) → frame_sound s ≡ true
    → jobs_in s.setup.kinds s.setup.resources s.tasks s.groups ≡ jobs s.setup s

-- the open requests, the waiting jobs and the groups
abbrev pub locks_sound : State → Bool
locks_sound s =
    all_below most_tasks (requests_sound s.setup s) && all_below most_tasks (waiting_sound s.setup s)
    && all_below most_resources (group_sound s.setup s)

-- links and placements
abbrev pub placement_sound : State → Bool
placement_sound s = s.processors.count is s.setup.processors && is_placed s.processors (jobs s.setup s)
