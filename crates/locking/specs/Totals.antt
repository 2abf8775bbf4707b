-- While a part of events is played, the totals of all tasks are in one table of numbers, task after task. The totals
-- in the records are out of date meanwhile.
use Rattle.std.specs.Prelude.{◌≡◌, ℕ, zero, suc, ◌+◌, ◌*◌, ◌/◌, ◌%◌, ◌<◌, ◌≤◌, Bool, false, ◌&&◌, List, length, get_or, nat_lt, slice_index, slice_index_or, slice_set, if◌then◌else◌}
use Rattle.search.specs.Words.{◌is◌, ◌isn't◌}
use Rattle.search.specs.Table.{table}
use Rattle.numbers.specs.Limits.{most_processors, most_tasks}
use Rattle.processors.specs.Words.{place_of, link_of, run_of}
use Rattle.processors.specs.declared.Processors.{Processors}
use Rattle.protocol.specs.Records.{total_count, no_task, with_totals}
use Rattle.protocol.specs.Words.{last_clock, absent, spinning, suspended}
use Rattle.protocol.specs.Situations.{situation_of, total_of}
use Rattle.protocol.specs.declared.Situation.{Situation}
use Rattle.protocol.specs.declared.Situation.TheVariants.{Running, Spinning, LinkedOnly, Ready, Suspended}
use Rattle.protocol.specs.declared.Task.{Task}

-- how many numbers the table has
abbrev pub all_totals : ℕ
all_totals = most_tasks * total_count

-- the totals of task t in the table
abbrev pub row_of : List ℕ → ℕ → List ℕ
row_of totals t = table (λ i. slice_index totals (total_count * t + i)) total_count

-- the records with the totals of the table
unfoldable pub counted : List Task → List ℕ → List Task
counted tasks totals = table (λ t. with_totals (row_of totals t) (slice_index_or tasks t no_task)) most_tasks

-- the table of the totals in the records
unfoldable pub totals_in : List Task → List ℕ
totals_in tasks = table (λ k. slice_index (get_or tasks (k / total_count) no_task).totals (k % total_count)) all_totals

-- the places by task, with `place` for each task in a list of the processors' tasks
abbrev pub marked_by : ℕ → List ℕ → List ℕ → List ℕ
marked_by place tasks places =
    table (λ t. if nat_lt (place_of tasks t) most_processors then place else slice_index places t) most_tasks

-- the total of a job that is not suspended, foremost or not
abbrev pub total_awake : Situation → ℕ
total_awake situation = total_of situation false

-- the total of task t by the processors alone: of a job that neither spins nor is suspended
abbrev pub place_by : Processors → ℕ → ℕ
place_by p t =
    if nat_lt (run_of p t) most_processors then total_awake Running
    else if nat_lt (link_of p t) most_processors then total_awake LinkedOnly
    else total_awake Ready

-- the total of a pending task, by its standing's number, its place by the processors and whether it is foremost
abbrev pub total_by : ℕ → ℕ → Bool → ℕ
total_by standing place foremost =
    if standing is suspended then total_of Suspended foremost
    else if (standing is spinning && place is total_awake Running) then total_awake Spinning
    else place

-- the total of task t, by the numbers of the standings, who is ahead of each, and the processors
abbrev pub total_with : List ℕ → List ℕ → Processors → ℕ → ℕ
total_with stands ahead p t =
    total_of (situation_of (slice_index_or stands t absent) p t) (nat_lt (slice_index ahead t) p.count)

-- ---- an event's ticks charged
-- the table with n added at place k
abbrev pub added_at : ℕ → ℕ → List ℕ → List ℕ
added_at k n totals = slice_set totals k (slice_index totals k + n)

-- the same, if the standing's number is that of a pending task
abbrev pub added_for : ℕ → ℕ → ℕ → List ℕ → List ℕ
added_for standing k n totals = if standing isn't absent then added_at k n totals else totals

-- n ticks; the numbers of the standings; and the total that each pending task is charged to
module _ (n : ℕ) (stands : List ℕ) (total : ℕ → ℕ) where
  -- the table with the ticks charged to task t, if it is pending
  abbrev pub charged_at : ℕ → List ℕ → List ℕ
  charged_at t totals = added_for (slice_index_or stands t absent) (total_count * t + total t) n totals

  -- the table with the ticks charged to each pending task below i
  unfoldable pub charged_to : List ℕ → ℕ → List ℕ
  charged_to totals zero = totals
  charged_to totals (suc i) = charged_at i (charged_to totals i)

-- the table is whole, and n ticks can be charged to any task
pub record CanCharge (totals : List ℕ) (n : ℕ) : Type 0 where
  pub whole : length totals ≡ all_totals
  pub fits : (k : ℕ) → k < all_totals → slice_index totals k + n ≤ last_clock

-- the table is whole, and n ticks can be charged to task t
pub record CanChargeTask (totals : List ℕ) (n t : ℕ) : Type 0 where
  pub whole : length totals ≡ all_totals
  pub inside : t < most_tasks
  pub fits : (i : ℕ) → i < total_count → slice_index totals (total_count * t + i) + n ≤ last_clock
