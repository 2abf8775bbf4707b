-- What is kept while a part is played follows the state: at its start, when ticks are charged, when records are stored, and
-- when the scheduler moves. Assumes nothing.
use Rattle.std.proofs.Common.{◌≡◌, ℕ, ◌+◌, ◌<◌, ◌≤◌, min, Bool, true, false, List, length, get_or, set, sym, refl, ap, ◌∙◌, arith, length-set, get_or-set_other, get_or-set_same}
use native.Mathlib.Decide.{ℕ_discrete}
use Rattle.std.specs.Prelude.{if◌then◌else◌}
use Rattle.search.specs.Words.{◌isn't◌}
use Rattle.search.specs.Table.{table}
use Rattle.search.proofs.Tables.{table_length, table_at, table_of, table_same}
use Rattle.processors.specs.Words.{jobs_from}
use Rattle.processors.specs.declared.Processors.{Processors}
use Rattle.numbers.specs.Limits.{most_tasks, most_resources}
use Rattle.input.specs.declared.Setup.{Setup}
use Rattle.protocol.specs.Words.{absent, standing_no, stand, task}
use Rattle.protocol.specs.Records.{no_task, with_processors, with_totals}
use Rattle.protocol.specs.Ranks.{effective, jobs}
use Rattle.protocol.specs.Situations.{total_for}
use Rattle.protocol.specs.Events.{counting, charged}
use Rattle.protocol.specs.declared.Task.{Task}
use Rattle.protocol.specs.declared.Group.{Group}
use Rattle.protocol.specs.declared.State.{State}
use Rattle.protocol.proofs.Sound.Reflect.{Shaped}
use Rattle.priorities.specs.Bounds.{is_bounded, rank_by, mode_in, rank_with}
use Rattle.priorities.proofs.Ruled.{ranks_ruled, modes_ruled}
use Rattle.locking.specs.Edits.{put}
use Rattle.locking.specs.Ranking.{Ranked}
use Rattle.locking.specs.Totals.{all_totals, row_of, counted, totals_in, total_with, charged_to}
use Rattle.locking.specs.Keeping.{kept_in, Keeps}
use Rattle.locking.proofs.Foremost.{total_ruled}
use Rattle.locking.proofs.Totals.{counted_start, counted_at, counted_set, counted_charged, charged_length, with_low}

totals_length : (ts : List Task) → length (totals_in ts) ≡ all_totals
unfolding totals_in
totals_length ts = table_length _ all_totals

-- ---- a table by task, where one record is stored
by_task_set : (f : ℕ → Task → ℕ) (l : List Task) (t : ℕ) (x : Task) → t < most_tasks → t < length l
    → set (table (λ u. f u (get_or l u no_task)) most_tasks) t (f t x) ≡ table (λ u. f u (get_or (set l t x) u no_task)) most_tasks
by_task_set f l t x h g = table_of (λ u. f u (get_or (set l t x) u no_task)) (set (table (λ u. f u (get_or l u no_task)) most_tasks) t (f t x)) most_tasks 0
    (length-set (table (λ u. f u (get_or l u no_task)) most_tasks) t (f t x) ∙ table_length _ most_tasks)
    (λ i b. elim (ℕ_discrete i t) [
      | yes e ↦ ap (λ (n : ℕ). get_or (set (table (λ u. f u (get_or l u no_task)) most_tasks) t (f t x)) n 0) e
          ∙ get_or-set_same (table (λ u. f u (get_or l u no_task)) most_tasks) t (f t x) 0 (omega (arith, table_length (λ u. f u (get_or l u no_task)) most_tasks))
          ∙ ap (f t) (sym (get_or-set_same l t x no_task g)) ∙ ap (λ (n : ℕ). f n (get_or (set l t x) n no_task)) (sym e)
      | no d ↦ get_or-set_other (table (λ u. f u (get_or l u no_task)) most_tasks) t i (f t x) 0 d ∙ table_at (λ u. f u (get_or l u no_task)) most_tasks i 0 b
          ∙ ap (f i) (sym (get_or-set_other l t i x no_task d))
    ])

-- ---- charging changes nothing of a record but its totals
pub charged_by : (f : Task → ℕ) → ((i n : ℕ) (x : Task) → f (counting i n x) ≡ f x) → (n : ℕ) (s : State) (t : ℕ) → t < most_tasks → f (task (charged n s) t) ≡ f (task s t)
unfolding charged
charged_by f keeps n s t l = ap f (table_at _ most_tasks t no_task l) ∙ go (stand s t isn't absent)
  where
    go : (b : Bool) → f (if b then counting (total_for s t) n (task s t) else task s t) ≡ f (task s t)
    go true = keeps _ _ _
    go false = refl

-- a number of each task's record
abbrev by_task : (ℕ → Task → ℕ) → State → List ℕ
by_task f s = table (λ t. f t (task s t)) most_tasks

by_task_charged : (f : ℕ → Task → ℕ) → ((t i n : ℕ) (x : Task) → f t (counting i n x) ≡ f t x) → (n : ℕ) (s : State) → by_task f s ≡ by_task f (charged n s)
by_task_charged f keeps n s = table_same _ _ most_tasks (λ t l. sym (charged_by (f t) (keeps t) n s t l))

-- ---- the state that is kept
pub keeps_start : (s : State) → Shaped s
    → let k = kept_in s.setup.kinds s.tasks in Keeps s s.clock s.tasks s.groups s.processors (totals_in s.tasks) k.own k.modes k.stands
keeps_start s Z = record {
  timed = refl;
  recorded = sym (counted_start s.tasks Z.sized.tasks Z.sized.totals);
  grouped = refl;
  placed = refl;
  ranked = refl;
  ready = refl;
  stood = refl;
  few = Z.sized.tasks;
  all = totals_length s.tasks;
}

module _ (s : State) (clock : ℕ) (ts : List Task) (gs : List Group) (p : Processors) (totals own modes stands : List ℕ) (K : Keeps s clock ts gs p totals own modes stands) where
  pub keeps_task : (t : ℕ) → t < most_tasks → task s t ≡ with_totals (row_of totals t) (get_or ts t no_task)
  keeps_task t l = ap (λ (l : List Task). get_or l t no_task) K.recorded ∙ counted_at ts totals t l

  -- a task's numbers in the tables are those of its record
  pub keeps_stand : (t : ℕ) → t < most_tasks → get_or stands t absent ≡ standing_no (get_or ts t no_task).standing
  keeps_stand t l = ap (λ (l : List ℕ). get_or l t absent) K.stood ∙ table_at _ most_tasks t absent l ∙ ap (λ (x : Task). standing_no x.standing) (keeps_task t l)

  pub keeps_own : (t : ℕ) → t < most_tasks → get_or own t 0 ≡ rank_by (get_or ts t no_task).deadline t
  keeps_own t l = ap (λ (l : List ℕ). get_or l t 0) K.ranked ∙ table_at _ most_tasks t 0 l ∙ ap (λ (x : Task). rank_by x.deadline t) (keeps_task t l)

  pub stands_long : length stands ≡ most_tasks
  stands_long = ap length K.stood ∙ table_length _ most_tasks

  pub own_long : length own ≡ most_tasks
  own_long = ap length K.ranked ∙ table_length _ most_tasks

  -- the ticks charged, by who is ahead of each suspended job
  pub keeps_charge : (n m : ℕ) (ahead : List ℕ) → m ≤ most_tasks → ((t : ℕ) → m ≤ t → t < most_tasks → stand s t ≡ absent) → is_bounded s ≡ true
      → s.processors.count ≡ s.setup.processors → Ranked stands own m ahead
      → Keeps (charged n s) (clock + n) ts gs p (charged_to n stands (total_with stands ahead p) totals m) own modes stands
  unfolding charged stand
  keeps_charge n m ahead few quiet bounded count R = record {
    timed = ap (λ (x : ℕ). x + n) K.timed;
    recorded = counted_charged s ts totals stands (total_with stands ahead p) n m (record {
      recorded = K.recorded;
      whole = K.all;
      stood = K.stood;
      few = few;
      quiet = quiet;
      low = with_low stands ahead p;
      totalled = λ t h. rw K.placed (total_ruled s stands own m K.stood K.ranked bounded few quiet ahead R count t h);
    });
    grouped = K.grouped;
    placed = K.placed;
    ranked = K.ranked ∙ by_task_charged (λ t x. rank_by x.deadline t) (λ t i n x. refl) n s;
    ready = K.ready ∙ by_task_charged (λ t x. mode_in s.setup.kinds x) (λ t i n x. refl) n s;
    stood = K.stood ∙ by_task_charged (λ t x. standing_no x.standing) (λ t i n x. refl) n s;
    few = K.few;
    all = charged_length n stands (total_with stands ahead p) totals m ∙ K.all;
  }

  pub keeps_store : (t g : ℕ) (x : Task) (y : Group) → t < most_tasks → length s.tasks ≡ most_tasks
      → Keeps (put t g (with_totals (row_of totals t) x) y s) clock (set ts t x) (set gs g y) p totals
      (set own t (rank_by x.deadline t)) (set modes t (mode_in s.setup.kinds x)) (set stands t (standing_no x.standing))
  keeps_store t g x y l long =
      let X = with_totals (row_of totals t) x in
      record {
        timed = K.timed;
        recorded = ap (λ (a : List Task). set a t X) K.recorded ∙ sym (counted_set ts totals t x l K.few);
        grouped = ap (λ (a : List Group). set a g y) K.grouped;
        placed = K.placed;
        ranked = ap (λ (a : List ℕ). set a t (rank_by x.deadline t)) K.ranked ∙ by_task_set (λ t x. rank_by x.deadline t) s.tasks t X l (omega (arith, long));
        ready = ap (λ (a : List ℕ). set a t (mode_in s.setup.kinds x)) K.ready ∙ by_task_set (λ t x. mode_in s.setup.kinds x) s.tasks t X l (omega (arith, long));
        stood = ap (λ (a : List ℕ). set a t (standing_no x.standing)) K.stood ∙ by_task_set (λ t x. standing_no x.standing) s.tasks t X l (omega (arith, long));
        few = length-set ts t x ∙ K.few;
        all = K.all;
      }

  pub keeps_move : (q : Processors) → Keeps (with_processors q s) clock ts gs q totals own modes stands
  keeps_move q = record {
    timed = K.timed;
    recorded = K.recorded;
    grouped = K.grouped;
    placed = refl;
    ranked = K.ranked;
    ready = K.ready;
    stood = K.stood;
    few = K.few;
    all = K.all;
  }

  -- what the moves are told is the jobs of the state
  pub keeps_jobs : length s.tasks ≡ most_tasks → is_bounded s ≡ true → jobs_from (table (rank_with own s.setup.kinds (min s.setup.resources most_resources) gs) most_tasks) modes ≡ jobs s.setup s
  unfolding jobs
  keeps_jobs long h =
      ap (λ (l : List ℕ). jobs_from l modes)
      (ap (λ (l : List Group). table (rank_with own s.setup.kinds (min s.setup.resources most_resources) l) most_tasks) K.grouped ∙ ranks_ruled s long h own K.ranked)
      ∙ ap (jobs_from (table (effective s.setup s) most_tasks)) (K.ready ∙ modes_ruled s)

  -- the state put together again
  pub keeps_state : (c : Setup) (l : List Task) → c ≡ s.setup → l ≡ counted ts totals → record { setup = c; clock = clock; tasks = l; groups = gs; processors = p } ≡ s
  keeps_state c l c-is l-is = rw (c-is, l-is ∙ sym K.recorded, K.timed, K.grouped, K.placed)
