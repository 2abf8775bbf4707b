-- What the code tells of the jobs, from the parts of a state, is what `jobs` says of a state within its bounds. Assumes
-- nothing.
use Prim.Native.Nat.{ℕ, suc, ◌<◌, min}
use mathlib.Core.Path.{◌≡◌, refl, sym, ap, ◌∙◌}
use mathlib.Core.Bool.{true, false, ◌&&◌, and-false}
use mathlib.Core.List.{List}
use native.Mathlib.Omega.{arith}
use native.Mathlib.Decide.{dec_lt, ℕ_discrete}
use lib.Dec.{ltb}
use lib.ListN.{length, get_or, set, length-set, get_or-eq_default}
use lib.Seq.{get_or-set_same, get_or-set_other}
use borrow.Author.Tests.{le-leb, lt-ltb, le-ltb, eq-eqb, ne_eqb}
use Rattle.std.specs.Prelude.{if◌then◌else◌}
use Rattle.search.specs.Words.{◌is◌}
use Rattle.search.specs.First.{first}
use Rattle.search.specs.Table.{table}
use Rattle.search.proofs.Tables.{table_length, table_at, table_of, table_same}
use Rattle.search.proofs.Tests.{and_left}
use Rattle.processors.specs.Words.{jobs_from}
use Rattle.numbers.specs.Limits.{most_tasks, most_resources}
use Rattle.input.specs.Kinds.{long}
use Rattle.protocol.specs.Records.{no_task, no_group}
use Rattle.protocol.specs.Words.{task, deadline, depth, request, holder, len, waiter}
use Rattle.protocol.specs.Ranks.{own, long_held, effective, short_open, jobs}
use Rattle.protocol.specs.declared.Task.{Task}
use Rattle.protocol.specs.declared.Group.{Group}
use Rattle.protocol.specs.declared.State.{State}
use Rattle.priorities.specs.Bounds.{is_bounded, rank_by, rank_at, rank_before, held_from, rank_with, mode_in, jobs_in}
use Rattle.priorities.proofs.Bounding.{resources_bounded, deadline_bounded}

-- a table after one store, at a place past it too
set_table : (f : ℕ → ℕ) (n h x : ℕ) → set (table f n) h x ≡ table (λ t. if h is t then x else f t) n
set_table f n h x =
    table_of
    (λ t. if h is t then x else f t)
    (set (table f n) h x)
    n
    0
    (length-set (table f n) h x ∙ table_length f n)
    (λ t l. elim (ℕ_discrete t h) [
      | yes e ↦ rw (e, eq-eqb h h refl) (get_or-set_same (table f n) h x 0 (omega (arith, table_length f n)))
      | no d ↦ rw (ne_eqb h t (λ e. d (sym e))) (get_or-set_other (table f n) h t x 0 d ∙ table_at f n t 0 l)
    ])

module _ (own kinds : List ℕ) (groups : List Group) where
  -- the effective rank of t by the n groups from k on
  abbrev pub rank_from : ℕ → ℕ → ℕ → ℕ
  rank_from k n t = rank_before own (get_or groups (held_from kinds groups k n t) no_group).queue t

  module _ (k n : ℕ) where
    abbrev who : ℕ
    who = (get_or groups k no_group).holder

    -- a loop that takes the groups from the last to the first, after a turn whose group raises its holder
    pub raising : (get_or kinds k 0 is long && ltb who most_tasks) ≡ true
        → set (table (rank_from (suc k) n) most_tasks) who (rank_before own (get_or groups k no_group).queue who) ≡ table (rank_from k (suc n)) most_tasks
    unfolding first
    raising e =
        set_table (rank_from (suc k) n) most_tasks who (rank_before own (get_or groups k no_group).queue who)
        ∙ table_same _ (rank_from k (suc n)) most_tasks (λ t l. elim (ℕ_discrete who t) [
          | yes s ↦ rw (eq-eqb who t s, and_left (get_or kinds k 0 is long) (ltb who most_tasks) e) (ap (rank_before own (get_or groups k no_group).queue) s)
          | no d ↦ rw (ne_eqb who t d, and-false)
        ])

    -- and after one whose group raises nobody
    pub passing : (get_or kinds k 0 is long && ltb who most_tasks) ≡ false → table (rank_from (suc k) n) most_tasks ≡ table (rank_from k (suc n)) most_tasks
    unfolding first
    passing e =
        table_same (rank_from (suc k) n) (rank_from k (suc n)) most_tasks (λ t l.
        let none : (get_or kinds k 0 is long && who is t) ≡ false =
        elim (ℕ_discrete who t) [
          | yes s ↦ rw (eq-eqb who t s) (rw (lt-ltb who most_tasks (omega (arith, s, l))) at e)
          | no d ↦ rw (ne_eqb who t d) (and-false (get_or kinds k 0 is long))
        ] in
        rw none)

module _ (s : State) (tasked : length s.tasks ≡ most_tasks) where
  -- own ranks, past the table too
  rank_own : (t : ℕ) → rank_at (table (own s) most_tasks) t ≡ own s t
  unfolding own deadline
  rank_own t = elim (dec_lt t most_tasks) [
    | yes h ↦ rw (lt-ltb t most_tasks h) (table_at (own s) most_tasks t 0 h)
    | no n ↦
        let x : (get_or s.tasks t no_task).deadline ≡ 0 = ap (λ (x : Task). x.deadline) (get_or-eq_default s.tasks no_task (omega arith)) in
        rw (le-ltb t most_tasks (omega arith)) (omega arith)
  ]

  -- the rank of a task, whatever it holds
  raised : (t : ℕ) → t < most_tasks → rank_with (table (own s) most_tasks) s.setup.kinds s.setup.resources s.groups t ≡ effective s.setup s t
  unfolding effective long_held holder len waiter
  raised t h = rw (table_at (own s) most_tasks t 0 h) (simp rank_own)

  -- own ranks within the bounds
  own_ruled : is_bounded s ≡ true → table (λ t. rank_by (task s t).deadline t) most_tasks ≡ table (own s) most_tasks
  unfolding own deadline
  own_ruled b = table_same (λ t. rank_by (task s t).deadline t) (own s) most_tasks (λ t h. rw (le-leb _ _ (deadline_bounded s b t h)))

  pub ranks_ruled : is_bounded s ≡ true → (own' : List ℕ) → own' ≡ table (λ t. rank_by (task s t).deadline t) most_tasks
      → table (rank_with own' s.setup.kinds (min s.setup.resources most_resources) s.groups) most_tasks ≡ table (effective s.setup s) most_tasks
  ranks_ruled b own' e =
      let few = resources_bounded s b in
      let all : min s.setup.resources most_resources ≡ s.setup.resources = omega arith in
      rw (e, all, own_ruled b) (table_same _ (effective s.setup s) most_tasks raised)

-- the modes of any state
pub modes_ruled : (s : State) → table (λ t. mode_in s.setup.kinds (task s t)) most_tasks ≡ (jobs s.setup s).modes
unfolding jobs short_open depth request
modes_ruled s = refl

-- and so what is told of the jobs of a state within its bounds
pub jobs_ruled : (s : State) → length s.tasks ≡ most_tasks → is_bounded s ≡ true
    → jobs_in s.setup.kinds s.setup.resources s.tasks s.groups ≡ jobs s.setup s
unfolding jobs_in jobs short_open depth request
jobs_ruled s tasked b = ap (λ (l : List ℕ). jobs_from l (table (λ t. mode_in s.setup.kinds (task s t)) most_tasks)) (ranks_ruled s tasked b _ refl)
