-- A place with no task and a place with no group are in order, and so is the state that an accepted set-up gives. Assumes nothing.
use Prim.Native.Nat.{ℕ, ◌≤◌}
use mathlib.Core.Path.{◌≡◌, refl, sym, ap, subst, ◌∙◌}
use mathlib.Core.Bool.{true}
use mathlib.Core.Logic.{⊎_elim}
use native.Mathlib.Omega.{arith}
use lib.ListN.{length, get_or, length-replicate}
use borrow.Author.Tests.{eq-eqb}
use Rattle.search.proofs.Tests.{never}
use Rattle.queue.specs.Tidy.{Tidy}
use Rattle.queue.specs.Waiting.{empty}
use Rattle.search.proofs.Tables.{replicate_at}
use Rattle.queue.proofs.Laws.{empty_tidy}
use Rattle.processors.specs.Words.{none_linked}
use Rattle.scheduler.proofs.Laws.{none_placed}
use Rattle.numbers.specs.Limits.{most_tasks, most_resources, most_requests, nobody, nothing}
use Rattle.setups.specs.Refusals.{setup_refusal}
use Rattle.setups.specs.Clearing.{cleared, is_clear}
use Rattle.input.specs.declared.Setup.{Setup}
use Rattle.setups.proofs.Accepted.{accepted_iff}
use Rattle.setups.proofs.Names.{group_low, group_kind}
use Rattle.setups.proofs.Cleared.{cleared_refusal, cleared_clear}
use Rattle.protocol.specs.Words.{last_clock, sum, absent, standing_no, task, group, stand, deadline, depth, request, holder, len}
use Rattle.protocol.specs.Records.{no_task, no_group}
use Rattle.protocol.specs.Ranks.{jobs}
use Rattle.protocol.specs.Events.{fresh, begin}
use Rattle.protocol.specs.declared.Task.{Task}
use Rattle.protocol.specs.declared.Group.{Group}
use Rattle.protocol.specs.declared.State.{State}
use Rattle.protocol.proofs.Sound.Statements.{Grouped, TimesOk, TaskOk, GroupOk, Sound}
use Rattle.protocol.proofs.Jobs.Modes.{mode_runs}

module _ (c : Setup) (s : State) where
  module _ (t : ℕ) (e : task s t ≡ no_task) where
    gone : stand s t ≡ absent
    unfolding stand
    gone = ap (λ (x : Task). standing_no x.standing) e

    none : depth s t ≡ 0
    unfolding depth
    none = ap (λ (x : Task). x.depth) e

    pub no_task_times : (now : ℕ) → TimesOk c now s t
    unfolding deadline
    no_task_times now = record {
      arrived = λ q. never (ap (λ (x : Task). x.arrived) e) q;
      pending = λ q. absurd (q gone);
      undated = λ _. ap (λ (x : Task). x.deadline) e;
      totals = omega (arith, ap (λ (x : Task). sum x.totals) e);
      beyond = λ _. (ap (λ (x : Task). x.arrived) e, ap (λ (x : Task). x.last) e, ap (λ (x : Task). sum x.totals) e);
    }

    pub no_task_locks : TaskOk c s t
    no_task_locks = record {
      opened = record {
        few = omega (arith, none);
        held = λ i l. absurd (omega (arith, none));
        once = λ i k l m q. absurd (omega (arith, none));
        longs_first = λ i k b l q. absurd (omega (arith, none));
        one_group = λ i k l m q. absurd (omega (arith, none));
      };
      none = λ _. none;
      inside = λ q. absurd (q gone);
      waits = λ q. absurd (omega (arith, gone));
    }

    pub no_task_blank : (i : ℕ) → request s t i ≡ nobody
    unfolding request
    no_task_blank i = ap (λ (x : Task). get_or x.requests i nothing) e ∙ replicate_at most_requests i nobody

  module _ (g : ℕ) (e : group s g ≡ no_group) where
    empty_queue : len s g ≡ 0
    unfolding len empty
    empty_queue = ap (λ (x : Group). x.queue.len) e

    pub no_group_locks : (x : ℕ) → GroupOk c s x g
    unfolding holder
    no_group_locks x = record {
      held = λ q. absurd (q (ap (λ (y : Group). y.holder) e));
      queued = λ i l. absurd (omega (arith, empty_queue));
      once = λ i k l m q. absurd (omega (arith, empty_queue));
      only_held = λ _ _. empty_queue;
    }

    pub no_group_tidy : Tidy (group s g).queue
    no_group_tidy = subst (λ (x : Group). Tidy x.queue) (sym e) empty_tidy

-- ---- what an accepted set-up's groups are
pub accepted_grouped : (c : Setup) → setup_refusal c ≡ 0 → Grouped c
accepted_grouped c good =
    let A = (accepted_iff c).0 good in
    record { few_tasks = A.tasks.1; few_resources = A.resources; kinds = A.kinds; low = group_low c A; alike = group_kind c A }

-- ---- the state of a set-up, none of whose tasks has arrived
module _ (c : Setup) (good : setup_refusal c ≡ 0) (clean : is_clear c ≡ true) (small : c.start ≤ last_clock) where
  no_task_lem : (t : ℕ) → task (fresh c) t ≡ no_task
  unfolding fresh
  no_task_lem t = replicate_at most_tasks t no_task

  no_group_lem : (g : ℕ) → group (fresh c) g ≡ no_group
  unfolding fresh
  no_group_lem g = replicate_at most_resources g no_group

  fresh_sound : Sound (fresh c)
  unfolding fresh none_linked
  fresh_sound =
      let s = fresh c in
      record {
        setup = good;
        clean = clean;
        count = refl;
        times = record { start = omega arith; clock = small; tasks = λ t. no_task_times c s t (no_task_lem t) c.start };
        steady = record {
          sized = record {
            tasks = length-replicate most_tasks no_task;
            groups = length-replicate most_resources no_group;
            requests = λ t. ap (λ (x : Task). length x.requests) (no_task_lem t);
            totals = λ t. ap (λ (x : Task). length x.totals) (no_task_lem t);
          };
          blank = record { requests = λ t i _. no_task_blank c s t (no_task_lem t) i; queues = λ g. no_group_tidy c s g (no_group_lem g) };
          locks = record { tasks = λ t. no_task_locks c s t (no_task_lem t); groups = λ g. no_group_locks c s g (no_group_lem g) nobody };
        };
        placed = none_placed c.processors (jobs c s) ((accepted_iff c).0 good).processors.1
            (λ t r. let e = gone c s t (no_task_lem t) in ⊎_elim (λ q. omega arith) (λ q. omega arith) (mode_runs c s t r.mode).1);
      }

begin_is : (c : Setup) → setup_refusal c ≡ 0 → (begin c).state ≡ fresh (cleared c)
unfolding begin
begin_is c good = rw (eq-eqb (setup_refusal c) 0 good)

pub begin_sound : (c : Setup) → setup_refusal c ≡ 0 → c.start ≤ last_clock → Sound (begin c).state
unfolding cleared
begin_sound c good small = subst Sound (sym (begin_is c good)) (fresh_sound (cleared c) (cleared_refusal c ∙ good) (cleared_clear c) small)
