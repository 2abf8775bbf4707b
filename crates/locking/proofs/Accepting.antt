-- An accepted event on what is kept of a state: each step of the code keeps the state of the rules. Assumes nothing.
use Rattle.std.proofs.Common.{◌≡◌, ℕ, ◌+◌, ◌<◌, ◌≤◌, min, Bool, true, false, ◌||◌, ◌⊎◌, List, length, get_or, set, sym, refl, ap, ◌∙◌, subst, inl, inr, ⊎_elim, arith, length-set, get_or-set_other, get_or-set_same, set-set, eq-eqb, ne_eqb, eqb-true}
use native.Mathlib.Decide.{ℕ_discrete, dec_lt}
use lib.Seq.{set-get_or}
use Rattle.std.specs.Prelude.{if◌then◌else◌}
use Rattle.search.specs.Words.{◌is◌}
use Rattle.search.specs.Table.{table}
use Rattle.search.proofs.Tables.{table_length}
use Rattle.search.proofs.Tests.{tests}
use Rattle.processors.specs.Modes.{off}
use Rattle.processors.specs.Words.{jobs_from, first_modes}
use Rattle.processors.specs.declared.Jobs.{Jobs}
use Rattle.processors.specs.declared.Processors.{Processors}
use Rattle.processors.proofs.FirstTasks.{first_all}
use Rattle.numbers.specs.Limits.{most_tasks, most_resources, nobody, most_requests, nothing}
use Rattle.input.specs.Kinds.{short, arrival, finish, request as asking, completion, passing}
use Rattle.input.specs.Words.{period, due_at}
use Rattle.input.specs.declared.Setup.{Setup}
use Rattle.input.specs.declared.Event.{Event}
use Rattle.setups.specs.Naming.{names, group_of}
use Rattle.protocol.specs.Words.{absent, last_clock, standing_no, stand, task, group}
use Rattle.protocol.specs.Records.{no_task, no_group, with_standing, with_processors, with_totals}
use Rattle.protocol.specs.Ranks.{mode_for, jobs}
use Rattle.protocol.specs.declared.Lock.TheVariants.{Short, Long}
use Rattle.protocol.specs.declared.Standing.{Standing}
use Rattle.protocol.specs.Refusals.{step_of, judge}
use Rattle.queue.specs.Waiting.{waiter, appended}
use Rattle.protocol.specs.Locks.{opening, closing, arriving, departing, lock_of}
use Rattle.protocol.specs.declared.Standing.TheVariants.{Absent, Active, Waiting}
use Rattle.protocol.specs.Events.{charged, step_by, step}
use Rattle.protocol.specs.declared.Task.{Task}
use Rattle.protocol.specs.declared.Group.{Group}
use Rattle.protocol.specs.declared.State.{State}
use Rattle.protocol.proofs.Sound.Statements.{Sound}
use Rattle.protocol.proofs.Events.Step.{grouped, event_kinds, row11}
use Rattle.locking.specs.Acting.{CanAct}
use Rattle.priorities.specs.Bounds.{latest, is_bounded, rank_by, mode_in, rank_with}
use Rattle.priorities.proofs.Bounding.{deadline_bounded}
use Rattle.locking.specs.Edits.{Edit, arrive, leave, stay, become_preemptable, give_way, open_in, keeping, requesting, completing, editing, handing, stored, moved_with, moved_by, handed, edit_of, acted}
use Rattle.locking.specs.Ranking.{Ranked}
use Rattle.locking.specs.Totals.{CanCharge, row_of, total_with, charged_to}
use Rattle.locking.specs.Keeping.{Keeps}
use Rattle.locking.proofs.Accepted.{can_act, inside, room, charges, asker_pending, g_in as group-in}
use Rattle.locking.proofs.Acted.{acted_act, edit_needs, next_in_lem, next_pending, next_room, edited_deadline, handed_deadline}
use Rattle.locking.proofs.Bounded.{within_bounds, put_bounded}
use Rattle.locking.proofs.Totals.{counted_low}
use Rattle.locking.proofs.Keeping.{charged_by, keeps_task, keeps_stand, keeps_own, stands_long, own_long, keeps_charge, keeps_store, keeps_move, keeps_jobs}
use Rattle.locking.proofs.Still.{still_ranked, edited_still, handed_still}

-- ---- an edit takes the totals of a record along
abbrev pub as_edit : List ℕ → Edit → Edit
as_edit w d = record { task = with_totals w d.task; group = d.group; turn = d.turn; next = d.next }

requested_as : (w kinds : List ℕ) (x : Task) (y : Group) (t r : ℕ) → requesting kinds (with_totals w x) y t r ≡ as_edit w (requesting kinds x y t r)
unfolding requesting
requested_as w kinds x y t r = go (open_in kinds x r || y.holder is nobody)
  where
    granted : Task → Edit
    granted z = keeping (opening r z) (record { holder = t; queue = y.queue }) stay

    queued : Task → Edit
    queued z = keeping (with_standing (Waiting (lock_of (get_or kinds r 0) r)) z) (record { holder = y.holder; queue = appended y.queue t }) (if get_or kinds r 0 is short then stay else leave)

    go : (b : Bool) → (if b then granted (with_totals w x) else queued (with_totals w x)) ≡ as_edit w (if b then granted x else queued x)
    go true = refl
    go false = refl

completed_as : (w kinds : List ℕ) (x : Task) (y : Group) (r : ℕ) → completing kinds (with_totals w x) y r ≡ as_edit w (completing kinds x y r)
unfolding completing
completed_as w kinds x y r = go (open_in kinds (closing x) r)
  where
    outer : Task → Edit
    outer z = record {
      task = closing z;
      group = record { holder = nobody; queue = y.queue };
      turn = if get_or kinds r 0 is short then become_preemptable else give_way;
      next = if y.queue.len is 0 then nobody else waiter y.queue 0;
    }

    go : (b : Bool) → (if b then keeping (closing (with_totals w x)) y stay else outer (with_totals w x)) ≡ as_edit w (if b then keeping (closing x) y stay else outer x)
    go true = refl
    go false = refl

edited_as : (w kinds : List ℕ) (due clock : ℕ) (x : Task) (y : Group) (e : Event) → editing kinds due clock (with_totals w x) y e ≡ as_edit w (editing kinds due clock x y e)
unfolding editing
edited_as w kinds due clock x y e =
    go (e.kind is arrival) (e.kind is finish) (e.kind is asking) (e.kind is completion)
    (requesting kinds x y e.task e.resource) (requesting kinds (with_totals w x) y e.task e.resource) (requested_as w kinds x y e.task e.resource)
    (completing kinds x y e.resource) (completing kinds (with_totals w x) y e.resource) (completed_as w kinds x y e.resource)
  where
    comes : Task → Edit
    comes z = keeping (arriving clock due z) y arrive

    goes : Task → Edit
    goes z = keeping (departing z) y leave

    go : (a b c d : Bool) (R R' : Edit) → R' ≡ as_edit w R → (C C' : Edit) → C' ≡ as_edit w C
        → (if a then comes (with_totals w x) else if b then goes (with_totals w x) else if c then R' else if d then C' else keeping (with_totals w x) y stay)
        ≡ as_edit w (if a then comes x else if b then goes x else if c then R else if d then C else keeping x y stay)
    go true b c d R R' p C C' q = refl
    go false true c d R R' p C C' q = refl
    go false false true d R R' p C C' q = p
    go false false false true R R' p C C' q = q
    go false false false false R R' p C C' q = refl

handed_as : (w : List ℕ) (x : Task) (y : Group) (turn next : ℕ) → handing (with_totals w x) y turn next ≡ as_edit w (handing x y turn next)
unfolding handing
handed_as w x y turn next = refl

-- time alone moves nobody, and who is handed a group leaves nothing
passes_still : (kinds : List ℕ) (due clock : ℕ) (x : Task) (y : Group) (e : Event) → e.kind ≡ passing → (editing kinds due clock x y e).turn ≡ stay
unfolding editing
passes_still kinds due clock x y e k =
    rw (ne_eqb e.kind arrival (λ q. omega (arith, k, q)), ne_eqb e.kind finish (λ q. omega (arith, k, q)), ne_eqb e.kind asking (λ q. omega (arith, k, q)), ne_eqb e.kind completion (λ q. omega (arith, k, q)))

pub heir_stays : (x : Task) (y : Group) (turn next : ℕ) → ((handing x y turn next).turn ≡ leave) ⊎ ((handing x y turn next).turn ≡ give_way) → ⊥
unfolding handing
heir_stays x y turn next = go (turn is give_way)
  where
    go : (b : Bool) → ((if b then arrive else stay) ≡ leave) ⊎ ((if b then arrive else stay) ≡ give_way) → ⊥
    go true = ⊎_elim (λ q. omega (arith, q)) (λ q. omega (arith, q))
    go false = ⊎_elim (λ q. omega (arith, q)) (λ q. omega (arith, q))

-- a test of the move
pub turned : (n : ℕ) → (n is arrive || n is leave) ≡ true → (n ≡ arrive) ⊎ (n ≡ leave)
turned n h = elim (ℕ_discrete n arrive) [
  | yes e ↦ inl e
  | no d ↦ inr (eqb-true _ _ (rw (ne_eqb n arrive d) at h))
]

pub unturned : (n : ℕ) → (n is arrive || n is leave) ≡ false → (n ≡ arrive → ⊥) × (n ≡ leave → ⊥)
unturned n h = simp tests at h

-- without a job no mode is runnable
mode_off : (x : Standing) (b : Bool) → standing_no x ≡ absent → mode_for x b ≡ off
mode_off Absent b h = refl
mode_off Active b h = absurd (omega (arith, h))
mode_off (Waiting (Short r)) b h = absurd (omega (arith, h))
mode_off (Waiting (Long r)) b h = absurd (omega (arith, h))

-- ---- an accepted event's ticks are charged
module _ (s : State) (e : Event) (Q : Sound s) (ok : judge s e ≡ 0) (short-periods : (t : ℕ) → period s.setup t < 65536) where
  few : s.setup.tasks ≤ most_tasks
  few = (grouped s e Q ok).few_tasks

  quiet : (u : ℕ) → s.setup.tasks ≤ u → u < most_tasks → stand s u ≡ absent
  quiet u a b = elim (ℕ_discrete (stand s u) absent) [
    | yes x ↦ x
    | no x ↦ absurd (omega (arith, a, (Q.steady.locks.tasks u).inside x))
  ]

  bounded : is_bounded s ≡ true
  bounded = within_bounds s (grouped s e Q ok).few_resources
      (λ u l. omega (arith, deadline_bounded (charged (step_of s e) s) (can_act s e Q ok short-periods).bounded u l, charged_by (λ (x : Task). x.deadline) (λ i m x. refl) (step_of s e) s u l))

  ticked : (clock : ℕ) (ts : List Task) (gs : List Group) (p : Processors) (totals own modes stands : List ℕ) → Keeps s clock ts gs p totals own modes stands
      → (ahead : List ℕ) → Ranked stands own s.setup.tasks ahead
      → Keeps (charged (step_of s e) s) (clock + step_of s e) ts gs p (charged_to (step_of s e) stands (total_with stands ahead p) totals s.setup.tasks) own modes stands
  ticked clock ts gs p totals own modes stands K ahead R = keeps_charge s clock ts gs p totals own modes stands K (step_of s e) s.setup.tasks ahead few quiet bounded Q.count R

-- ---- an accepted event, from what is kept of a sound state; g is the place of its group
module _ (s : State) (e : Event) (Q : Sound s) (ok : judge s e ≡ 0) (short-periods : (t : ℕ) → period s.setup t < 65536)
    (clock : ℕ) (ts : List Task) (gs : List Group) (p : Processors) (totals own modes stands : List ℕ) (K : Keeps s clock ts gs p totals own modes stands)
    (ahead : List ℕ) (R : Ranked stands own s.setup.tasks ahead)
    (g : ℕ) (g_in : g < most_resources) (g-is : (asking ≤ e.kind) × (e.kind ≤ completion) → g ≡ group_of s.setup e.resource) where
  abbrev n : ℕ
  n = step_of s e

  abbrev t : ℕ
  t = e.task

  abbrev kinds : List ℕ
  kinds = s.setup.kinds

  -- ---- the ticks are charged
  abbrev s₁ : State
  s₁ = charged n s

  abbrev w : List ℕ
  w = charged_to n stands (total_with stands ahead p) totals s.setup.tasks

  can : CanAct s₁ e
  can = can_act s e Q ok short-periods

  keeps₁ : Keeps s₁ (clock + n) ts gs p w own modes stands
  keeps₁ = ticked s e Q ok short-periods clock ts gs p totals own modes stands K ahead R

  t_in : t < most_tasks
  t_in = can.inside

  tasks_long : length s₁.tasks ≡ most_tasks
  unfolding charged
  tasks_long = table_length _ most_tasks

  groups_long : length s₁.groups ≡ most_resources
  unfolding charged
  groups_long = Q.steady.sized.groups

  t_read : task s₁ t ≡ with_totals (row_of w t) (get_or ts t no_task)
  t_read = keeps_task s₁ (clock + n) ts gs p w own modes stands keeps₁ t t_in

  pub edit_may : (e.kind ≡ asking → (get_or ts t no_task).depth < most_requests) × (e.kind ≡ completion → (0 < (get_or ts t no_task).depth) × ((get_or ts t no_task).depth ≤ most_requests))
  edit_may = subst (λ (x : Task). (e.kind ≡ asking → x.depth < most_requests) × (e.kind ≡ completion → (0 < x.depth) × (x.depth ≤ most_requests))) t_read (edit_needs s₁ e can)

  -- ---- the first edit
  abbrev d : Edit
  d = editing kinds (due_at s.setup t (clock + n)) (clock + n) (get_or ts t no_task) (get_or gs g no_group) e

  first_edit : edit_of e g s₁ ≡ as_edit (row_of w t) d
  unfolding charged
  first_edit =
      let due = due_at s.setup t in
      ap (λ (k : ℕ). editing kinds (due k) k (task s₁ t) (group s₁ g) e) (sym keeps₁.timed)
      ∙ ap (λ (x : Task). editing kinds (due (clock + n)) (clock + n) x (group s₁ g) e) t_read
      ∙ ap (λ (l : List Group). editing kinds (due (clock + n)) (clock + n) (with_totals (row_of w t) (get_or ts t no_task)) (get_or l g no_group) e) (sym keeps₁.grouped)
      ∙ edited_as (row_of w t) kinds (due (clock + n)) (clock + n) (get_or ts t no_task) (get_or gs g no_group) e

  abbrev s₂ : State
  s₂ = stored t g (edit_of e g s₁) s₁

  abbrev ts₂ : List Task
  ts₂ = set ts t d.task

  abbrev gs₂ : List Group
  gs₂ = set gs g d.group

  abbrev own₂ : List ℕ
  own₂ = set own t (rank_by d.task.deadline t)

  abbrev modes₂ : List ℕ
  modes₂ = set modes t (mode_in kinds d.task)

  abbrev stands₂ : List ℕ
  stands₂ = set stands t (standing_no d.task.standing)

  pub keeps₂ : Keeps s₂ (clock + n) ts₂ gs₂ p w own₂ modes₂ stands₂
  unfolding charged
  keeps₂ = subst (λ (z : Edit). Keeps (stored t g z s₁) (clock + n) ts₂ gs₂ p w own₂ modes₂ stands₂) (sym first_edit)
      (keeps_store s₁ (clock + n) ts gs p w own modes stands keeps₁ t g d.task d.group t_in tasks_long)

  -- within its bounds, and without a job past the count of tasks
  bounded₂ : is_bounded s₂ ≡ true
  unfolding charged
  bounded₂ = put_bounded s₁ can.bounded tasks_long t g _ _
      (edited_deadline kinds (due_at s.setup t s₁.clock) s₁.clock (task s₁ t) (group s₁ g) e latest (deadline_bounded s₁ can.bounded t t_in) (omega (arith, room s e Q ok, short-periods t)))

  pub told₂ : jobs_from (table (rank_with own₂ kinds (min s.setup.resources most_resources) gs₂) most_tasks) modes₂ ≡ jobs s.setup s₂
  unfolding charged
  told₂ = keeps_jobs s₂ (clock + n) ts₂ gs₂ p w own₂ modes₂ stands₂ keeps₂ (length-set s₁.tasks t (edit_of e g s₁).task ∙ tasks_long) bounded₂

  -- who moves is a task
  moving : (d.turn ≡ stay → ⊥) → t < s.setup.tasks
  moving h = elim (dec_lt e.kind passing) [
    | yes l ↦ row11 s e Q ok ((event_kinds s e Q ok).0, omega arith)
    | no l ↦ absurd (h (passes_still kinds (due_at s.setup t (clock + n)) (clock + n) (get_or ts t no_task) (get_or gs g no_group) e (omega (arith, event_kinds s e Q ok))))
  ]

  off₂ : t < s.setup.tasks → (v : ℕ) → s.setup.tasks ≤ v → v < most_tasks → mode_in kinds (task s₂ v) ≡ off
  unfolding stand
  off₂ l v a b =
      let same : task s₂ v ≡ task s₁ v = get_or-set_other s₁.tasks t v _ no_task (λ q. omega (arith, q)) in
      mode_off (task s₂ v).standing _ (ap (λ (x : Task). standing_no x.standing) same ∙ charged_by (λ (x : Task). standing_no x.standing) (λ i m x. refl) n s v b ∙ quiet s e Q ok short-periods v a b)

  pub quiet₂ : (d.turn ≡ leave) ⊎ (d.turn ≡ give_way) → first_modes s.setup.tasks modes₂ ≡ modes₂
  unfolding charged
  quiet₂ h = subst (λ (l : List ℕ). first_modes s.setup.tasks l ≡ l) (sym keeps₂.ready) (first_all s.setup.tasks (λ v. mode_in kinds (task s₂ v)) (off₂ (moving (λ z. ⊎_elim (λ q. omega (arith, q, z)) (λ q. omega (arith, q, z)) h))))

  -- ---- who outranks whom, after the first edit
  stand_is : get_or stands t absent ≡ standing_no (get_or ts t no_task).standing
  stand_is = keeps_stand s clock ts gs p totals own modes stands K t t_in

  own_is : get_or own t 0 ≡ rank_by (get_or ts t no_task).deadline t
  own_is = keeps_own s clock ts gs p totals own modes stands K t t_in

  -- the tables with the numbers that t had
  pub ranks_before : Ranked (set stands₂ t (standing_no (get_or ts t no_task).standing)) (set own₂ t (rank_by (get_or ts t no_task).deadline t)) s.setup.tasks ahead
  ranks_before = rw (← stand_is, ← own_is, set-set stands t (standing_no d.task.standing) (get_or stands t absent), set-set own t (rank_by d.task.deadline t) (get_or own t 0), set-get_or stands t absent, set-get_or own t 0) R

  pub comes_in : (d.turn ≡ arrive) ⊎ (d.turn ≡ leave) → t < s.setup.tasks
  comes_in h = moving (λ z. ⊎_elim (λ q. omega (arith, q, z)) (λ q. omega (arith, q, z)) h)

  -- nobody arrives, finishes or suspends
  pub ranks_still : (d.turn ≡ arrive → ⊥) → (d.turn ≡ leave → ⊥) → Ranked stands₂ own₂ s.setup.tasks ahead
  unfolding stand
  ranks_still a b = still_ranked stands own s.setup.tasks t ahead (get_or ts t no_task) d.task (omega (arith, t_in, stands_long s clock ts gs p totals own modes stands K)) stand_is own_is
      (edited_still kinds (due_at s.setup t (clock + n)) (clock + n) (get_or ts t no_task) (get_or gs g no_group) e
      (λ k q. asker_pending s e Q ok k (ap (λ (x : Task). standing_no x.standing) (keeps_task s clock ts gs p totals own modes stands K t t_in) ∙ q)) a b) R

  -- ---- the first move
  abbrev s₃ : State
  s₃ = moved_by (edit_of e g s₁).turn t s₂

  module _ (p₃ : Processors) (moves : p₃ ≡ moved_with d.turn p (jobs s.setup s₂) t) where
    moved₃ : p₃ ≡ moved_with (edit_of e g s₁).turn s₂.processors (jobs s₂.setup s₂) t
    unfolding charged
    moved₃ = moves ∙ ap (λ (k : ℕ). moved_with k p (jobs s.setup s₂) t) (sym (ap (λ (z : Edit). z.turn) first_edit))
        ∙ ap (λ (q : Processors). moved_with (edit_of e g s₁).turn q (jobs s.setup s₂) t) keeps₁.placed

    pub keeps₃ : Keeps s₃ (clock + n) ts₂ gs₂ p₃ w own₂ modes₂ stands₂
    unfolding moved_by
    keeps₃ = subst (λ (q : Processors). Keeps (with_processors q s₂) (clock + n) ts₂ gs₂ p₃ w own₂ modes₂ stands₂) moved₃
        (keeps_move s₂ (clock + n) ts₂ gs₂ p w own₂ modes₂ stands₂ keeps₂ p₃)

    ends : acted e g s₁ ≡ (step s e).state
    unfolding charged step step_by
    ends = acted_act s₁ e can tasks_long groups_long g g-is ∙ sym (rw (eq-eqb (judge s e) 0 ok))

    -- nobody is handed the group
    pub ends_there : d.next ≡ nobody → s₃ ≡ (step s e).state
    unfolding acted
    ends_there h = sym (rw (eq-eqb (edit_of e g s₁).next nobody (ap (λ (z : Edit). z.next) first_edit ∙ h))) ∙ ends

    -- ---- the next is handed the group
    module _ (some : d.next ≡ nobody → ⊥) where
      abbrev u : ℕ
      u = d.next

      u_is : (edit_of e g s₁).next ≡ u
      u_is = ap (λ (z : Edit). z.next) first_edit

      some₁ : (edit_of e g s₁).next ≡ nobody → ⊥
      some₁ q = some (sym u_is ∙ q)

      pub u_in : u < most_tasks
      unfolding charged
      u_in = subst (λ (v : ℕ). v < most_tasks) u_is (next_in_lem s₁ e can g g-is some₁).0

      u_read : task s₃ u ≡ with_totals (row_of w u) (get_or ts₂ u no_task)
      u_read = keeps_task s₃ (clock + n) ts₂ gs₂ p₃ w own₂ modes₂ stands₂ keeps₃ u u_in

      pub heir_may : (get_or ts₂ u no_task).depth < most_requests
      unfolding charged
      heir_may = subst (λ (x : Task). x.depth < most_requests) (ap (task s₃) u_is ∙ u_read) (next_room s₁ e can g g-is some₁)

      abbrev d₄ : Edit
      d₄ = handing (get_or ts₂ u no_task) (get_or gs₂ g no_group) d.turn u

      next_edit : handing (task s₃ u) (group s₃ g) d.turn u ≡ as_edit (row_of w u) d₄
      next_edit =
          ap (λ (x : Task). handing x (group s₃ g) d.turn u) u_read
          ∙ ap (λ (l : List Group). handing (with_totals (row_of w u) (get_or ts₂ u no_task)) (get_or l g no_group) d.turn u) (sym keeps₃.grouped)
          ∙ handed_as (row_of w u) (get_or ts₂ u no_task) (get_or gs₂ g no_group) d.turn u

      abbrev s₄ : State
      s₄ = stored u g (handing (task s₃ u) (group s₃ g) d.turn u) s₃

      abbrev ts₄ : List Task
      ts₄ = set ts₂ u d₄.task

      abbrev gs₄ : List Group
      gs₄ = set gs₂ g d₄.group

      abbrev own₄ : List ℕ
      own₄ = set own₂ u (rank_by d₄.task.deadline u)

      abbrev modes₄ : List ℕ
      modes₄ = set modes₂ u (mode_in kinds d₄.task)

      abbrev stands₄ : List ℕ
      stands₄ = set stands₂ u (standing_no d₄.task.standing)

      tasks_long₃ : length s₃.tasks ≡ most_tasks
      unfolding moved_by
      tasks_long₃ = length-set s₁.tasks t (edit_of e g s₁).task ∙ tasks_long

      pub keeps₄ : Keeps s₄ (clock + n) ts₄ gs₄ p₃ w own₄ modes₄ stands₄
      unfolding charged moved_by
      keeps₄ = subst (λ (z : Edit). Keeps (stored u g z s₃) (clock + n) ts₄ gs₄ p₃ w own₄ modes₄ stands₄) (sym next_edit)
          (keeps_store s₃ (clock + n) ts₂ gs₂ p₃ w own₂ modes₂ stands₂ keeps₃ u g d₄.task d₄.group u_in tasks_long₃)

      bounded₃ : is_bounded s₃ ≡ true
      unfolding is_bounded moved_by
      bounded₃ = bounded₂

      bounded₄ : is_bounded s₄ ≡ true
      bounded₄ = put_bounded s₃ bounded₃ tasks_long₃ u g _ _ (omega (arith, handed_deadline (task s₃ u) (group s₃ g) d.turn u, deadline_bounded s₃ bounded₃ u u_in))

      pub told₄ : jobs_from (table (rank_with own₄ kinds (min s.setup.resources most_resources) gs₄) most_tasks) modes₄ ≡ jobs s.setup s₄
      unfolding charged moved_by
      told₄ = keeps_jobs s₄ (clock + n) ts₄ gs₄ p₃ w own₄ modes₄ stands₄ keeps₄ (length-set s₃.tasks u _ ∙ tasks_long₃) bounded₄

      -- who is handed the group was pending, and stays so
      heir_pending : standing_no (get_or ts₂ u no_task).standing ≡ absent → ⊥
      unfolding charged stand
      heir_pending q = next_pending s₁ e can g g-is some₁ (ap (λ (v : ℕ). standing_no (task s₃ v).standing) u_is ∙ ap (λ (x : Task). standing_no x.standing) u_read ∙ q)

      pub ranks_heir : (later : List ℕ) → Ranked stands₂ own₂ s.setup.tasks later → Ranked stands₄ own₄ s.setup.tasks later
      ranks_heir later ranks = still_ranked stands₂ own₂ s.setup.tasks u later (get_or ts₂ u no_task) d₄.task (omega (arith, u_in, stands_long s₃ (clock + n) ts₂ gs₂ p₃ w own₂ modes₂ stands₂ keeps₃))
          (keeps_stand s₃ (clock + n) ts₂ gs₂ p₃ w own₂ modes₂ stands₂ keeps₃ u u_in) (keeps_own s₃ (clock + n) ts₂ gs₂ p₃ w own₂ modes₂ stands₂ keeps₃ u u_in)
          (handed_still (get_or ts₂ u no_task) (get_or gs₂ g no_group) d.turn u heir_pending) ranks

      abbrev s₅ : State
      s₅ = moved_by (handing (task s₃ u) (group s₃ g) d.turn u).turn u s₄

      module _ (p₅ : Processors) (moves₅ : p₅ ≡ moved_with d₄.turn p₃ (jobs s.setup s₄) u) where
        moved₅ : p₅ ≡ moved_with (handing (task s₃ u) (group s₃ g) d.turn u).turn s₄.processors (jobs s₄.setup s₄) u
        unfolding charged moved_by
        moved₅ = moves₅ ∙ ap (λ (k : ℕ). moved_with k p₃ (jobs s.setup s₄) u) (sym (ap (λ (z : Edit). z.turn) next_edit))
            ∙ ap (λ (q : Processors). moved_with (handing (task s₃ u) (group s₃ g) d.turn u).turn q (jobs s.setup s₄) u) keeps₄.placed

        pub keeps₅ : Keeps s₅ (clock + n) ts₄ gs₄ p₅ w own₄ modes₄ stands₄
        unfolding moved_by
        keeps₅ = subst (λ (q : Processors). Keeps (with_processors q s₄) (clock + n) ts₄ gs₄ p₅ w own₄ modes₄ stands₄) moved₅
            (keeps_move s₄ (clock + n) ts₄ gs₄ p₃ w own₄ modes₄ stands₄ keeps₄ p₅)

        pub ends_handed : s₅ ≡ (step s e).state
        unfolding acted handed
        ends_handed =
            sym (rw (ne_eqb (edit_of e g s₁).next nobody some₁, u_is, ap (λ (z : Edit). z.turn) first_edit)) ∙ ends

-- ---- the same over what the code has at hand: a set-up c, ticks, and records and tables under names of their own
pub record Accepts (s : State) (e : Event) (c : Setup) (clock : ℕ) (ts : List Task) (gs : List Group) (p : Processors) (totals own modes stands ahead : List ℕ) (ticks : ℕ) : Type 0 where
  pub sound : Sound s
  pub ok : judge s e ≡ 0
  pub given : c ≡ s.setup
  pub short : (u : ℕ) → period s.setup u < 65536
  pub keeps : Keeps s clock ts gs p totals own modes stands
  pub ranked : Ranked stands own s.setup.tasks ahead
  pub stepped : ticks ≡ step_of s e

module _ {s : State} {e : Event} {c : Setup} {clock : ℕ} {ts : List Task} {gs : List Group} {p : Processors} {totals own modes stands ahead : List ℕ} {ticks : ℕ}
    (X : Accepts s e c clock ts gs p totals own modes stands ahead ticks) where
  pub few_tasks : c.tasks ≤ most_tasks
  few_tasks = rw X.given (grouped s e X.sound X.ok).few_tasks

  pub clock_room : clock + ticks ≤ last_clock
  clock_room = rw (X.stepped, X.keeps.timed) (room s e X.sound X.ok)

  pub can_charge : CanCharge totals ticks
  can_charge = record {
    whole = X.keeps.all;
    fits = λ k l. omega (arith, counted_low s ts totals X.keeps.recorded s.clock (charges s e X.sound X.ok) k l, clock_room, X.keeps.timed);
  }

  -- the ticks are charged
  pub charges_on : Keeps (charged (step_of s e) s) (clock + ticks) ts gs p (charged_to ticks stands (total_with stands ahead p) totals c.tasks) own modes stands
  charges_on = rw (X.given, X.stepped) (ticked s e X.sound X.ok X.short clock ts gs p totals own modes stands X.keeps ahead X.ranked)

  pub task_in : e.task < most_tasks
  task_in = inside s e X.sound X.ok

  module _ (g : ℕ) (g_in : g < most_resources) (g-is : get_or (names c) e.resource nothing < most_resources → g ≡ get_or (names c) e.resource nothing) where
    at : (asking ≤ e.kind) × (e.kind ≤ completion) → g ≡ group_of s.setup e.resource
    unfolding group_of
    at k = (rw X.given at g-is) (group-in s e X.sound X.ok k)

    abbrev d₂ : Edit
    d₂ = editing c.kinds (due_at c e.task (clock + ticks)) (clock + ticks) (get_or ts e.task no_task) (get_or gs g no_group) e

    pub may_edit : (e.kind ≡ asking → (get_or ts e.task no_task).depth < most_requests) × (e.kind ≡ completion → (0 < (get_or ts e.task no_task).depth) × ((get_or ts e.task no_task).depth ≤ most_requests))
    may_edit = edit_may s e X.sound X.ok X.short clock ts gs p totals own modes stands X.keeps ahead X.ranked g g_in at

    module _ (x : Edit) (x-is : x ≡ d₂) (ownₓ modesₓ standsₓ : List ℕ) (own_is : ownₓ ≡ set own e.task (rank_by x.task.deadline e.task))
        (modes-is : modesₓ ≡ set modes e.task (mode_in c.kinds x.task)) (stands-is : standsₓ ≡ set stands e.task (standing_no x.task.standing)) where
      pub may_move : (x.turn ≡ leave) ⊎ (x.turn ≡ give_way) → first_modes c.tasks modesₓ ≡ modesₓ
      may_move = rw (modes-is, x-is, X.given, X.stepped) (quiet₂ s e X.sound X.ok X.short clock ts gs p totals own modes stands X.keeps ahead X.ranked g g_in at)

      -- what is asked where a job arrives, finishes or suspends
      pub may_rank : (x.turn ≡ arrive) ⊎ (x.turn ≡ leave)
          → (c.tasks ≤ most_tasks) × (e.task < c.tasks) × (length standsₓ ≡ most_tasks) × (length ownₓ ≡ most_tasks)
          × Ranked (set standsₓ e.task (standing_no (get_or ts e.task no_task).standing)) (set ownₓ e.task (rank_by (get_or ts e.task no_task).deadline e.task)) c.tasks ahead
      may_rank h = (
        few_tasks,
        rw X.given (comes_in s e X.sound X.ok X.short clock ts gs p totals own modes stands X.keeps ahead X.ranked g g_in at (rw (x-is, X.given, X.stepped) at h)),
        ap length stands-is ∙ length-set stands e.task (standing_no x.task.standing) ∙ stands_long s clock ts gs p totals own modes stands X.keeps,
        ap length own_is ∙ length-set own e.task (rank_by x.task.deadline e.task) ∙ own_long s clock ts gs p totals own modes stands X.keeps,
        rw (own_is, stands-is, x-is, X.given, X.stepped) (ranks_before s e X.sound X.ok X.short clock ts gs p totals own modes stands X.keeps ahead X.ranked g g_in at),
      )

      -- where nobody does
      pub ranks_stay : (x.turn ≡ arrive → ⊥) → (x.turn ≡ leave → ⊥) → Ranked standsₓ ownₓ c.tasks ahead
      ranks_stay a b = rw (own_is, stands-is, x-is, X.given, X.stepped) (ranks_still s e X.sound X.ok X.short clock ts gs p totals own modes stands X.keeps ahead X.ranked g g_in at (rw (x-is, X.given, X.stepped) at a) (rw (x-is, X.given, X.stepped) at b))

      module _ (p₃ : Processors) (moves : p₃ ≡ moved_with x.turn p (jobs_from (table (rank_with ownₓ c.kinds (min c.resources most_resources) (set gs g x.group)) most_tasks) modesₓ) e.task) where
        rule_moves : p₃ ≡ moved_with (d s e X.sound X.ok X.short clock ts gs p totals own modes stands X.keeps ahead X.ranked g g_in at).turn p (jobs s.setup (s₂ s e X.sound X.ok X.short clock ts gs p totals own modes stands X.keeps ahead X.ranked g g_in at)) e.task
        rule_moves = (rw (own_is, modes-is, x-is, X.given, X.stepped) at moves) ∙ ap (λ (j : Jobs). moved_with (d s e X.sound X.ok X.short clock ts gs p totals own modes stands X.keeps ahead X.ranked g g_in at).turn p j e.task) (told₂ s e X.sound X.ok X.short clock ts gs p totals own modes stands X.keeps ahead X.ranked g g_in at)

        pub plays : x.next ≡ nobody → Keeps (step s e).state (clock + ticks) (set ts e.task x.task) (set gs g x.group) p₃ (charged_to ticks stands (total_with stands ahead p) totals c.tasks) ownₓ modesₓ standsₓ
        plays h = rw (own_is, modes-is, stands-is, x-is, X.given, X.stepped) (subst
            (λ (z : State). Keeps z (clock + step_of s e) (ts₂ s e X.sound X.ok X.short clock ts gs p totals own modes stands X.keeps ahead X.ranked g g_in at) (gs₂ s e X.sound X.ok X.short clock ts gs p totals own modes stands X.keeps ahead X.ranked g g_in at) p₃ (w s e X.sound X.ok X.short clock ts gs p totals own modes stands X.keeps ahead X.ranked g g_in at) (own₂ s e X.sound X.ok X.short clock ts gs p totals own modes stands X.keeps ahead X.ranked g g_in at) (modes₂ s e X.sound X.ok X.short clock ts gs p totals own modes stands X.keeps ahead X.ranked g g_in at) (stands₂ s e X.sound X.ok X.short clock ts gs p totals own modes stands X.keeps ahead X.ranked g g_in at))
            (ends_there s e X.sound X.ok X.short clock ts gs p totals own modes stands X.keeps ahead X.ranked g g_in at p₃ rule_moves (rw (x-is, X.given, X.stepped) at h)) (keeps₃ s e X.sound X.ok X.short clock ts gs p totals own modes stands X.keeps ahead X.ranked g g_in at p₃ rule_moves))

        -- the next is handed the group
        module _ (some : x.next ≡ nobody → ⊥) where
          some₃ : (d s e X.sound X.ok X.short clock ts gs p totals own modes stands X.keeps ahead X.ranked g g_in at).next ≡ nobody → ⊥
          some₃ = rw (x-is, X.given, X.stepped) at some

          pub next_may : (x.next < most_tasks) × ((get_or (set ts e.task x.task) x.next no_task).depth < most_requests)
          next_may = rw (x-is, X.given, X.stepped) (u_in s e X.sound X.ok X.short clock ts gs p totals own modes stands X.keeps ahead X.ranked g g_in at p₃ rule_moves some₃, heir_may s e X.sound X.ok X.short clock ts gs p totals own modes stands X.keeps ahead X.ranked g g_in at p₃ rule_moves some₃)

          module _ (y : Edit) (y-is : y ≡ handing (get_or (set ts e.task x.task) x.next no_task) x.group x.turn x.next) (ownᵧ modesᵧ standsᵧ : List ℕ)
              (own-is₄ : ownᵧ ≡ set ownₓ x.next (rank_by y.task.deadline x.next)) (modes-is₄ : modesᵧ ≡ set modesₓ x.next (mode_in c.kinds y.task))
              (stands-is₄ : standsᵧ ≡ set standsₓ x.next (standing_no y.task.standing)) where
            groups_whole : length gs ≡ most_resources
            groups_whole = ap length X.keeps.grouped ∙ X.sound.steady.sized.groups

            y_law : y ≡ d₄ s e X.sound X.ok X.short clock ts gs p totals own modes stands X.keeps ahead X.ranked g g_in at p₃ rule_moves some₃
            y_law = (rw (x-is, X.given, X.stepped) at y-is)
                ∙ ap (λ (z : Group). handing (get_or (ts₂ s e X.sound X.ok X.short clock ts gs p totals own modes stands X.keeps ahead X.ranked g g_in at) (d s e X.sound X.ok X.short clock ts gs p totals own modes stands X.keeps ahead X.ranked g g_in at).next no_task) z (d s e X.sound X.ok X.short clock ts gs p totals own modes stands X.keeps ahead X.ranked g g_in at).turn (d s e X.sound X.ok X.short clock ts gs p totals own modes stands X.keeps ahead X.ranked g g_in at).next) (sym (get_or-set_same gs g (d s e X.sound X.ok X.short clock ts gs p totals own modes stands X.keeps ahead X.ranked g g_in at).group no_group (omega (arith, groups_whole))))

            -- who is handed the group outranks as before
            pub ranks_on : (later : List ℕ) → Ranked standsₓ ownₓ c.tasks later → Ranked standsᵧ ownᵧ c.tasks later
            ranks_on later ranks = rw (own-is₄, stands-is₄, y_law, own_is, stands-is, x-is, X.given, X.stepped)
                (ranks_heir s e X.sound X.ok X.short clock ts gs p totals own modes stands X.keeps ahead X.ranked g g_in at p₃ rule_moves some₃ later (rw (own_is, stands-is, x-is, X.given, X.stepped) at ranks))

            pub next_moves : (y.turn ≡ leave) ⊎ (y.turn ≡ give_way) → first_modes c.tasks modesᵧ ≡ modesᵧ
            next_moves h = absurd (heir_stays _ _ _ _ (rw y-is at h))

            module _ (p₅ : Processors) (moves₅ : p₅ ≡ moved_with y.turn p₃ (jobs_from (table (rank_with ownᵧ c.kinds (min c.resources most_resources) (set (set gs g x.group) g y.group)) most_tasks) modesᵧ) x.next) where
              rule_moves₅ : p₅ ≡ moved_with (d₄ s e X.sound X.ok X.short clock ts gs p totals own modes stands X.keeps ahead X.ranked g g_in at p₃ rule_moves some₃).turn p₃ (jobs s.setup (s₄ s e X.sound X.ok X.short clock ts gs p totals own modes stands X.keeps ahead X.ranked g g_in at p₃ rule_moves some₃)) (d s e X.sound X.ok X.short clock ts gs p totals own modes stands X.keeps ahead X.ranked g g_in at).next
              rule_moves₅ = (rw (own-is₄, modes-is₄, y_law, own_is, modes-is, x-is, X.given, X.stepped) at moves₅) ∙ ap (λ (j : Jobs). moved_with (d₄ s e X.sound X.ok X.short clock ts gs p totals own modes stands X.keeps ahead X.ranked g g_in at p₃ rule_moves some₃).turn p₃ j (d s e X.sound X.ok X.short clock ts gs p totals own modes stands X.keeps ahead X.ranked g g_in at).next) (told₄ s e X.sound X.ok X.short clock ts gs p totals own modes stands X.keeps ahead X.ranked g g_in at p₃ rule_moves some₃)

              pub plays_on : Keeps (step s e).state (clock + ticks) (set (set ts e.task x.task) x.next y.task) (set (set gs g x.group) g y.group) p₅ (charged_to ticks stands (total_with stands ahead p) totals c.tasks) ownᵧ modesᵧ standsᵧ
              plays_on = rw (own-is₄, modes-is₄, stands-is₄, y_law, own_is, modes-is, stands-is, x-is, X.given, X.stepped) (subst
                  (λ (z : State). Keeps z (clock + step_of s e) (ts₄ s e X.sound X.ok X.short clock ts gs p totals own modes stands X.keeps ahead X.ranked g g_in at p₃ rule_moves some₃) (gs₄ s e X.sound X.ok X.short clock ts gs p totals own modes stands X.keeps ahead X.ranked g g_in at p₃ rule_moves some₃) p₅ (w s e X.sound X.ok X.short clock ts gs p totals own modes stands X.keeps ahead X.ranked g g_in at) (own₄ s e X.sound X.ok X.short clock ts gs p totals own modes stands X.keeps ahead X.ranked g g_in at p₃ rule_moves some₃) (modes₄ s e X.sound X.ok X.short clock ts gs p totals own modes stands X.keeps ahead X.ranked g g_in at p₃ rule_moves some₃) (stands₄ s e X.sound X.ok X.short clock ts gs p totals own modes stands X.keeps ahead X.ranked g g_in at p₃ rule_moves some₃))
                  (ends_handed s e X.sound X.ok X.short clock ts gs p totals own modes stands X.keeps ahead X.ranked g g_in at p₃ rule_moves some₃ p₅ rule_moves₅) (keeps₅ s e X.sound X.ok X.short clock ts gs p totals own modes stands X.keeps ahead X.ranked g g_in at p₃ rule_moves some₃ p₅ rule_moves₅))
