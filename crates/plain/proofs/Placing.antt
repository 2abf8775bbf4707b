-- The links and placements that an accepted event leaves are those read off the order. Assumes nothing.
use Prim.Native.Nat.{ℕ, suc, ◌-◌, ◌<◌, ◌≤◌}
use mathlib.Core.Path.{◌≡◌, refl, sym, ap, subst, ◌∙◌}
use mathlib.Core.Bool.{true, false}
use mathlib.Core.List.{List}
use mathlib.Core.Logic.{◌≢◌, ⊎_elim}
use native.Mathlib.Omega.{arith}
use native.Mathlib.Decide.{ℕ_discrete}
use lib.ListN.{length, get_or, set, length-set}
use lib.Seq.{get_or-set_same, get_or-set_other, set_out}
use borrow.Author.Tests.{eq-eqb, ne_eqb, lt-ltb}
use Rattle.search.specs.Table.{table}
use Rattle.search.proofs.Tables.{table_at, table_length}
use Rattle.numbers.specs.Limits.{most_tasks, most_resources, nobody}
use Rattle.queue.specs.Waiting.{without_first}
use Rattle.processors.specs.Modes.{off}
use Rattle.processors.specs.Words.{jobs_from, rank_of, mode_of}
use Rattle.processors.specs.declared.Jobs.{Jobs}
use Rattle.processors.specs.declared.Processors.{Processors}
use Rattle.scheduler.specs.Arriving.{arriving as linking}
use Rattle.scheduler.specs.Leaving.{becoming_preemptable, leaving, giving_way}
use Rattle.scheduler.specs.Placed.{Runnable, Sized, Placed}
use Rattle.scheduler.specs.Changes.{Apart, Joins}
use Rattle.input.specs.Kinds.{short, long, arrival, finish, request as asking, completion, passing}
use Rattle.input.specs.Words.{kind}
use Rattle.input.specs.declared.Setup.{Setup}
use Rattle.input.specs.declared.Event.{Event}
use Rattle.setups.specs.Naming.{group_of}
use Rattle.protocol.specs.Records.{no_group}
use Rattle.numbers.specs.Limits.{most_requests}
use Rattle.protocol.specs.declared.Group.{Group}
use Rattle.protocol.specs.Words.{depth, request, absent, suspended, stand, group, holder, len, asked, waiter}
use Rattle.protocol.specs.Ranks.{jobs}
use Rattle.protocol.specs.Refusals.{step_of, judge}
use Rattle.protocol.specs.Locks.{open_of_kind, opens, enqueues, closes, frees, next_at, dequeues, passes, arrive_edit, finish_edit}
use Rattle.protocol.specs.Edited.{request_edit, complete_edit, edited}
use Rattle.protocol.specs.Events.{cold, arrives, leaves, becomes_preemptable, gives_way, arrive_event, finish_event, request_event, complete_event, charged, step}
use Rattle.protocol.specs.declared.State.{State}
use Rattle.protocol.proofs.Sound.Statements.{Grouped, Steady, Sound, Asks, Ends, Closes}
use Rattle.protocol.proofs.Jobs.Modes.{mode_runs, mode_active, jobs_apart}
use Rattle.protocol.proofs.Edits.Equations.{opens_view, closes_view, frees_view, frees_sized, with_jobs}
use Rattle.protocol.proofs.Events.Branches.{request_both, complete_both}
use Rattle.protocol.proofs.Events.Kept.{kind_none, arrive_joins, queued, first_stands, pass_long, restored}
use Rattle.protocol.proofs.Events.Times.{charged_placed}
use Rattle.protocol.proofs.Events.Step.{row11, row16, grouped, steady_of, same_of, asks_of, ends_of, step_both, done}
use Rattle.priorities.proofs.Ruled.{modes_ruled}
use Rattle.plain.specs.Orders.{task_at, order_from, order_of}
use Rattle.plain.specs.Reading.{modes_in, arriving_in, leaving_in, giving_way_in, asleep_in, requested_in, completed_in, placed_in}
use Rattle.plain.specs.declared.Order.{Order}
use Rattle.plain.proofs.Sorted.{Sorted, order_sorted}
use Rattle.scheduler.proofs.SameJobs.{gives_way_alike}
use Rattle.plain.proofs.Readings.{leaving_read, giving_way_read, arriving_read}

-- ---- jobs with one asleep
abbrev asleep : Jobs → ℕ → Jobs
asleep j u = jobs_from j.ranks (asleep_in j.modes u)

module _ (j : Jobs) (u : ℕ) where
  other_mode : (v : ℕ) → v ≢ u → mode_of (asleep j u) v ≡ mode_of j v
  unfolding mode_of
  other_mode v d = rw (get_or-set_other j.modes u v off off d)

  same_rank : (v : ℕ) → rank_of (asleep j u) v ≡ rank_of j v
  unfolding rank_of
  same_rank v = refl

  module _ (long-modes : length j.modes ≡ most_tasks) (u_in : u < most_tasks) where
    own_mode : mode_of (asleep j u) u ≡ off
    unfolding mode_of
    own_mode = rw (get_or-set_same j.modes u off off (omega (arith, long-modes)), lt-ltb u most_tasks u_in)

    awake : (v : ℕ) → Runnable (asleep j u) v → Runnable j v
    awake v R = elim (ℕ_discrete v u) [
      | yes e ↦ absurd (omega (arith, R.mode, ap (mode_of (asleep j u)) e, own_mode))
      | no d ↦ record { task = R.task; mode = omega (arith, R.mode, other_mode v d) }
    ]

    asleep_apart : Apart j → Apart (asleep j u)
    asleep_apart A v w a b q = A v w (awake v a) (awake w b) (sym (same_rank v) ∙ q ∙ same_rank w)

    asleep_sorted : (o : Order) → Sorted o j → Sorted o (asleep j u)
    asleep_sorted o S = record {
      tasks = S.tasks;
      falls = λ i k a b. omega (arith, S.falls i k a b, same_rank (task_at o i), same_rank (task_at o k));
      has = λ v R. S.has v (awake v R);
    }

-- ---- the order of a state x with the set-up c is read by priority
module _ (c : Setup) (G : Grouped c) (x : State) (S : Steady c x) (same : x.setup ≡ c) where
  apart : Apart (jobs c x)
  apart = jobs_apart c G x nobody S.locks

  sorted : Sorted (order_of x) (jobs c x)
  unfolding order_of
  sorted = subst (λ (d : Setup). Sorted (order_from (jobs d x).ranks (table (stand x) most_tasks)) (jobs c x)) (sym same)
      (order_sorted (jobs c x).ranks (table (stand x) most_tasks) (jobs c x).modes (λ t R q.
      let m = mode_runs c x t R.mode in
      let z = table_at (stand x) most_tasks t absent m.0 in
      ⊎_elim (λ y. omega (arith, y, z, q)) (λ y. omega (arith, y, z, q)) m.1))

  modes_are : modes_in x ≡ (jobs c x).modes
  modes_are = modes_ruled x ∙ ap (λ (d : Setup). (jobs d x).modes) same

  modes_long : length (jobs c x).modes ≡ most_tasks
  unfolding jobs
  modes_long = table_length _ most_tasks

  leave_at : (p : Processors) → Sized p → (t : ℕ) → leaving_in (order_of x) (modes_in x) p t ≡ leaving p (jobs c x) t
  leave_at p Z t = ap (λ (m : List ℕ). leaving_in (order_of x) m p t) modes_are ∙ leaving_read (order_of x) (jobs c x) sorted apart p Z t

  arrive_at : (p : Processors) (j : Jobs) → Placed p j → (t : ℕ) → Joins j (jobs c x) t → arriving_in (order_of x) (modes_in x) p t ≡ linking p (jobs c x) t nobody
  arrive_at p j P t J = ap (λ (m : List ℕ). arriving_in (order_of x) m p t) modes_are ∙ arriving_read (order_of x) (jobs c x) sorted apart p j P t J

  -- nobody sleeps on
  free_at : (p : Processors) → Sized p → (t : ℕ) → Runnable (jobs c x) t → giving_way_in (order_of x) (asleep_in (modes_in x) nobody) p t ≡ giving_way p (jobs c x) t
  free_at p Z t R =
      ap (λ (m : List ℕ). giving_way_in (order_of x) m p t) (ap (λ (m : List ℕ). asleep_in m nobody) modes_are ∙ set_out (jobs c x).modes nobody off (omega (arith, modes_long)))
      ∙ giving_way_read (order_of x) (jobs c x) sorted apart p Z t R

  -- u sleeps on, which joins the jobs j
  asleep_at : (p : Processors) → Sized p → (t u : ℕ) (j : Jobs) → Joins j (jobs c x) u → Runnable j t
      → giving_way_in (order_of x) (asleep_in (modes_in x) u) p t ≡ giving_way p j t
  asleep_at p Z t u j J R =
      let j' = asleep (jobs c x) u in
      let not-u : (v : ℕ) → Runnable j v → v ≢ u = λ v a e. J.gone (subst (Runnable j) e a) in
      let modes : (v : ℕ) → mode_of j' v ≡ mode_of j v = λ v. elim (ℕ_discrete v u) [
        | yes e ↦ ap (mode_of j') e ∙ own_mode (jobs c x) u modes_long J.task ∙ off_is j u J ∙ ap (mode_of j) (sym e)
        | no d ↦ other_mode (jobs c x) u v d ∙ (J.others v d).1
      ] in
      let ranks : (v : ℕ) → Runnable j v → rank_of j' v ≡ rank_of j v = λ v a. same_rank (jobs c x) u v ∙ (J.others v (not-u v a)).0 in
      let A : Apart j = λ v w a b q.
      let y = J.others v (not-u v a) in
      let z = J.others w (not-u w b) in
      apart v w (record { task = a.task; mode = omega (arith, a.mode, y.1) }) (record { task = b.task; mode = omega (arith, b.mode, z.1) }) (y.0 ∙ q ∙ sym z.0) in
      let R' : Runnable j' t = record { task = R.task; mode = omega (arith, R.mode, modes t) } in
      ap (λ (m : List ℕ). giving_way_in (order_of x) (asleep_in m u) p t) modes_are
      ∙ giving_way_read (order_of x) j' (asleep_sorted (jobs c x) u modes_long J.task (order_of x) sorted) (asleep_apart (jobs c x) u modes_long J.task apart) p Z t R'
      ∙ gives_way_alike p j j' t Z A modes ranks R
    where
      off_is : (j : Jobs) (u : ℕ) → Joins j (jobs c x) u → off ≡ mode_of j u
      off_is j u J = elim (ℕ_discrete (mode_of j u) off) [
        | yes e ↦ sym e
        | no d ↦ absurd (J.gone (record { task = J.task; mode = omega (arith, d) }))
      ]

-- ---- who holds a group after it was handed over
passes_holder : (s : State) (g : ℕ) → g < length s.groups → holder (passes g s) g ≡ next_at s g
unfolding passes opens dequeues holder asked waiter
passes_holder s g l =
    let y : Group = record { holder = (group s g).holder; queue = without_first (group s g).queue } in
    ap (λ (x : Group). x.holder) (get_or-set_same (set s.groups g y) g (record { holder = next_at s g; queue = (get_or (set s.groups g y) g no_group).queue }) no_group (omega (arith, l, length-set s.groups g y)))

-- ---- a completion, by who holds the group after it
module _ (c : Setup) (x : State) (same : x.setup ≡ c) (o : Order) (m : List ℕ) (p : Processors) (t r : ℕ) where
  abbrev given : ℕ → Processors
  given u = giving_way_in o (asleep_in m u) p t

  completed_inner : holder x (group_of c r) ≡ t → completed_in x o m p t r ≡ p
  unfolding holder
  completed_inner h = rw (same, eq-eqb _ _ h)

  module _ (left : holder x (group_of c r) ≢ t) where
    completed_short : kind c r ≡ short → completed_in x o m p t r ≡ becoming_preemptable p t
    unfolding holder
    completed_short k = rw (same, ne_eqb _ _ left, eq-eqb _ _ k)

    module _ (k : kind c r ≢ short) where
      completed_free : holder x (group_of c r) ≡ nobody → completed_in x o m p t r ≡ given nobody
      unfolding holder
      completed_free h = rw (same, ne_eqb _ _ left, ne_eqb _ _ k, h)

      completed_passed : (u : ℕ) → u ≢ nobody → holder x (group_of c r) ≡ u → completed_in x o m p t r ≡ arriving_in o m (given u) u
      unfolding holder
      completed_passed u d h = rw (same, ne_eqb _ _ left, ne_eqb _ _ k, h, ne_eqb _ _ d)

-- ---- a sound state that accepts an event
module _ (s : State) (e : Event) (Q : Sound s) (ok : judge s e ≡ 0) where
  abbrev c : Setup
  c = s.setup

  abbrev p : Processors
  p = s.processors

  abbrev t : ℕ
  t = e.task

  abbrev r : ℕ
  r = e.resource

  abbrev g : ℕ
  g = group_of c r

  abbrev s₁ : State
  s₁ = charged (step_of s e) s

  G : Grouped c
  G = grouped s e Q ok

  S : Steady c s₁
  S = steady_of s e Q ok

  P : Placed p (jobs c s₁)
  unfolding charged
  P = charged_placed c G s (step_of s e) Q.steady Q.placed

  Z : Sized p
  Z = P.settled.sized

  t_in : (arrival ≤ e.kind) × (e.kind ≤ completion) → t < most_tasks
  t_in k = omega (arith, row11 s e Q ok k, G.few_tasks)

  -- what is read off x is what y has
  abbrev IsRead : State → State → Type 0
  IsRead x y = Steady c x → x.setup ≡ c → placed_in x (order_of x) p e ≡ y.processors

  comes : e.kind ≡ arrival → IsRead (arrive_edit c t s₁) (arrive_event cold c t s₁)
  unfolding arrive_event arrives charged
  comes k S' same = rw (eq-eqb _ _ k)
      (arrive_at c G _ S' same p (jobs c s₁) P t (arrive_joins c G s₁ S t _ (row11 s e Q ok (omega arith)) ((same_of s e Q ok t).stood ∙ row16 s e Q ok k)))

  goes : e.kind ≡ finish → IsRead (finish_edit t s₁) (finish_event c t s₁)
  unfolding finish_event leaves charged
  goes k S' same = rw (ne_eqb e.kind arrival (λ q. omega (arith, k, q)), eq-eqb _ _ k) (leave_at c G _ S' same p Z t)

  -- ---- a request
  module _ (k : e.kind ≡ asking) where
    A : Asks c s₁ t r
    A = asks_of s e Q ok k

    asked_is : (x : State) → placed_in x (order_of x) p e ≡ requested_in x (order_of x) (modes_in x) p t
    asked_is x = rw (ne_eqb e.kind arrival (λ q. omega (arith, k, q)), ne_eqb e.kind finish (λ q. omega (arith, k, q)), eq-eqb _ _ k)

    stays : (x : State) → stand x t ≢ suspended → placed_in x (order_of x) p e ≡ p
    unfolding stand
    stays x d = asked_is x ∙ rw (ne_eqb _ _ d)

    sleeps : (x : State) → stand x t ≡ suspended → placed_in x (order_of x) p e ≡ leaving_in (order_of x) (modes_in x) p t
    unfolding stand
    sleeps x q = asked_is x ∙ rw (eq-eqb _ _ q)

    g_in : g < most_resources
    g_in = omega (arith, G.low r A.inside, G.few_resources)

    asks : IsRead (request_edit c t r s₁) (request_event c t r s₁)
    unfolding opens enqueues leaves charged
    asks = request_both c t r s₁ IsRead
        (λ _ S' same. stays _ (λ q. omega (arith, q, (opens_view c s₁ S.sized S.blank g g_in t r (t_in (omega arith)) A.room).stood, A.acts.act)))
        (λ f b n S' same. stays _ (λ q. omega (arith, q, n, (queued c G s₁ S t r A b (kind_none c s₁ t r f)).stood)))
        (λ f b n S' same. sleeps _ (omega (arith, n, G.kinds r A.inside, (queued c G s₁ S t r A b (kind_none c s₁ t r f)).stood)) ∙ leave_at c G _ S' same p Z t)

  -- ---- a completion
  module _ (k : e.kind ≡ completion) where
    E : Ends s₁ t r
    E = ends_of s e Q ok k

    abbrev f : State
    f = frees g (closes t s₁)

    ended_is : (x : State) → placed_in x (order_of x) p e ≡ completed_in x (order_of x) (modes_in x) p t r
    ended_is x = rw (ne_eqb e.kind arrival (λ q. omega (arith, k, q)), ne_eqb e.kind finish (λ q. omega (arith, k, q)), ne_eqb e.kind asking (λ q. omega (arith, k, q)), eq-eqb _ _ k)

    newest : (r < c.resources) × (holder s₁ g ≡ t)
    newest = rw E.newest at ((S.locks.tasks t).opened.held E.left (omega (arith, E.some)))

    few : depth s₁ t ≤ most_requests
    few = (S.locks.tasks t).opened.few

    g_here : g < most_resources
    g_here = omega (arith, G.low r newest.0, G.few_resources)

    freed : Closes s₁ (frees g (closes t s₁)) t g nobody
    freed = frees_view c s₁ S.sized S.blank g g_here t E.left (t_in (omega arith)) E.some few

    runs_on : Runnable (jobs c (frees g (closes t s₁))) t
    runs_on = record { task = t_in (omega arith); mode = mode_active c (frees g (closes t s₁)) t (t_in (omega arith)) (freed.stood ∙ E.acts.act) }

    inner : open_of_kind c (closes t s₁) t r ≡ true → IsRead (closes t s₁) (closes t s₁)
    unfolding closes charged
    inner _ S' same = ended_is (closes t s₁) ∙ completed_inner c (closes t s₁) same _ _ p t r ((closes_view c s₁ S.sized S.blank g g_here t E.left (t_in (omega arith)) E.some few).holds ∙ newest.1)

    -- outermost
    module _ (none : open_of_kind c (closes t s₁) t r ≡ false) where
      last : (i : ℕ) → i < depth (closes t s₁) t → kind c (request (closes t s₁) t i) ≢ kind c r
      last = kind_none c (closes t s₁) t r none

      gone : nobody ≢ t
      gone q = omega (arith, q, t_in (omega arith))

      module _ (n : ℕ) (some : len s₁ g ≡ suc n) where
        abbrev u : ℕ
        u = next_at f g

        heir : holder (passes g f) g ≡ next_at f g
        heir = passes_holder f g (omega (arith, g_here, (frees_sized c s₁ S.sized S.blank g g_here t E.left (t_in (omega arith)) E.some few).groups))

        other : next_at f g ≢ t
        other q = omega (arith, first_stands c G s₁ S t r E last n some, ap (stand f) q, freed.stood, E.acts.act)

      soft_empty : kind c r ≡ short → IsRead f (becomes_preemptable c t f)
      unfolding becomes_preemptable frees closes charged
      soft_empty h S' same = ended_is f ∙ completed_short c f same _ _ p t r (λ q. gone (sym freed.holds ∙ q)) h

      soft_passed : kind c r ≡ short → (n : ℕ) → len s₁ g ≡ suc n → IsRead (passes g f) (becomes_preemptable c t (passes g f))
      unfolding becomes_preemptable passes opens dequeues frees closes charged
      soft_passed h n some S' same = ended_is (passes g f) ∙ completed_short c (passes g f) same _ _ p t r (λ q. other n some (sym (heir n some) ∙ q)) h

      way_empty : kind c r ≢ short → IsRead f (gives_way c t f)
      unfolding gives_way frees closes charged
      way_empty h S' same = ended_is f ∙ completed_free c f same _ _ p t r (λ q. gone (sym freed.holds ∙ q)) h freed.holds ∙ free_at c G f S' same p Z t runs_on

      way_passed : kind c r ≢ short → (n : ℕ) → len s₁ g ≡ suc n → IsRead (passes g f) (arrives cold c (next_at s₁ g) (passes g (gives_way c t f)))
      unfolding arrives gives_way passes opens dequeues asked waiter frees closes charged
      way_passed h n some S' same =
          let x = passes g f in
          let l : kind c r ≡ long = omega (arith, h, G.kinds r newest.0) in
          let J : Joins (jobs c f) (jobs c x) (next_at f g) = pass_long c G s₁ S t r E last n some l in
          let q = giving_way p (jobs c f) t in
          let R : Placed q (jobs c f) = restored c G s₁ S t r E last P l in
          let way = asleep_at c G x S' same p Z t (next_at f g) (jobs c f) J runs_on in
          ended_is x
          ∙ completed_passed c x same _ _ p t r (λ q. other n some (sym (heir n some) ∙ q)) h (next_at f g) (λ q. omega (arith, q, J.task)) (heir n some)
          ∙ ap (λ (z : Processors). arriving_in (order_of x) (modes_in x) z (next_at f g)) way
          ∙ arrive_at c G x S' same q (jobs c f) R (next_at f g) J
          ∙ ap (λ (v : ℕ). linking q (jobs c x) v nobody) (freed.line 0)
          ∙ ap (λ (j : Jobs). linking q j (next_at s₁ g) nobody) (sym (with_jobs c x q))

    ends : IsRead (complete_edit c t r s₁) (complete_event cold c t r s₁)
    ends = complete_both c t r s₁ IsRead cold inner
        (λ none h z. soft_empty none h)
        (λ none h z. soft_passed none h (len s₁ g - 1) (omega arith))
        (λ none h z. way_empty none h)
        (λ none h z. way_passed none h (len s₁ g - 1) (omega arith))

  time_passes : e.kind ≡ passing → IsRead s₁ s₁
  unfolding charged
  time_passes k S' same = rw (ne_eqb e.kind arrival (λ q. omega (arith, k, q)), ne_eqb e.kind finish (λ q. omega (arith, k, q)), ne_eqb e.kind asking (λ q. omega (arith, k, q)), ne_eqb e.kind completion (λ q. omega (arith, k, q)))

  -- the links and placements after the event are those read off the order of the state with all else done
  pub read_off : let x = edited s.setup e (charged (step_of s e) s) in placed_in x (order_of x) s.processors e ≡ (step s e).state.processors
  unfolding step
  read_off =
      let x = edited c e s₁ in
      let D = done s e Q ok x refl in
      step_both s e Q ok cold IsRead comes goes asks ends time_passes D.1 D.0.1
