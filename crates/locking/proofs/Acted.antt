-- The event done on the records is the event of the rules, and what its parts need. Assumes nothing.
use Rattle.std.proofs.Common.{◌≡◌, ℕ, ◌<◌, ◌≤◌, Bool, true, false, ◌||◌, ◌≢◌, List, length, get_or, set, sym, refl, ap, ◌∙◌, subst, arith, length-set, get_or-set_other, get_or-set_same, set-set, eq-eqb, ne_eqb}
use native.Mathlib.Decide.{ℕ_discrete, dec_lt}
use lib.Seq.{set-get_or, set_out}
use Rattle.std.specs.Prelude.{if◌then◌else◌}
use Rattle.search.specs.Words.{◌is◌}
use Rattle.queue.specs.Waiting.{waiter as queued, without_first}
use Rattle.numbers.specs.Limits.{most_tasks, most_resources, most_requests, nobody}
use Rattle.input.specs.Kinds.{short, arrival, finish, request as asking, completion}
use Rattle.input.specs.Words.{due_at, kind}
use Rattle.input.specs.declared.Event.{Event}
use Rattle.setups.specs.Naming.{group_of}
use Rattle.protocol.specs.Records.{no_task, no_group, with_requests, with_standing, with_depth}
use Rattle.protocol.specs.Words.{absent, standing_no, asked_of, task, group, stand, asked, depth, request, holder, len, waiter}
use Rattle.protocol.specs.Locks.{opening, closing, arriving, departing, on_task, open_of_kind, opens, enqueues, closes, frees, next_at, dequeues, passes}
use Rattle.protocol.specs.Events.{cold, arrives, leaves, becomes_preemptable, gives_way, arrive_event, finish_event, request_event, complete_event, act}
use Rattle.protocol.specs.declared.Standing.{Standing}
use Rattle.protocol.specs.declared.Standing.TheVariants.{Active}
use Rattle.protocol.specs.declared.Task.{Task}
use Rattle.protocol.specs.declared.Group.{Group}
use Rattle.protocol.specs.declared.State.{State}
use Rattle.locking.specs.Acting.{CanPass, CanAct}
use Rattle.locking.specs.Edits.{Edit, stay, become_preemptable, arrive, leave, give_way, open_in, keeping, requesting, completing, editing, handing, put, stored, moved_by, handed, edit_of, acted}
use Rattle.locking.proofs.Branching.{request_open, request_spin, request_wait, complete_inner, complete_short, complete_long}

-- ---- the moves
module _ (s : State) (t : ℕ) where
  moved_stay : moved_by stay t s ≡ s
  unfolding moved_by
  moved_stay = refl

  moved_soften : moved_by become_preemptable t s ≡ becomes_preemptable s.setup t s
  unfolding moved_by becomes_preemptable
  moved_soften = refl

  moved_arrive : moved_by arrive t s ≡ arrives cold s.setup t s
  unfolding moved_by arrives
  moved_arrive = refl

  moved_leave : moved_by leave t s ≡ leaves s.setup t s
  unfolding moved_by leaves
  moved_leave = refl

  moved_way : moved_by give_way t s ≡ gives_way s.setup t s
  unfolding moved_by gives_way
  moved_way = refl

-- ---- an edit, by what each kind of event makes of the records
module _ (kinds : List ℕ) (x : Task) (y : Group) (P : Edit → Type 0) where
  -- P holds where x has another standing and other open requests, and nobody is handed the group
  abbrev Keeps : Type 0
  Keeps = (standing : Standing) (requests : List ℕ) (depth : ℕ) (z : Group) (turn : ℕ) → P (keeping (with_standing standing (with_requests requests (with_depth depth x))) z turn)

  requesting_by : (t r : ℕ) → Keeps → P (requesting kinds x y t r)
  unfolding requesting
  requesting_by t r f = go (open_in kinds x r || y.holder is nobody) refl
    where
      go : (b : Bool) → (open_in kinds x r || y.holder is nobody) ≡ b → P (requesting kinds x y t r)
      go true h = rw h (f _ _ _ _ _)
      go false h = rw h (f _ _ _ _ _)

  completing_by : (r : ℕ) → ((z : Group) (turn next : ℕ) → P (record { task = closing x; group = z; turn = turn; next = next })) → P (completing kinds x y r)
  unfolding completing
  completing_by r f = go (open_in kinds (closing x) r) refl
    where
      go : (b : Bool) → open_in kinds (closing x) r ≡ b → P (completing kinds x y r)
      go true h = rw h (f _ _ _)
      go false h = rw h (f _ _ _)

  editing_by : (due clock : ℕ) (e : Event) → P (keeping (arriving clock due x) y arrive) → P (keeping (departing x) y leave) → Keeps
      → (e.kind ≡ completion → P (completing kinds x y e.resource)) → P (editing kinds due clock x y e)
  unfolding editing
  editing_by due clock e comes goes keeps ends = elim (ℕ_discrete e.kind arrival) [
    | yes k ↦ rw (eq-eqb e.kind arrival k) comes
    | no a ↦ elim (ℕ_discrete e.kind finish) [
      | yes k ↦ rw (ne_eqb e.kind arrival a, eq-eqb e.kind finish k) goes
      | no f ↦ elim (ℕ_discrete e.kind asking) [
        | yes k ↦ rw (ne_eqb e.kind arrival a, ne_eqb e.kind finish f, eq-eqb e.kind asking k) (requesting_by e.task e.resource keeps)
        | no r ↦ elim (ℕ_discrete e.kind completion) [
          | yes k ↦ rw (ne_eqb e.kind arrival a, ne_eqb e.kind finish f, ne_eqb e.kind asking r, eq-eqb e.kind completion k) (ends k)
          | no q ↦ rw (ne_eqb e.kind arrival a, ne_eqb e.kind finish f, ne_eqb e.kind asking r, ne_eqb e.kind completion q) (keeps x.standing x.requests x.depth y stay)
        ]
      ]
    ]
  ]

-- no edit makes a deadline but an arrival
module _ (kinds : List ℕ) (due clock : ℕ) (x : Task) (y : Group) (e : Event) where
  pub edited_deadline : (m : ℕ) → x.deadline ≤ m → due ≤ m → (editing kinds due clock x y e).task.deadline ≤ m
  edited_deadline m had soon =
      let P : Edit → Type 0 = λ d. d.task.deadline ≤ m in
      editing_by kinds x y P due clock e soon (omega arith) (λ s q n z turn. had) (λ k. completing_by kinds x y P e.resource (λ z turn next. had))

module _ (x : Task) (y : Group) (turn next : ℕ) where
  pub handed_deadline : (handing x y turn next).task.deadline ≡ x.deadline
  unfolding handing
  handed_deadline = refl

-- ---- an edit stored and its move made, then the group handed over
-- the first part, and both
abbrev firstly : ℕ → ℕ → Edit → State → State
firstly t g d s = moved_by d.turn t (stored t g d s)

abbrev wholly : ℕ → ℕ → Edit → State → State
wholly t g d s = if d.next is nobody then firstly t g d s else handed g d.turn d.next (firstly t g d s)

module _ (s : State) (g : ℕ) where
  -- the group as it was
  kept : (t : ℕ) (x : Task) → put t g x (group s g) s ≡ on_task t (λ _. x) s
  kept t x = rw (set-get_or s.groups g no_group)

  passes_stored : (u : ℕ) → u ≡ next_at s g → u < length s.tasks → g < length s.groups
      → put u g (opening (asked_of (task s u).standing) (with_standing Active (task s u))) (record { holder = u; queue = without_first (group s g).queue }) s ≡ passes g s
  unfolding passes opens dequeues asked
  passes_stored u h lt lg = rw (← h, get_or-set_same s.tasks u _ no_task lt, set-set s.tasks u, get_or-set_same s.groups g _ no_group lg, set-set s.groups g)

  handed_passes : (turn u : ℕ) → u ≡ next_at s g → u < length s.tasks → g < length s.groups
      → handed g turn u s ≡ moved_by (if turn is give_way then arrive else stay) u (passes g s)
  unfolding handed handing
  handed_passes turn u h lt lg = ap (moved_by (if turn is give_way then arrive else stay) u) (passes_stored u h lt lg)

  wholly_some : (t : ℕ) (d : Edit) → (d.next ≡ nobody → ⊥) → wholly t g d s ≡ handed g d.turn d.next (firstly t g d s)
  wholly_some t d h = rw (ne_eqb d.next nobody h)

-- ---- an event
module _ (s : State) (e : Event) (g : ℕ) where
  acted_wholly : (d : Edit) → edit_of e g s ≡ d → acted e g s ≡ wholly e.task g d s
  unfolding acted
  acted_wholly d h = rw h

  -- a request and a completion, of the group g
  abbrev begun : Edit
  begun = requesting s.setup.kinds (task s e.task) (group s g) e.task e.resource

  abbrev ended : Edit
  ended = completing s.setup.kinds (task s e.task) (group s g) e.resource

  edit_begun : e.kind ≡ asking → edit_of e g s ≡ begun
  unfolding editing
  edit_begun k = rw (ne_eqb e.kind arrival (λ q. omega (arith, k, q)), ne_eqb e.kind finish (λ q. omega (arith, k, q)), eq-eqb e.kind asking k)

  edit_ended : e.kind ≡ completion → edit_of e g s ≡ ended
  unfolding editing
  edit_ended k = rw (ne_eqb e.kind arrival (λ q. omega (arith, k, q)), ne_eqb e.kind finish (λ q. omega (arith, k, q)), ne_eqb e.kind asking (λ q. omega (arith, k, q)), eq-eqb e.kind completion k)

  -- ---- the kinds that name no resource
  acted_arrival : e.kind ≡ arrival → acted e g s ≡ act cold s.setup e s
  unfolding acted editing act arrive_event
  acted_arrival k =
      let f = arriving s.clock (due_at s.setup e.task s.clock) in
      rw (eq-eqb e.kind arrival k)
      (ap (moved_by arrive e.task) (kept s g e.task (f (task s e.task))) ∙ moved_arrive (on_task e.task f s) e.task)

  acted_finish : e.kind ≡ finish → acted e g s ≡ act cold s.setup e s
  unfolding acted editing act finish_event
  acted_finish k =
      rw (eq-eqb e.kind finish k, ne_eqb e.kind arrival (λ q. omega (arith, k, q)))
      (ap (moved_by leave e.task) (kept s g e.task (departing (task s e.task))) ∙ moved_leave (on_task e.task departing s) e.task)

  acted_other : (e.kind ≡ arrival → ⊥) → (e.kind ≡ finish → ⊥) → (e.kind ≡ asking → ⊥) → (e.kind ≡ completion → ⊥) → acted e g s ≡ act cold s.setup e s
  unfolding acted editing act
  acted_other a f r k =
      rw (ne_eqb e.kind arrival a, ne_eqb e.kind finish f, ne_eqb e.kind asking r, ne_eqb e.kind completion k)
      (moved_stay _ e.task ∙ kept s g e.task (task s e.task) ∙ rw (set-get_or s.tasks e.task no_task))

  -- ---- a request
  begun_act : e.kind ≡ asking → act cold s.setup e s ≡ request_event s.setup e.task e.resource s
  unfolding act
  begun_act k = rw (ne_eqb e.kind arrival (λ q. omega (arith, k, q)), ne_eqb e.kind finish (λ q. omega (arith, k, q)), eq-eqb e.kind asking k)

  abbrev granted : Bool
  granted = open_of_kind s.setup s e.task e.resource || holder s g is nobody

  begun_open : granted ≡ true → wholly e.task g begun s ≡ opens e.task e.resource g s
  unfolding requesting open_of_kind depth request holder opens
  begun_open h = rw h (moved_stay _ e.task)

  begun_spin : granted ≡ false → kind s.setup e.resource ≡ short → wholly e.task g begun s ≡ enqueues s.setup e.task e.resource g s
  unfolding requesting open_of_kind depth request holder enqueues
  begun_spin h z = rw (h, eq-eqb (kind s.setup e.resource) short z) (moved_stay _ e.task)

  begun_wait : granted ≡ false → (kind s.setup e.resource ≡ short → ⊥)
      → wholly e.task g begun s ≡ leaves s.setup e.task (enqueues s.setup e.task e.resource g s)
  unfolding requesting open_of_kind depth request holder enqueues
  begun_wait h z = rw (h, ne_eqb (kind s.setup e.resource) short z) (moved_leave _ e.task)

  -- ---- a completion
  ended_act : e.kind ≡ completion → act cold s.setup e s ≡ complete_event cold s.setup e.task e.resource s
  unfolding act
  ended_act k = rw (ne_eqb e.kind arrival (λ q. omega (arith, k, q)), ne_eqb e.kind finish (λ q. omega (arith, k, q)), ne_eqb e.kind asking (λ q. omega (arith, k, q)), eq-eqb e.kind completion k)

  -- the completion is of an inner request
  abbrev inner : Bool
  inner = open_in s.setup.kinds (closing (task s e.task)) e.resource

  abbrev freed : State
  freed = frees g (closes e.task s)

  inner_open : e.task < length s.tasks → inner ≡ open_of_kind s.setup (closes e.task s) e.task e.resource
  unfolding open_of_kind closes depth request
  inner_open l = ap (λ (x : Task). open_in s.setup.kinds x e.resource) (sym (get_or-set_same s.tasks e.task (closing (task s e.task)) no_task l))

  ended_inner : inner ≡ true → wholly e.task g ended s ≡ closes e.task s
  unfolding completing closes
  ended_inner h = rw h (moved_stay _ e.task ∙ kept s g e.task (closing (task s e.task)))

  -- who is then handed the group: the next, if there is one
  ended_inside : inner ≡ true → ended.next ≡ nobody
  unfolding completing
  ended_inside h = rw h

  module _ (h : inner ≡ false) where
    ended_idle : len s g ≡ 0 → ended.next ≡ nobody
    unfolding completing len
    ended_idle n = rw (h, eq-eqb (len s g) 0 n)

    ended_next : (len s g ≡ 0 → ⊥) → ended.next ≡ next_at s g
    unfolding completing len waiter
    ended_next n = rw (h, ne_eqb (len s g) 0 n)

    ended_soft : kind s.setup e.resource ≡ short → len s g ≡ 0 → wholly e.task g ended s ≡ becomes_preemptable s.setup e.task freed
    unfolding completing closes frees len
    ended_soft z n = rw (h, eq-eqb (kind s.setup e.resource) short z, eq-eqb (len s g) 0 n) (moved_soften _ e.task)

    ended_way : (kind s.setup e.resource ≡ short → ⊥) → len s g ≡ 0 → wholly e.task g ended s ≡ gives_way s.setup e.task freed
    unfolding completing closes frees len
    ended_way z n = rw (h, ne_eqb (kind s.setup e.resource) short z, eq-eqb (len s g) 0 n) (moved_way _ e.task)

    abbrev passing : ℕ → Edit
    passing turn = record { task = closing (task s e.task); group = record { holder = nobody; queue = (group s g).queue }; turn = turn; next = next_at s g }

    soft_passes : passes g (becomes_preemptable s.setup e.task freed) ≡ becomes_preemptable s.setup e.task (passes g freed)
    unfolding passes opens dequeues becomes_preemptable asked waiter
    soft_passes = refl

    module _ (n : len s g ≡ 0 → ⊥) (u_in : next_at s g < most_tasks) (g_in : g < most_resources) (tasked : length s.tasks ≡ most_tasks) (grouped : length s.groups ≡ most_resources) where
      freed_tasks : length freed.tasks ≡ most_tasks
      unfolding frees closes
      freed_tasks = simp length-set tasked

      freed_groups : length freed.groups ≡ most_resources
      unfolding frees closes
      freed_groups = simp length-set grouped

      freed_next : queued (group freed g).queue 0 ≡ queued (group s g).queue 0
      unfolding frees closes
      freed_next = ap (λ (y : Group). queued y.queue 0) (get_or-set_same s.groups g (record { holder = nobody; queue = (group s g).queue }) no_group (omega (arith, grouped, g_in)))

      soft_next : next_at s g ≡ next_at (becomes_preemptable s.setup e.task freed) g
      unfolding becomes_preemptable waiter
      soft_next = sym freed_next

      way_next : next_at s g ≡ next_at (gives_way s.setup e.task freed) g
      unfolding gives_way waiter
      way_next = sym freed_next

      some_next : next_at s g ≡ nobody → ⊥
      some_next q = omega (arith, q, u_in)

      ended_soft_pass : kind s.setup e.resource ≡ short → wholly e.task g ended s ≡ becomes_preemptable s.setup e.task (passes g freed)
      unfolding completing closes frees len waiter becomes_preemptable
      ended_soft_pass z = rw (h, eq-eqb (kind s.setup e.resource) short z, ne_eqb (len s g) 0 n)
          (wholly_some s g e.task (passing become_preemptable) some_next
          ∙ ap (handed g become_preemptable (next_at s g)) (moved_soften _ e.task)
          ∙ handed_passes (becomes_preemptable s.setup e.task freed) g become_preemptable (next_at s g) soft_next (omega (arith, freed_tasks, u_in)) (omega (arith, freed_groups, g_in))
          ∙ moved_stay _ (next_at s g) ∙ soft_passes)

      ended_way_pass : (kind s.setup e.resource ≡ short → ⊥)
          → wholly e.task g ended s ≡ arrives cold s.setup (next_at s g) (passes g (gives_way s.setup e.task freed))
      unfolding completing closes frees len waiter gives_way passes opens dequeues
      ended_way_pass z = rw (h, ne_eqb (kind s.setup e.resource) short z, ne_eqb (len s g) 0 n)
          (wholly_some s g e.task (passing give_way) some_next
          ∙ ap (handed g give_way (next_at s g)) (moved_way _ e.task)
          ∙ handed_passes (gives_way s.setup e.task freed) g give_way (next_at s g) way_next (omega (arith, freed_tasks, u_in)) (omega (arith, freed_groups, g_in))
          ∙ moved_arrive _ (next_at s g))

-- no task has more requests open after a completion
closing_depth : (l : List Task) (t u : ℕ) → (get_or (set l t (closing (get_or l t no_task))) u no_task).depth ≤ (get_or l u no_task).depth
closing_depth l t u = elim (ℕ_discrete u t) [
  | no n ↦ omega (arith, ap (λ (x : Task). x.depth) (get_or-set_other l t u (closing (get_or l t no_task)) no_task n))
  | yes h ↦ subst (λ (n : ℕ). (get_or (set l t (closing (get_or l t no_task))) n no_task).depth ≤ (get_or l n no_task).depth) (sym h) (elim (dec_lt t (length l)) [
    | yes i ↦ omega (arith, ap (λ (x : Task). x.depth) (get_or-set_same l t (closing (get_or l t no_task)) no_task i))
    | no o ↦ omega (arith, ap (λ (k : List Task). (get_or k t no_task).depth) (set_out l t (closing (get_or l t no_task)) (omega arith)))
  ])
]

-- and each has the standing that it had
closing_stands : (l : List Task) (t u : ℕ) → (get_or (set l t (closing (get_or l t no_task))) u no_task).standing ≡ (get_or l u no_task).standing
closing_stands l t u = elim (ℕ_discrete u t) [
  | no n ↦ ap (λ (x : Task). x.standing) (get_or-set_other l t u (closing (get_or l t no_task)) no_task n)
  | yes h ↦ subst (λ (n : ℕ). (get_or (set l t (closing (get_or l t no_task))) n no_task).standing ≡ (get_or l n no_task).standing) (sym h) (elim (dec_lt t (length l)) [
    | yes i ↦ ap (λ (x : Task). x.standing) (get_or-set_same l t (closing (get_or l t no_task)) no_task i)
    | no o ↦ ap (λ (k : List Task). (get_or k t no_task).standing) (set_out l t (closing (get_or l t no_task)) (omega arith))
  ])
]

-- ---- the event of a task that may act, on the place g of its group where it has one
module _ (s : State) (e : Event) (can : CanAct s e) where
  -- what the edit of the records needs
  pub edit_needs : (e.kind ≡ asking → (task s e.task).depth < most_requests)
      × (e.kind ≡ completion → (0 < (task s e.task).depth) × ((task s e.task).depth ≤ most_requests))
  unfolding depth
  edit_needs = (λ k. (can.asks k).room, λ k. ((can.completes k).some, (can.completes k).few))

  abbrev g₀ : ℕ
  g₀ = group_of s.setup e.resource

  module _ (tasked : length s.tasks ≡ most_tasks) (grouped : length s.groups ≡ most_resources) where
    acted_request : e.kind ≡ asking → acted e g₀ s ≡ act cold s.setup e s
    acted_request k =
        acted_wholly s e g₀ (begun s e g₀) (edit_begun s e g₀ k) ∙ go (granted s e g₀) refl (ℕ_discrete (kind s.setup e.resource) short) ∙ sym (begun_act s e g₀ k)
      where
        go : (b : Bool) → granted s e g₀ ≡ b → Dec (kind s.setup e.resource ≡ short)
            → wholly e.task g₀ (begun s e g₀) s ≡ request_event s.setup e.task e.resource s
        go true h z = begun_open s e g₀ h ∙ sym (request_open s.setup e.task e.resource s h)
        go false h (yes z) = begun_spin s e g₀ h z ∙ sym (request_spin s.setup e.task e.resource s h z)
        go false h (no z) = begun_wait s e g₀ h z ∙ sym (request_wait s.setup e.task e.resource s h z)

    acted_complete : e.kind ≡ completion → acted e g₀ s ≡ act cold s.setup e s
    acted_complete k =
        acted_wholly s e g₀ (ended s e g₀) (edit_ended s e g₀ k) ∙ go (inner s e g₀) refl (ℕ_discrete (kind s.setup e.resource) short) (ℕ_discrete (len s g₀) 0) ∙ sym (ended_act s e g₀ k)
      where
        same : open_of_kind s.setup (closes e.task s) e.task e.resource ≡ inner s e g₀
        same = sym (inner_open s e g₀ (omega (arith, tasked, can.inside)))

        u_in : (len s g₀ ≡ 0 → ⊥) → next_at s g₀ < most_tasks
        u_in n = ((can.completes k).next (omega (arith, n))).inside

        go : (b : Bool) → inner s e g₀ ≡ b → Dec (kind s.setup e.resource ≡ short) → Dec (len s g₀ ≡ 0)
            → wholly e.task g₀ (ended s e g₀) s ≡ complete_event cold s.setup e.task e.resource s
        go true h z n = ended_inner s e g₀ h ∙ sym (complete_inner s.setup e.task e.resource s (same ∙ h))
        go false h (yes z) (yes n) = ended_soft s e g₀ h z n ∙ sym (complete_short s.setup e.task e.resource s (same ∙ h) z ∙ rw (eq-eqb (len s g₀) 0 n))
        go false h (yes z) (no n) = ended_soft_pass s e g₀ h n (u_in n) (can.completes k).placed tasked grouped z ∙ sym (complete_short s.setup e.task e.resource s (same ∙ h) z ∙ rw (ne_eqb (len s g₀) 0 n))
        go false h (no z) (yes n) = ended_way s e g₀ h z n ∙ sym (complete_long s.setup e.task e.resource s (same ∙ h) z ∙ rw (eq-eqb (len s g₀) 0 n))
        go false h (no z) (no n) = ended_way_pass s e g₀ h n (u_in n) (can.completes k).placed tasked grouped z ∙ sym (complete_long s.setup e.task e.resource s (same ∙ h) z ∙ rw (ne_eqb (len s g₀) 0 n))

    pub acted_act : (g : ℕ) → ((asking ≤ e.kind) × (e.kind ≤ completion) → g ≡ group_of s.setup e.resource) → acted e g s ≡ act cold s.setup e s
    acted_act g at = elim (ℕ_discrete e.kind asking) [
      | yes k ↦ subst (λ (n : ℕ). acted e n s ≡ act cold s.setup e s) (sym (at (omega arith, omega arith))) (acted_request k)
      | no r ↦ elim (ℕ_discrete e.kind completion) [
        | yes k ↦ subst (λ (n : ℕ). acted e n s ≡ act cold s.setup e s) (sym (at (omega arith, omega arith))) (acted_complete k)
        | no q ↦ elim (ℕ_discrete e.kind arrival) [
          | yes k ↦ acted_arrival s e g k
          | no a ↦ elim (ℕ_discrete e.kind finish) [ yes k ↦ acted_finish s e g k | no f ↦ acted_other s e g a f r q ]
        ]
      ]
    ]

  -- who is handed the group is a task with a job and room for one request more, before and after the first part
  module _ (g : ℕ) (at : (asking ≤ e.kind) × (e.kind ≤ completion) → g ≡ group_of s.setup e.resource) where
    ended_pass : e.kind ≡ completion → ((ended s e g).next ≡ nobody → ⊥) → ((ended s e g).next ≡ next_at s g) × CanPass s g
    ended_pass k some = go (inner s e g) refl (ℕ_discrete (len s g) 0)
      where
        go : (b : Bool) → inner s e g ≡ b → Dec (len s g ≡ 0) → ((ended s e g).next ≡ next_at s g) × CanPass s g
        go true h n = absurd (some (ended_inside s e g h))
        go false h (yes n) = absurd (some (ended_idle s e g h n))
        go false h (no n) = (ended_next s e g h n, subst (λ (i : ℕ). 0 < len s i → CanPass s i) (sym (at (omega arith, omega arith))) (can.completes k).next (omega (arith, n)))

    -- by a completion alone
    next_by : (P : Edit → Type 0) → (e.kind ≡ completion → ((ended s e g).next ≡ nobody → ⊥) → P (ended s e g)) → ((edit_of e g s).next ≡ nobody → ⊥) → P (edit_of e g s)
    next_by P f some = elim (ℕ_discrete e.kind completion) [
      | no q ↦ absurd (some (editing_by s.setup.kinds (task s e.task) (group s g) (λ (d : Edit). d.next ≡ nobody) (due_at s.setup e.task s.clock) s.clock e refl refl (λ t r n z turn. refl) (λ k. absurd (q k))))
      | yes k ↦ subst P (sym (edit_ended s e g k)) (f k (λ z. some (ap (λ (d : Edit). d.next) (edit_ended s e g k) ∙ z)))
    ]

    pub next_in_lem : ((edit_of e g s).next ≡ nobody → ⊥) → ((edit_of e g s).next < most_tasks) × ((task s (edit_of e g s).next).depth < most_requests)
    unfolding depth
    next_in_lem = next_by (λ (d : Edit). (d.next < most_tasks) × ((task s d.next).depth < most_requests)) (λ k some.
        let w = ended_pass k some in
        subst (λ (u : ℕ). (u < most_tasks) × ((task s u).depth < most_requests)) (sym w.0) (w.1.inside, w.1.room))

    pub next_room : ((edit_of e g s).next ≡ nobody → ⊥)
        → (let d = edit_of e g s in (task (moved_by d.turn e.task (stored e.task g d s)) d.next).depth < most_requests)
    unfolding moved_by depth
    next_room = next_by (λ (d : Edit). (get_or (set s.tasks e.task d.task) d.next no_task).depth < most_requests) (λ k some.
        let w = ended_pass k some in
        let same : (ended s e g).task ≡ closing (task s e.task) = completing_by s.setup.kinds (task s e.task) (group s g) (λ (d : Edit). d.task ≡ closing (task s e.task)) e.resource (λ z turn next. refl) in
        subst (λ (u : ℕ). (get_or (set s.tasks e.task (ended s e g).task) u no_task).depth < most_requests) (sym w.0)
        (subst (λ (x : Task). (get_or (set s.tasks e.task x) (next_at s g) no_task).depth < most_requests) (sym same)
        (omega (arith, closing_depth s.tasks e.task (next_at s g), w.1.room))))

    pub next_pending : ((edit_of e g s).next ≡ nobody → ⊥)
        → (let d = edit_of e g s in stand (moved_by d.turn e.task (stored e.task g d s)) d.next ≢ absent)
    unfolding moved_by stand
    next_pending = next_by (λ (d : Edit). standing_no (get_or (set s.tasks e.task d.task) d.next no_task).standing ≢ absent) (λ k some.
        let w = ended_pass k some in
        let same : (ended s e g).task ≡ closing (task s e.task) = completing_by s.setup.kinds (task s e.task) (group s g) (λ (d : Edit). d.task ≡ closing (task s e.task)) e.resource (λ z turn next. refl) in
        subst (λ (u : ℕ). standing_no (get_or (set s.tasks e.task (ended s e g).task) u no_task).standing ≢ absent) (sym w.0)
        (subst (λ (x : Task). standing_no (get_or (set s.tasks e.task x) (next_at s g) no_task).standing ≢ absent) (sym same)
        (λ q. w.1.pending (sym (ap standing_no (closing_stands s.tasks e.task (next_at s g))) ∙ q))))
