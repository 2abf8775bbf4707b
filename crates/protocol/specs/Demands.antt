-- RULES.md, 'The demands' and 'Tick totals': demand 3 and the totals, as statements about a state, an event or a list
-- of events; and, at the end, the theorems: that they hold of every run from an accepted set-up, `after`.
-- proofs/Theorems proves them; nothing else need be read to know what is promised.
use Rattle.std.specs.Prelude.{ℕ, zero, suc, ◌+◌, ◌-◌, ◌<◌, ◌≤◌, min, ◌≡◌, Bool, true, false, not, ◌&&◌, List, [], ◌∷◌, ◌++◌, ◌≢◌, ◌⊎◌, ◌↔◌, ltb, length, get_or, set, if◌then◌else◌}
use Rattle.search.specs.Words.{◌is◌, ◌isn't◌}
use Rattle.search.specs.Below.{how_many}
use Rattle.numbers.specs.Limits.{most_processors, most_tasks, nobody}
use Rattle.numbers.specs.Refusals.{not_sound, clock_past_end, is_suspended, on_no_processor}
use Rattle.processors.specs.Words.{link, runs}
use Rattle.scheduler.specs.Placed.{Sized, Settled}
use Rattle.scheduler.specs.PlacedTest.{is_placed}
use Rattle.input.specs.Kinds.{short, arrival, finish, request as asking, completion}
use Rattle.input.specs.Words.{within, kind}
use Rattle.setups.specs.Refusals.{setup_refusal}
use Rattle.setups.specs.Naming.{group_of}
use Rattle.setups.specs.Clearing.{is_clear}
use Rattle.input.specs.declared.Setup.{Setup}
use Rattle.input.specs.declared.Event.{Event}
use Rattle.protocol.specs.Words.{last_clock, absent, active, spinning, suspended, sum, task, stand, asked, depth, request, holder, len, waiter, group}
use Rattle.protocol.specs.Records.{total_count, no_task, no_group}
use Rattle.protocol.specs.Sound.{sound}
use Rattle.protocol.specs.Ranks.{short_open, effective, jobs}
use Rattle.protocol.specs.Situations.{outranks, is_foremost, total_for}
use Rattle.protocol.specs.Refusals.{step_of, judge}
use Rattle.protocol.specs.Locks.{open_of_kind, closes}
use Rattle.protocol.specs.Events.{Prefers, Move, moved, step_by, run_by, begin, after}
use Rattle.protocol.specs.declared.State.{State}

-- ---- every run
-- A run begins with such a set-up: accepted, and with a start of four bytes. Its events may be any, refused ones
-- among them, each with any suggestion of a processor for a job that arrives or resumes.
pub record Given (c : Setup) : Type 0 where
  pub accepted : setup_refusal c ≡ 0
  pub start : c.start ≤ last_clock

-- e is accepted in s, and is of kind k
abbrev pub accepts : State → Event → ℕ → Bool
accepts s e k = judge s e is 0 && e.kind is k

-- ---- links
-- some processor is linked to t
abbrev pub Linked : State → ℕ → Type 0
Linked s t = (k : ℕ) × (link s.processors k ≡ t)

-- t has a job, and it is not suspended
abbrev pub is_runnable : State → ℕ → Bool
is_runnable s t = stand s t isn't absent && stand s t isn't suspended

-- u is runnable and has a higher priority than t, inherited priority counted
abbrev pub is_ahead : State → ℕ → ℕ → Bool
is_ahead s t u = is_runnable s u && ltb (effective s.setup s u) (effective s.setup s t)

-- no two runnable jobs have the same priority
abbrev pub PrioritiesApart : State → Type 0
PrioritiesApart s = (t u : ℕ) → t < most_tasks → u < most_tasks → is_runnable s t ≡ true → is_runnable s u ≡ true
    → effective s.setup s t ≡ effective s.setup s u → t ≡ u

-- the linked jobs are exactly the highest-priority runnable ones, m or all if fewer, each linked once
pub record LinksHighest (s : State) (m : ℕ) : Type 0 where
  pub highest : (t : ℕ) → t < most_tasks
      → Linked s t ↔ ((is_runnable s t ≡ true) × (how_many (is_ahead s t) most_tasks < m))
  pub once : (k i : ℕ) → link s.processors k ≢ nobody → link s.processors k ≡ link s.processors i → k ≡ i
  pub many : how_many (λ k. link s.processors k isn't nobody) most_processors
      ≡ min m (how_many (is_runnable s) most_tasks)

-- the sound state's test of links and placements says exactly this: they are settled, clause by clause, and the
-- linked jobs are the highest-priority runnable ones
abbrev pub PlacedAsDemanded : Type 0
PlacedAsDemanded = (s : State) → Sized s.processors → s.processors.count ≡ s.setup.processors
    → (is_placed s.processors (jobs s.setup s) ≡ true)
    ↔ (Settled s.processors (jobs s.setup s) × LinksHighest s s.setup.processors)

-- ---- locks
-- two tasks with a request open in the same group are one task, the group's holder
abbrev pub OneHolder : State → Type 0
OneHolder s = (t u i k : ℕ) → i < depth s t → k < depth s u
    → group_of s.setup (request s t i) ≡ group_of s.setup (request s u k)
    → (t ≡ u) × (holder s (group_of s.setup (request s t i)) ≡ t)

-- ---- chains of who waits for whom
-- t's job spins or is suspended
abbrev pub Waiting : State → ℕ → Type 0
Waiting s t = spinning ≤ stand s t

-- t waits for a group that u holds
abbrev pub WaitsFor : State → ℕ → ℕ → Type 0
WaitsFor s t u = Waiting s t × (u ≢ nobody) × (holder s (group_of s.setup (asked s t)) ≡ u)

-- a waiting job waits for its group's holder and for no other; a chain has at most two links and ends in an active
-- job
pub record ChainsEnd (s : State) : Type 0 where
  pub one : (t : ℕ) → Waiting s t → (u : ℕ) × WaitsFor s t u × ((v : ℕ) → WaitsFor s t v → v ≡ u)
  pub two : (t u : ℕ) → WaitsFor s t u → (stand s u ≡ active) ⊎ ((v : ℕ) × WaitsFor s u v × (stand s v ≡ active))

-- ---- short queues
-- n jobs are before t at group g, the holder among them; with 0, t is the holder
abbrev pub Before : State → ℕ → ℕ → ℕ → Type 0
Before s g t zero = holder s g ≡ t
Before s g t (suc n) = (n < len s g) × (waiter s g n ≡ t)

-- a job has only one place at a short group
abbrev pub OnePlace : State → Type 0
OnePlace s = (g t n k : ℕ) → kind s.setup g ≡ short → t ≢ nobody → Before s g t n → Before s g t k → n ≡ k

-- e is accepted and completes an outermost request at g
unfoldable pub hands_over : State → Event → ℕ → Bool
hands_over s e g =
    accepts s e completion && group_of s.setup e.resource is g
    && not (open_of_kind s.setup (closes e.task s) e.task e.resource)

-- how many of the events complete an outermost request at g
unfoldable pub completions : State → List Move → ℕ → ℕ
completions s [] g = 0
completions s (m ∷ ms) g = (if hands_over s m.event g then 1 else 0) + completions (moved s m) ms g

-- e is an accepted request, in s, for a short resource by a job with no short request open. It finds `found` jobs
-- before it, fewer than m. After any further events n of them are left, where `found` - n outermost requests were
-- completed there: so the job holds the group after exactly `found` completions, and spins for what it asked for
-- until then.
pub record ShortQueue (s : State) (pick : Prefers) (e : Event) (m : ℕ) : Type 0 where
  pub found : ℕ
  pub few : found < m
  pub later : (ms : List Move) (n : ℕ)
      → completions (step_by pick s e).state ms (group_of s.setup e.resource) + n ≡ found
      → let end = run_by (step_by pick s e).state ms in
      Before end (group_of s.setup e.resource) e.task n
      × (n ≢ 0 → (stand end e.task ≡ spinning) × (asked end e.task ≡ e.resource))

-- that holds of every request, accepted in s, for a short resource by a job with no short request open
abbrev pub ShortQueues : State → ℕ → Type 0
ShortQueues s m = (pick : Prefers) (e : Event) → judge s e ≡ 0 → e.kind ≡ asking
    → kind s.setup e.resource ≡ short → short_open s.setup s e.task ≡ false → ShortQueue s pick e m

-- ---- demand 3
-- all of it, for the state after some events
pub record Demand3 (c : Setup) (ms : List Move) : Type 0 where
  pub links : LinksHighest (after c ms) c.processors
  pub apart : PrioritiesApart (after c ms)
  pub holders : OneHolder (after c ms)
  pub chains : ChainsEnd (after c ms)
  pub places : OnePlace (after c ms)
  pub queues : ShortQueues (after c ms) c.processors

-- ---- totals
-- the ticks that t has been pending, from the clocks of its accepted arrivals and finishes; if it is `pending` in s,
-- then from the clock `since` on
unfoldable pub pending_ticks : State → List Move → ℕ → Bool → ℕ → ℕ
pending_ticks s [] t pending since = if pending then s.clock - since else 0
pending_ticks s (m ∷ ms) t pending since =
    let e = m.event in
    let next = moved s m in
    if accepts s e arrival && e.task is t then pending_ticks next ms t true next.clock
    else if accepts s e finish && e.task is t then (next.clock - since) + pending_ticks next ms t false 0
    else pending_ticks next ms t pending since

-- a task has six totals, and they sum to the ticks that it has been pending; no task is pending at the start
abbrev pub TotalsSum : Setup → List Move → Type 0
TotalsSum c ms = (t : ℕ) → let totals = (task (after c ms) t).totals in
    (length totals ≡ total_count) × (sum totals ≡ pending_ticks (begin c).state ms t false 0)

-- the ticks of an accepted step go, for a pending task, to one total, by the state before the event; else nowhere
abbrev pub Charges : State → Prefers → Event → ℕ → Type 0
Charges s pick e t =
    let before = (task s t).totals in
    let i = total_for s t in
    (task (step_by pick s e).state t).totals
    ≡ (if stand s t isn't absent then set before i (get_or before i 0 + step_of s e) else before)

-- the foremost jobs are exactly the m highest-priority pending ones, or all if fewer, by own priority: who outranks a
-- foremost job is foremost, and so many are
pub record ForemostHighest (s : State) : Type 0 where
  pub higher : (t u : ℕ) → u < most_tasks → outranks s u t ≡ true → is_foremost s t ≡ true → is_foremost s u ≡ true
  pub many : how_many (λ t. stand s t isn't absent && is_foremost s t) most_tasks
      ≡ min s.setup.processors (how_many (λ t. stand s t isn't absent) most_tasks)

-- ---- the theorems
-- P holds of every run from an accepted set-up
abbrev pub Always : (Setup → List Move → Type 0) → Type 0
Always P = (c : Setup) → Given c → (ms : List Move) → P c ms

-- the state is sound
abbrev pub AlwaysSound : Type 0
AlwaysSound = Always (λ c ms. sound (after c ms) ≡ true)

-- demand 3 holds
abbrev pub AlwaysDemand3 : Type 0
AlwaysDemand3 = Always Demand3

-- each accepted event charges its ticks
abbrev pub AlwaysCharges : Type 0
AlwaysCharges = Always (λ c ms. (pick : Prefers) (e : Event) (t : ℕ) → judge (after c ms) e ≡ 0 → t < most_tasks
    → Charges (after c ms) pick e t)

-- the totals sum to the ticks pending
abbrev pub AlwaysSums : Type 0
AlwaysSums = Always TotalsSum

-- the foremost jobs are the highest, in any state
abbrev pub ForemostAreHighest : Type 0
ForemostAreHighest = (s : State) → ForemostHighest s

-- a refused event can be left out of a run
abbrev pub RefusedLeftOut : Type 0
RefusedLeftOut = Always (λ c ms. (m : Move) (ns : List Move) → judge (after c ms) m.event ≢ 0
    → after c (ms ++ m ∷ ns) ≡ after c (ms ++ ns))

-- ---- refusals
-- a refused event hands back the very state, whatever is suggested
abbrev pub RefusedKeeps : Type 0
RefusedKeeps = (pick : Prefers) (s : State) (e : Event) → (step_by pick s e).answer ≢ 0 → (step_by pick s e).state ≡ s

-- t's job is runnable, and no processor runs it
abbrev pub IsOff : State → ℕ → Type 0
IsOff s t = (is_runnable s t ≡ true) × ((k : ℕ) → k < most_processors → runs s.processors k ≢ t)

-- e is a finish, a request or a completion
abbrev pub is_of_job : Event → Bool
is_of_job e = within finish e.kind completion

-- n is one of 9 to 15, which are judged before the job is looked at
abbrev pub is_earlier : ℕ → Bool
is_earlier n = within not_sound n clock_past_end

-- The answer n to e tells why the job is not on a processor: 26 is given of a suspended job, 19 of a runnable one that
-- no processor runs; and a finish, request or completion of such a job is answered so, or with one of 9 to 15.
pub record TellsWhy (s : State) (e : Event) (n : ℕ) : Type 0 where
  pub suspended_given : n ≡ is_suspended → (is_of_job e ≡ true) × (stand s e.task ≡ suspended)
  pub off_given : n ≡ on_no_processor → (is_of_job e ≡ true) × IsOff s e.task
  pub of_suspended : is_of_job e ≡ true → stand s e.task ≡ suspended → (n ≡ is_suspended) ⊎ (is_earlier n ≡ true)
  pub of_off : is_of_job e ≡ true → IsOff s e.task → (n ≡ on_no_processor) ⊎ (is_earlier n ≡ true)

-- every answer does so, in any state and whatever is suggested
abbrev pub AnswersTellWhy : Type 0
AnswersTellWhy = (pick : Prefers) (s : State) (e : Event) → TellsWhy s e (step_by pick s e).answer

-- the empty state: no processors, no tasks, no locks, clock 0
pub record IsEmpty (s : State) : Type 0 where
  pub processors : (s.setup.processors ≡ 0) × (s.processors.count ≡ 0)
  pub counts : (s.setup.tasks ≡ 0) × (s.setup.resources ≡ 0) × (s.setup.pairs ≡ 0)
  pub tables : is_clear s.setup ≡ true
  pub clock : (s.setup.start ≡ 0) × (s.clock ≡ 0)
  pub links : (k : ℕ) → (link s.processors k ≡ nobody) × (runs s.processors k ≡ nobody)
  pub tasks : (t : ℕ) → task s t ≡ no_task
  pub groups : (g : ℕ) → group s g ≡ no_group

-- a refused set-up hands back its number and the empty state
abbrev pub RefusedIsEmpty : Type 0
RefusedIsEmpty = (c : Setup) → setup_refusal c ≢ 0 → ((begin c).answer ≡ setup_refusal c) × IsEmpty (begin c).state
