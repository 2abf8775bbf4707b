-- The sound state as statements, by layer: set-up; times and totals; locks; placement. And the edits of the locks as pointwise
-- equations between a state s and the next, s'. Everything is said over the numbers that `Words` reads off a state. Assumes nothing.
use Prim.Native.Nat.{ℕ, suc, ◌+◌, ◌-◌, ◌<◌, ◌≤◌}
use mathlib.Core.Path.{◌≡◌}
use mathlib.Core.Bool.{true, false}
use mathlib.Core.Logic.{◌≢◌}
use lib.ListN.{length}
use Rattle.queue.specs.Tidy.{Tidy}
use Rattle.numbers.specs.Limits.{most_processors, most_tasks, most_resources, most_requests, nobody}
use Rattle.processors.specs.Words.{run_of}
use Rattle.scheduler.specs.Placed.{Placed}
use Rattle.input.specs.Kinds.{long}
use Rattle.input.specs.Words.{period, kind}
use Rattle.setups.specs.Refusals.{setup_refusal}
use Rattle.setups.specs.Naming.{group_of}
use Rattle.setups.specs.Clearing.{is_clear}
use Rattle.input.specs.declared.Setup.{Setup}
use Rattle.protocol.specs.Records.{total_count}
use Rattle.protocol.specs.Words.{last_clock, sum, absent, active, spinning, suspended, task, group, stand, asked, deadline, depth, request, holder, len, waiter}
use Rattle.protocol.specs.Ranks.{jobs}
use Rattle.protocol.specs.declared.State.{State}

-- ---- the set-up: what an accepted set-up's groups are
pub record Grouped (c : Setup) : Type 0 where
  pub few_tasks : c.tasks ≤ most_tasks
  pub few_resources : c.resources ≤ most_resources
  pub kinds : (r : ℕ) → r < c.resources → kind c r ≤ long
  pub low : (r : ℕ) → r < c.resources → group_of c r < c.resources
  pub alike : (r : ℕ) → r < c.resources → kind c (group_of c r) ≡ kind c r

-- ---- times and totals, over a start and a clock
pub record TimesOk (c : Setup) (now : ℕ) (s : State) (t : ℕ) : Type 0 where
  pub arrived : (task s t).arrived ≡ true → (c.start ≤ (task s t).last) × ((task s t).last ≤ now)
  pub pending : stand s t ≢ absent → ((task s t).arrived ≡ true) × (deadline s t ≡ (task s t).last + period c t)
  pub undated : stand s t ≡ absent → deadline s t ≡ 0
  pub totals : sum (task s t).totals ≤ now - c.start
  pub beyond : c.tasks ≤ t → ((task s t).arrived ≡ false) × ((task s t).last ≡ 0) × (sum (task s t).totals ≡ 0)

pub record Times (s : State) : Type 0 where
  pub start : s.setup.start ≤ s.clock
  pub clock : s.clock ≤ last_clock
  pub tasks : (t : ℕ) → TimesOk s.setup s.clock s t

-- ---- locks
-- a job that waits, and what it asked for
pub record Waits (c : Setup) (s : State) (t : ℕ) : Type 0 where
  pub inside : asked s t < c.resources
  pub kinds : stand s t ≡ spinning + kind c (asked s t)
  pub place : (i : ℕ) × (i < len s (group_of c (asked s t))) × (waiter s (group_of c (asked s t)) i ≡ t)
  pub apart : (i : ℕ) → i < depth s t → kind c (request s t i) ≢ kind c (asked s t)
  pub asleep : stand s t ≡ suspended → depth s t ≡ 0
  pub room : depth s t < most_requests

-- a job's open requests
pub record OpenOk (c : Setup) (s : State) (t : ℕ) : Type 0 where
  pub few : depth s t ≤ most_requests
  pub held : (i : ℕ) → i < depth s t → (request s t i < c.resources) × (holder s (group_of c (request s t i)) ≡ t)
  pub once : (i k : ℕ) → i < depth s t → k < depth s t → request s t i ≡ request s t k → i ≡ k
  pub longs_first : (i k : ℕ) → k < i → i < depth s t → kind c (request s t i) ≡ long → kind c (request s t k) ≡ long
  pub one_group : (i k : ℕ) → i < depth s t → k < depth s t → kind c (request s t i) ≡ kind c (request s t k) → group_of c (request s t i) ≡ group_of c (request s t k)

pub record TaskOk (c : Setup) (s : State) (t : ℕ) : Type 0 where
  pub opened : OpenOk c s t
  pub none : stand s t ≡ absent → depth s t ≡ 0
  pub inside : stand s t ≢ absent → t < c.tasks
  pub waits : spinning ≤ stand s t → Waits c s t

-- x is a group that may have a queue and no holder, inside an event
pub record GroupOk (c : Setup) (s : State) (x g : ℕ) : Type 0 where
  pub held : holder s g ≢ nobody → (i : ℕ) × (i < depth s (holder s g)) × (group_of c (request s (holder s g) i) ≡ g)
  pub queued : (i : ℕ) → i < len s g → (spinning ≤ stand s (waiter s g i)) × (group_of c (asked s (waiter s g i)) ≡ g)
  pub once : (i k : ℕ) → i < len s g → k < len s g → waiter s g i ≡ waiter s g k → i ≡ k
  pub only_held : g ≢ x → holder s g ≡ nobody → len s g ≡ 0

pub record LocksBut (c : Setup) (s : State) (x : ℕ) : Type 0 where
  pub tasks : (t : ℕ) → TaskOk c s t
  pub groups : (g : ℕ) → GroupOk c s x g

-- no group is numbered 255
abbrev pub Locks : Setup → State → Type 0
Locks c s = LocksBut c s nobody

-- the arrays behind the numbers: their lengths, which the types know and no test asks for
pub record Sized (s : State) : Type 0 where
  pub tasks : length s.tasks ≡ most_tasks
  pub groups : length s.groups ≡ most_resources
  pub requests : (t : ℕ) → length (task s t).requests ≡ most_requests
  pub totals : (t : ℕ) → length (task s t).totals ≡ total_count

-- places past a count are empty
pub record Blank (s : State) : Type 0 where
  pub requests : (t i : ℕ) → depth s t ≤ i → request s t i ≡ nobody
  pub queues : (g : ℕ) → Tidy (group s g).queue

-- ---- what holds of tasks and groups, whatever the scheduler
pub record Steady (c : Setup) (s : State) : Type 0 where
  pub sized : Sized s
  pub blank : Blank s
  pub locks : Locks c s

pub record Sound (s : State) : Type 0 where
  pub setup : setup_refusal s.setup ≡ 0
  pub clean : is_clear s.setup ≡ true
  pub count : s.processors.count ≡ s.setup.processors
  pub times : Times s
  pub steady : Steady s.setup s
  pub placed : Placed s.processors (jobs s.setup s)

-- ---- what an accepted event has shown: t runs, and is not spinning (18, 26, 19 and 20)
pub record Acts (s : State) (t : ℕ) : Type 0 where
  pub on : run_of s.processors t < most_processors
  pub act : stand s t ≡ active

-- and may ask for r (12, 22 to 24)
pub record Asks (c : Setup) (s : State) (t r : ℕ) : Type 0 where
  pub acts : Acts s t
  pub inside : r < c.resources
  pub new : (i : ℕ) → i < depth s t → request s t i ≢ r
  pub longs_first : (i : ℕ) → i < depth s t → kind c r ≡ long → kind c (request s t i) ≡ long
  pub within : (i : ℕ) → i < depth s t → kind c (request s t i) ≡ kind c r → group_of c (request s t i) ≡ group_of c r
  pub room : depth s t < most_requests

-- and may complete r (25)
pub record Ends (s : State) (t r : ℕ) : Type 0 where
  pub acts : Acts s t
  pub left : ℕ
  pub some : depth s t ≡ suc left
  pub newest : request s t left ≡ r

-- ---- edits: s' is s but for what is named
pub record SameTask (s s' : State) (u : ℕ) : Type 0 where
  pub stood : stand s' u ≡ stand s u
  pub wants : asked s' u ≡ asked s u
  pub deep : depth s' u ≡ depth s u
  pub requested : (i : ℕ) → request s' u i ≡ request s u i

pub record SameGroup (s s' : State) (a : ℕ) : Type 0 where
  pub holds : holder s' a ≡ holder s a
  pub long : len s' a ≡ len s a
  pub line : (i : ℕ) → waiter s' a i ≡ waiter s a i

-- t has r open, and holds g
pub record Opens (s s' : State) (t r g : ℕ) : Type 0 where
  pub tasks : (u : ℕ) → u ≢ t → SameTask s s' u
  pub groups : (a : ℕ) → a ≢ g → SameGroup s s' a
  pub stood : stand s' t ≡ stand s t
  pub deep : depth s' t ≡ suc (depth s t)
  pub new : request s' t (depth s t) ≡ r
  pub old : (i : ℕ) → i ≢ depth s t → request s' t i ≡ request s t i
  pub holds : holder s' g ≡ t
  pub long : len s' g ≡ len s g
  pub line : (i : ℕ) → waiter s' g i ≡ waiter s g i

-- t waits for r, last at g
pub record Queues (c : Setup) (s s' : State) (t r g : ℕ) : Type 0 where
  pub tasks : (u : ℕ) → u ≢ t → SameTask s s' u
  pub groups : (a : ℕ) → a ≢ g → SameGroup s s' a
  pub stood : stand s' t ≡ spinning + kind c r
  pub wants : asked s' t ≡ r
  pub deep : depth s' t ≡ depth s t
  pub requested : (i : ℕ) → request s' t i ≡ request s t i
  pub holds : holder s' g ≡ holder s g
  pub long : len s' g ≡ suc (len s g)
  pub last : waiter s' g (len s g) ≡ t
  pub line : (i : ℕ) → i ≢ len s g → waiter s' g i ≡ waiter s g i

-- u, the first at g, waits no more
pub record Calls (s s' : State) (u g : ℕ) : Type 0 where
  pub tasks : (v : ℕ) → v ≢ u → SameTask s s' v
  pub groups : (a : ℕ) → a ≢ g → SameGroup s s' a
  pub stood : stand s' u ≡ active
  pub deep : depth s' u ≡ depth s u
  pub requested : (i : ℕ) → request s' u i ≡ request s u i
  pub holds : holder s' g ≡ holder s g
  pub long : len s g ≡ suc (len s' g)
  pub line : (i : ℕ) → waiter s' g i ≡ waiter s g (suc i)

-- t's newest request is closed, and h holds g
pub record Closes (s s' : State) (t g h : ℕ) : Type 0 where
  pub tasks : (u : ℕ) → u ≢ t → SameTask s s' u
  pub groups : (a : ℕ) → a ≢ g → SameGroup s s' a
  pub stood : stand s' t ≡ stand s t
  pub deep : depth s t ≡ suc (depth s' t)
  pub old : (i : ℕ) → i < depth s' t → request s' t i ≡ request s t i
  pub gone : request s' t (depth s' t) ≡ nobody
  pub rest : (i : ℕ) → depth s' t < i → request s' t i ≡ request s t i
  pub holds : holder s' g ≡ h
  pub long : len s' g ≡ len s g
  pub line : (i : ℕ) → waiter s' g i ≡ waiter s g i

-- t, with nothing open, comes or goes
pub record Stands (s s' : State) (t : ℕ) : Type 0 where
  pub tasks : (u : ℕ) → u ≢ t → SameTask s s' u
  pub groups : (a : ℕ) → SameGroup s s' a
  pub stood : stand s' t ≤ active
  pub deep : depth s' t ≡ 0
  pub requested : (i : ℕ) → request s' t i ≡ request s t i
