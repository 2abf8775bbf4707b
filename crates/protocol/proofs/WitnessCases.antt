-- Computed with the rules: runs that meet the premises of the theorems, so none of them speaks of nothing. Assumes nothing.
use Prim.Native.Nat.{◌<◌}
use mathlib.Core.Bool.{false}
use mathlib.Core.List.{List, [], ◌∷◌}
use mathlib.Core.Path.{◌≡◌, refl}
use native.Mathlib.Omega.{arith}
use Rattle.search.specs.Below.{all_below, any_below, how_many}
use Rattle.search.specs.First.{first}
use Rattle.search.specs.Best.{best, better}
use Rattle.search.specs.Table.{table}
use Rattle.queue.specs.Waiting.{waiting, waiter as queued, empty, appended, moved_up, without_first, place_of, is_clear as tidy_at, is_tidy}
use Rattle.processors.specs.Words.{link, rank_of, mode_of, link_of, run_of, none_linked}
use Rattle.scheduler.specs.Arriving.{lowest_free, lowest_linked, displacing, arriving_on, taken, arriving as linking}
use Rattle.scheduler.specs.Leaving.{becoming_preemptable, next_task, filling, refilling, leaving_from, leaving, giving_way}
use Rattle.scheduler.specs.PlacedTest.{is_placed}
use Rattle.numbers.specs.Limits.{most_tasks}
use Rattle.input.specs.Kinds.{short, long, arrival, request as asking, completion, fields_of}
use Rattle.input.specs.Words.{kind}
use Rattle.setups.specs.Refusals.{setup_rows, setup_refusal}
use Rattle.setups.specs.Naming.{joined_by, names_after, names, group_of}
use Rattle.setups.specs.Clearing.{below, cleared, empty_from, is_clear}
use Rattle.input.specs.declared.Setup.{Setup}
use Rattle.input.specs.declared.Event.{Event}
use Rattle.protocol.specs.Words.{active, spinning, suspended, stand, asked, deadline, depth, request, holder, len, waiter}
use Rattle.protocol.specs.Ranks.{own, least_of, long_held, effective, short_open, jobs}
use Rattle.protocol.specs.Situations.{situation, is_foremost, total_for}
use Rattle.protocol.specs.Sound.{clock_sound, times_sound, requests_sound, waiting_sound, group_sound, empty_sound, sound}
use Rattle.protocol.specs.Refusals.{misplaced, event_rows, judge}
use Rattle.protocol.specs.Locks.{open_of_kind, opens, enqueues, closes, frees, dequeues, passes}
use Rattle.protocol.specs.Events.{cold, arrives, leaves, becomes_preemptable, gives_way, arrive_event, finish_event, request_event, complete_event, charged, act, step_by, plain, run_by, step, run, fresh, begin, after}
use Rattle.protocol.specs.Cases.{given, event}
use Rattle.protocol.specs.Demands.{Given, is_runnable, Waiting, WaitsFor, Before, hands_over, completions, ShortQueue}
use Rattle.protocol.specs.declared.State.{State}
use Rattle.protocol.proofs.Sound.Begin.{begin_sound}
use Rattle.protocol.proofs.Events.Step.{run_sound_by}
use Rattle.protocol.proofs.Demands.ShortQueues.{short_queue}

-- ---- four processors and a short resource: 0 holds it, 1 and 2 spin, and 3 asks; later 0 and then 1 complete
abbrev pub queueing : Setup
queueing = given 4 0 (100 ∷ 200 ∷ 300 ∷ 400 ∷ []) (short ∷ []) [] []

abbrev pub in_line : State
in_line = after queueing (plain (
    event arrival 0 0 0 ∷ event arrival 1 0 1 ∷ event arrival 2 0 2 ∷ event arrival 3 0 3
    ∷ event asking 0 0 4 ∷ event asking 1 0 5 ∷ event asking 2 0 6 ∷ []))

abbrev pub asks : Event
asks = event asking 3 0 9

abbrev pub ends : List Event
ends = event completion 0 0 10 ∷ event completion 1 0 11 ∷ []

-- ---- three processors, 0 long and 1 short: 1 holds 0 and 2 holds 1, then 0 asks for 0 and 1 asks for 1
abbrev pub chaining : Setup
chaining = given 3 0 (300 ∷ 200 ∷ 100 ∷ []) (long ∷ short ∷ []) [] []

abbrev pub chained : State
chained = after chaining (plain (
    event arrival 0 0 0 ∷ event arrival 1 0 1 ∷ event arrival 2 0 2
    ∷ event asking 1 0 3 ∷ event asking 2 1 4 ∷ event asking 0 0 5 ∷ event asking 1 1 6 ∷ []))

-- ---- two processors and three jobs
abbrev pub crowding : Setup
crowding = given 2 0 (100 ∷ 200 ∷ 50 ∷ []) [] [] []

abbrev pub crowded : State
crowded = after crowding (plain (event arrival 0 0 0 ∷ event arrival 1 0 1 ∷ event arrival 2 0 2 ∷ []))

-- ---- the same, with processor 1 suggested to the first
abbrev pub warmed : State
warmed = after crowding (record { prefers = λ _ _. 1; event = event arrival 0 0 0 } ∷ [])

-- what the rules compute of them
pub record Computed : Type 0 where
  pub queueing_accepted : setup_refusal queueing ≡ 0
  pub asks_accepted : judge in_line asks ≡ 0
  pub asks_short : kind in_line.setup 0 ≡ short
  pub asks_outer : short_open in_line.setup in_line 3 ≡ false
  pub asks_waits : (len (step in_line asks).state 0 ≡ 3) × (waiter (step in_line asks).state 0 2 ≡ 3)
  pub ends_done : completions (step in_line asks).state (plain ends) 0 ≡ 2
  pub chaining_accepted : setup_refusal chaining ≡ 0
  pub first_link : (stand chained 0 ≡ suspended) × (holder chained (group_of chained.setup (asked chained 0)) ≡ 1)
  pub second_link : (stand chained 1 ≡ spinning) × (holder chained (group_of chained.setup (asked chained 1)) ≡ 2)
  pub chain_ends : stand chained 2 ≡ active
  pub chained_few : how_many (is_runnable chained) most_tasks ≡ 2
  pub crowding_accepted : setup_refusal crowding ≡ 0
  pub crowded_many : how_many (is_runnable crowded) most_tasks ≡ 3
  pub warmed_there : link warmed.processors 1 ≡ 0

pub computed : Computed
unfolding all_below any_below first best better table waiting queued empty appended moved_up without_first place_of tidy_at is_tidy rank_of mode_of link_of run_of none_linked lowest_free lowest_linked displacing arriving_on taken linking becoming_preemptable next_task filling refilling leaving_from leaving giving_way is_placed setup_rows setup_refusal joined_by names_after names group_of below cleared empty_from is_clear fields_of stand asked deadline depth request holder len waiter own least_of long_held effective short_open jobs situation is_foremost total_for clock_sound times_sound requests_sound waiting_sound group_sound empty_sound sound misplaced event_rows judge open_of_kind opens enqueues closes frees dequeues passes arrives leaves becomes_preemptable gives_way arrive_event finish_event request_event complete_event charged act step_by step run_by run fresh begin how_many hands_over completions
computed = record {
  queueing_accepted = refl;
  asks_accepted = refl;
  asks_short = refl;
  asks_outer = refl;
  asks_waits = (refl, refl);
  ends_done = refl;
  chaining_accepted = refl;
  first_link = (refl, refl);
  second_link = (refl, refl);
  chain_ends = refl;
  chained_few = refl;
  crowding_accepted = refl;
  crowded_many = refl;
  warmed_there = refl;
}

pub queueing_given : Given queueing
queueing_given = record { accepted = computed.queueing_accepted; start = omega arith }

pub chaining_given : Given chaining
chaining_given = record { accepted = computed.chaining_accepted; start = omega arith }

pub crowding_given : Given crowding
crowding_given = record { accepted = computed.crowding_accepted; start = omega arith }

-- a spinner with two others and the holder before it
pub third_in_line : Before (step in_line asks).state 0 3 3
third_in_line = (omega (arith, computed.asks_waits.0), computed.asks_waits.1)

-- so the theorem of short queues speaks of this request
pub asks_queue : ShortQueue in_line cold asks in_line.setup.processors
asks_queue = short_queue in_line cold asks (run_sound_by (begin queueing).state _ (begin_sound queueing computed.queueing_accepted (omega arith))) computed.asks_accepted refl computed.asks_short computed.asks_outer

-- a chain of two links, from a suspended job over a spinning one to one that does not wait
pub two_links : WaitsFor chained 0 1 × WaitsFor chained 1 2 × (Waiting chained 2 → ⊥)
two_links = (
  (omega (arith, computed.first_link.0), (λ e. omega arith), computed.first_link.1),
  (omega (arith, computed.second_link.0), (λ e. omega arith), computed.second_link.1),
  λ w. omega (arith, computed.chain_ends),
)

-- fewer jobs than processors, and more
pub few_jobs : how_many (is_runnable chained) most_tasks < chaining.processors
few_jobs = omega (arith, computed.chained_few)

pub many_jobs : crowding.processors < how_many (is_runnable crowded) most_tasks
many_jobs = omega (arith, computed.crowded_many)
