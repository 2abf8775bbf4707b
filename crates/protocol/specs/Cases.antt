-- RULES.md, 'The worked cases': P1 to P12, and two cases of two processors, in one table under one statement,
-- computed with the rules. A step is refused with 9 where the state is not sound, so the sound test runs at every step.
use Rattle.std.specs.Prelude.{ℕ, ◌-◌, Bool, true, false, ◌&&◌, List, [], ◌∷◌, ◌++◌, map, ◌≡◌, refl, length, take, replicate}
use Rattle.search.specs.Words.{◌is◌}
use Rattle.search.specs.Below.{all_below, any_below, how_many}
use Rattle.search.specs.First.{first}
use Rattle.search.specs.Best.{best, better}
use Rattle.search.specs.Table.{table}
use Rattle.queue.specs.Waiting.{waiting, waiter as queued, empty, appended, moved_up, without_first, place_of, is_clear as tidy_at, is_tidy}
use Rattle.processors.specs.Words.{runs, rank_of, mode_of, link_of, run_of, none_linked}
use Rattle.scheduler.specs.Arriving.{lowest_free, lowest_linked, displacing, arriving_on, taken, arriving as linking}
use Rattle.scheduler.specs.Leaving.{becoming_preemptable, next_task, filling, refilling, leaving_from, leaving, giving_way}
use Rattle.scheduler.specs.PlacedTest.{is_placed}
use Rattle.numbers.specs.Limits.{most_tasks, most_resources, most_pairs, nobody}
use Rattle.setups.specs.Refusals.{setup_rows, setup_refusal}
use Rattle.setups.specs.Naming.{joined_by, names_after, names, group_of}
use Rattle.setups.specs.Clearing.{below, cleared, empty_from, is_clear}
use Rattle.input.specs.Kinds.{fields_of}
use Rattle.input.specs.declared.Setup.{Setup}
use Rattle.input.specs.declared.Event.{Event}
use Rattle.protocol.specs.Records.{total_count}
use Rattle.protocol.specs.Words.{task, stand, asked, deadline, depth, request, holder, len, waiter}
use Rattle.protocol.specs.Ranks.{own, least_of, long_held, effective, short_open, jobs}
use Rattle.protocol.specs.Situations.{situation, is_foremost, total_for}
use Rattle.protocol.specs.Sound.{clock_sound, times_sound, requests_sound, waiting_sound, group_sound, empty_sound, sound}
use Rattle.protocol.specs.Refusals.{misplaced, event_rows, judge}
use Rattle.protocol.specs.Locks.{open_of_kind, opens, enqueues, closes, frees, dequeues, passes}
use Rattle.protocol.specs.Events.{arrives, leaves, becomes_preemptable, gives_way, arrive_event, finish_event, request_event, complete_event, charged, act, step_by, step, fresh, begin}
use Rattle.protocol.specs.declared.State.{State}
use Rattle.protocol.specs.Replies.{Reply}

-- an event, its answer, and for each processor the linked and the running task
record Line : Type 0 where
  event : Event
  answer : ℕ
  linked : List ℕ
  running : List ℕ

-- a set-up, the names of its resources' groups, the events, and each task's six totals at the end
record Case : Type 0 where
  setup : Setup
  groups : List ℕ
  lines : List Line
  totals : List (List ℕ)

-- two lists are equal
abbrev same : List ℕ → List ℕ → Bool
same [] [] = true
same [] (y ∷ ys) = false
same (x ∷ xs) [] = false
same (x ∷ xs) (y ∷ ys) = x is y && same xs ys

-- two lists of lists are equal
abbrev sames : List (List ℕ) → List (List ℕ) → Bool
sames [] [] = true
sames [] (y ∷ ys) = false
sames (x ∷ xs) [] = false
sames (x ∷ xs) (y ∷ ys) = same x y && sames xs ys

-- every case passes
abbrev all : (Case → Bool) → List Case → Bool
all ok [] = true
all ok (x ∷ xs) = ok x && all ok xs

-- each line comes out as written, and at the end the totals do
abbrev follows : List Line → List (List ℕ) → State → Bool
follows [] totals s = sames (map (λ t. (task s t).totals) (table (λ t. t) s.setup.tasks)) totals
follows (l ∷ ls) totals s =
    let r = step s l.event in
    let n = s.processors.count in
    r.answer is l.answer && same (take n r.state.processors.linked) l.linked
    && same (take n r.state.processors.running) l.running && follows ls totals r.state

-- the set-up is accepted, its groups have these names, and its events give these lines and totals
abbrev holds : Case → Bool
holds c =
    let r = begin c.setup in
    r.answer is 0
    && same (map (group_of c.setup) (table (λ i. i) c.setup.resources)) c.groups
    && follows c.lines c.totals r.state

-- ---- how a case is written
-- a list filled up to n places with 0
abbrev filled : ℕ → List ℕ → List ℕ
filled n xs = xs ++ replicate (n - length xs) 0

-- a set-up by its processors, start, periods, kinds, and the outer and the inner resources of its pairs
abbrev pub given : ℕ → ℕ → List ℕ → List ℕ → List ℕ → List ℕ → Setup
given m start periods kinds outer inner = record {
  processors = m;
  tasks = length periods;
  resources = length kinds;
  pairs = length outer;
  start = start;
  periods = filled most_tasks periods;
  kinds = filled most_resources kinds;
  outer = filled most_pairs outer;
  inner = filled most_pairs inner;
}

-- an event by its kind, task, resource and tick
abbrev pub event : ℕ → ℕ → ℕ → ℕ → Event
event k t r tick = record { kind = k; task = t; resource = r; tick = tick }

-- a line by its event, answer, linked tasks and running tasks
abbrev line : ℕ → ℕ → ℕ → ℕ → ℕ → List ℕ → List ℕ → Line
line k t r tick a l n = record { event = event k t r tick; answer = a; linked = l; running = n }

abbrev two : ℕ → ℕ → List ℕ
two a b = a ∷ b ∷ []

abbrev one : ℕ → List ℕ
one a = a ∷ []

-- the set-up of the printed case
abbrev pub printed : Setup
printed = given 2 65530 (100 ∷ 200 ∷ 50 ∷ []) (one 0) [] []

-- the first four steps of the printed case
abbrev four_steps : List Line
four_steps =
    line 1 0 0 65530 0 (two 0 nobody) (two 0 nobody)
    ∷ line 1 1 0 65532 0 (two 0 1) (two 0 1)
    ∷ line 3 1 0 65535 0 (two 0 1) (two 0 1)
    ∷ line 1 2 0 2 0 (two 0 2) (two 0 1)
    ∷ []

-- the cases
abbrev cases : List Case
cases =
    -- P1 to P8: the printed case
    record {
      setup = printed;
      groups = one 0;
      lines =
          four_steps
          ++ line 3 0 0 4 0 (two 0 2) (two 0 1)
          ∷ line 4 1 0 9 0 (two 0 2) (two 0 2)
          ∷ line 2 1 0 9 19 (two 0 2) (two 0 2)
          ∷ line 2 2 0 12 0 (two 0 1) (two 0 1)
          ∷ [];
      totals = (13 ∷ 5 ∷ 0 ∷ 0 ∷ 0 ∷ 0 ∷ []) ∷ (13 ∷ 0 ∷ 0 ∷ 3 ∷ 0 ∷ 0 ∷ []) ∷ (3 ∷ 0 ∷ 7 ∷ 0 ∷ 0 ∷ 0 ∷ []) ∷ [];
    }
    -- P9: after step 4, task 0 finishes at tick 4
    ∷ record {
      setup = printed;
      groups = one 0;
      lines =
          four_steps
          ++ line 2 0 0 4 0 (two 2 1) (two 2 1)
          ∷ [];
      totals = (10 ∷ 0 ∷ 0 ∷ 0 ∷ 0 ∷ 0 ∷ []) ∷ (8 ∷ 0 ∷ 0 ∷ 0 ∷ 0 ∷ 0 ∷ []) ∷ (0 ∷ 0 ∷ 2 ∷ 0 ∷ 0 ∷ 0 ∷ []) ∷ [];
    }
    -- P10: one processor and a long resource; the holder inherits
    ∷ record {
      setup = given 1 0 (300 ∷ 100 ∷ 200 ∷ []) (one 1) [] [];
      groups = one 0;
      lines =
          line 1 0 0 0 0 (one 0) (one 0)
          ∷ line 3 0 0 0 0 (one 0) (one 0)
          ∷ line 1 1 0 10 0 (one 1) (one 1)
          ∷ line 3 1 0 10 0 (one 0) (one 0)
          ∷ line 1 2 0 20 0 (one 0) (one 0)
          ∷ line 4 0 0 20 0 (one 1) (one 1)
          ∷ [];
      totals = (20 ∷ 0 ∷ 0 ∷ 0 ∷ 0 ∷ 0 ∷ []) ∷ (0 ∷ 0 ∷ 0 ∷ 0 ∷ 10 ∷ 0 ∷ []) ∷ (0 ∷ 0 ∷ 0 ∷ 0 ∷ 0 ∷ 0 ∷ []) ∷ [];
    }
    -- P11: step 32,767 is accepted, 32,768 is not
    ∷ record {
      setup = given 1 0 (one 1) [] [] [];
      groups = [];
      lines =
          line 5 0 0 32768 14 (one nobody) (one nobody)
          ∷ line 5 0 0 32767 0 (one nobody) (one nobody)
          ∷ line 5 0 0 65535 14 (one nobody) (one nobody)
          ∷ [];
      totals = replicate total_count 0 ∷ [];
    }
    -- P12: pairs (2,1) and (1,0), all short: one group, named 0
    ∷ record {
      setup = given 1 0 (one 1) (0 ∷ 0 ∷ 0 ∷ []) (two 2 1) (two 1 0);
      groups = 0 ∷ 0 ∷ 0 ∷ [];
      lines = [];
      totals = replicate total_count 0 ∷ [];
    }
    -- Direct blocking. Task 1 is suspended from 10 on. Tasks 2 and 3 outrank it from 20 and from 40 on, of which 2 is
    -- suspended; 3 finishes at 50. From 40 to 50 it is therefore not one of the two highest. What 0 inherits does not
    -- count.
    ∷ record {
      setup = given 2 0 (1000 ∷ 300 ∷ 200 ∷ 100 ∷ []) (one 1) [] [];
      groups = one 0;
      lines =
          line 1 0 0 0 0 (two 0 nobody) (two 0 nobody)
          ∷ line 3 0 0 0 0 (two 0 nobody) (two 0 nobody)
          ∷ line 1 1 0 0 0 (two 0 1) (two 0 1)
          ∷ line 3 1 0 10 0 (two 0 nobody) (two 0 nobody)
          ∷ line 1 2 0 20 0 (two 0 2) (two 0 2)
          ∷ line 3 2 0 30 0 (two 0 nobody) (two 0 nobody)
          ∷ line 1 3 0 40 0 (two 0 3) (two 0 3)
          ∷ line 2 3 0 50 0 (two 0 nobody) (two 0 nobody)
          ∷ line 4 0 0 60 0 (two 0 1) (two 0 1)
          ∷ [];
      totals =
          (60 ∷ 0 ∷ 0 ∷ 0 ∷ 0 ∷ 0 ∷ [])
          ∷ (10 ∷ 0 ∷ 0 ∷ 0 ∷ 40 ∷ 10 ∷ [])
          ∷ (10 ∷ 0 ∷ 0 ∷ 0 ∷ 30 ∷ 0 ∷ [])
          ∷ (10 ∷ 0 ∷ 0 ∷ 0 ∷ 0 ∷ 0 ∷ [])
          ∷ [];
    }
    -- Giving way. Task 0 completes while 2 runs, non-preemptable, where 3 is linked: 0 gives way to 2, and 3 moves.
    -- Then task 1 resumes, higher than 2 by what it inherits from 4 alone. At the end 4 is suspended, 0 is ready, and 1
    -- is linked but not running.
    ∷ record {
      setup = given 2 0 (1000 ∷ 800 ∷ 500 ∷ 300 ∷ 100 ∷ []) (two 1 0) [] [];
      groups = two 0 1;
      lines =
          line 1 0 0 0 0 (two 0 nobody) (two 0 nobody)
          ∷ line 3 0 0 0 0 (two 0 nobody) (two 0 nobody)
          ∷ line 1 1 0 1 0 (two 0 1) (two 0 1)
          ∷ line 3 1 0 2 0 (two 0 nobody) (two 0 nobody)
          ∷ line 1 2 0 3 0 (two 0 2) (two 0 2)
          ∷ line 3 2 1 4 0 (two 0 2) (two 0 2)
          ∷ line 1 4 0 5 0 (two 4 2) (two 4 2)
          ∷ line 3 4 0 6 0 (two 0 2) (two 0 2)
          ∷ line 1 3 0 7 0 (two 0 3) (two 0 2)
          ∷ line 4 0 0 8 0 (two 3 1) (two 3 2)
          ∷ line 2 4 0 9 26 (two 3 1) (two 3 2)
          ∷ line 4 4 0 9 26 (two 3 1) (two 3 2)
          ∷ line 1 4 0 9 16 (two 3 1) (two 3 2)
          ∷ line 2 0 0 9 19 (two 3 1) (two 3 2)
          ∷ line 2 1 0 9 19 (two 3 1) (two 3 2)
          ∷ [];
      totals =
          (7 ∷ 0 ∷ 0 ∷ 1 ∷ 0 ∷ 0 ∷ [])
          ∷ (1 ∷ 0 ∷ 0 ∷ 0 ∷ 3 ∷ 3 ∷ [])
          ∷ (5 ∷ 0 ∷ 0 ∷ 0 ∷ 0 ∷ 0 ∷ [])
          ∷ (0 ∷ 0 ∷ 1 ∷ 0 ∷ 0 ∷ 0 ∷ [])
          ∷ (1 ∷ 0 ∷ 0 ∷ 0 ∷ 2 ∷ 0 ∷ [])
          ∷ [];
    }
    ∷ []

-- every case holds
pub cases_hold : all holds cases ≡ true
unfolding all_below any_below how_many first best better table waiting queued empty appended moved_up without_first place_of tidy_at is_tidy rank_of mode_of link_of run_of none_linked lowest_free lowest_linked displacing arriving_on taken linking becoming_preemptable next_task filling refilling leaving_from leaving giving_way is_placed setup_rows setup_refusal joined_by names_after names group_of below cleared empty_from is_clear fields_of stand asked deadline depth request holder len waiter own least_of long_held effective short_open jobs situation is_foremost total_for clock_sound times_sound requests_sound waiting_sound group_sound empty_sound sound misplaced event_rows judge open_of_kind opens enqueues closes frees dequeues passes arrives leaves becomes_preemptable gives_way arrive_event finish_event request_event complete_event charged act step_by step fresh begin
cases_hold = refl

-- the state that the printed case begins with
abbrev pub opening : State
opening = (begin printed).state

-- its first event
abbrev pub event₁ : Event
event₁ = event 1 0 0 65530

-- its second event
abbrev pub event₂ : Event
event₂ = event 1 1 0 65532

-- what the rules answer to the first
abbrev pub reply₁ : Reply
reply₁ = step opening event₁

-- what the rules answer to the second
abbrev pub reply₂ : Reply
reply₂ = step reply₁.state event₂

-- where the replies and the states differ: in the first answer, and in the task that a processor runs
pub differences : (reply₁.answer ≡ 0) × (runs opening.processors 0 ≡ 255) × (runs reply₁.state.processors 0 ≡ 0)
    × (runs reply₁.state.processors 1 ≡ 255) × (runs reply₂.state.processors 1 ≡ 1)
unfolding all_below any_below how_many first best better table waiting queued empty appended moved_up without_first place_of tidy_at is_tidy rank_of mode_of link_of run_of none_linked lowest_free lowest_linked displacing arriving_on taken linking becoming_preemptable next_task filling refilling leaving_from leaving giving_way is_placed setup_rows setup_refusal joined_by names_after names group_of below cleared empty_from is_clear fields_of stand asked deadline depth request holder len waiter own least_of long_held effective short_open jobs situation is_foremost total_for clock_sound times_sound requests_sound waiting_sound group_sound empty_sound sound misplaced event_rows judge open_of_kind opens enqueues closes frees dequeues passes arrives leaves becomes_preemptable gives_way arrive_event finish_event request_event complete_event charged act step_by step fresh begin
differences = (refl, refl, refl, refl, refl)
