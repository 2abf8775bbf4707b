-- RULES.md, 'The sound state', clause by clause in its order, as a test of any state.
use Rattle.std.specs.Prelude.{ℕ, ◌+◌, ◌-◌, Bool, not, ◌&&◌, leb, ltb}
use Rattle.search.specs.Words.{◌is◌, ◌isn't◌, ◌implies◌}
use Rattle.search.specs.Below.{all_below, any_below}
use Rattle.queue.specs.Limits.{capacity}
use Rattle.queue.specs.Waiting.{place_of, is_tidy}
use Rattle.scheduler.specs.PlacedTest.{is_placed}
use Rattle.numbers.specs.Limits.{most_tasks, most_resources, most_requests, nobody, nothing}
use Rattle.input.specs.Kinds.{long}
use Rattle.input.specs.Words.{due_at, kind}
use Rattle.setups.specs.Refusals.{setup_refusal}
use Rattle.setups.specs.Naming.{group_of}
use Rattle.setups.specs.Clearing.{is_clear}
use Rattle.input.specs.declared.Setup.{Setup}
use Rattle.protocol.specs.Words.{last_clock, sum, absent, spinning, suspended, task, group, stand, asked, deadline, depth, request, holder, len, waiter}
use Rattle.protocol.specs.Ranks.{jobs}
use Rattle.protocol.specs.declared.State.{State}

module _ (c : Setup) (s : State) where
  -- the start is at most the clock, and the clock at most its end
  unfoldable pub clock_sound : Bool
  clock_sound = leb c.start s.clock && leb s.clock last_clock

  -- the last arrival, where there was one, is between start and clock; a pending job has arrived, and its deadline is
  -- its last arrival plus its period; without a job the deadline is 0; the totals sum to at most clock minus start
  unfoldable pub times_sound : ℕ → Bool
  times_sound t =
      ((task s t).arrived implies (leb c.start (task s t).last && leb (task s t).last s.clock))
      && (stand s t isn't absent implies ((task s t).arrived && deadline s t is due_at c t (task s t).last))
      && (stand s t is absent implies deadline s t is 0)
      && leb (sum (task s t).totals) (s.clock - c.start)

  -- the kind of the i-th open request of t
  abbrev request_kind : ℕ → ℕ → ℕ
  request_kind t i = kind c (request s t i)

  -- the group of the i-th open request of t
  abbrev request_group : ℕ → ℕ → ℕ
  request_group t i = group_of c (request s t i)

  -- the open requests are at most eight; each is of a resource in the table, whose group t holds; they are distinct,
  -- longs before shorts, those of one kind in one group; there is none without a job
  unfoldable pub requests_sound : ℕ → Bool
  requests_sound t =
      leb (depth s t) most_requests
      && all_below (depth s t) (λ i. ltb (request s t i) c.resources && holder s (request_group t i) is t)
      && all_below (depth s t) (λ i. all_below (depth s t) (λ k. request s t i is request s t k implies i is k))
      && all_below (depth s t) (λ i. request_kind t i is long implies all_below i (λ k. request_kind t k is long))
      && all_below (depth s t) (λ i. all_below (depth s t) (λ k.
      request_kind t i is request_kind t k implies request_group t i is request_group t k))
      && (stand s t is absent implies depth s t is 0)

  -- a waiting job asked for a resource in the table, of the kind that it waits by, and is in the queue of its group;
  -- nothing of that kind is open, and nothing at all if it is suspended; fewer than eight requests are open
  unfoldable pub waiting_sound : ℕ → Bool
  waiting_sound t =
      leb spinning (stand s t) implies (
      ltb (asked s t) c.resources
      && stand s t is spinning + kind c (asked s t)
      && ltb (place_of (group s (group_of c (asked s t))).queue t) capacity
      && all_below (depth s t) (λ i. request_kind t i isn't kind c (asked s t))
      && (stand s t is suspended implies depth s t is 0)
      && ltb (depth s t) most_requests)

  -- the holder, if any, has a request open in the group; the queue is tidy; each queued job waits for a resource of
  -- this group, and is queued once; without a holder the queue is empty
  unfoldable pub group_sound : ℕ → Bool
  group_sound g =
      (holder s g isn't nobody implies any_below (depth s (holder s g)) (λ i. request_group (holder s g) i is g))
      && is_tidy (group s g).queue
      && all_below (len s g) (λ i. leb spinning (stand s (waiter s g i)) && group_of c (asked s (waiter s g i)) is g)
      && all_below (len s g) (λ i. place_of (group s g).queue (waiter s g i) is i)
      && (holder s g is nobody implies len s g is 0)

  -- task t never had a job
  abbrev is_unused : ℕ → Bool
  is_unused t = stand s t is absent && not (task s t).arrived && (task s t).last is 0 && sum (task s t).totals is 0

  -- places past the counts are empty: a task's requests past its depth, and a task past the count
  unfoldable pub empty_sound : ℕ → Bool
  empty_sound t =
      all_below most_requests (λ i. leb (depth s t) i implies request s t i is nothing)
      && (leb c.tasks t implies is_unused t)

-- every clause holds
unfoldable pub sound : State → Bool
sound s =
    let c = s.setup in
    setup_refusal c is 0 && is_clear c
    && clock_sound c s && all_below most_tasks (times_sound c s)
    && s.processors.count is c.processors && is_placed s.processors (jobs c s)
    && all_below most_tasks (requests_sound c s) && all_below most_tasks (waiting_sound c s)
    && all_below most_resources (group_sound c s)
    && all_below most_tasks (empty_sound c s)
