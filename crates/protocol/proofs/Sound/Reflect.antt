-- The test of the sound state and its statements say the same, where the arrays have their lengths. Assumes nothing.
use Prim.Native.Nat.{ℕ, ◌<◌, ◌≤◌}
use mathlib.Core.Path.{◌≡◌, sym, ap, ◌∙◌}
use mathlib.Core.Bool.{true}
use native.Mathlib.Omega.{arith}
use native.Mathlib.Decide.{ℕ_discrete, dec_lt}
use lib.ListN.{length, get_or-eq_default}
use borrow.Author.Tests.{not-true}
use Rattle.search.proofs.Tests.{tests}
use Rattle.queue.specs.Limits.{capacity}
use Rattle.queue.specs.Tidy.{Tidy}
use Rattle.queue.specs.Waiting.{place_of}
use Rattle.queue.proofs.Laws.{tidy_test, place_of_some, place_of_waiter}
use Rattle.scheduler.specs.Placed.{Sized as SizedProcessors}
use Rattle.scheduler.proofs.Testing.{placed_of_test, test_of_placed}
use Rattle.numbers.specs.Limits.{most_tasks, most_resources, most_requests, nobody}
use Rattle.setups.specs.Naming.{group_of}
use Rattle.input.specs.declared.Setup.{Setup}
use Rattle.protocol.specs.Words.{absent, spinning, task, group, stand, asked, depth, request, len, waiter}
use Rattle.protocol.specs.Records.{no_task, no_group}
use Rattle.protocol.specs.Ranks.{jobs}
use Rattle.protocol.specs.Sound.{clock_sound, times_sound, requests_sound, waiting_sound, group_sound, empty_sound, sound}
use Rattle.protocol.specs.declared.State.{State}
use Rattle.protocol.proofs.Sound.Statements.{TimesOk, Waits, TaskOk, GroupOk, Sized, Blank, Sound}
use Rattle.protocol.proofs.Sound.Begin.{no_task_times, no_task_locks, no_task_blank, no_group_locks, no_group_tidy}

-- the lengths of the arrays, which the types know
pub record Shaped (s : State) : Type 0 where
  pub sized : Sized s
  pub processors : SizedProcessors s.processors
  pub queues : (g : ℕ) → length (group s g).queue.tasks ≡ capacity

-- ---- from the test to the statements
module _ (c : Setup) (s : State) (Z : Shaped s) where
  -- past the arrays there is nothing
  by_task_lem : (P : ℕ → Type 0) → ((t : ℕ) → t < most_tasks → P t) → ((t : ℕ) → task s t ≡ no_task → P t) → (t : ℕ) → P t
  by_task_lem P inside past t = elim (dec_lt t most_tasks) [ yes y ↦ inside t y | no y ↦ past t (get_or-eq_default s.tasks no_task {n = t} (omega (arith, Z.sized.tasks))) ]

  by_group : (P : ℕ → Type 0) → ((g : ℕ) → g < most_resources → P g) → ((g : ℕ) → group s g ≡ no_group → P g) → (g : ℕ) → P g
  by_group P inside past g = elim (dec_lt g most_resources) [ yes y ↦ inside g y | no y ↦ past g (get_or-eq_default s.groups no_group {n = g} (omega (arith, Z.sized.groups))) ]

  module _ (t : ℕ) (empty : empty_sound c s t ≡ true) where
    times_of_test : times_sound c s t ≡ true → TimesOk c s.clock s t
    unfolding times_sound empty_sound
    times_of_test e =
        let h = simp tests at e in
        let m = simp tests at empty in
        record {
          arrived = h.0.0.0;
          pending = h.0.0.1;
          undated = h.0.1;
          totals = h.1;
          beyond = λ b. let z = m.1 b in (not-true _ z.0.0.1, z.0.1, z.1);
        }

    blank_of_test : (i : ℕ) → depth s t ≤ i → request s t i ≡ nobody
    unfolding empty_sound request
    blank_of_test i l = elim (dec_lt i most_requests) [
      | yes y ↦ (simp tests at empty).0 i y l
      | no y ↦ get_or-eq_default (task s t).requests nobody {n = i} (omega (arith, Z.sized.requests t))
    ]

  -- the test's part of a group: its queue is tidy
  tidy_of_test : (g : ℕ) → group_sound c s g ≡ true → Tidy (group s g).queue
  unfolding group_sound
  tidy_of_test g e = (tidy_test (group s g).queue (Z.queues g)).0 (simp tests at e).0.0.0.1

  group_of_test : (g : ℕ) → group_sound c s g ≡ true → GroupOk c s nobody g
  unfolding group_sound
  group_of_test g e =
      let h = simp tests at e in
      let place = h.0.1 in
      record {
        held = h.0.0.0.0;
        queued = h.0.0.1;
        once = λ i k l m q. sym (place i l) ∙ ap (place_of (group s g).queue) q ∙ place k m;
        only_held = λ _. h.1;
      }

  module _ (tidy : (g : ℕ) → Tidy (group s g).queue) (t : ℕ) (t_in : t < most_tasks) where
    waits_of_test : waiting_sound c s t ≡ true → spinning ≤ stand s t → Waits c s t
    unfolding waiting_sound len waiter
    waits_of_test e q =
        let h = (simp tests at e) q in
        let g = group_of c (asked s t) in
        record {
          inside = h.0.0.0.0.0;
          kinds = h.0.0.0.0.1;
          place = (place_of_some (group s g).queue t (tidy g) (λ z. omega arith)).0 h.0.0.0.1;
          apart = h.0.0.1;
          asleep = h.0.1;
          room = h.1;
        }

    task_of_test : requests_sound c s t ≡ true → waiting_sound c s t ≡ true → empty_sound c s t ≡ true → TaskOk c s t
    unfolding requests_sound empty_sound
    task_of_test e w m =
        let h = simp tests at e in
        let o = simp tests at m in
        record {
          opened = record {
            few = h.0.0.0.0.0;
            held = h.0.0.0.0.1;
            once = λ i k l m q. h.0.0.0.1 i l k m q;
            longs_first = λ i k b l q. h.0.0.1 i l q k b;
            one_group = λ i k l m q. h.0.1 i l k m q;
          };
          none = h.1;
          inside = λ d. elim (dec_lt t c.tasks) [ yes y ↦ y | no y ↦ absurd (d (o.1 (omega arith)).0.0.0) ];
          waits = waits_of_test w;
        }

pub sound_of_test : (s : State) → Shaped s → sound s ≡ true → Sound s
unfolding sound clock_sound
sound_of_test s Z e =
    let c = s.setup in
    let h = simp tests at e in
    let empties = h.1 in
    let groups = h.0.1 in
    let waits = h.0.0.1 in
    let requests = h.0.0.0.1 in
    let times = h.0.0.0.0.0.0.1 in
    let clock = h.0.0.0.0.0.0.0.1 in
    let tidy = by_group c s Z (λ g. Tidy (group s g).queue) (λ g l. tidy_of_test c s Z g (groups g l)) (no_group_tidy c s) in
    record {
      setup = h.0.0.0.0.0.0.0.0.0;
      clean = h.0.0.0.0.0.0.0.0.1;
      count = h.0.0.0.0.0.1;
      times = record {
        start = clock.0;
        clock = clock.1;
        tasks = by_task_lem c s Z (TimesOk c s.clock s) (λ t l. times_of_test c s Z t (empties t l) (times t l)) (λ t n. no_task_times c s t n s.clock);
      };
      steady = record {
        sized = Z.sized;
        blank = record {
          requests = by_task_lem c s Z (λ t. (i : ℕ) → depth s t ≤ i → request s t i ≡ nobody) (λ t l. blank_of_test c s Z t (empties t l)) (λ t n i _. no_task_blank c s t n i);
          queues = tidy;
        };
        locks = record {
          tasks = by_task_lem c s Z (TaskOk c s) (λ t l. task_of_test c s Z tidy t l (requests t l) (waits t l) (empties t l)) (no_task_locks c s);
          groups = by_group c s Z (GroupOk c s nobody) (λ g l. group_of_test c s Z g (groups g l)) (λ g n. no_group_locks c s g n nobody);
        };
      };
      placed = placed_of_test s.processors (jobs c s) Z.processors h.0.0.0.0.1;
    }

-- ---- and back
module _ (c : Setup) (s : State) where
  test_of_times : (t : ℕ) → TimesOk c s.clock s t → times_sound c s t ≡ true
  unfolding times_sound
  test_of_times t K = simp tests (((K.arrived, K.pending), K.undated), K.totals)

  test_of_requests : (t : ℕ) → TaskOk c s t → requests_sound c s t ≡ true
  unfolding requests_sound
  test_of_requests t K =
      let O = K.opened in
      simp tests (((((O.few, O.held), λ i l k m q. O.once i k l m q), λ i l q k b. O.longs_first i k b l q), λ i l k m q. O.one_group i k l m q), K.none)

  test_of_empty : (t : ℕ) → Blank s → TimesOk c s.clock s t → TaskOk c s t → empty_sound c s t ≡ true
  unfolding empty_sound
  test_of_empty t B K O = simp tests (
    (λ i _ l. B.requests t i l),
    λ b.
        let z = K.beyond b in
        let out : stand s t ≡ absent = elim (ℕ_discrete (stand s t) absent) [ yes y ↦ y | no y ↦ absurd (omega (arith, O.inside y)) ] in
        (((out, rw z.0), z.1), z.2),
  )

  test_of_waits : (t : ℕ) → t < most_tasks → Blank s → TaskOk c s t → waiting_sound c s t ≡ true
  unfolding waiting_sound len waiter
  test_of_waits t l B K = simp tests (λ q.
      let W = K.waits q in
      let g = group_of c (asked s t) in
      (((((W.inside, W.kinds), (place_of_some (group s g).queue t (B.queues g) (λ z. omega arith)).1 W.place), W.apart), W.asleep), W.room))

  test_of_group : (g : ℕ) → g < most_resources → Blank s → GroupOk c s nobody g → group_sound c s g ≡ true
  unfolding group_sound len waiter
  test_of_group g l B K =
      let q = (group s g).queue in
      simp tests ((((K.held, (tidy_test q (B.queues g).sized).1 (B.queues g)), K.queued), λ i m. place_of_waiter q i (B.queues g) K.once m), K.only_held (λ z. omega arith))

pub test_of_sound : (s : State) → Sound s → sound s ≡ true
unfolding sound clock_sound
test_of_sound s Q =
    let c = s.setup in
    let T = Q.times in
    let S = Q.steady in
    let B = S.blank in
    let L = S.locks in
    simp tests (
      (
        (
          (
            (((((Q.setup, Q.clean), (T.start, T.clock)), λ t _. test_of_times c s t (T.tasks t)), Q.count), test_of_placed s.processors (jobs c s) Q.placed),
            λ t _. test_of_requests c s t (L.tasks t),
          ),
          λ t l. test_of_waits c s t l B (L.tasks t),
        ),
        λ g l. test_of_group c s g l B (L.groups g),
      ),
      λ t _. test_of_empty c s t B (T.tasks t) (L.tasks t),
    )
