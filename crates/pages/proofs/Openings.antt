-- The page of each kind of thing read, told by the rules: an accepted block of events, a refused block, the end, and the first block. Assumes nothing.
use Rattle.std.proofs.Common.{◌≡◌, ℕ, suc, ◌+◌, ◌*◌, ◌%◌, ◌≤◌, min, Bool, true, false, ◌≢◌, List, [], ◌∷◌, length, take, drop, refl, add-one, arith, length-take, get_or-drop, get_or-take, eq-eqb, ne_eqb}
use native.Mathlib.Decide.{ℕ_discrete, dec_lt}
use lib.ListN.{get_or-eq_default}
use Rattle.numbers.specs.Rows.{first_of}
use Rattle.search.proofs.Tests.{tests}
use Rattle.search.proofs.Tables.{table_length}
use Rattle.numbers.specs.Limits.{most_processors, most_tasks}
use Rattle.input.specs.Layout.{start_in, setup_in, event_in, event_count, events_in}
use Rattle.input.specs.declared.Setup.{Setup}
use Rattle.setups.specs.Refusals.{setup_refusal}
use Rattle.setups.specs.Clearing.{cleared}
use Rattle.protocol.specs.Words.{last_clock}
use Rattle.protocol.specs.Events.{begin, fresh, run}
use Rattle.input.specs.Words.{no_setup}
use Rattle.protocol.specs.declared.State.{State}
use Rattle.blocks.specs.Sizes.{most_events, payload_at}
use Rattle.blocks.specs.Verdicts.{Used, Refused, used_size, is_first, block_rows, verdict, used_part}
use Rattle.blocks.specs.OneByte.{AreBytes}
use Rattle.blocks.proofs.Numbers.{judge_none}
use Rattle.blocks.proofs.Limits.{used_index, used_events}
use Rattle.lines.specs.Texts.{first_text, block_text, setup_text}
use Rattle.pages.specs.Pages.{wide, events_text, beginning, next_page}
use Rattle.blocks.specs.Files.{refusal_of, part_of}
use Rattle.pages.specs.Files.{answers_text, tasks_text}
use Rattle.pages.specs.Program.{pages}
use Rattle.pages.specs.declared.Session.{Session}
use Rattle.locking.specs.Playing.{played_to, snapshot_at}
use Rattle.locking.proofs.Runs.{played_runs}
use Rattle.pages.proofs.Answers.{answers_printed}

-- a session that goes on, and one that is over, with a refusal or without
abbrev pub at : ℕ → ℕ → State → Session
at index events s = record { index = index; events = events; over = false; state = s; refused = false }

abbrev pub over_at : ℕ → ℕ → State → Bool → Session
over_at index events s refused = record { index = index; events = events; over = true; state = s; refused = refused }

-- ---- verdicts
module _ (block : List ℕ) (index : ℕ) where
  used_of : refusal_of block index ≡ 0 → (n : ℕ) × (verdict block index ≡ Used n)
  unfolding verdict
  used_of h = elim (ℕ_discrete (first_of (block_rows block index)) 0) [
    | yes e ↦ (used_size block (is_first block index), rw (eq-eqb _ _ e))
    | no d ↦ absurd (d (rw (ne_eqb _ _ d) at h))
  ]

  refused_of : refusal_of block index ≢ 0 → verdict block index ≡ Refused (refusal_of block index)
  unfolding verdict
  refused_of h = elim (ℕ_discrete (first_of (block_rows block index)) 0) [
    | yes e ↦ absurd (h (rw (eq-eqb _ _ e)))
    | no d ↦ rw (ne_eqb _ _ d)
  ]

  -- and is not empty
  pub used_long : refusal_of block index ≡ 0 → length block ≢ 0
  unfolding block_rows
  used_long h e = let size = simp tests at ((judge_none block index).0 h 0 (omega arith)) in omega (arith, size)

-- an accepted block of events has so many at most
pub few_events : (block : List ℕ) (index : ℕ) → index ≢ 0 → refusal_of block index ≡ 0 → length (events_in (part_of block index)) ≤ most_events
few_events block index d ok =
    let u = used_of block index ok in
    rw (u.1, table_length (event_in (used_part block (Used u.0))) (event_count (used_part block (Used u.0)))) (used_events block index u.0 u.1 d)

module _ (index events : ℕ) (s : State) where
  -- ---- a refused block, and the end
  pub page_refused : (block : List ℕ) → length block ≢ 0 → refusal_of block index ≢ 0
      → next_page (at index events s) block ≡ (over_at index events s true, block_text index (refusal_of block index))
  unfolding next_page
  page_refused block some d = let v = refused_of block index d in rw (ne_eqb (length block) 0 some, v)

  pub page_end : index ≢ 0 → next_page (at index events s) [] ≡ (over_at index events s false, tasks_text s (min s.setup.tasks most_tasks))
  unfolding next_page
  page_end d = rw (ne_eqb index 0 d)

  -- ---- an accepted block of events
  pub page_played : (block : List ℕ) → index ≢ 0 → refusal_of block index ≡ 0
      → let part = part_of block index in
      next_page (at index events s) block
      ≡ (at (suc index) ((events + event_count part) % wide) (played_to s part (event_count part)), events_text (snapshot_at s part) s.setup.processors events (event_count part))
  unfolding next_page
  page_played block d ok =
      let u = used_of block index ok in
      rw (ne_eqb (length block) 0 (used_long block index ok), u.1, ne_eqb index 0 d, add-one index)

  pub page_used : (block : List ℕ) → index ≢ 0 → events ≤ most_events * index → s.setup.processors ≤ most_processors → refusal_of block index ≡ 0
      → let es = events_in (part_of block index) in
      next_page (at index events s) block ≡ (at (suc index) (events + length es) (run s es), answers_text events s.setup.processors s es)
  page_used block d low few ok =
      let u = used_of block index ok in
      let most = used_index block index u.0 u.1 in
      let part = part_of block index in
      let many : event_count part ≤ most_events = rw (table_length (event_in part) (event_count part)) at (few_events block index d ok) in
      let number : (events + event_count part) % wide ≡ events + event_count part = omega (arith, most, many, low) in
      rw (page_played block d ok, number, played_runs s part, answers_printed s part events s.setup.processors (omega (arith, most, many, low)) few, table_length (event_in part) (event_count part))

-- ---- once the output is over nothing follows
pub pages_over : (index events : ℕ) (s : State) (refused : Bool) (reads : List (List ℕ)) → pages (over_at index events s refused) reads ≡ (over_at index events s refused, [])
unfolding pages next_page
pages_over index events s refused [] = refl
pages_over index events s refused (read ∷ reads) = rw (pages_over index events s refused reads)

-- ---- the first block
-- a part of bytes is of bytes
pub part_bytes : (block : List ℕ) (n k : ℕ) → AreBytes block → AreBytes (take n (drop k block))
part_bytes block n k all i = elim (dec_lt i n) [
  | yes l ↦ rw (get_or-take n (drop k block) i 0 l, get_or-drop k block i 0) (all (k + i))
  | no l ↦ rw (get_or-eq_default (take n (drop k block)) 0 {n = i} (omega (arith, length-take n (drop k block)))) (omega arith)
]

start_small : (bytes : List ℕ) → AreBytes bytes → (setup_in bytes).start ≤ last_clock
unfolding setup_in start_in
start_small bytes all = omega (arith, all 4, all 5, all 6, all 7)

abbrev pub first_setup : List ℕ → Setup
first_setup first = setup_in (part_of first 0)

module _ (first : List ℕ) where
  pub first_start : refusal_of first 0 ≡ 0 → AreBytes first → (first_setup first).start ≤ last_clock
  first_start ok all = let u = used_of first 0 ok in rw u.1 (start_small _ (part_bytes first u.0 payload_at all))

  pub first_refused : length first ≢ 0 → refusal_of first 0 ≢ 0 → next_page beginning first ≡ (over_at 0 0 (fresh no_setup) true, block_text 0 (refusal_of first 0))
  unfolding beginning
  first_refused some d = page_refused 0 0 (fresh no_setup) first some d

  pub setup_refused : refusal_of first 0 ≡ 0 → setup_refusal (first_setup first) ≢ 0 → next_page beginning first ≡ (over_at 0 0 (fresh no_setup) true, setup_text (setup_refusal (first_setup first)))
  unfolding next_page beginning begin
  setup_refused ok d = let u = used_of first 0 ok in
      let e = rw u.1 at d in
      rw (ne_eqb (length first) 0 (used_long first 0 ok), u.1, ne_eqb _ 0 e, ne_eqb _ 0 e)

  pub setup_given : refusal_of first 0 ≡ 0 → setup_refusal (first_setup first) ≡ 0
      → let c = first_setup first in
      next_page beginning first ≡ (at 1 0 (begin c).state, first_text c.processors c.tasks c.start)
  unfolding next_page beginning begin fresh cleared
  setup_given ok good = let u = used_of first 0 ok in
      let e = rw u.1 at good in
      rw (ne_eqb (length first) 0 (used_long first 0 ok), u.1, eq-eqb _ 0 e)
