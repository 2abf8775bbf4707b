-- What the program prints of a whole file is what the rules say. Assumes nothing.
use Rattle.std.proofs.Common.{◌≡◌, ℕ, zero, suc, ◌+◌, ◌-◌, ◌*◌, ◌/◌, ◌<◌, ◌≤◌, min, Bool, true, false, ◌≢◌, ◌↔◌, List, [], ◌∷◌, ◌++◌, length, get_or, take, drop, sym, refl, ap, ◌∙◌, subst, true≢false, append_assoc, append-nil, add-zero, add-suc, suc-add, arith, length-drop, length-take, get_or-take, eq-eqb, ne_eqb}
use native.Mathlib.Decide.{ℕ_discrete, dec_lt}
use lib.ListN.{get_or-eq_default}
use Rattle.search.proofs.Tables.{table_length, table_at}
use Rattle.numbers.specs.Limits.{most_tasks}
use Rattle.input.specs.Layout.{events_in}
use Rattle.input.specs.declared.Setup.{Setup}
use Rattle.setups.specs.Refusals.{setup_refusal}
use Rattle.setups.specs.Clearing.{cleared}
use Rattle.setups.proofs.Accepted.{accepted_iff}
use Rattle.protocol.specs.Events.{run_by, plain, run, begin, fresh, after}
use Rattle.input.specs.Words.{no_setup}
use Rattle.protocol.specs.Demands.{Given}
use Rattle.protocol.specs.declared.State.{State}
use Rattle.protocol.proofs.Sound.Statements.{Sound}
use Rattle.protocol.proofs.Sound.Begin.{begin_sound}
use Rattle.protocol.proofs.Events.Step.{run_sound, run_setup, run_join}
use Rattle.protocol.proofs.Theorems.{demand_3_after, totals_sum_after}
use Rattle.blocks.specs.Sizes.{block_size, most_events}
use Rattle.blocks.specs.Verdicts.{block_rows, verdict}
use Rattle.blocks.specs.OneByte.{AreBytes}
use Rattle.search.specs.Texts.{each_text}
use Rattle.lines.specs.Texts.{first_text, block_text}
use Rattle.pages.specs.Pages.{beginning, next_page}
use Rattle.blocks.specs.Files.{blocks_of, refusal_of, part_of, events_from, setup_of, events_of}
use Rattle.pages.specs.Files.{answers_text, tasks_text, end_text, file_state, file_text}
use Rattle.pages.specs.Program.{pages, FilesPrintTheRules, Accepted, AcceptedIsARun, RefusalsAreReported}
use Rattle.pages.specs.declared.Session.{Session}
use Rattle.pages.proofs.Answers.{answers_join}
use Rattle.pages.proofs.Openings.{at, over_at, page_refused, page_end, page_played, page_used, pages_over, first_setup, first_start, first_refused, setup_refused, setup_given, few_events, part_bytes}

-- no block is empty
abbrev Some : List (List ℕ) → Type 0
Some blocks = (i : ℕ) → i < length blocks → length (get_or blocks i []) ≢ 0

-- one thing read more
pages_step : (x : Session) (read : List ℕ) (reads : List (List ℕ)) {y : Session} {text : List ℕ} → next_page x read ≡ (y, text)
    → pages x (read ∷ reads) ≡ ((pages y reads).0, text ++ (pages y reads).1)
unfolding pages
pages_step x read reads h = rw h

-- ---- the blocks behind the first, and the end, in a session whose set-up is c
module _ (c : Setup) where
  -- what is printed of them, and the state at the end
  abbrev Follows : ℕ → ℕ → State → List (List ℕ) → Session × List ℕ → Type 0
  Follows index events s blocks told =
      let es = events_from index blocks in
      (told.1 ≡ answers_text events c.processors s es ++ end_text index blocks (tasks_text (run s es) c.tasks)) × (told.0.state ≡ run s es)

  abbrev read : List (List ℕ) → List (List ℕ)
  read blocks = blocks ++ ([] ∷ [])

  -- nothing more
  follow_end : (index events : ℕ) (s : State) → Sound s → s.setup ≡ c → index ≢ 0 → Follows index events s [] (pages (at index events s) (read []))
  unfolding events_from end_text each_text run run_by pages
  follow_end index events s Q same d =
      let all : min s.setup.tasks most_tasks ≡ c.tasks = omega (arith, ((accepted_iff s.setup).0 Q.setup).tasks.1, ap (λ (x : Setup). x.tasks) same) in
      rw (page_end index events s d, all)
      (append-nil (tasks_text s c.tasks), refl)

  -- a block refused
  follow_refused : (index events : ℕ) (s : State) (block : List ℕ) (blocks : List (List ℕ)) → length block ≢ 0 → refusal_of block index ≢ 0
      → Follows index events s (block ∷ blocks) (pages (at index events s) (read (block ∷ blocks)))
  unfolding events_from end_text each_text run run_by
  follow_refused index events s block blocks some d =
      rw (pages_step (at index events s) block (read blocks) (page_refused index events s block some d), pages_over index events s true (read blocks), ne_eqb (refusal_of block index) 0 d)
      (append-nil (block_text index (refusal_of block index)), refl)

  -- a block accepted, and what follows it
  follow_used : (index events : ℕ) (s : State) (block : List ℕ) (blocks : List (List ℕ)) → Sound s → s.setup ≡ c → index ≢ 0 → events ≤ most_events * index
      → refusal_of block index ≡ 0
      → let es = events_in (part_of block index) in
      Follows (suc index) (events + length es) (run s es) blocks (pages (at (suc index) (events + length es) (run s es)) (read blocks))
      → Follows index events s (block ∷ blocks) (pages (at index events s) (read (block ∷ blocks)))
  unfolding events_from end_text
  follow_used index events s block blocks Q same d low ok rest =
      let es = events_in (part_of block index) in
      let fs = events_from (suc index) blocks in
      let m = c.processors in
      let own = page_used index events s block d low ((accepted_iff s.setup).0 Q.setup).processors.1 ok in
      let page = subst (λ (x : Setup). next_page (at index events s) block ≡ (at (suc index) (events + length es) (run s es), answers_text events x.processors s es)) same own in
      let text = rw (← (run_join s es fs)) at rest.0 in
      rw (pages_step (at index events s) block (read blocks) page, eq-eqb (refusal_of block index) 0 ok) (
        ap (λ l. answers_text events m s es ++ l) text
            ∙ sym (append_assoc (answers_text events m s es) (answers_text (events + length es) m (run s es) fs) _)
            ∙ ap (λ l. l ++ end_text (suc index) blocks (tasks_text (run s (es ++ fs)) c.tasks)) (sym (answers_join events m s es fs)),
        rest.1 ∙ sym (run_join s es fs),
      )

  -- all of them
  follow : (blocks : List (List ℕ)) (index events : ℕ) (s : State) → Some blocks → Sound s → s.setup ≡ c → index ≢ 0 → events ≤ most_events * index
      → Follows index events s blocks (pages (at index events s) (read blocks))
  follow [] index events s some Q same d low = follow_end index events s Q same d
  follow (block ∷ blocks) index events s some Q same d low = elim (ℕ_discrete (refusal_of block index) 0) [
    | yes ok ↦
        let es = events_in (part_of block index) in
        follow_used index events s block blocks Q same d low ok
        (follow blocks (suc index) (events + length es) (run s es) (λ i l. some (suc i) (omega arith)) (run_sound s es Q) (run_setup s es Q ∙ same) (λ e. omega arith) (omega (arith, few_events block index d ok)))
    | no bad ↦ follow_refused index events s block blocks (some 0 (omega arith)) bad
  ]

-- ---- a whole file
-- the set-up given: what its state has, and what is printed and done from it on
module _ (first : List ℕ) (ok : refusal_of first 0 ≡ 0) (good : setup_refusal (first_setup first) ≡ 0) (all : AreBytes first) where
  abbrev c : Setup
  c = first_setup first

  given : Given c
  given = record { accepted = good; start = first_start first ok all }

  start : Sound (begin c).state
  start = begin_sound c good (first_start first ok all)

  counts : ((begin c).state.setup.processors ≡ c.processors) × ((begin c).state.setup.tasks ≡ c.tasks)
  unfolding begin fresh cleared
  counts = rw (eq-eqb (setup_refusal c) 0 good) (refl, refl)

  behind : (later : List (List ℕ)) → Some later → Follows (begin c).state.setup 1 0 (begin c).state later (pages (at 1 0 (begin c).state) (read (begin c).state.setup later))
  behind later some = follow (begin c).state.setup later 1 0 (begin c).state some start refl (λ e. omega arith) (omega arith)

  whole : (later : List (List ℕ)) → Some later
      → let told = pages beginning (first ∷ later ++ ([] ∷ [])) in
      (told.1 ≡ first_text c.processors c.tasks c.start ++ answers_text 0 c.processors (begin c).state (events_from 1 later) ++ end_text 1 later (tasks_text (after c (plain (events_from 1 later))) c.tasks))
      × (told.0.state ≡ after c (plain (events_from 1 later)))
  unfolding run
  whole later some =
      let all = behind later some in
      let text = rw (counts.0, counts.1) at all.0 in
      rw (pages_step beginning first (later ++ ([] ∷ [])) (setup_given first ok good))
      (ap (λ l. first_text c.processors c.tasks c.start ++ l) text ∙ sym (append_assoc (first_text c.processors c.tasks c.start) _ _), all.1)

-- an output that is over with its first page
first_over : (read : List ℕ) (reads : List (List ℕ)) (text : List ℕ) → next_page beginning read ≡ (over_at 0 0 (fresh no_setup) true, text)
    → ((pages beginning (read ∷ reads)).1 ≡ text) × ((pages beginning (read ∷ reads)).0.state ≡ fresh no_setup)
first_over read reads text page = rw (pages_step beginning read reads page, pages_over 0 0 (fresh no_setup) true reads) (append-nil text, refl)

-- an empty file lacks its first block
none_refused : refusal_of [] 0 ≡ 30
unfolding verdict block_rows
none_refused = refl

no_block : next_page beginning [] ≡ (over_at 0 0 (fresh no_setup) true, block_text 0 (refusal_of [] 0))
unfolding next_page beginning
no_block = rw none_refused

-- what is read of a file: blocks that are not empty, of bytes
record Read (blocks : List (List ℕ)) : Type 0 where
  some : Some blocks
  bytes : (i : ℕ) → AreBytes (get_or blocks i [])

-- the program's text of such blocks and the end, and its state, are those of the rules
by_the_rules : (blocks : List (List ℕ)) → Read blocks
    → let told = pages beginning (blocks ++ ([] ∷ [])) in (told.1 ≡ file_text blocks) × (told.0.state ≡ file_state blocks)
unfolding file_text file_state
by_the_rules [] R = rw (ne_eqb (refusal_of [] 0) 0 (λ e. omega (arith, none_refused))) (first_over [] [] _ no_block)
by_the_rules (first ∷ later) R = elim (ℕ_discrete (refusal_of first 0) 0) [
  | yes ok ↦ elim (ℕ_discrete (setup_refusal (first_setup first)) 0) [
    | yes good ↦ rw (eq-eqb (refusal_of first 0) 0 ok, eq-eqb (setup_refusal (first_setup first)) 0 good) (whole first ok good (R.bytes 0) later (λ i l. R.some (suc i) (omega arith)))
    | no bad ↦ rw (eq-eqb (refusal_of first 0) 0 ok, ne_eqb (setup_refusal (first_setup first)) 0 bad) (first_over first (later ++ ([] ∷ [])) _ (setup_refused first ok bad))
  ]
  | no bad ↦ rw (ne_eqb (refusal_of first 0) 0 bad) (first_over first (later ++ ([] ∷ [])) _ (first_refused first (R.some 0 (omega arith)) bad))
]

-- the end changes no state
end_keeps : (x : Session) (reads : List (List ℕ)) → (pages x (reads ++ ([] ∷ []))).0.state ≡ (pages x reads).0.state
unfolding pages next_page
end_keeps x [] = go x.over refl
  where
    go : (b : Bool) → x.over ≡ b → (next_page x []).0.state ≡ x.state
    go true h = rw h
    go false h = rw h
end_keeps x (read ∷ reads) = end_keeps (next_page x read).0 reads

-- ---- the bytes of a file in blocks
module _ (bytes : List ℕ) (all : AreBytes bytes) where
  abbrev count : ℕ
  count = (length bytes + block_size - 1) / block_size

  block_at : (i : ℕ) → i < count → get_or (blocks_of bytes) i [] ≡ take block_size (drop (block_size * i) bytes)
  unfolding blocks_of
  block_at i l = table_at (λ k. take block_size (drop (block_size * k) bytes)) count i [] l

  how_many_lem : length (blocks_of bytes) ≡ count
  unfolding blocks_of
  how_many_lem = table_length (λ k. take block_size (drop (block_size * k) bytes)) count

  block_some : (i : ℕ) → i < length (blocks_of bytes) → length (get_or (blocks_of bytes) i []) ≢ 0
  block_some i l e =
      let inside : i < count = omega (arith, how_many_lem) in
      omega (arith, rw (block_at i inside) at e, length-take block_size (drop (block_size * i) bytes), length-drop (block_size * i) bytes)

  none_bytes : AreBytes []
  none_bytes i = omega arith

  block_bytes : (i : ℕ) → AreBytes (get_or (blocks_of bytes) i [])
  block_bytes i = elim (dec_lt i count) [
    | yes l ↦ subst AreBytes (sym (block_at i l)) (part_bytes bytes block_size (block_size * i) all)
    | no l ↦ subst AreBytes (sym (get_or-eq_default (blocks_of bytes) [] {n = i} (omega (arith, how_many_lem)))) none_bytes
  ]

  -- the first n of them
  read_first : (n : ℕ) → Read (take n (blocks_of bytes))
  read_first n = record {
    some = λ i l.
        let long = length-take n (blocks_of bytes) in
        rw (get_or-take n (blocks_of bytes) i [] (omega (arith, long))) (block_some i (omega (arith, long)));
    bytes = λ i. elim (dec_lt i n) [
      | yes l ↦ subst AreBytes (sym (get_or-take n (blocks_of bytes) i [] l)) (block_bytes i)
      | no l ↦ subst AreBytes (sym (get_or-eq_default (take n (blocks_of bytes)) [] {n = i} (omega (arith, length-take n (blocks_of bytes))))) none_bytes
    ];
  }

  read_all : Read (blocks_of bytes)
  read_all = record { some = block_some; bytes = block_bytes }

pub files_print_the_rules : FilesPrintTheRules
files_print_the_rules bytes all = record {
  text = (by_the_rules (blocks_of bytes) (read_all bytes all)).0;
  states = λ n. sym (end_keeps beginning (take n (blocks_of bytes))) ∙ (by_the_rules (take n (blocks_of bytes)) (read_first bytes all n)).1;
  demands = λ b n.
      let c = setup_of (blocks_of bytes) in
      let ms = plain (take n (events_of (blocks_of bytes))) in
      let g = given (get_or (blocks_of bytes) 0 []) b.opens b.setup (block_bytes bytes all 0) in
      (demand_3_after c g ms, totals_sum_after c g ms);
}

-- ---- a file whose blocks are all accepted
abbrev AllUsed : ℕ → List (List ℕ) → Type 0
AllUsed index blocks = (i : ℕ) → i < length blocks → refusal_of (get_or blocks i []) (index + i) ≡ 0

used_join : (index : ℕ) (block : List ℕ) (blocks : List (List ℕ)) → refusal_of block index ≡ 0 → AllUsed (suc index) blocks → AllUsed index (block ∷ blocks)
used_join index block blocks ok used zero l = rw (add-zero index) ok
used_join index block blocks ok used (suc i) l = rw (add-suc index i, ← (suc-add index i)) (used i (omega arith))

used_first : (index : ℕ) (block : List ℕ) (blocks : List (List ℕ)) → AllUsed index (block ∷ blocks) → refusal_of block index ≡ 0
used_first index block blocks used = rw (add-zero index) at (used 0 (omega arith))

used_behind : (index : ℕ) (block : List ℕ) (blocks : List (List ℕ)) → AllUsed index (block ∷ blocks) → AllUsed (suc index) blocks
used_behind index block blocks used i l = rw (suc-add index i, ← (add-suc index i)) (used (suc i) (omega arith))

-- of a whole file
from_0 : (blocks : List (List ℕ)) → AllUsed 0 blocks ↔ ((i : ℕ) → i < length blocks → refusal_of (get_or blocks i []) i ≡ 0)
from_0 blocks = (
  (λ used i l. let e : 0 + i ≡ i = omega arith in rw e at (used i l)),
  λ used i l. let e : 0 + i ≡ i = omega arith in rw e (used i l),
)

-- ends with the tasks' lines
end_lines : (index : ℕ) (blocks : List (List ℕ)) (lines : List ℕ) → AllUsed index blocks → end_text index blocks lines ≡ lines
unfolding end_text
end_lines index [] lines used = refl
end_lines index (block ∷ blocks) lines used =
    rw (eq-eqb (refusal_of block index) 0 (used_first index block blocks used)) (end_lines (suc index) blocks lines (used_behind index block blocks used))

pub accepted_is_a_run : AcceptedIsARun
unfolding file_text file_state
accepted_is_a_run [] a = absurd (omega (arith, none_refused, a.begins.opens))
accepted_is_a_run (first ∷ later) a =
    let open-first = eq-eqb (refusal_of first 0) 0 a.begins.opens in
    let setup = eq-eqb (setup_refusal (first_setup first)) 0 a.begins.setup in
    let used : AllUsed 1 later = used_behind 0 first later ((from_0 (first ∷ later)).1 a.follow) in
    record {
      text = rw (open-first, setup, end_lines 1 later _ used);
      states = λ n l. rw (open-first, setup);
    }

-- ---- what the session says of refusals
-- an output that is over with its first page was ended by one
first_reported : (read : List ℕ) (reads : List (List ℕ)) {text : List ℕ} → next_page beginning read ≡ (over_at 0 0 (fresh no_setup) true, text)
    → (pages beginning (read ∷ reads)).0.refused ≡ true
first_reported read reads page = rw (pages_step beginning read reads page, pages_over 0 0 (fresh no_setup) true reads)

-- the blocks behind the first, and the end
reported_behind : (blocks : List (List ℕ)) (index events : ℕ) (s : State) → Some blocks → index ≢ 0
    → ((pages (at index events s) (blocks ++ ([] ∷ []))).0.refused ≡ false) ↔ AllUsed index blocks
unfolding pages
reported_behind [] index events s some d = ((λ h i l. absurd (omega arith)), λ used. rw (page_end index events s d))
reported_behind (block ∷ blocks) index events s some d = elim (ℕ_discrete (refusal_of block index) 0) [
  | yes ok ↦
      let rest = reported_behind blocks (suc index) _ _ (λ i l. some (suc i) (omega arith)) (λ e. omega arith) in
      rw (pages_step (at index events s) block (blocks ++ ([] ∷ [])) (page_played index events s block d ok))
      ((λ h. used_join index block blocks ok (rest.0 h)), λ used. rest.1 (used_behind index block blocks used))
  | no bad ↦
      rw (pages_step (at index events s) block (blocks ++ ([] ∷ [])) (page_refused index events s block (some 0 (omega arith)) bad), pages_over index events s true (blocks ++ ([] ∷ [])))
      ((λ h. absurd (true≢false h)), λ used. absurd (bad (used_first index block blocks used)))
]

-- all blocks of a file, and the end
reported_of : (blocks : List (List ℕ)) → Some blocks → ((pages beginning (blocks ++ ([] ∷ []))).0.refused ≡ false) ↔ Accepted blocks
reported_of [] some = ((λ h. absurd (true≢false (sym (first_reported [] [] no_block) ∙ h))), λ a. absurd (omega (arith, none_refused, a.begins.opens)))
reported_of (first ∷ later) some = elim (ℕ_discrete (refusal_of first 0) 0) [
  | yes ok ↦ elim (ℕ_discrete (setup_refusal (first_setup first)) 0) [
    | yes good ↦
        let rest = reported_behind later 1 0 (begin (first_setup first)).state (λ i l. some (suc i) (omega arith)) (λ e. omega arith) in
        rw (pages_step beginning first (later ++ ([] ∷ [])) (setup_given first ok good))
        ((λ h. record { begins = record { opens = ok; setup = good }; follow = (from_0 (first ∷ later)).0 (used_join 0 first later ok (rest.0 h)) }), λ a. rest.1 (used_behind 0 first later ((from_0 (first ∷ later)).1 a.follow)))
    | no bad ↦ ((λ h. absurd (true≢false (sym (first_reported first (later ++ ([] ∷ [])) (setup_refused first ok bad)) ∙ h))), λ a. absurd (bad a.begins.setup))
  ]
  | no bad ↦ ((λ h. absurd (true≢false (sym (first_reported first (later ++ ([] ∷ [])) (first_refused first (some 0 (omega arith)) bad)) ∙ h))), λ a. absurd (bad a.begins.opens))
]

pub refusals_are_reported : RefusalsAreReported
refusals_are_reported bytes all = reported_of (blocks_of bytes) (block_some bytes all)
