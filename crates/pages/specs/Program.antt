-- RULES.md, 'Printing' and 'The demands', of the whole program: what it prints of a file is what the rules say, and
-- demand 3 holds at every line. proofs/Files proves the theorems.
use Rattle.std.specs.Prelude.{◌≡◌, ℕ, suc, ◌<◌, false, ◌↔◌, List, [], ◌∷◌, ◌++◌, length, take, slice_index_or}
use Rattle.input.specs.declared.Setup.{Setup}
use Rattle.input.specs.declared.Event.{Event}
use Rattle.setups.specs.Refusals.{setup_refusal}
use Rattle.protocol.specs.Events.{plain, begin, after}
use Rattle.protocol.specs.Demands.{Demand3, TotalsSum}
use Rattle.blocks.specs.OneByte.{AreBytes}
use Rattle.lines.specs.Texts.{first_text}
use Rattle.pages.specs.Pages.{beginning, next_page}
use Rattle.blocks.specs.Files.{blocks_of, refusal_of, first_block, setup_of, events_of}
use Rattle.pages.specs.Files.{state_of, answers_text, tasks_text, file_state, file_text}
use Rattle.pages.specs.declared.Session.{Session}

-- ---- the program
-- the session after some reads, and the text of their pages, one after another
unfoldable pub pages : Session → List (List ℕ) → Session × List ℕ
pages x [] = (x, [])
pages x (read ∷ reads) =
    let page = next_page x read in
    let rest = pages page.0 reads in
    (rest.0, page.1 ++ rest.1)

-- what is printed of a file; at its end the program reads nothing
abbrev pub printed : List ℕ → List ℕ
printed bytes = (pages beginning (blocks_of bytes ++ ([] ∷ []))).1

-- the first block is accepted, and so is its set-up
pub record Begins (blocks : List (List ℕ)) : Type 0 where
  pub opens : refusal_of (first_block blocks) 0 ≡ 0
  pub setup : setup_refusal (setup_of blocks) ≡ 0

-- demand 3 at every line, before the first of some events and after each; and the six totals of each task sum to the
-- ticks that it has been pending
abbrev pub DemandsHold : Setup → List Event → Type 0
DemandsHold c es = (n : ℕ) → Demand3 c (plain (take n es)) × TotalsSum c (plain (take n es))

-- ---- any file
-- what is printed, the state after each number of blocks, and the demands
pub record PrintsTheRules (bytes : List ℕ) : Type 0 where
  pub text : printed bytes ≡ file_text (blocks_of bytes)
  pub states : (n : ℕ) → (pages beginning (take n (blocks_of bytes))).0.state ≡ file_state (take n (blocks_of bytes))
  pub demands : Begins (blocks_of bytes) → DemandsHold (setup_of (blocks_of bytes)) (events_of (blocks_of bytes))

-- that holds of every file
abbrev pub FilesPrintTheRules : Type 0
FilesPrintTheRules = (bytes : List ℕ) → AreBytes bytes → PrintsTheRules bytes

-- ---- an accepted file
-- its blocks and its set-up are accepted
pub record Accepted (blocks : List (List ℕ)) : Type 0 where
  pub begins : Begins blocks
  pub follow : (i : ℕ) → i < length blocks → refusal_of (slice_index_or blocks i []) i ≡ 0

-- its text and its states are those of a run of its events from its set-up
pub record IsARun (blocks : List (List ℕ)) : Type 0 where
  pub text : file_text blocks
      ≡ first_text (setup_of blocks).processors (setup_of blocks).tasks (setup_of blocks).start
      ++ answers_text 0 (setup_of blocks).processors (begin (setup_of blocks)).state (events_of blocks)
      ++ tasks_text (state_of blocks) (setup_of blocks).tasks
  -- the state after block n: that of its set-up, which stays, and of the events of the blocks up to it
  pub states : (n : ℕ) → n < length blocks
      → file_state (take (suc n) blocks) ≡ after (setup_of blocks) (plain (events_of (take (suc n) blocks)))

-- that holds of every accepted file
abbrev pub AcceptedIsARun : Type 0
AcceptedIsARun = (blocks : List (List ℕ)) → Accepted blocks → IsARun blocks

-- ---- what the session says at the end of a file
-- nothing was refused exactly where the file is accepted
abbrev pub RefusalsAreReported : Type 0
RefusalsAreReported = (bytes : List ℕ) → AreBytes bytes
    → ((pages beginning (blocks_of bytes ++ ([] ∷ []))).0.refused ≡ false) ↔ Accepted (blocks_of bytes)
