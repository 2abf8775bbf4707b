-- RULES.md, 'Printing': lines by call, each into a lent buffer, with its number and its length.
use Rattle.std.specs.Prelude.{ℕ, ◌+◌, ◌*◌, min, ◌≡◌, List, [], ◌++◌, ltb, length, if◌then◌else◌}
use Rattle.search.specs.Words.{◌is◌}
use Rattle.numbers.specs.Refusals.{buffer_short}
use Rattle.numbers.specs.Rows.{Row, ◌when◌, ◌otherwise◌, first_of}
use Rattle.numbers.specs.Limits.{most_processors}
use Rattle.input.specs.Layout.{byte}
use Rattle.states.specs.Writing.{written}
use Rattle.search.specs.Texts.{codes, decimal, numbered, each_text}
use Rattle.lines.specs.Texts.{first_text, place_text, task_line_text, block_text, setup_text}
use Rattle.lines.specs.Lines.{Line}

-- a text written into a buffer from `at` on: the next write position, and the buffer after
pub record Put (before : List ℕ) (at : ℕ) (text : List ℕ) (behind : ℕ) (after : List ℕ) : Type 0 where
  pub place : behind ≡ at + length text
  pub bytes : after ≡ written before at text

-- linked/running task on each of the first processors, from the snapshot `line`
abbrev pub places_text : List ℕ → ℕ → List ℕ
places_text snapshot = each_text (λ k. place_text (byte snapshot (2 * k + 1)) (byte snapshot (2 * k + 2)))

-- an event's line, from the snapshot `line`: its number, the answer, and for each processor linked/running task
unfoldable pub event_text : ℕ → ℕ → List ℕ → List ℕ
event_text number count snapshot =
    decimal number ++ numbered " " (byte snapshot 0) ++ places_text snapshot (min count most_processors) ++ codes "\n"

-- the most bytes that linked/running task takes on one processor
abbrev pub place_width : ℕ
place_width = 8

-- the most bytes that one total takes
abbrev pub total_width : ℕ
total_width = 11

-- the least size of a line's buffer, in bytes
abbrev pub line_limit : ℕ
line_limit = 96

-- a line that these rows may refuse: its number and length, and the buffer
unfoldable pub line_into : List Row → List ℕ → List ℕ → Line × List ℕ
line_into rows text out =
    if first_of rows is 0 then (record { number = 0; len = length text }, written out 0 text)
    else (record { number = first_of rows; len = 0 }, out)

-- the refusal of a buffer that is too short for a line
abbrev pub narrow : List ℕ → List Row
narrow out = buffer_short when ltb (length out) line_limit otherwise []

module _ (out : List ℕ) where
  -- the first line
  abbrev pub counts_line : ℕ → ℕ → ℕ → Line × List ℕ
  counts_line m n start = line_into (narrow out) (first_text m n start) out

  -- an event's line, from its snapshot
  abbrev pub places_line : ℕ → ℕ → List ℕ → Line × List ℕ
  places_line number count snapshot = line_into (narrow out) (event_text number count snapshot) out

  -- a task's line
  abbrev pub totals_line : ℕ → List ℕ → Line × List ℕ
  totals_line t totals = line_into (narrow out) (task_line_text t totals) out

  -- a refused block's line
  abbrev pub block_line : ℕ → ℕ → Line × List ℕ
  block_line index refusal = line_into (narrow out) (block_text index refusal) out

  -- a refused set-up's line
  abbrev pub setup_line : ℕ → Line × List ℕ
  setup_line refusal = line_into (narrow out) (setup_text refusal) out
