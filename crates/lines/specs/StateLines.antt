-- RULES.md, 'Printing': the lines of a state, which must be sound.
use Rattle.std.specs.Prelude.{ℕ, not, List, leb}
use Rattle.numbers.specs.Refusals.{not_sound, task_unknown}
use Rattle.numbers.specs.Rows.{Row, ◌when◌, ◌otherwise◌}
use Rattle.protocol.specs.Words.{task}
use Rattle.protocol.specs.Sound.{sound}
use Rattle.protocol.specs.declared.State.{State}
use Rattle.states.specs.Writing.{snapshot_of}
use Rattle.lines.specs.Texts.{first_text, task_line_text}
use Rattle.lines.specs.Buffers.{event_text, line_into, narrow}
use Rattle.lines.specs.Lines.{Line}

-- the refusal of a state that is not sound, and then the later ones
abbrev pub unsound : State → List Row → List Row
unsound s later = not_sound when not (sound s) otherwise later

-- the refusals of a line of a state: 9, 36
abbrev pub state_rows : State → List ℕ → List Row
state_rows s out = unsound s (narrow out)

-- the refusals of a task's line: 9, 11, 36
abbrev pub task_rows : State → ℕ → List ℕ → List Row
task_rows s t out = unsound s (task_unknown when leb s.setup.tasks t otherwise narrow out)

module _ (out : List ℕ) where
  -- the first line
  abbrev pub first_line : State → Line × List ℕ
  first_line s = line_into (state_rows s out) (first_text s.setup.processors s.setup.tasks s.setup.start) out

  -- the line of an event with this number and answer that left s
  abbrev pub event_line : State → ℕ → ℕ → Line × List ℕ
  event_line s number answer =
      line_into (state_rows s out) (event_text number s.setup.processors (snapshot_of answer s.processors)) out

  -- a task's line
  abbrev pub task_line : State → ℕ → Line × List ℕ
  task_line s t = line_into (task_rows s t out) (task_line_text t (task s t).totals) out
