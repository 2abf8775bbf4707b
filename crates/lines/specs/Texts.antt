-- RULES.md, 'Printing': the text of each line.
use Rattle.std.specs.Prelude.{ℕ, List, ◌++◌, length, get_or, if◌then◌else◌}
use Rattle.search.specs.Words.{◌is◌}
use Rattle.numbers.specs.Limits.{nothing}
use Rattle.search.specs.Texts.{codes, decimal, numbered, each_text}

-- the first line: the counts of processors and tasks, and the start
unfoldable pub first_text : ℕ → ℕ → ℕ → List ℕ
first_text m n start = numbered "processors " m ++ numbered " tasks " n ++ numbered " start " start ++ codes "\n"

-- a task, or `-` for none
unfoldable pub task_text : ℕ → List ℕ
task_text t = if t is nothing then codes "-" else decimal t

-- linked/running task on a processor
abbrev pub place_text : ℕ → ℕ → List ℕ
place_text linked running = codes " " ++ task_text linked ++ codes "/" ++ task_text running

-- the first totals of a list
abbrev pub totals_text : List ℕ → ℕ → List ℕ
totals_text totals = each_text (λ k. numbered " " (get_or totals k 0))

-- a task's line: its number and its totals
unfoldable pub task_line_text : ℕ → List ℕ → List ℕ
task_line_text t totals = numbered "task " t ++ totals_text totals (length totals) ++ codes "\n"

-- a refused block's line
unfoldable pub block_text : ℕ → ℕ → List ℕ
block_text index refusal = numbered "block " index ++ numbered " refused " refusal ++ codes "\n"

-- a refused set-up's line
unfoldable pub setup_text : ℕ → List ℕ
setup_text refusal = numbered "setup refused " refusal ++ codes "\n"
