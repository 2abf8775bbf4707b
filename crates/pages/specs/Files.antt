-- RULES.md, 'Printing', of a whole file: all the text, and the state at its end, by the rules alone.
use Rattle.std.specs.Prelude.{ℕ, suc, ◌+◌, ◌&&◌, List, [], ◌∷◌, ◌++◌, length, if◌then◌else◌}
use Rattle.search.specs.Words.{◌is◌}
use Rattle.search.specs.Texts.{codes, decimal, numbered, each_text}
use Rattle.processors.specs.Words.{link, runs}
use Rattle.input.specs.Words.{no_setup}
use Rattle.input.specs.declared.Event.{Event}
use Rattle.setups.specs.Refusals.{setup_refusal}
use Rattle.protocol.specs.Words.{task}
use Rattle.protocol.specs.Events.{plain, begin, fresh, after, reply_at}
use Rattle.protocol.specs.declared.State.{State}
use Rattle.protocol.specs.Replies.{Reply}
use Rattle.blocks.specs.Files.{refusal_of, first_block, later_blocks, setup_of, events_of}
use Rattle.lines.specs.Texts.{first_text, place_text, task_line_text, block_text, setup_text}

-- ---- what is printed
-- an event's line: its number, the answer, and for each processor linked/running task
unfoldable pub answer_text : ℕ → ℕ → Reply → List ℕ
answer_text number m r =
    let p = r.state.processors in
    decimal number ++ numbered " " r.answer ++ each_text (λ k. place_text (link p k) (runs p k)) m ++ codes "\n"

-- a line for each event, numbered on from `before`
abbrev pub answers_text : ℕ → ℕ → State → List Event → List ℕ
answers_text before m s es = each_text (λ n. answer_text (before + suc n) m (reply_at s es n)) (length es)

-- a line for each of the first tasks of s
abbrev pub tasks_text : State → ℕ → List ℕ
tasks_text s = each_text (λ t. task_line_text t (task s t).totals)

-- how the output ends: with the first block from an index on that is refused, else with the tasks' lines
unfoldable pub end_text : ℕ → List (List ℕ) → List ℕ → List ℕ
end_text index [] lines = lines
end_text index (block ∷ blocks) lines =
    if refusal_of block index is 0 then end_text (suc index) blocks lines else block_text index (refusal_of block index)

-- ---- a whole file, by its blocks
module _ (blocks : List (List ℕ)) where
  -- the state after all events
  abbrev pub state_of : State
  state_of = after (setup_of blocks) (plain (events_of blocks))

  -- the state at the end; a file without an accepted set-up leaves the empty one
  unfoldable pub file_state : State
  file_state =
      if refusal_of (first_block blocks) 0 is 0 && setup_refusal (setup_of blocks) is 0 then state_of else
      fresh no_setup

  -- all that is printed
  unfoldable pub file_text : List ℕ
  file_text =
      let c = setup_of blocks in
      if refusal_of (first_block blocks) 0 is 0 then (
      if setup_refusal c is 0 then
      first_text c.processors c.tasks c.start
      ++ answers_text 0 c.processors (begin c).state (events_of blocks)
      ++ end_text 1 (later_blocks blocks) (tasks_text state_of c.tasks)
      else setup_text (setup_refusal c))
      else block_text 0 (refusal_of (first_block blocks) 0)
