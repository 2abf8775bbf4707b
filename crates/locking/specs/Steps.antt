-- Parts of the rules, over what the code has at hand.
use Rattle.std.specs.Prelude.{◌≡◌, ℕ, ◌+◌, ◌-◌, Bool, ◌&&◌, ◌||◌, List, [], length, take, leb, ltb, get_or, if◌then◌else◌}
use Rattle.search.specs.Words.{◌is◌, ◌isn't◌}
use Rattle.search.specs.Below.{any_below}
use Rattle.processors.specs.declared.Processors.{Processors}
use Rattle.input.specs.Kinds.{short, long, arrival, finish, request, completion}
use Rattle.input.specs.Words.{within, period}
use Rattle.input.specs.declared.Setup.{Setup}
use Rattle.input.specs.declared.Event.{Event}
use Rattle.setups.specs.Naming.{names}
use Rattle.numbers.specs.Limits.{most_requests, nothing}
use Rattle.numbers.specs.Refusals.{step_backward, clock_past_end, already_pending, arrives_early, finishes_open, already_open, wrongly_nested, too_many_open, not_newest}
use Rattle.numbers.specs.Rows.{Row, ◌when◌, ◌otherwise◌, first_of}
use Rattle.protocol.specs.Words.{last_clock, absent, standing_no, task}
use Rattle.protocol.specs.Situations.{situation_of, situation_refusal}
use Rattle.protocol.specs.Refusals.{backward, ticks_to, field_rows}
use Rattle.protocol.specs.Sound.{sound}
use Rattle.protocol.specs.declared.Task.{Task}
use Rattle.protocol.specs.declared.State.{State}
use Rattle.protocol.specs.Records.{with_totals}

-- r may not be requested while q is open: r is long and q short, or they are of one kind in different groups
abbrev pub is_apart : List ℕ → List ℕ → ℕ → ℕ → Bool
is_apart kinds naming r q =
    (get_or kinds r 0 is long && get_or kinds q 0 is short)
    || (get_or kinds q 0 is get_or kinds r 0 && get_or naming q nothing isn't get_or naming r nothing)

-- the open requests of a task
abbrev pub open_in : Task → List ℕ
open_in k = take k.depth k.requests

-- ---- the refusals 10 to 26, kind by kind; k is the record of the event's task
-- 14 and 15
abbrev pub clock_rows : ℕ → ℕ → List Row
clock_rows clock tick =
    step_backward when leb backward (ticks_to clock tick) otherwise
    clock_past_end when ltb last_clock (clock + ticks_to clock tick) otherwise
    []

-- 16 and 17: an arrival at `now`
abbrev pub arrival_rows : Task → ℕ → ℕ → List Row
arrival_rows k now least =
    already_pending when standing_no k.standing isn't absent otherwise
    arrives_early when k.arrived && ltb now (k.last + least) otherwise
    []

-- 21: a finish, with these requests open
abbrev pub finish_rows : List ℕ → List Row
finish_rows requests = finishes_open when length requests isn't 0 otherwise []

-- 22 to 24: a request of r, with these open
abbrev pub request_rows : List ℕ → List ℕ → List ℕ → ℕ → List Row
request_rows kinds naming requests r =
    already_open when any_below (length requests) (λ i. get_or requests i nothing is r) otherwise
    wrongly_nested when any_below (length requests) (λ i. is_apart kinds naming r (get_or requests i nothing)) otherwise
    too_many_open when length requests is most_requests otherwise
    []

-- 25: a completion of r, with these open
abbrev pub completion_rows : List ℕ → ℕ → List Row
completion_rows requests r =
    not_newest when length requests is 0 || get_or requests (length requests - 1) nothing isn't r otherwise
    []

-- this answer, or where it is 0 the next one
infixr 20 ◌or_then◌
abbrev pub ◌or_then◌ : ℕ → ℕ → ℕ
m or_then n = if m is 0 then n else m

module _ (c : Setup) (clock : ℕ) (k : Task) (p : Processors) (naming : List ℕ) (e : Event) where
  -- 16 to 25: what the event's kind asks of its task
  abbrev pub kind_answer : ℕ
  kind_answer =
      if e.kind is arrival then first_of (arrival_rows k (clock + ticks_to clock e.tick) (period c e.task))
      else if within finish e.kind completion then
      situation_refusal (situation_of (standing_no k.standing) p e.task) or_then (
      if e.kind is finish then first_of (finish_rows (open_in k))
      else if e.kind is request then first_of (request_rows c.kinds naming (open_in k) e.resource)
      else first_of (completion_rows (open_in k) e.resource))
      else 0

  -- the first of 10 to 26 that applies, or 0
  abbrev pub parts_answer : ℕ
  parts_answer =
      first_of (field_rows c.tasks c.resources e) or_then
      first_of (clock_rows clock e.tick) or_then
      kind_answer

-- what an event's answer is computed from: the set-up and the clock of s, the record of the event's task, whose
-- totals do not matter, the processors, the groups' names, and whether s is sound
pub record HasParts
    (s : State) (c : Setup) (clock : ℕ) (k : Task) (p : Processors) (naming : List ℕ) (tested : Bool) (e : Event)
    : Type 0 where
  pub given : c ≡ s.setup
  pub timed : clock ≡ s.clock
  pub totals : List ℕ
  pub recorded : task s e.task ≡ with_totals totals k
  pub placed : p ≡ s.processors
  pub named : naming ≡ names c
  pub truly : tested ≡ sound s
