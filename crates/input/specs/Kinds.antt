-- RULES.md, 'Set-up' and 'The kinds': the kinds of resource and of event, and the table that says which fields each
-- kind of event uses.
use Rattle.std.specs.Prelude.{ℕ, ◌≡◌, ◌≢◌, true, false, [], ◌∷◌, get_or, Result, MatchResult}
use Rattle.input.specs.declared.Event.{Event}
use Rattle.input.specs.declared.Fields.{Fields}
use Rattle.input.specs.declared.events.Kind.{Kind}
use Rattle.input.specs.declared.events.UnknownKind.{UnknownKind}
use Rattle.input.specs.declared.events.Kind.TheVariants.{Arrival, Finish, Request, Completion, Passing}

-- ---- resources
-- a job that waits for it spins
abbrev pub short : ℕ
short = 0

-- a job that waits for it suspends
abbrev pub long : ℕ
long = 1

-- ---- events
-- a job of the task arrives
abbrev pub arrival : ℕ
arrival = 1

-- its job finishes
abbrev pub finish : ℕ
finish = 2

-- its job requests a resource
abbrev pub request : ℕ
request = 3

-- its job completes its request for a resource
abbrev pub completion : ℕ
completion = 4

-- time passes only
abbrev pub passing : ℕ
passing = 5

-- the number of a kind of event as the code has it
abbrev pub kind_number : Kind → ℕ
kind_number Arrival = arrival
kind_number Finish = finish
kind_number Request = request
kind_number Completion = completion
kind_number Passing = passing

-- the result is the kind of event with this number, or an error with a number that no kind has
abbrev pub Decodes : ℕ → Result Kind UnknownKind → Type 0
Decodes n r = MatchResult r (λ kind. kind_number kind ≡ n) (λ e. (e.0 ≡ n) × ((kind : Kind) → kind_number kind ≢ n))

-- an event of no kind: what is read where there is none
abbrev pub no_event : Event
no_event = record { kind = 0; task = 0; resource = 0; tick = 0 }

-- no field is used
abbrev pub neither : Fields
neither = record { task = false; resource = false }

-- only the task is used
abbrev pub task_alone : Fields
task_alone = record { task = true; resource = false }

-- the task and the resource are used
abbrev pub both : Fields
both = record { task = true; resource = true }

-- the fields that kind k uses; 0 is no kind, and neither is a number past the table
unfoldable pub fields_of : ℕ → Fields
fields_of k = get_or (neither ∷ task_alone ∷ task_alone ∷ both ∷ both ∷ neither ∷ []) k neither
