-- What became of an item, as the code has it.
use Rattle.std.specs.Prelude.{Result, Ok, Err}
use Rattle.numbers.specs.Answers.{number_of}
use Rattle.scenario.specs.Outcomes.{Taken, Written, Refused}
use Rattle.scenario.specs.Drafts.{kept, faulty}
use Rattle.scenario.specs.Faults.{reason_number}
use Rattle.scenario.specs.declared.Draft.{Draft}
use Rattle.scenario.specs.declared.Taken.{Taken as Code}
use Rattle.scenario.specs.declared.Taken.TheVariants.{Kept as KeptIn, Written as WrittenBy}
use Rattle.scenario.specs.declared.faults.Reason.{Reason}
use Rattle.scenario.specs.declared.faults.Trouble.{Trouble}
use Rattle.scenario.specs.declared.faults.Trouble.TheVariants.{Faulty as FaultyFor, Refused as RefusedFor}

-- an item of the set-up: it is kept, or faulty, and then the draft d stays as it was
abbrev pub kept_from : Draft → Result Draft Reason → Taken
kept_from d (Ok next) = kept next
kept_from d (Err reason) = faulty d (reason_number reason)

-- any item: where it is faulty, or its block refused, the draft d stays as it was
abbrev pub taken_from : Draft → Result Code Trouble → Taken
taken_from d (Ok (KeptIn next)) = kept next
taken_from d (Ok (WrittenBy next)) = record { draft = next; outcome = Written }
taken_from d (Err (FaultyFor reason)) = faulty d reason
taken_from d (Err (RefusedFor refusal)) = record { draft = d; outcome = Refused (number_of refusal) }
