-- Why a line is faulty, as the code has it, with the number of each reason.
use Rattle.std.specs.Prelude.{ℕ, ◌≡◌, ◌≢◌, Result, MatchResult}
use Rattle.scenario.specs.Items.{unknown, no_more, a_byte, a_period, a_clock, a_tick, a_kind}
use Rattle.scenario.specs.Drafts.{late, twice, full, missing}
use Rattle.scenario.specs.declared.faults.Sort.{Sort}
use Rattle.scenario.specs.declared.faults.Sort.TheVariants.{NoMore, Byte, Period, Clock, Tick, Kind}
use Rattle.scenario.specs.declared.faults.Reason.{Reason}
use Rattle.scenario.specs.declared.faults.Reason.TheVariants.{Unknown, Misfit, Late, Twice, Full, Missing}
use Rattle.scenario.specs.declared.faults.UnknownReason.{UnknownReason}

-- the number of a sort
abbrev pub sort_number : Sort → ℕ
sort_number NoMore = no_more
sort_number Byte = a_byte
sort_number Period = a_period
sort_number Clock = a_clock
sort_number Tick = a_tick
sort_number Kind = a_kind

-- the number of a reason
abbrev pub reason_number : Reason → ℕ
reason_number Unknown = unknown
reason_number (Misfit sort) = sort_number sort
reason_number Late = late
reason_number Twice = twice
reason_number Full = full
reason_number Missing = missing

-- the result is the reason with this number, or an error with a number that no reason has
abbrev pub IsReasonOf : ℕ → Result Reason UnknownReason → Type 0
IsReasonOf n r =
    MatchResult r (λ reason. reason_number reason ≡ n)
    (λ e. (e.0 ≡ n) × ((reason : Reason) → reason_number reason ≢ n))
