-- Refusals as the code has them, each with its number.
use Rattle.std.specs.Prelude.{ℕ, ◌≡◌, ◌≢◌, Result, Ok, Err, MatchResult}
use Rattle.numbers.specs.declared.answers.Refusal.{Refusal}
use Rattle.numbers.specs.declared.answers.UnknownRefusal.{UnknownRefusal}
use Rattle.numbers.specs.declared.answers.Refusal.TheVariants.{CountOutside, PeriodZero, KindUnknown, PairStray, LongInShort, NotSound, EventUnknown, TaskUnknown, ResourceUnknown, FieldUnused, StepBackward, ClockPastEnd, AlreadyPending, ArrivesEarly, NotPending, IsSuspended, OnNoProcessor, IsSpinning, FinishesOpen, AlreadyOpen, WronglyNested, TooManyOpen, NotNewest, SizeWrong, CheckWrong, NumberWrong, BlockKindWrong, RecordCountWrong, FillerWrong, BufferShort, RoomWrong}
use Rattle.numbers.specs.Refusals as number

-- the number of a refusal
abbrev pub number_of : Refusal → ℕ
number_of CountOutside = number.count_outside
number_of PeriodZero = number.period_zero
number_of KindUnknown = number.kind_unknown
number_of PairStray = number.pair_stray
number_of LongInShort = number.long_in_short
number_of NotSound = number.not_sound
number_of EventUnknown = number.event_unknown
number_of TaskUnknown = number.task_unknown
number_of ResourceUnknown = number.resource_unknown
number_of FieldUnused = number.field_unused
number_of StepBackward = number.step_backward
number_of ClockPastEnd = number.clock_past_end
number_of AlreadyPending = number.already_pending
number_of ArrivesEarly = number.arrives_early
number_of NotPending = number.not_pending
number_of IsSuspended = number.is_suspended
number_of OnNoProcessor = number.on_no_processor
number_of IsSpinning = number.is_spinning
number_of FinishesOpen = number.finishes_open
number_of AlreadyOpen = number.already_open
number_of WronglyNested = number.wrongly_nested
number_of TooManyOpen = number.too_many_open
number_of NotNewest = number.not_newest
number_of SizeWrong = number.size_wrong
number_of CheckWrong = number.check_wrong
number_of NumberWrong = number.number_wrong
number_of BlockKindWrong = number.block_kind_wrong
number_of RecordCountWrong = number.record_count_wrong
number_of FillerWrong = number.filler_wrong
number_of BufferShort = number.buffer_short
number_of RoomWrong = number.room_wrong

-- the number of an answer: 0 where nothing is refused
abbrev pub answer_of : {T : Type 0} → Result T Refusal → ℕ
answer_of (Ok value) = 0
answer_of (Err refusal) = number_of refusal

-- the result is the refusal with this number, or an error with a number that no refusal has
abbrev pub Decodes : ℕ → Result Refusal UnknownRefusal → Type 0
Decodes n r =
    MatchResult r (λ refusal. number_of refusal ≡ n) (λ e. (e.0 ≡ n) × ((refusal : Refusal) → number_of refusal ≢ n))
