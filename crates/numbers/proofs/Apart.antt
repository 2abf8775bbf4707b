-- A number of a refusal is that of one refusal, and never 0; so the number of an answer without a value tells answers apart. Assumes nothing.
use Rattle.std.proofs.Common.{◌≡◌, ℕ, refl, ap, sym, ◌∙◌, Ok, Err, if◌then◌else◌}
use borrow.Author.Tests.{eqb-false}
use Rattle.std.specs.Prelude.{◌≢◌}
use Rattle.search.specs.Views.{TellsApart}
use Rattle.search.specs.Words.{◌is◌}
use Rattle.numbers.specs.Answers.{number_of, answer_of}
use Rattle.numbers.proofs.Answered.{refusal_counts}
use Rattle.numbers.specs.declared.answers.Refusal.{Refusal}
use Rattle.numbers.specs.declared.answers.Refusal.TheVariants.{CountOutside, PeriodZero, KindUnknown, PairStray, LongInShort, NotSound, EventUnknown, TaskUnknown, ResourceUnknown, FieldUnused, StepBackward, ClockPastEnd, AlreadyPending, ArrivesEarly, NotPending, IsSuspended, OnNoProcessor, IsSpinning, FinishesOpen, AlreadyOpen, WronglyNested, TooManyOpen, NotNewest, SizeWrong, CheckWrong, NumberWrong, BlockKindWrong, RecordCountWrong, FillerWrong, BufferShort, RoomWrong}

-- the refusal with a number; past the list the last one
abbrev refusal_at : ℕ → Refusal
refusal_at n =
    if n is 1 then CountOutside else
    if n is 2 then PeriodZero else
    if n is 3 then KindUnknown else
    if n is 4 then PairStray else
    if n is 5 then LongInShort else
    if n is 9 then NotSound else
    if n is 10 then EventUnknown else
    if n is 11 then TaskUnknown else
    if n is 12 then ResourceUnknown else
    if n is 13 then FieldUnused else
    if n is 14 then StepBackward else
    if n is 15 then ClockPastEnd else
    if n is 16 then AlreadyPending else
    if n is 17 then ArrivesEarly else
    if n is 18 then NotPending else
    if n is 26 then IsSuspended else
    if n is 19 then OnNoProcessor else
    if n is 20 then IsSpinning else
    if n is 21 then FinishesOpen else
    if n is 22 then AlreadyOpen else
    if n is 23 then WronglyNested else
    if n is 24 then TooManyOpen else
    if n is 25 then NotNewest else
    if n is 30 then SizeWrong else
    if n is 31 then CheckWrong else
    if n is 32 then NumberWrong else
    if n is 33 then BlockKindWrong else
    if n is 34 then RecordCountWrong else
    if n is 35 then FillerWrong else
    if n is 36 then BufferShort else
    RoomWrong

-- it is read back from its number
read_back : (r : Refusal) → refusal_at (number_of r) ≡ r
read_back CountOutside = refl
read_back PeriodZero = refl
read_back KindUnknown = refl
read_back PairStray = refl
read_back LongInShort = refl
read_back NotSound = refl
read_back EventUnknown = refl
read_back TaskUnknown = refl
read_back ResourceUnknown = refl
read_back FieldUnused = refl
read_back StepBackward = refl
read_back ClockPastEnd = refl
read_back AlreadyPending = refl
read_back ArrivesEarly = refl
read_back NotPending = refl
read_back IsSuspended = refl
read_back OnNoProcessor = refl
read_back IsSpinning = refl
read_back FinishesOpen = refl
read_back AlreadyOpen = refl
read_back WronglyNested = refl
read_back TooManyOpen = refl
read_back NotNewest = refl
read_back SizeWrong = refl
read_back CheckWrong = refl
read_back NumberWrong = refl
read_back BlockKindWrong = refl
read_back RecordCountWrong = refl
read_back FillerWrong = refl
read_back BufferShort = refl
read_back RoomWrong = refl

-- no two refusals have one number, and none has 0
pub numbers_apart : TellsApart number_of
numbers_apart r q e = sym (read_back r) ∙ ap refusal_at e ∙ read_back q

pub numbered : (r : Refusal) → number_of r ≢ 0
numbered r = eqb-false _ 0 (refusal_counts r)

-- the number of an answer without a value tells answers apart
pub answers_apart : TellsApart (answer_of {T = Unit {0}})
answers_apart (Ok x) (Ok y) e = refl
answers_apart (Ok x) (Err q) e = absurd (numbered q (sym e))
answers_apart (Err r) (Ok y) e = absurd (numbered r e)
answers_apart (Err r) (Err q) e = ap Err (numbers_apart r q e)
