-- What an answer says of a result, and what the rows of a list of refusals say of an answer. Assumes nothing.
use Prim.Native.Nat.{ℕ}
use mathlib.Core.Path.{◌≡◌, refl, sym, ◌∙◌}
use mathlib.Core.Bool.{Bool, true, false}
use mathlib.Core.List.{List, [], ◌∷◌, ◌++◌}
use borrow.Author.Tests.{eqb-false}
use Rattle.std.specs.Prelude.{Result, Ok, Err, is_ok, if◌then◌else◌}
use Rattle.search.specs.Words.{◌is◌}
use Rattle.numbers.specs.Rows.{first_of}
use Rattle.numbers.specs.Answers.{number_of, answer_of}
use Rattle.numbers.specs.declared.answers.Refusal.{Refusal}
use Rattle.numbers.specs.declared.answers.Refusal.TheVariants.{CountOutside, PeriodZero, KindUnknown, PairStray, LongInShort, NotSound, EventUnknown, TaskUnknown, ResourceUnknown, FieldUnused, StepBackward, ClockPastEnd, AlreadyPending, ArrivesEarly, NotPending, IsSuspended, OnNoProcessor, IsSpinning, FinishesOpen, AlreadyOpen, WronglyNested, TooManyOpen, NotNewest, SizeWrong, CheckWrong, NumberWrong, BlockKindWrong, RecordCountWrong, FillerWrong, BufferShort, RoomWrong}

-- no refusal has the number 0
pub refusal_counts : (r : Refusal) → (number_of r is 0) ≡ false
refusal_counts CountOutside = refl
refusal_counts PeriodZero = refl
refusal_counts KindUnknown = refl
refusal_counts PairStray = refl
refusal_counts LongInShort = refl
refusal_counts NotSound = refl
refusal_counts EventUnknown = refl
refusal_counts TaskUnknown = refl
refusal_counts ResourceUnknown = refl
refusal_counts FieldUnused = refl
refusal_counts StepBackward = refl
refusal_counts ClockPastEnd = refl
refusal_counts AlreadyPending = refl
refusal_counts ArrivesEarly = refl
refusal_counts NotPending = refl
refusal_counts IsSuspended = refl
refusal_counts OnNoProcessor = refl
refusal_counts IsSpinning = refl
refusal_counts FinishesOpen = refl
refusal_counts AlreadyOpen = refl
refusal_counts WronglyNested = refl
refusal_counts TooManyOpen = refl
refusal_counts NotNewest = refl
refusal_counts SizeWrong = refl
refusal_counts CheckWrong = refl
refusal_counts NumberWrong = refl
refusal_counts BlockKindWrong = refl
refusal_counts RecordCountWrong = refl
refusal_counts FillerWrong = refl
refusal_counts BufferShort = refl
refusal_counts RoomWrong = refl

-- nothing is refused exactly where the answer is 0
pub ok_answer : {T : Type 0} (r : Result T Refusal) → is_ok r ≡ (answer_of r is 0)
ok_answer (Ok x) = refl
ok_answer (Err refusal) = sym (refusal_counts refusal)
