-- What is read of a line's words.
use Rattle.std.specs.Prelude.{ℕ, ◌≡◌, Option, None, Some, List, [], ◌∷◌, get_or, Result, Ok, Err, MatchResult, if◌then◌else◌}
use Rattle.scenario.specs.Words.{first_word, behind}
use Rattle.scenario.specs.Arguments.{Argument}
use Rattle.scenario.specs.Items.{no_more, one, not_one, argument_of, entry_at}
use Rattle.scenario.specs.Faults.{reason_number}
use Rattle.scenario.specs.declared.Item.{Item}
use Rattle.scenario.specs.declared.Item.TheVariants.{Wrong}
use Rattle.scenario.specs.declared.faults.Reason.{Reason}

-- a word as one of a sort, as the code has it
abbrev pub argument_from : Option ℕ → Argument
argument_from (Some value) = one value
argument_from None = not_one

-- r is what is read of the first word of `rest`, as one of a sort
abbrev pub IsRead : ℕ → List ℕ → Result ℕ Reason → Type 0
IsRead sort rest r =
    MatchResult r (λ value. argument_of sort (first_word rest) ≡ one value)
    (λ reason. (argument_of sort (first_word rest) ≡ not_one) × (reason_number reason ≡ sort))

-- and that `rest` has no word more
abbrev pub IsEnded : List ℕ → Result (Unit {0}) Reason → Type 0
IsEnded rest r =
    MatchResult r (λ done. argument_of no_more (first_word rest) ≡ one 0)
    (λ reason. (argument_of no_more (first_word rest) ≡ not_one) × (reason_number reason ≡ no_more))

-- an item with the values of words of these sorts from `rest` on, and what is left behind them; or the sort that one of
-- them is not of
unfoldable pub said_by : List ℕ → (List ℕ → Item) → List ℕ → Result (Item × List ℕ) ℕ
said_by [] says rest = Ok (says [], rest)
said_by (sort ∷ sorts) says rest =
    let a = argument_of sort (first_word rest) in
    if a.right then said_by sorts (λ values. says (a.value ∷ values)) (behind rest) else Err sort

-- what item i says with the words from `rest` on
unfoldable pub said_with : ℕ → List ℕ → Result (Item × List ℕ) ℕ
said_with i rest = said_by (entry_at i).sorts (λ values. (entry_at i).says (λ k. get_or values k 0)) rest

-- the same as the code has it, `rest` being what is left
abbrev pub said_as : Result Item Reason → List ℕ → Result (Item × List ℕ) ℕ
said_as (Ok item) rest = Ok (item, rest)
said_as (Err reason) rest = Err (reason_number reason)

-- an item, or what is wrong with it, as the code has it
abbrev pub item_from : Result Item Reason → Item
item_from (Ok item) = item
item_from (Err reason) = Wrong (reason_number reason)
