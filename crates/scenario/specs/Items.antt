-- RULES.md, 'Scenarios': the grammar of a scenario. The items, and the one that a line is.
use Rattle.std.specs.Prelude.{ℕ, true, false, not, ◌||◌, List, [], ◌∷◌, leb, length, get_or, drop, if◌then◌else◌}
use Prim.Native.String.{String}
use Rattle.search.specs.Words.{◌is◌}
use Rattle.search.specs.First.{first}
use Rattle.numbers.specs.Rows.{Row, ◌when◌, ◌otherwise◌, first_of}
use Rattle.search.specs.Texts.{codes, value_behind}
use Rattle.input.specs.Kinds.{short, long, arrival, finish, request, completion, passing}
use Rattle.input.specs.Layout.{byte}
use Rattle.scenario.specs.Words.{at_sign, said, first_word, behind, word, are_same, is_number}
use Rattle.scenario.specs.Arguments.{Argument}
use Rattle.scenario.specs.declared.Item.{Item}
use Rattle.scenario.specs.declared.Item.TheVariants.{Blank, Processors, Start, Task, Resource, Pair, Happens, Block, Wrong}

-- ---- what is wrong with a line
-- its first word is no item's name
abbrev pub unknown : ℕ
unknown = 1

-- ---- the sorts of the words after an item's name; a sort's number is also the reason for a word not of it
-- no word more
abbrev pub no_more : ℕ
no_more = 2

-- a number of one byte
abbrev pub a_byte : ℕ
a_byte = 3

-- a number of two bytes
abbrev pub a_period : ℕ
a_period = 4

-- a number of four bytes
abbrev pub a_clock : ℕ
a_clock = 5

-- `@` and a number of two bytes
abbrev pub a_tick : ℕ
a_tick = 6

-- `short` or `long`
abbrev pub a_kind : ℕ
a_kind = 7

-- the largest value of a sort
unfoldable pub most_of : ℕ → ℕ
most_of sort =
    if sort is a_byte then 255 else
    if sort is a_period || sort is a_tick then 65535 else
    if sort is a_clock then 4294967295 else
    if sort is a_kind then long else 0

-- a word that is of its sort, with its value
abbrev pub one : ℕ → Argument
one value = record { right = true; value = value }

-- a word that is not of its sort
abbrev pub not_one : Argument
not_one = record { right = false; value = 0 }

-- a word as a number up to a limit
unfoldable pub number_in : ℕ → List ℕ → Argument
number_in most w = if is_number most w then one (value_behind 0 w) else not_one

-- a word as a tick
unfoldable pub tick_in : List ℕ → Argument
tick_in w = if byte w 0 is at_sign then number_in (most_of a_tick) (drop 1 w) else not_one

-- a word as a kind of resource
unfoldable pub kind_in : List ℕ → Argument
kind_in w = if are_same w (codes "short") then one short else if are_same w (codes "long") then one long else not_one

-- a word as one of a sort
unfoldable pub argument_of : ℕ → List ℕ → Argument
argument_of sort w =
    if sort is no_more then (if length w is 0 then one 0 else not_one) else
    if sort is a_tick then tick_in w else
    if sort is a_kind then kind_in w else
    number_in (most_of sort) w

-- ---- the items
-- an item's name, the sorts of the words after it, and what it says with their values
pub record Entry : Type 0 where
  pub name : List ℕ
  pub sorts : List ℕ
  pub says : (ℕ → ℕ) → Item

-- an entry of the table
abbrev pub entry : String → List ℕ → ((ℕ → ℕ) → Item) → Entry
entry name sorts says = record { name = codes name; sorts = sorts; says = says }

-- the item of an event
abbrev pub event : ℕ → ℕ → ℕ → ℕ → Item
event kind task resource tick = Happens (record { kind = kind; task = task; resource = resource; tick = tick })

-- the table of items
abbrev pub items : List Entry
items =
    entry "processors" (a_clock ∷ []) (λ v. Processors (v 0))
    ∷ entry "start" (a_clock ∷ []) (λ v. Start (v 0))
    ∷ entry "task" (a_period ∷ []) (λ v. Task (v 0))
    ∷ entry "resource" (a_kind ∷ []) (λ v. Resource (v 0))
    ∷ entry "pair" (a_byte ∷ a_byte ∷ []) (λ v. Pair (v 0) (v 1))
    ∷ entry "arrive" (a_byte ∷ a_tick ∷ []) (λ v. event arrival (v 0) 0 (v 1))
    ∷ entry "finish" (a_byte ∷ a_tick ∷ []) (λ v. event finish (v 0) 0 (v 1))
    ∷ entry "request" (a_byte ∷ a_byte ∷ a_tick ∷ []) (λ v. event request (v 0) (v 1) (v 2))
    ∷ entry "complete" (a_byte ∷ a_byte ∷ a_tick ∷ []) (λ v. event completion (v 0) (v 1) (v 2))
    ∷ entry "pass" (a_tick ∷ []) (λ v. event passing 0 0 (v 0))
    ∷ entry "event" (a_byte ∷ a_byte ∷ a_byte ∷ a_tick ∷ []) (λ v. event (v 0) (v 1) (v 2) (v 3))
    ∷ entry "block" [] (λ v. Block)
    ∷ []

-- how many items there are
abbrev pub item_count : ℕ
item_count = 12

-- ---- the item that a line is
-- what is read past the table
abbrev pub no_entry : Entry
no_entry = entry "" [] (λ v. Wrong unknown)

-- the entry of item i
unfoldable pub entry_at : ℕ → Entry
entry_at i = get_or items i no_entry

-- the item with a name; `item_count` where there is none
unfoldable pub item_named : List ℕ → ℕ
item_named w = first (λ i. are_same w (entry_at i).name) 0 item_count

-- the sort of word k after item i's name, from 0 on
unfoldable pub sort_at : ℕ → ℕ → ℕ
sort_at i k = get_or (entry_at i).sorts k no_more

module _ (i : ℕ) (rest : List ℕ) where
  -- word k of `rest`, which is what follows the name, as one of its sort
  abbrev pub argument_at : ℕ → Argument
  argument_at k = argument_of (sort_at i k) (word k rest)

  -- the row for a word that is not of its sort
  abbrev pub misfit : ℕ → Row
  misfit k = sort_at i k when not (argument_at k).right

  -- what may be wrong with the line, from the left
  unfoldable pub wrong_rows : List Row
  wrong_rows =
      unknown when leb item_count i otherwise
      misfit 0 otherwise misfit 1 otherwise misfit 2 otherwise misfit 3 otherwise misfit 4 otherwise
      []

  -- what the line says, its first word naming item i; or what is wrong with it
  unfoldable pub item_behind : Item
  item_behind =
      if first_of wrong_rows is 0 then (entry_at i).says (λ k. (argument_at k).value) else
      Wrong (first_of wrong_rows)

-- the item of what is said on a line
unfoldable pub item_in : List ℕ → Item
item_in l = if length (first_word l) is 0 then Blank else item_behind (item_named (first_word l)) (behind l)

-- the item that a line is
abbrev pub item_of : List ℕ → Item
item_of line = item_in (said line)
