-- The names of the items, by their places in the table.
use Rattle.std.specs.Prelude.{ℕ, Option, Some, None}
use Rattle.scenario.specs.Items.{item_count}
use Rattle.scenario.specs.declared.items.Name.{Name}
use Rattle.scenario.specs.declared.items.Name.TheVariants.{Processors, Start, Task, Resource, Pair, Arrive, Finish, Request, Complete, Pass, Event, Block}

-- the place of a name
abbrev pub place : Name → ℕ
place Processors = 0
place Start = 1
place Task = 2
place Resource = 3
place Pair = 4
place Arrive = 5
place Finish = 6
place Request = 7
place Complete = 8
place Pass = 9
place Event = 10
place Block = 11

-- the place of the name that a word is, past the table where it is none
abbrev pub place_of : Option Name → ℕ
place_of (Some name) = place name
place_of None = item_count
