-- The loop's invariant: those ahead among the tasks passed are counted. Assumes nothing.
use Rattle.std.proofs.Common.{◌≡◌, ◌≤◌, get_or}
use Rattle.search.specs.Below.{how_many}
use Rattle.protocol.specs.Words.{absent}
use Rattle.locking.specs.Ranking.{is_lower}
use Rattle.locking.proofs.ranking.ahead_of.Given as goal

abbrev pub invariant-loop-u : goal.invariant-loop-u
invariant-loop-u l = (l.u ≤ l.count) × (l.ahead ≡ how_many (λ u. is_lower (get_or l.stands u absent) (get_or l.own u 0) l.rank) l.u)
