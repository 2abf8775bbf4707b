-- How many tasks outrank each suspended one: `ahead`, kept up to date while a part of events is played. It is counted
-- in the tables of the standings' numbers and of the own ranks, over the first `count` tasks.
use Rattle.std.specs.Prelude.{◌≡◌, ℕ, ◌<◌, Bool, ◌&&◌, ◌≢◌, List, length, nat_lt, slice_index, slice_index_or}
use Rattle.search.specs.Words.{◌isn't◌}
use Rattle.search.specs.Below.{how_many}
use Rattle.numbers.specs.Limits.{most_tasks}
use Rattle.protocol.specs.Words.{absent, suspended}

-- a task of this standing's number and this rank is pending, with a lower rank than the other
abbrev pub is_lower : ℕ → ℕ → ℕ → Bool
is_lower standing rank other = standing isn't absent && nat_lt rank other

module _ (stands own : List ℕ) (count : ℕ) where
  -- how many outrank t
  abbrev pub ahead_of : ℕ → ℕ
  ahead_of t = how_many (λ u. is_lower (slice_index_or stands u absent) (slice_index own u) (slice_index own t)) count

  -- `ahead` is right for each suspended task
  pub record Ranked (ahead : List ℕ) : Type 0 where
    pub long : length ahead ≡ most_tasks
    pub at : (u : ℕ) → u < count → slice_index_or stands u absent ≡ suspended → slice_index ahead u ≡ ahead_of u

  -- the same, but for t
  pub record RankedBut (t : ℕ) (ahead : List ℕ) : Type 0 where
    pub long : length ahead ≡ most_tasks
    pub at : (u : ℕ) → u < count → u ≢ t → slice_index_or stands u absent ≡ suspended → slice_index ahead u ≡ ahead_of u
