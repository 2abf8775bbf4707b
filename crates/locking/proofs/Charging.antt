-- No total of a task is past their sum; a place that a loop has yet to reach. Assumes nothing.
use Rattle.std.proofs.Common.{◌≡◌, ℕ, zero, suc, ◌<◌, ◌≤◌, List, [], ◌∷◌, ◌++◌, length, get_or, drop, arith, drop-cons}
use lib.Seq.{get_or_at}
use Rattle.search.specs.Table.{table}
use Rattle.search.proofs.Tables.{table_length}
use Rattle.protocol.specs.Words.{sum}

pub at_sum : (l : List ℕ) (i : ℕ) → get_or l i 0 ≤ sum l
at_sum [] i = omega arith
at_sum (x ∷ xs) zero = omega arith
at_sum (x ∷ xs) (suc i) = omega (arith, at_sum xs i)

-- a place that a loop over a list has yet to reach
pub rest_at {ℓ} : {A : Type ℓ} (f : ℕ → A) (l : List A) (i : ℕ) (d : A) → i < length l → get_or (table f i ++ drop i l) i d ≡ get_or l i d
rest_at f l i d h = rw (drop-cons l i d h) (get_or_at (table f i) (get_or l i d) (drop (suc i) l) d i (table_length f i))
