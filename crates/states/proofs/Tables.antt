-- An array of records is read in the code with a default of its own; an element that is there is read with any. And what
-- is read of the requests past their limit. Assumes nothing.
use Prim.Native.Nat.{ℕ, suc, ◌≤◌, ◌<◌, min}
use native.Mathlib.Omega.{arith}
use mathlib.Core.Path.{◌≡◌, sym, ap, ◌∙◌}
use mathlib.Core.Bool.{false}
use mathlib.Core.List.{List, []}
use lib.ListN.{length, get_or, get_or-eq_default}
use Rattle.search.specs.Words.{◌is◌}
use Rattle.search.specs.Below.{any_below}
use Rattle.search.proofs.Tests.{any_below_steady}
use Rattle.search.proofs.Tables.{get_d_any}
use Rattle.numbers.specs.Limits.{most_requests, nobody, nothing}
use Rattle.protocol.specs.Records.{no_task, no_group}
use Rattle.protocol.specs.declared.Standing.TheVariants.{Absent}
use Rattle.protocol.specs.declared.Task.{Task}
use Rattle.protocol.specs.declared.Group.{Group}

pub task_read : (l : List Task) (t : ℕ) → t < length l
    → get_or l t record { standing = Absent; deadline = 0; arrived = false; last = 0; requests = []; depth = 0; totals = [] } ≡ get_or l t no_task
task_read l t h = get_d_any l t _ no_task h

pub group_read : (l : List Group) (g : ℕ) → g < length l → get_or l g record { holder = 0; queue = record { tasks = []; len = 0 } } ≡ get_or l g no_group
group_read l g h = get_d_any l g _ no_group h

-- the requests, however many are said to be open, read to one place past their limit
pub kind_read : (kinds requests : List ℕ) (depth kind : ℕ) → length requests ≡ most_requests
    → any_below (min depth (suc most_requests)) (λ i. get_or kinds (get_or requests i nothing) 0 is kind) ≡ any_below depth (λ i. get_or kinds (get_or requests i nothing) 0 is kind)
kind_read kinds requests depth kind sized =
    any_below_steady depth (λ i. get_or kinds (get_or requests i nothing) 0 is kind) most_requests
    (λ i h. ap (λ r. get_or kinds r 0 is kind) (none i h ∙ sym (none most_requests (omega arith))))
  where
    none : (i : ℕ) → most_requests ≤ i → get_or requests i nothing ≡ nobody
    none i h = get_or-eq_default requests nobody (omega arith)
