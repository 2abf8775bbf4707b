-- Past the last task nothing is set. Assumes nothing.
use Prim.Native.Nat.{ℕ}
use mathlib.Core.Path.{sym, ap}
use mathlib.Core.List.{List}
use native.Mathlib.Omega.{arith}
use lib.Seq.{set_out}
use Rattle.plain.proofs.moving.OrderedJobs.with_asleep.Goals as goal

pub returns-else-i-lt-LIMIT : goal.returns-else-i-lt-LIMIT
returns-else-i-lt-LIMIT c = ap (λ (m : List ℕ). record { order = c.args.self.now.order; modes = m }) (sym (set_out _ _ _ (omega arith)))
