-- `start_in` meets its contract. Assumes nothing.
use borrow.Author.Rules.{rules}
use native.Mathlib.Omega.{arith}
use Prim.Native.Nat.{◌+◌}
use Rattle.search.specs.Table.{table}
use Rattle.search.proofs.Chains.{made_table}
use Rattle.input.specs.Layout.{byte, start_at, start_in}
use Rattle.input.proofs.reading.start_in.Goals as goal

pub returns : goal.returns
unfolding start_in table
returns c =
    let four = made_table {h = λ i. byte c.args.part.now (start_at + i)} c.from_fn.ensures.items (λ x y q k. search rules) in
    rw (c.from_le_bytes.ensures, four) (omega arith)
