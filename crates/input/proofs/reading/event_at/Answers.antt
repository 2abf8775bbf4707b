-- `event_at` meets its contract. Assumes nothing.
use Prim.Native.Nat.{ℕ, ◌≤◌, ◌+◌, ◌*◌}
use mathlib.Core.Path.{◌≡◌}
use native.Mathlib.Omega.{arith}
use lib.ListN.{get_or-eq_default}
use Rattle.input.specs.Layout.{byte, event_size, event_in}
use Rattle.input.proofs.reading.event_at.Goals as goal

pub returns-then-part-i : goal.returns-then-part-i
unfolding event_in
returns-then-part-i c =
    let s = c.args in
    let l = s.part.now in
    let n = event_size * s.i in
    let past : (k : ℕ) → n ≤ k → byte l k ≡ 0 = λ k h. get_or-eq_default l 0 (omega arith) in
    rw (past n (omega arith), past (n + 1) (omega arith), past (n + 2) (omega arith), past (n + 4) (omega arith), past (n + 4 + 1) (omega arith))

pub returns : goal.returns
unfolding event_in
returns c =
    let n = event_size * c.args.i in
    let e : n + 5 ≡ n + 4 + 1 = omega arith in
    rw (c.word_of.ensures, c.byte_at-5.ensures, c.byte_at-4.ensures, c.byte_at-3.ensures, c.byte_at-2.ensures, c.byte_at.ensures, e)
