-- The foremost jobs are the m highest-priority pending ones: no two tasks have the same own rank. Assumes nothing.
use Prim.Native.Nat.{ℕ, ◌<◌}
use mathlib.Core.Path.{◌≡◌}
use mathlib.Core.Bool.{true}
use native.Mathlib.Omega.{arith}
use borrow.Author.Tests.{ltb-true, lt-ltb, ne_eqb}
use Rattle.search.specs.Words.{◌isn't◌}
use Rattle.search.specs.Below.{how_many}
use Rattle.search.proofs.Lowest.{lower_up, lowest_many}
use Rattle.search.proofs.Tests.{tests}
use Rattle.numbers.specs.Limits.{most_tasks}
use Rattle.protocol.specs.Words.{absent, stand}
use Rattle.protocol.specs.Ranks.{own}
use Rattle.protocol.specs.Situations.{outranks, is_foremost}
use Rattle.protocol.specs.Demands.{ForemostHighest}
use Rattle.protocol.specs.declared.State.{State}

own_apart : (s : State) (t u : ℕ) → t < most_tasks → u < most_tasks → own s t ≡ own s u → t ≡ u
unfolding own
own_apart s t u h g e = omega (arith, e)

pub foremost_highest : (s : State) → ForemostHighest s
unfolding is_foremost
foremost_highest s = record {
  higher = λ t u g o f.
      let z = simp tests at o in
      let fewer = lower_up (λ v. stand s v isn't absent) (own s) most_tasks apart u t g
      (rw (ne_eqb (stand s u) absent z.0)) z.1 in
      lt-ltb (how_many (λ v. outranks s v u) most_tasks) s.setup.processors
      (omega (arith, ltb-true (how_many (λ v. outranks s v t) most_tasks) s.setup.processors f, fewer));
  many = lowest_many (λ v. stand s v isn't absent) (own s) most_tasks apart s.setup.processors;
}
  where
    apart : (i k : ℕ) → i < most_tasks → k < most_tasks → (stand s i isn't absent) ≡ true
        → (stand s k isn't absent) ≡ true → own s i ≡ own s k → i ≡ k
    apart i k h l _ _ e = own_apart s i k h l e
