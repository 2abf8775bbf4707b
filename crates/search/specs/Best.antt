-- The best of the numbers below a bound that pass a test, by a strict order.
use Rattle.std.specs.Prelude.{ℕ, zero, suc, Bool, if◌then◌else◌}
use Rattle.search.specs.Words.{◌is◌}

-- the better of b, the best so far (`none` at first), and the next candidate k, which counts only if it passes
unfoldable pub better : (ℕ → Bool) → (ℕ → ℕ → Bool) → ℕ → ℕ → ℕ → ℕ
better ok over none k b = if ok k then (if b is none then k else if over k b then k else b) else b

-- the best of the numbers below n that pass, the lowest of equal ones; `none`, a number from n on, where none passes
unfoldable pub best : (ℕ → Bool) → (ℕ → ℕ → Bool) → ℕ → ℕ → ℕ
best ok over none zero = none
best ok over none (suc n) = better ok over none n (best ok over none n)
