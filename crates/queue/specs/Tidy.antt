-- What holds of a queue, as the laws about queues need it.
use Rattle.std.specs.Prelude.{ℕ, ◌≤◌, ◌<◌, ◌≡◌, length, get_or}
use Rattle.queue.specs.Limits.{capacity}
use Rattle.numbers.specs.Limits.{nobody}
use Rattle.queue.specs.declared.Queue.{Queue}
use Rattle.queue.specs.Waiting.{waiter}

-- no more tasks wait than there is room for, and the places past the length are empty; `sized` holds of every `Queue`
-- of the code, by its type
pub record Tidy (q : Queue) : Type 0 where
  pub sized : length q.tasks ≡ capacity
  pub fits : q.len ≤ capacity
  pub blank : (i : ℕ) → q.len ≤ i → get_or q.tasks i nobody ≡ nobody

-- u waits at some place
abbrev pub Waits : Queue → ℕ → Type 0
Waits q u = (i : ℕ) × (i < q.len) × (waiter q i ≡ u)

-- no task waits at two places
abbrev pub Distinct : Queue → Type 0
Distinct q = (i k : ℕ) → i < q.len → k < q.len → waiter q i ≡ waiter q k → i ≡ k
