-- RULES.md, 'Numbers handed back': what holds of a set-up to which no refusal applies, in the list's order.
use Rattle.std.specs.Prelude.{ℕ, ◌≤◌, ◌<◌, ◌≡◌, ◌≢◌}
use Rattle.numbers.specs.Limits.{most_processors, most_tasks, most_resources, most_pairs}
use Rattle.input.specs.Kinds.{short, long}
use Rattle.input.specs.Words.{period, kind, outer_of, inner_of}
use Rattle.input.specs.declared.Setup.{Setup}

-- the set-up is free of 1 to 5
pub record Accepted (c : Setup) : Type 0 where
  pub processors : (1 ≤ c.processors) × (c.processors ≤ most_processors)
  pub tasks : (1 ≤ c.tasks) × (c.tasks ≤ most_tasks)
  pub resources : c.resources ≤ most_resources
  pub pairs : c.pairs ≤ most_pairs
  pub periods : (t : ℕ) → t < c.tasks → period c t ≢ 0
  pub kinds : (r : ℕ) → r < c.resources → kind c r ≤ long
  pub inside : (i : ℕ) → i < c.pairs
      → (outer_of c i < c.resources) × (inner_of c i < c.resources) × (outer_of c i ≢ inner_of c i)
  -- a short holds no long
  pub nesting : (i : ℕ) → i < c.pairs → kind c (outer_of c i) ≡ short → kind c (inner_of c i) ≢ long
