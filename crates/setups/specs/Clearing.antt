-- RULES.md, 'Set-up': places past a count are not read; here they are 0.
use Rattle.std.specs.Prelude.{ℕ, Bool, ◌&&◌, List, leb, ltb, get_or, if◌then◌else◌}
use Rattle.search.specs.Words.{◌is◌, ◌implies◌}
use Rattle.search.specs.Below.{all_below}
use Rattle.search.specs.Table.{table}
use Rattle.numbers.specs.Limits.{most_tasks, most_resources, most_pairs}
use Rattle.input.specs.declared.Setup.{Setup}

-- `most` places, with those of l below n, and 0 in the others
unfoldable pub below : ℕ → ℕ → List ℕ → List ℕ
below n most l = table (λ i. if ltb i n then get_or l i 0 else 0) most

-- the set-up with every place past a count 0
unfoldable pub cleared : Setup → Setup
cleared c = record {
  processors = c.processors;
  tasks = c.tasks;
  resources = c.resources;
  pairs = c.pairs;
  start = c.start;
  periods = below c.tasks most_tasks c.periods;
  kinds = below c.resources most_resources c.kinds;
  outer = below c.pairs most_pairs c.outer;
  inner = below c.pairs most_pairs c.inner;
}

-- l's places from n on, below `most`, are 0
unfoldable pub empty_from : ℕ → ℕ → List ℕ → Bool
empty_from n most l = all_below most (λ i. leb n i implies get_or l i 0 is 0)

-- everything past the counts is 0
unfoldable pub is_clear : Setup → Bool
is_clear c =
    empty_from c.tasks most_tasks c.periods && empty_from c.resources most_resources c.kinds
    && empty_from c.pairs most_pairs c.outer && empty_from c.pairs most_pairs c.inner
