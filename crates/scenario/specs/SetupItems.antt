-- What an item adds to a set-up: its processors, its start, or one place more of a table.
use Rattle.std.specs.Prelude.{ℕ, suc, List, set}
use Rattle.input.specs.declared.Setup.{Setup}

-- a set-up by its four counts, start, periods, kinds, and the two sides of its pairs
abbrev pub setup_by : ℕ → ℕ → ℕ → ℕ → ℕ → List ℕ → List ℕ → List ℕ → List ℕ → Setup
setup_by m n r p start periods kinds outer inner = record {
  processors = m;
  tasks = n;
  resources = r;
  pairs = p;
  start = start;
  periods = periods;
  kinds = kinds;
  outer = outer;
  inner = inner;
}

module _ (c : Setup) where
  -- with m processors
  abbrev pub with_processors : ℕ → Setup
  with_processors m =
      setup_by m c.tasks c.resources c.pairs c.start c.periods c.kinds c.outer c.inner

  -- with another start
  abbrev pub with_start : ℕ → Setup
  with_start start =
      setup_by c.processors c.tasks c.resources c.pairs start c.periods c.kinds c.outer c.inner

  -- with one task more
  abbrev pub with_task : ℕ → Setup
  with_task period =
      setup_by c.processors (suc c.tasks) c.resources c.pairs c.start
      (set c.periods c.tasks period) c.kinds c.outer c.inner

  -- with one resource more
  abbrev pub with_resource : ℕ → Setup
  with_resource kind =
      setup_by c.processors c.tasks (suc c.resources) c.pairs c.start
      c.periods (set c.kinds c.resources kind) c.outer c.inner

  -- with one pair more
  abbrev pub with_pair : ℕ → ℕ → Setup
  with_pair outer inner =
      setup_by c.processors c.tasks c.resources (suc c.pairs) c.start
      c.periods c.kinds (set c.outer c.pairs outer) (set c.inner c.pairs inner)
