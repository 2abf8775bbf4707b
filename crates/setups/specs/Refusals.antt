-- RULES.md, 'Numbers handed back': the refusals 1 to 5 of a set-up, in the list's order.
use Rattle.std.specs.Prelude.{ℕ, Bool, not, ◌&&◌, ◌||◌, List, [], leb, ltb}
use Rattle.search.specs.Words.{◌is◌}
use Rattle.numbers.specs.Refusals.{count_outside, period_zero, kind_unknown, pair_stray, long_in_short}
use Rattle.numbers.specs.Rows.{Row, ◌when◌, ◌otherwise◌, first_of}
use Rattle.numbers.specs.Limits.{most_processors, most_tasks, most_resources, most_pairs}
use Rattle.input.specs.Kinds.{short, long}
use Rattle.input.specs.Words.{within, period, kind, outer_of, inner_of, some_task, some_resource, some_pair}
use Rattle.input.specs.declared.Setup.{Setup}

-- a or b is not in a table of n places, or the two are the same
abbrev pub is_stray_pair : ℕ → ℕ → ℕ → Bool
is_stray_pair n a b = leb n a || leb n b || a is b

module _ (c : Setup) where
  -- every count is within its limits
  abbrev pub in_limits : Bool
  in_limits =
      within 1 c.processors most_processors && within 1 c.tasks most_tasks
      && leb c.resources most_resources && leb c.pairs most_pairs

  -- pair i names a resource not in the table, or one resource twice
  abbrev pub is_stray : ℕ → Bool
  is_stray i = is_stray_pair c.resources (outer_of c i) (inner_of c i)

  -- pair i puts a long inside a short
  abbrev pub is_long_in_short : ℕ → Bool
  is_long_in_short i = kind c (outer_of c i) is short && kind c (inner_of c i) is long

  -- the list of 1 to 5
  unfoldable pub setup_rows : List Row
  setup_rows =
      count_outside when not in_limits otherwise
      period_zero when some_task c (λ t. period c t is 0) otherwise
      kind_unknown when some_resource c (λ r. ltb long (kind c r)) otherwise
      pair_stray when some_pair c is_stray otherwise
      long_in_short when some_pair c is_long_in_short otherwise
      []

  -- the first refusal that applies, or 0
  unfoldable pub setup_refusal : ℕ
  setup_refusal = first_of setup_rows
