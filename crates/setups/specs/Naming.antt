-- RULES.md, 'Set-up': how the names of groups are computed, pair by pair. specs/Groups says what a name means.
use Rattle.std.specs.Prelude.{ℕ, zero, suc, min, max, Bool, ◌&&◌, List, map, ltb, get_or, if◌then◌else◌}
use Rattle.search.specs.Words.{◌is◌}
use Rattle.search.specs.Table.{table}
use Rattle.numbers.specs.Limits.{most_resources, most_pairs, nothing}
use Rattle.input.specs.Words.{kind, outer_of, inner_of}
use Rattle.input.specs.declared.Setup.{Setup}

-- a name after the groups named a and b are joined: the higher of the two gives way to the lower
abbrev pub merged : ℕ → ℕ → ℕ → ℕ
merged a b name = if name is max a b then min a b else name

-- the names after the groups of resources a and b are joined
abbrev pub joined : List ℕ → ℕ → ℕ → List ℕ
joined names a b = map (merged (get_or names a nothing) (get_or names b nothing)) names

module _ (c : Setup) where
  -- a and b are in the table, and of equal kinds
  abbrev pub are_alike : ℕ → ℕ → Bool
  are_alike a b = ltb a c.resources && ltb b c.resources && kind c a is kind c b

  -- pair i joins its resources: they are of equal kinds, and both are in the table
  abbrev pub is_joining : ℕ → Bool
  is_joining i = ltb i c.pairs && are_alike (outer_of c i) (inner_of c i)

  -- the names after a pair of these resources, from those before it
  abbrev pub joined_pair : List ℕ → ℕ × ℕ → List ℕ
  joined_pair before pair = if are_alike pair.0 pair.1 then joined before pair.0 pair.1 else before

  -- the names after pair i, from those before it
  unfoldable pub joined_by : List ℕ → ℕ → List ℕ
  joined_by before i = if is_joining i then joined before (outer_of c i) (inner_of c i) else before

  -- the names after the pairs below i; before any pair each resource is a group alone
  unfoldable pub names_after : ℕ → List ℕ
  names_after zero = table (λ r. r) most_resources
  names_after (suc i) = joined_by (names_after i) i

  -- the name of each resource's group
  unfoldable pub names : List ℕ
  names = names_after most_pairs

  -- the name of r's group
  unfoldable pub group_of : ℕ → ℕ
  group_of r = get_or names r nothing
