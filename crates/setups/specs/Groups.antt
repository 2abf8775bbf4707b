-- RULES.md, 'Set-up': what a group's name means. It does not compute; `group_of` in specs/Naming is proved to be it.
use Rattle.std.specs.Prelude.{ℕ, ◌<◌, ◌≤◌, ◌≡◌}
use Rattle.input.specs.Words.{kind, outer_of, inner_of}
use Rattle.input.specs.declared.Setup.{Setup}

-- one of the first n pairs is of equal kinds, with a as its outer and b as its inner resource
pub record Joins (c : Setup) (n a b : ℕ) : Type 0 where
  pub pair : ℕ
  pub counts : pair < c.pairs
  pub below : pair < n
  pub outside : outer_of c pair ≡ a
  pub inside : inner_of c pair ≡ b
  pub alike : kind c a ≡ kind c b

-- two resources are joined by a chain of such pairs, each taken inward or outward
pub data Chained (c : Setup) (n : ℕ) : ℕ → ℕ → Type 0 where
  alone : {a : ℕ} → Chained c n a a
  inward : {a b d : ℕ} → Joins c n a b → Chained c n b d → Chained c n a d
  outward : {a b d : ℕ} → Joins c n b a → Chained c n b d → Chained c n a d

-- `name` is the lowest resource of r's group
pub record IsName (c : Setup) (r name : ℕ) : Type 0 where
  pub member : Chained c c.pairs r name
  pub lowest : (q : ℕ) → Chained c c.pairs r q → name ≤ q
