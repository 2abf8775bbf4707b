-- The name of a group is its lowest resource, as 'Groups' says it. Assumes nothing.
use Prim.Native.Nat.{ℕ, zero, suc, ◌<◌, ◌≤◌, min, max}
use native.Mathlib.Nat.{not-suc-le-zero, le_of_suc-le-suc, eq-or-lt_of_le}
use native.Mathlib.Omega.{arith}
use mathlib.Core.Path.{◌≡◌, refl, sym, ap, ◌∙◌}
use mathlib.Core.Logic.{◌⊎◌, ◌≢◌, ◌↔◌, ⊎_elim, inl, inr}
use mathlib.Core.Bool.{Bool, true, false}
use lib.Dec.{eqb, leb}
use lib.ListN.{length, get_or, length-map, get_or-eq_default}
use borrow.Author.Tests.{eqb-true, eqb-false, leb-true, leb-false}
use Rattle.search.proofs.Tables.{table_length, table_at}
use Rattle.search.proofs.Tests.{tests}
use Rattle.numbers.specs.Limits.{most_resources, most_pairs, nothing}
use Rattle.input.specs.Words.{kind, outer_of, inner_of}
use Rattle.setups.specs.Naming.{merged, joined, is_joining, joined_by, names_after, names, group_of}
use Rattle.setups.specs.Groups.{Joins, Chained, alone, inward, outward, IsName}
use Rattle.setups.specs.Accepted.{Accepted}
use Rattle.input.specs.declared.Setup.{Setup}
use Rattle.setups.proofs.Lists.{get_d_map, map_same}

-- ---- of two names the higher gives way to the lower
merged_cases : (a b x : ℕ) → ((x ≡ max a b) × (merged a b x ≡ min a b)) ⊎ ((x ≢ max a b) × (merged a b x ≡ x))
merged_cases a b x = go (eqb x (max a b)) refl
  where
    go : (t : Bool) → eqb x (max a b) ≡ t → ((x ≡ max a b) × (merged a b x ≡ min a b)) ⊎ ((x ≢ max a b) × (merged a b x ≡ x))
    go true e = inl (eqb-true _ _ e, rw e)
    go false e = inr (eqb-false _ _ e, rw e)

merged_low : (a b x : ℕ) → merged a b x ≤ x
merged_low a b x = ⊎_elim (λ p. omega arith) (λ p. omega arith) (merged_cases a b x)

merged_less : (a b x : ℕ) → x < max a b → merged a b x ≡ x
merged_less a b x h = ⊎_elim (λ p. omega arith) (λ p. p.1) (merged_cases a b x)

merged_left : (a b : ℕ) → merged a b a ≡ min a b
merged_left a b = ⊎_elim (λ p. p.1) (λ p. omega arith) (merged_cases a b a)

merged_right : (a b : ℕ) → merged a b b ≡ min a b
merged_right a b = ⊎_elim (λ p. p.1) (λ p. omega arith) (merged_cases a b b)

ordered : (a b : ℕ) → ((min a b ≡ a) × (max a b ≡ b)) ⊎ ((min a b ≡ b) × (max a b ≡ a))
ordered a b = go (leb a b) refl
  where
    go : (t : Bool) → leb a b ≡ t → ((min a b ≡ a) × (max a b ≡ b)) ⊎ ((min a b ≡ b) × (max a b ≡ a))
    go true e = let l = leb-true a b e in inl (omega arith, omega arith)
    go false e = let l = leb-false a b e in inr (omega arith, omega arith)

-- the name of r after the pairs below n
label : Setup → ℕ → ℕ → ℕ
label c n r = get_or (names_after c n) r nothing

module _ (c : Setup) where
  after_length : (n : ℕ) → length (names_after c n) ≡ most_resources
  unfolding names_after joined_by
  after_length zero = table_length (λ r. r) most_resources
  after_length (suc i) = go (is_joining c i) refl (after_length i)
    where
      go : (t : Bool) → is_joining c i ≡ t → length (names_after c i) ≡ most_resources → length (names_after c (suc i)) ≡ most_resources
      go true e h = rw e (simp length-map h)
      go false e h = rw e h

  -- ---- what one pair does to a name
  label_none : (r : ℕ) → r < most_resources → label c 0 r ≡ r
  unfolding label names_after
  label_none r h = table_at (λ r. r) most_resources r nothing h

  label_join : (i r : ℕ) → is_joining c i ≡ true → r < most_resources → label c (suc i) r ≡ merged (label c i (outer_of c i)) (label c i (inner_of c i)) (label c i r)
  unfolding label names_after joined_by
  label_join i r e h = rw e (get_d_map _ (names_after c i) r nothing (omega (arith, after_length i)))

  label_skip : (i r : ℕ) → is_joining c i ≡ false → label c (suc i) r ≡ label c i r
  unfolding label names_after joined_by
  label_skip i r e = rw e

  -- no name is above its resource
  low : (n r : ℕ) → r < most_resources → label c n r ≤ r
  low zero r h = rw (label_none r h) (omega arith)
  low (suc i) r h = go (is_joining c i) refl (low i r h)
    where
      go : (t : Bool) → is_joining c i ≡ t → label c i r ≤ r → label c (suc i) r ≤ r
      go true e l = rw (label_join i r e h) (omega (arith, merged_low (label c i (outer_of c i)) (label c i (inner_of c i)) (label c i r)))
      go false e l = rw (label_skip i r e) l

  -- what is not in the table has no name, and joined with it no resource changes its own
  label_past : (n r : ℕ) → most_resources ≤ r → label c n r ≡ nothing
  unfolding label
  label_past n r h = get_or-eq_default (names_after c n) nothing (omega (arith, after_length n))

  pub joined_past : (n a b : ℕ) → most_resources ≤ max a b → joined (names_after c n) a b ≡ names_after c n
  unfolding label
  joined_past n a b h = map_same _ (names_after c n) nothing (λ r m.
      let below : r < most_resources = omega (arith, after_length n) in
      let past : nothing ≤ max (label c n a) (label c n b) =
      ⊎_elim (λ g. omega (arith, label_past n b (omega arith))) (λ g. omega (arith, label_past n a (omega arith))) (ordered a b) in
      merged_less (label c n a) (label c n b) (label c n r) (omega (arith, low n r below)))

  -- ---- chains
  trans : {n a b d : ℕ} → Chained c n a b → Chained c n b d → Chained c n a d
  trans alone q = q
  trans (inward j p) q = inward j (trans p q)
  trans (outward j p) q = outward j (trans p q)

  flip : {n a b : ℕ} → Chained c n a b → Chained c n b a
  flip alone = alone
  flip (inward j p) = trans (flip p) (outward j alone)
  flip (outward j p) = trans (flip p) (inward j alone)

  -- a pair is one of the first m too
  among : {n a b : ℕ} (m : ℕ) (j : Joins c n a b) → j.pair < m → Joins c m a b
  among m j h = record { pair = j.pair; counts = j.counts; below = h; outside = j.outside; inside = j.inside; alike = j.alike }

  wider : {n a b : ℕ} (m : ℕ) → ((k : ℕ) → k < n → k < c.pairs → k < m) → Chained c n a b → Chained c m a b
  wider m f alone = alone
  wider m f (inward j p) = inward (among m j (f j.pair j.below j.counts)) (wider m f p)
  wider m f (outward j p) = outward (among m j (f j.pair j.below j.counts)) (wider m f p)

  joining_iff : (i : ℕ) → (is_joining c i ≡ true)
      ↔ ((i < c.pairs) × (((outer_of c i < c.resources) × (inner_of c i < c.resources)) × (kind c (outer_of c i) ≡ kind c (inner_of c i))))
  joining_iff i = (λ e. simp tests at e, λ z. simp tests z)

  newest : (i : ℕ) → is_joining c i ≡ true → Joins c (suc i) (outer_of c i) (inner_of c i)
  newest i e =
      let z = (joining_iff i).0 e in
      record { pair = i; counts = z.0; below = omega arith; outside = refl; inside = refl; alike = z.1.1 }

  -- all of a chain are of one kind
  chain_kind : {n a b : ℕ} → Chained c n a b → kind c a ≡ kind c b
  chain_kind alone = refl
  chain_kind (inward j p) = j.alike ∙ chain_kind p
  chain_kind (outward j p) = sym j.alike ∙ chain_kind p

  module _ (good : Accepted c) where
    fits : (i : ℕ) → i < c.pairs → (outer_of c i < most_resources) × (inner_of c i < most_resources)
    fits i h = let z = good.inside i h in (omega arith, omega arith)

    ends : {n a b : ℕ} → Joins c n a b → (a < most_resources) × (b < most_resources)
    ends j =
        let z = fits j.pair j.counts in
        (rw j.outside at z.0, rw j.inside at z.1)

    chained_fits : {n a b : ℕ} → a < most_resources → Chained c n a b → b < most_resources
    chained_fits h alone = h
    chained_fits h (inward j p) = chained_fits (ends j).1 p
    chained_fits h (outward j p) = chained_fits (ends j).0 p

    -- a resource is chained to its name
    member : (n r : ℕ) → r < most_resources → Chained c n r (label c n r)
    member zero r h = rw (label_none r h) alone
    member (suc i) r h = go (is_joining c i) refl (λ q g. wider (suc i) (λ k l m. omega arith) (member i q g))
      where
        go : (t : Bool) → is_joining c i ≡ t → ((q : ℕ) → q < most_resources → Chained c (suc i) q (label c i q)) → Chained c (suc i) r (label c (suc i) r)
        go true e ih =
            let j = newest i e in
            let f = ends j in
            let out = ih (outer_of c i) f.0 in
            let inn = ih (inner_of c i) f.1 in
            rw (label_join i r e h)
            (⊎_elim
            (λ p. rw p.1 (⊎_elim
            (λ g. rw g.0 (trans (rw (p.0, g.1) at (ih r h)) (trans (flip inn) (outward j out))))
            (λ g. rw g.0 (trans (rw (p.0, g.1) at (ih r h)) (trans (flip out) (inward j inn))))
            (ordered (label c i (outer_of c i)) (label c i (inner_of c i)))))
            (λ p. rw p.1 (ih r h))
            (merged_cases (label c i (outer_of c i)) (label c i (inner_of c i)) (label c i r)))
        go false e ih = rw (label_skip i r e) (ih r h)

    -- a pair's two resources have one name
    edge : (n a b : ℕ) → Joins c n a b → label c n a ≡ label c n b
    edge zero a b j = absurd (not-suc-le-zero j.below)
    edge (suc i) a b j =
        ⊎_elim last (λ m. before (edge i a b (among i j m)) (is_joining c i) refl) (eq-or-lt_of_le (le_of_suc-le-suc j.below))
      where
        last : j.pair ≡ i → label c (suc i) a ≡ label c (suc i) b
        last e =
            let out : outer_of c i ≡ a = ap (outer_of c) (sym e) ∙ j.outside in
            let inn : inner_of c i ≡ b = ap (inner_of c) (sym e) ∙ j.inside in
            let l = rw e at j.counts in
            let z = good.inside i l in
            let t = (joining_iff i).1 (l, ((z.0, z.1), ap (kind c) out ∙ j.alike ∙ sym (ap (kind c) inn))) in
            let f = fits i l in
            let x = label c i (outer_of c i) in
            let y = label c i (inner_of c i) in
            ap (label c (suc i)) (sym out) ∙ label_join i (outer_of c i) t f.0 ∙ merged_left x y
            ∙ sym (merged_right x y) ∙ sym (label_join i (inner_of c i) t f.1) ∙ ap (label c (suc i)) inn

        before : label c i a ≡ label c i b → (t : Bool) → is_joining c i ≡ t → label c (suc i) a ≡ label c (suc i) b
        before k true e =
            label_join i a e (ends j).0 ∙ ap (merged (label c i (outer_of c i)) (label c i (inner_of c i))) k ∙ sym (label_join i b e (ends j).1)
        before k false e = label_skip i a e ∙ k ∙ sym (label_skip i b e)

    -- and so have all of a chain
    equal : {n a b : ℕ} → Chained c n a b → label c n a ≡ label c n b
    equal alone = refl
    equal (inward j p) = edge _ _ _ j ∙ equal p
    equal (outward j p) = sym (edge _ _ _ j) ∙ equal p

    -- ---- the name that is computed is the name that is meant
    pub names_least : (r : ℕ) → r < most_resources → IsName c r (group_of c r)
    unfolding group_of names label
    names_least r h = record {
      member = wider c.pairs (λ k l m. m) (member most_pairs r h);
      lowest = λ q p. rw (equal (wider most_pairs (λ k l m. omega arith) p)) (low most_pairs q (chained_fits h p));
    }

    -- a group's name is a resource of the set-up
    pub group_low : (r : ℕ) → r < c.resources → group_of c r < c.resources
    group_low r h = omega (arith, (names_least r (omega arith)).lowest r alone)

    -- a group's name is of its kind
    pub group_kind : (r : ℕ) → r < c.resources → kind c (group_of c r) ≡ kind c r
    group_kind r h = sym (chain_kind (names_least r (omega arith)).member)

    -- a group's name is in the group
    pub group_of_group : (r : ℕ) → r < c.resources → group_of c (group_of c r) ≡ group_of c r
    group_of_group r h =
        let g = names_least r (omega arith) in
        let k = names_least (group_of c r) (omega (arith, group_low r h)) in
        omega (arith, g.lowest _ (trans g.member k.member), k.lowest _ alone)

  -- what is not in the table is in no group
  pub group_past : (r : ℕ) → most_resources ≤ r → group_of c r ≡ nothing
  unfolding group_of names label
  group_past r h = label_past most_pairs r h
