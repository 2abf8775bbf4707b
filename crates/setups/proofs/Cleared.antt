-- A cleared set-up is clear, and its refusal and its groups' names are as before. Assumes nothing.
use Prim.Native.Nat.{ℕ, zero, suc, ◌<◌, ◌≤◌, max}
use native.Mathlib.Omega.{arith}
use native.Mathlib.Decide.{dec_lt}
use mathlib.Core.Path.{◌≡◌, refl, sym, ap, ◌∙◌}
use mathlib.Core.Bool.{Bool, true, false, not, ◌&&◌}
use mathlib.Core.List.{List}
use lib.Dec.{ltb, eqb}
use lib.Pointwise.{pointwise}
use lib.ListN.{length, get_or}
use borrow.Author.Tests.{ltb-true, ltb-false, lt-ltb, le-ltb, eq-eqb}
use Rattle.std.specs.Cmp.Lexicographic.{same_text, other_text}
use Rattle.std.proofs.Math.Bool.{and_assoc}
use Rattle.std.specs.Prelude.{if◌then◌else◌}
use Rattle.search.specs.Words.{◌is◌}
use Rattle.search.specs.Below.{any_below}
use Rattle.numbers.specs.Refusals.{count_outside, period_zero, kind_unknown, pair_stray, long_in_short}
use Rattle.numbers.proofs.Refusals.{row_same}
use Rattle.search.proofs.Tables.{table_length, table_at, table_of}
use Rattle.search.proofs.Tests.{tests, never}
use Rattle.numbers.specs.Limits.{most_tasks, most_resources, most_pairs}
use Rattle.input.specs.Kinds.{long}
use Rattle.input.specs.Words.{period, kind, outer_of, inner_of, some_task, some_resource, some_pair}
use Rattle.setups.specs.Refusals.{in_limits, is_stray, is_long_in_short, setup_rows, setup_refusal}
use Rattle.setups.specs.Sized.{Sized}
use Rattle.setups.specs.Naming.{are_alike, joined_by, names_after, names}
use Rattle.setups.specs.Clearing.{below, cleared, empty_from, is_clear}
use Rattle.setups.specs.Unread.{RefusalKept, NamesKept}
use Rattle.input.specs.declared.Setup.{Setup}
use Rattle.setups.proofs.Lists.{kept_below}
use Rattle.setups.proofs.Accepted.{and_none_iff}
use Rattle.setups.proofs.Names.{joined_past}

-- ---- one table cleared from n on
module _ (n most : ℕ) (l : List ℕ) where
  below_length : length (below n most l) ≡ most
  unfolding below
  below_length = table_length (kept_below n l) most

  below_at : (i : ℕ) → i < most → get_or (below n most l) i 0 ≡ kept_below n l i
  unfolding below
  below_at i h = table_at (kept_below n l) most i 0 h

  below_kept : (i : ℕ) → i < n → i < most → get_or (below n most l) i 0 ≡ get_or l i 0
  below_kept i g h = below_at i h ∙ rw (lt-ltb i n g)

  below_empty : empty_from n most (below n most l) ≡ true
  unfolding empty_from
  below_empty = simp tests (λ i h g. below_at i h ∙ rw (le-ltb i n g))

  below_same : length l ≡ most → empty_from n most l ≡ true → below n most l ≡ l
  unfolding below empty_from
  below_same s h = sym (table_of (kept_below n l) l most 0 s (λ i m. go i m (ltb i n) refl))
    where
      go : (i : ℕ) → i < most → (t : Bool) → ltb i n ≡ t → get_or l i 0 ≡ (if t then get_or l i 0 else 0)
      go i m true e = refl
      go i m false e = (simp tests at h) i m (ltb-false i n e)

  below_test : length l ≡ most → pointwise eqb (below n most l) l ≡ empty_from n most l
  below_test s = go (pointwise eqb (below n most l) l) (empty_from n most l) refl refl
    where
      go : (a b : Bool) → pointwise eqb (below n most l) l ≡ a → empty_from n most l ≡ b → a ≡ b
      go true true e f = refl
      go true false e f = never f (rw (same_text (below n most l) l (sym e)) at below_empty)
      go false true e f = absurd (other_text (below n most l) l (sym e) (below_same s f))
      go false false e f = refl

-- ---- tests and choices
and_same : (t a b : Bool) → (t ≡ true → a ≡ b) → (t && a) ≡ (t && b)
and_same true a b h = h refl
and_same false a b h = refl

if_either : (t : Bool) (l : List ℕ) → (if t then l else l) ≡ l
if_either true l = refl
if_either false l = refl

-- tests of the places below n
some_same : (n most : ℕ) (f g : ℕ → Bool) → ((i : ℕ) → i < n → i < most → f i ≡ g i) → any_below most (λ i. ltb i n && f i) ≡ any_below most (λ i. ltb i n && g i)
unfolding any_below
some_same n zero f g h = refl
some_same n (suc k) f g h =
    let last = and_same (ltb k n) (f k) (g k) (λ e. h k (ltb-true k n e) (omega arith)) in
    rw (some_same n k f g (λ i l m. h i l (omega arith)), last)

module _ (c : Setup) where
  -- its tables have their lengths, whatever those of c are
  pub cleared_sized : Sized (cleared c)
  unfolding cleared
  cleared_sized = record {
    periods = below_length c.tasks most_tasks c.periods;
    kinds = below_length c.resources most_resources c.kinds;
    outer = below_length c.pairs most_pairs c.outer;
    inner = below_length c.pairs most_pairs c.inner;
  }

  -- everything past the counts is 0
  pub cleared_clear : is_clear (cleared c) ≡ true
  unfolding is_clear cleared
  cleared_clear = simp below_empty

  -- a clear set-up stays as it is
  pub clear_kept : Sized c → is_clear c ≡ true → cleared c ≡ c
  unfolding is_clear cleared
  clear_kept s h =
      let z = simp tests at h in
      let periods = below_same c.tasks most_tasks c.periods s.periods z.0.0.0 in
      let kinds = below_same c.resources most_resources c.kinds s.kinds z.0.0.1 in
      let outer = below_same c.pairs most_pairs c.outer s.outer z.0.1 in
      let inner = below_same c.pairs most_pairs c.inner s.inner z.1 in
      rw (periods, kinds, outer, inner)

  -- whether it is clear, by the test of whether it is its own cleared one
  pub same_as_cleared : Sized c
      → (eqb (cleared c).processors c.processors && (eqb (cleared c).tasks c.tasks && (eqb (cleared c).resources c.resources && (eqb (cleared c).pairs c.pairs
      && (eqb (cleared c).start c.start && (pointwise eqb (cleared c).periods c.periods && (pointwise eqb (cleared c).kinds c.kinds
      && (pointwise eqb (cleared c).outer c.outer && pointwise eqb (cleared c).inner c.inner)))))))) ≡ is_clear c
  unfolding is_clear cleared
  same_as_cleared s =
      let periods = below_test c.tasks most_tasks c.periods s.periods in
      let kinds = below_test c.resources most_resources c.kinds s.kinds in
      let outer = below_test c.pairs most_pairs c.outer s.outer in
      let inner = below_test c.pairs most_pairs c.inner s.inner in
      rw (periods, kinds, outer, inner, eq-eqb c.processors c.processors refl, eq-eqb c.tasks c.tasks refl, eq-eqb c.resources c.resources refl, eq-eqb c.pairs c.pairs refl, eq-eqb c.start c.start refl) (simp and_assoc)

  -- ---- what is read below the counts is as before
  period_kept : (t : ℕ) → t < c.tasks → t < most_tasks → period (cleared c) t ≡ period c t
  unfolding cleared
  period_kept = below_kept c.tasks most_tasks c.periods

  kind_kept : (r : ℕ) → r < c.resources → r < most_resources → kind (cleared c) r ≡ kind c r
  unfolding cleared
  kind_kept = below_kept c.resources most_resources c.kinds

  outer_kept : (i : ℕ) → i < c.pairs → i < most_pairs → outer_of (cleared c) i ≡ outer_of c i
  unfolding cleared
  outer_kept = below_kept c.pairs most_pairs c.outer

  inner_kept : (i : ℕ) → i < c.pairs → i < most_pairs → inner_of (cleared c) i ≡ inner_of c i
  unfolding cleared
  inner_kept = below_kept c.pairs most_pairs c.inner

  -- ---- the refusals
  periods_same : some_task (cleared c) (λ t. period (cleared c) t is 0) ≡ some_task c (λ t. period c t is 0)
  unfolding cleared
  periods_same = some_same c.tasks most_tasks _ _ (λ t l m. ap (λ (x : ℕ). x is 0) (period_kept t l m))

  kinds_same : some_resource (cleared c) (λ r. ltb long (kind (cleared c) r)) ≡ some_resource c (λ r. ltb long (kind c r))
  unfolding cleared
  kinds_same = some_same c.resources most_resources _ _ (λ r l m. ap (ltb long) (kind_kept r l m))

  inside_same : some_pair (cleared c) (is_stray (cleared c)) ≡ some_pair c (is_stray c)
  unfolding cleared
  inside_same = some_same c.pairs most_pairs _ _ (λ i l m. rw (outer_kept i l m, inner_kept i l m))

  nesting_same : not (in_limits c) ≡ false → some_pair c (is_stray c) ≡ false → some_pair (cleared c) (is_long_in_short (cleared c)) ≡ some_pair c (is_long_in_short c)
  unfolding cleared
  nesting_same few stray =
      let f = simp tests at few in
      let s = simp (tests, and_none_iff) at stray in
      some_same c.pairs most_pairs _ _ (λ i l m.
      let out = kind_kept (outer_of c i) (s i m l).0.0 (omega (arith, s i m l)) in
      let inn = kind_kept (inner_of c i) (s i m l).0.1 (omega (arith, s i m l)) in
      rw (outer_kept i l m, inner_kept i l m, out, inn))

  refusal_same : setup_refusal (cleared c) ≡ setup_refusal c
  unfolding setup_refusal setup_rows cleared
  refusal_same =
      row_same count_outside refl (λ few.
      row_same period_zero periods_same (λ _.
      row_same kind_unknown kinds_same (λ _.
      row_same pair_stray inside_same (λ stray.
      row_same long_in_short (nesting_same few (sym inside_same ∙ stray)) (λ _. refl)))))

  -- ---- the names
  alike_kept : (a b : ℕ) → max a b < most_resources → are_alike (cleared c) a b ≡ are_alike c a b
  unfolding cleared
  alike_kept a b f = and_same (ltb a c.resources && ltb b c.resources) _ _ (λ h.
      let z = simp tests at h in
      rw (kind_kept a z.0 (omega arith), kind_kept b z.1 (omega arith)))

  -- a pair that names a resource past the names changes none, whether it joins or not
  pair_same : (i : ℕ) → i < most_pairs → joined_by (cleared c) (names_after c i) i ≡ joined_by c (names_after c i) i
  unfolding joined_by cleared
  pair_same i m = go (ltb i c.pairs) refl
    where
      go : (t : Bool) → ltb i c.pairs ≡ t → joined_by (cleared c) (names_after c i) i ≡ joined_by c (names_after c i) i
      go true e =
          let l = ltb-true i c.pairs e in
          elim (dec_lt (max (outer_of c i) (inner_of c i)) most_resources) [
            | yes f ↦ rw (outer_kept i l m, inner_kept i l m, alike_kept (outer_of c i) (inner_of c i) f)
            | no f ↦
                let past = joined_past c i (outer_of c i) (inner_of c i) (omega arith) in
                rw (outer_kept i l m, inner_kept i l m, past) (simp if_either)
          ]
      go false e = rw e

  after_same : (n : ℕ) → n ≤ most_pairs → names_after (cleared c) n ≡ names_after c n
  unfolding names_after
  after_same zero h = refl
  after_same (suc i) h = rw (after_same i (omega arith)) (pair_same i h)

-- the refusal is as before, 0 too
pub cleared_refusal : RefusalKept
cleared_refusal = refusal_same

-- every group keeps its name
pub cleared_names : NamesKept
unfolding names
cleared_names c = after_same c most_pairs (omega arith)
