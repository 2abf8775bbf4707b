-- The names of the groups by a fold over the set-up's pairs. Assumes nothing.
use Prim.Native.Nat.{ℕ, zero, suc, ◌≤◌, ◌<◌}
use native.Mathlib.Omega.{arith}
use native.Mathlib.Decide.{dec_lt}
use mathlib.Core.Path.{◌≡◌, refl, ◌∙◌}
use mathlib.Core.List.{List, [], ◌∷◌}
use lib.ListN.{length, get_or, take, length-take}
use lib.Seq.{take_all}
use borrow.Author.Tests.{lt-ltb, le-ltb}
use Rattle.std.specs.List.{fold, zip}
use Rattle.std.proofs.lemmas.List.{get_or-take}
use Rattle.std.proofs.lemmas.List.Sums.{fold-append}
use Rattle.std.proofs.lemmas.Slice.Zip.{length-zip, get_or-zip}
use Rattle.std.proofs.Math.Seq.{take-suc}
use Rattle.search.specs.Table.{table}
use Rattle.numbers.specs.Limits.{most_resources, most_pairs}
use Rattle.input.specs.Words.{outer_of, inner_of}
use Rattle.input.specs.declared.Setup.{Setup}
use Rattle.setups.specs.Sized.{Sized}
use Rattle.setups.specs.Naming.{joined_pair, joined_by, names_after, names}

module _ (c : Setup) where
  abbrev pairs : List (ℕ × ℕ)
  pairs = take c.pairs (zip c.outer c.inner)

  abbrev alone : List ℕ
  alone = table (λ i. i) most_resources

  -- what is read below the count
  pair_at : Sized c → (i : ℕ) → i < most_pairs → i < c.pairs → get_or pairs i (0, 0) ≡ (outer_of c i, inner_of c i)
  pair_at s i h l = get_or-take c.pairs (zip c.outer c.inner) i (0, 0) l ∙ get_or-zip c.outer c.inner i (0, 0) (omega (arith, s.outer)) (omega (arith, s.inner))

  count : Sized c → length pairs ≤ most_pairs
  count s = omega (arith, length-take c.pairs (zip c.outer c.inner), length-zip c.outer c.inner, s.outer)

  folded : Sized c → (i : ℕ) → i ≤ most_pairs → fold (joined_pair c) alone (take i pairs) ≡ names_after c i
  unfolding names_after joined_by
  folded s zero h = refl
  folded s (suc i) h = elim (dec_lt i c.pairs) [
    | yes l ↦
        let inside : i < length pairs = omega (arith, length-take c.pairs (zip c.outer c.inner), length-zip c.outer c.inner, s.outer, s.inner) in
        rw (take-suc pairs i (0, 0) inside, fold-append (joined_pair c) alone (take i pairs) (get_or pairs i (0, 0) ∷ []), folded s i (omega arith), pair_at s i (omega arith) l, lt-ltb i c.pairs l)
    | no g ↦
        let past : length pairs ≤ i = omega (arith, length-take c.pairs (zip c.outer c.inner)) in
        rw (le-ltb i c.pairs (omega arith), take_all (suc i) pairs (omega arith), ← take_all i pairs past) (folded s i (omega arith))
  ]

  pub names_folded : Sized c → fold (joined_pair c) alone pairs ≡ names c
  unfolding names
  names_folded s = rw (take_all most_pairs pairs (count s)) at (folded s most_pairs (omega arith))
