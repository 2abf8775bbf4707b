-- What a chain of iterators over the first places of a list answers, and a list mapped by a closure. The closure leaves
-- what it captures as it is. Assumes nothing.
use Prim.Native.Nat.{ℕ, zero, suc, ◌+◌, ◌<◌, ◌≤◌}
use native.Mathlib.Omega.{arith}
use native.Mathlib.Decide.{ℕ_discrete, dec_lt}
use mathlib.Core.Path.{◌≡◌, refl, sym, ap, subst, ◌∙◌}
use mathlib.Core.Bool.{Bool, true, false, ◌&&◌}
use mathlib.Core.List.{List, map}
use lib.Dec.{ltb}
use lib.ListN.{length, get_or, take, length-take}
use borrow.Author.Tests.{lt-ltb, le-ltb}
use denote.Param.Members.{Mut, Called}
use denote.Ref.{Bor}
use Rattle.std.specs.Prelude.{MatchBool}
use Rattle.std.specs.declared.iter.Take.{Take}
use Rattle.std.specs.declared.iter.Zip.{Zip}
use Rattle.std.specs.declared.slice.Iter.{Iter}
use Rattle.std.specs.Array.{IsMapOf, MapsFrom}
use Rattle.std.specs.Iterator.{ChecksAny}
use Rattle.std.specs.Iterator.Adapters.{take_steps, take_source, take_count, zip_first, zip_second}
use Rattle.std.specs.List.{AllWithin, HoldsAt, zip}
use Rattle.std.specs.Slice.Iter.{iter_rest}
use Rattle.std.proofs.iter.Yields.{fronts}
use Rattle.std.proofs.lemmas.List.{get_or-take}
use Rattle.std.proofs.lemmas.Slice.Zip.{length-zip, get_or-zip}
use Rattle.std.proofs.lemmas.Iterator.{YieldsList-from_slice, YieldsList-from_take, YieldsList-from_zip, zips, cases_from_any}
use Rattle.search.specs.Below.{any_below}
use Rattle.search.proofs.Chains.{is_any}
use Rattle.search.proofs.Tables.{table_of}
use Rattle.search.proofs.Tests.{any_below_same}
use Rattle.setups.proofs.Lists.{map_table}

-- ---- some of the first m items passes
module _ {B : Type 0} (test : B → Bool) (d : B) (ys : List B) (m n : ℕ) (long : length ys ≡ n) where
  abbrev counted : ℕ → Bool
  counted k = ltb k m && test (get_or ys k d)

  taken_at : (b : Bool) (k : ℕ) → k < m → test (get_or (take m ys) k d) ≡ b → counted k ≡ b
  taken_at b k l e = rw (lt-ltb k m l, ← get_or-take m ys k d l) e

  any_over : (r : Bool)
      → MatchBool r ((k : ℕ) × (k < length (take m ys)) × HoldsAt (λ x. test x ≡ true) (take m ys) k) (AllWithin (λ x. test x ≡ false) (take m ys) 0 (length (take m ys)))
      → r ≡ any_below n counted
  any_over true h = is_any true n counted (h.0, omega (arith, length-take m ys, h.1), taken_at true h.0 (omega (arith, length-take m ys, h.1)) (h.2 d))
  any_over false h = is_any false n counted (λ k l. elim (dec_lt k m) [
    | yes y ↦ taken_at false k y (h k d (omega arith) (omega (arith, length-take m ys)))
    | no z ↦ rw (le-ltb k m (omega arith))
  ])

-- `xs.iter().take(m).any(..)`; d is what specs/ read past the end
pub any_in_taken : {A F : Type 0} {g : Mut F (Bor A × Unit {0}) Bool} {f : F} {s : Take (Iter A)} {r : Bool} {m n : ℕ} {xs : List A} (u : Take (Iter A)) (test : A → Bool) (d : A)
    → length xs ≡ n → iter_rest (take_source s) ≡ xs → take_count s ≡ m → ChecksAny (take_steps fronts) g s f r u
    → ((x : Bor A) (b : Bool) (q : F) → Called g f (x, tt) b q → (q ≡ f) × (b ≡ test x.now)) → r ≡ any_below n (λ k. ltb k m && test (get_or xs k d))
any_in_taken {f = f} {r = r} {m = m} {n = n} {xs = xs} u test d long from count ran k =
    any_over test d xs m n long r
    (cases_from_any u f r (λ x. test x ≡ true) (λ x. test x ≡ false) ran (YieldsList-from_take m (YieldsList-from_slice xs from) count)
    (λ x q c. sym (k x true q c).1) (λ x q c. ((k x false q c).0, sym (k x false q c).1)))

-- `xs.iter().zip(ys).take(m).any(..)`
pub any_in_pairs : {A F : Type 0} {g : Mut F ((Bor A × Bor A) × Unit {0}) Bool} {f : F} {s : Take (Zip (Iter A) (Iter A))} {r : Bool} {m n : ℕ} {xs ys : List A}
    (u : Take (Zip (Iter A) (Iter A))) (test : A → A → Bool) (d : A)
    → length xs ≡ n → length ys ≡ n → iter_rest (zip_first (take_source s)) ≡ xs → iter_rest (zip_second (take_source s)) ≡ ys → take_count s ≡ m
    → ChecksAny (take_steps (zips fronts fronts)) g s f r u
    → ((x : Bor A × Bor A) (b : Bool) (q : F) → Called g f (x, tt) b q → (q ≡ f) × (b ≡ test x.0.now x.1.now))
    → r ≡ any_below n (λ k. ltb k m && test (get_or xs k d) (get_or ys k d))
any_in_pairs {A = A} {f = f} {r = r} {m = m} {n = n} {xs = xs} {ys = ys} u test d long as_long from beside count ran k =
    let both = λ (p : A × A). test p.0 p.1 in
    let pairs : length (zip xs ys) ≡ n = omega (arith, length-zip xs ys) in
    any_over both (d, d) (zip xs ys) m n pairs r
    (cases_from_any u f r (λ p. both p ≡ true) (λ p. both p ≡ false) ran (YieldsList-from_take m (YieldsList-from_zip (YieldsList-from_slice xs from) (YieldsList-from_slice ys beside)) count)
    (λ x q c. sym (k x true q c).1) (λ x q c. ((k x false q c).0, sym (k x false q c).1)))
    ∙ any_below_same n _ _ (λ i l. ap (λ (p : A × A). ltb i m && both p) (get_or-zip xs ys i (d, d) (omega arith) (omega arith)))

-- ---- an array mapped
pub mapped : {A F : Type 0} {g : Mut F (A × Unit {0}) A} {f : F} {xs ys : List A} {n : ℕ} (h : A → A) (d : A)
    → length xs ≡ n → IsMapOf g f xs ys n → ((x y : A) (q : F) → Called g f (x, tt) y q → (q ≡ f) × (y ≡ h x)) → ys ≡ map h xs
mapped {A} {F} {g} {f} {xs} {ys} {n} h d long r k =
    table_of (λ i. h (get_or xs i d)) ys n d r.long (λ i l. go n 0 f (omega arith) refl r.each i (omega arith) l) ∙ sym (rw (long) at (map_table h xs d))
  where
    go : (m i : ℕ) (p : F) → i + m ≡ n → p ≡ f → MapsFrom g p xs ys i m → (j : ℕ) → i ≤ j → j < n → get_or ys j d ≡ h (get_or xs j d)
    go zero i p e same each j a b = absurd (omega arith)
    go (suc m) i p e same each j a b =
        let says = k each.1 each.2 each.0 (subst (λ x. Called g x (each.1, tt) each.2 each.0) same each.5) in
        elim (ℕ_discrete j i) [
          | yes z ↦ rw z (each.4.1 d ∙ says.1 ∙ ap h (sym (each.3.1 d)))
          | no z ↦ go m (i + 1) each.0 (omega arith) says.0 each.6 j (omega arith) b
        ]
