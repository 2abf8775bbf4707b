-- What the answer of a list of refusals says of its rows, and back. Assumes nothing.
use Prim.Native.Nat.{ℕ, zero, suc, ◌<◌}
use native.Mathlib.Nat.{not-suc-le-zero, le_of_suc-le-suc}
use native.Mathlib.Omega.{arith}
use mathlib.Core.Path.{◌≡◌, refl, sym, ◌∙◌}
use mathlib.Core.Bool.{Bool, true, false, true≢false}
use mathlib.Core.List.{List, [], ◌∷◌}
use mathlib.Core.Logic.{◌≢◌, ◌↔◌}
use lib.ListN.{length, get_or}
use borrow.Author.Tests.{eqb-true, eqb-false, not-true}
use Rattle.std.specs.Prelude.{if◌then◌else◌}
use Rattle.search.specs.Words.{◌is◌, ◌isn't◌}
use Rattle.numbers.specs.Rows.{Row, first_of}
use Rattle.numbers.specs.Numbered.{no_row, is_numbered, is_missing, is_at_row, FirstAt, NoneApplies}
use Rattle.search.proofs.Tests.{never, and_left, and_right}

-- row i is numbered n and applies, and no earlier row does
pub record Given (rows : List Row) (n : ℕ) : Type 0 where
  pub row : ℕ
  pub inside : row < length rows
  pub number : (get_or rows row no_row).0 ≡ n
  pub applies : (get_or rows row no_row).1 ≡ true
  pub earlier : (k : ℕ) → k < row → (get_or rows k no_row).1 ≡ false

-- one row more, which does not apply
later : (row : Row) (rows : List Row) (n : ℕ) → row.1 ≡ false → Given rows n → Given (row ∷ rows) n
later row rows n e G = record {
  row = suc G.row;
  inside = omega (arith, G.inside);
  number = G.number;
  applies = G.applies;
  earlier = λ k l. at k l;
}
  where
    at : (k : ℕ) → k < suc G.row → (get_or (row ∷ rows) k no_row).1 ≡ false
    at zero l = e
    at (suc k) l = G.earlier k (le_of_suc-le-suc l)

first_of_lem : (rows : List Row) (i : ℕ) → i < length rows → (get_or rows i no_row).1 ≡ true → ((k : ℕ) → k < i → (get_or rows k no_row).1 ≡ false) → first_of rows ≡ (get_or rows i no_row).0
first_of_lem [] i l a f = absurd (not-suc-le-zero l)
first_of_lem (row ∷ rows) zero l a f = rw a
first_of_lem (row ∷ rows) (suc i) l a f = rw (f 0 (omega arith)) (first_of_lem rows i (le_of_suc-le-suc l) a (λ k m. f (suc k) (omega arith)))

of_first : (rows : List Row) (n : ℕ) → n ≢ 0 → first_of rows ≡ n → Given rows n
of_first [] n d e = absurd (d (sym e))
of_first (row ∷ rows) n d e = go row.1 refl (of_first rows n d)
  where
    go : (b : Bool) → row.1 ≡ b → (first_of rows ≡ n → Given rows n) → Given (row ∷ rows) n
    go true q ih = record { row = 0; inside = omega arith; number = rw q at e; applies = q; earlier = λ k l. absurd (not-suc-le-zero l) }
    go false q ih = later row rows n q (ih (rw q at e))

-- the answer is n, not 0, exactly when row n applies and no earlier one does
pub given_iff : (rows : List Row) (n : ℕ) → n ≢ 0 → (first_of rows ≡ n) ↔ Given rows n
given_iff rows n d = (of_first rows n d, λ G. first_of_lem rows G.row G.inside G.applies G.earlier ∙ G.number)

none_of : (rows : List Row) → is_numbered rows ≡ true → first_of rows ≡ 0 → NoneApplies rows
none_of [] t e k l = absurd (not-suc-le-zero l)
none_of (row ∷ rows) t e k l = go row.1 refl k l (none_of rows (and_right (row.0 isn't 0) _ t))
  where
    go : (b : Bool) → row.1 ≡ b → (k : ℕ) → k < length (row ∷ rows) → (first_of rows ≡ 0 → NoneApplies rows) → (get_or (row ∷ rows) k no_row).1 ≡ false
    go true q k l ih = absurd (eqb-false row.0 0 (not-true _ (and_left _ _ t)) (rw q at e))
    go false q zero l ih = q
    go false q (suc k) l ih = ih (rw q at e) k (le_of_suc-le-suc l)

of_none : (rows : List Row) → NoneApplies rows → first_of rows ≡ 0
of_none [] f = refl
of_none (row ∷ rows) f = rw (f 0 (omega arith)) (of_none rows (λ k l. f (suc k) (omega arith)))

-- the answer is 0 exactly when no row applies, where every row has a number
pub none_iff : (rows : List Row) → is_numbered rows ≡ true → (first_of rows ≡ 0) ↔ NoneApplies rows
none_iff rows t = (none_of rows t, of_none rows)

-- ---- two lists, row by row
-- a row n that applies alike in both lists, and later rows that answer the same where it does not: the lists answer the
-- same. `first_of` of a row and later rows is this `if`, so a proof about two lists has one such step a row
pub row_same : {a b : Bool} {x y : ℕ} (n : ℕ) → a ≡ b → (a ≡ false → x ≡ y) → (if a then n else x) ≡ (if b then n else y)
row_same {a} {b} {x} {y} n e later = go a b e later
  where
    go : (a b : Bool) → a ≡ b → (a ≡ false → x ≡ y) → (if a then n else x) ≡ (if b then n else y)
    go true true e later = refl
    go true false e later = absurd (true≢false e)
    go false true e later = absurd (true≢false (sym e))
    go false false e later = later refl

-- ---- a number that is at one row
missing : (rows : List Row) (n : ℕ) → n ≢ 0 → is_missing rows n ≡ true → first_of rows ≢ n
missing [] n d m e = d (sym e)
missing (row ∷ rows) n d m e = go row.1 refl (missing rows n d (and_right (row.0 isn't n) _ m))
  where
    go : (b : Bool) → row.1 ≡ b → first_of rows ≢ n → ⊥
    go true q ih = eqb-false row.0 n (not-true _ (and_left _ _ m)) (rw q at e)
    go false q ih = ih (rw q at e)

first_there : (rows : List Row) (n i : ℕ) → n ≢ 0 → is_at_row rows n i ≡ true → first_of rows ≡ n → FirstAt rows i
first_there [] n i d m e = never refl m
first_there (row ∷ rows) n zero d m e = go row.1 refl
  where
    go : (b : Bool) → row.1 ≡ b → FirstAt (row ∷ rows) 0
    go true q = record { applies = q; earlier = λ k l. absurd (not-suc-le-zero l) }
    go false q = absurd (missing rows n d (and_right (row.0 is n) _ m) (rw q at e))
first_there (row ∷ rows) n (suc i) d m e = go row.1 refl (first_there rows n i d (and_right (row.0 isn't n) _ m))
  where
    go : (b : Bool) → row.1 ≡ b → (first_of rows ≡ n → FirstAt rows i) → FirstAt (row ∷ rows) (suc i)
    go true q ih = absurd (eqb-false row.0 n (not-true _ (and_left _ _ m)) (rw q at e))
    go false q ih = let F = ih (rw q at e) in record { applies = F.applies; earlier = λ k l. below k l F }
      where
        below : (k : ℕ) → k < suc i → FirstAt rows i → (get_or (row ∷ rows) k no_row).1 ≡ false
        below zero l F = q
        below (suc k) l F = F.earlier k (le_of_suc-le-suc l)

there_first : (rows : List Row) (n i : ℕ) → is_at_row rows n i ≡ true → FirstAt rows i → first_of rows ≡ n
there_first [] n i m F = never refl m
there_first (row ∷ rows) n zero m F = rw F.applies (eqb-true row.0 n (and_left (row.0 is n) _ m))
there_first (row ∷ rows) n (suc i) m F = rw (F.earlier 0 (omega arith))
    (there_first rows n i (and_right (row.0 isn't n) _ m) (record { applies = F.applies; earlier = λ k l. F.earlier (suc k) (omega arith) }))

-- the answer is n exactly when row i is the first that applies, where n is that row's number and no other's
pub number_iff : (rows : List Row) (n i : ℕ) → n ≢ 0 → is_at_row rows n i ≡ true → (first_of rows ≡ n) ↔ FirstAt rows i
number_iff rows n i d m = (first_there rows n i d m, there_first rows n i m)
