-- The words of a line: where they begin and end, and what a word is. Assumes nothing.
use Rattle.std.proofs.Common.{◌≡◌, ℕ, suc, ◌+◌, ◌-◌, ◌<◌, ◌≤◌, Bool, true, false, not, cond, ◌&&◌, List, [], ◌∷◌, length, get_or, take, drop, eqb, refl, sym, ap, ◌∙◌, arith, add-one, drop-cons, ne_eqb, leb-false, eq-eqb, le-leb, ◌≢◌, ◌*◌, take_all, Bor, ne_eqb, eq-eqb, le-leb, ◌≢◌, ◌*◌, drop_of_length-le, Option, Some, None}
use Rattle.std.specs.List.{position_or_len, find}
use Rattle.std.specs.Prelude.{if◌then◌else◌, Result, Ok, Err, MatchResult, leb}
use Rattle.std.specs.Fn.{FnReturns, FnReturnsAt}
use denote.Param.Members.{Shared}
use Rattle.std.specs.Result.{OkIff, result_ok}
use Rattle.std.specs.Option.{MatchOption, unwrap_or, option_map}
use Rattle.std.specs.Cmp.Lexicographic.{pointwise}
use Rattle.std.proofs.lemmas.List.Recursion.{is_position_or_len}
use Rattle.std.proofs.lemmas.Bool.{lt-leb}
use Rattle.std.proofs.Math.Bool.{and-true, and-false}
use Rattle.search.specs.Words.{◌isn't◌}
use Rattle.search.specs.Texts.{value_behind}
use Rattle.scenario.specs.Words.{is_blank, blanks, letters, trimmed, first_word, behind, are_same, is_digit, are_digits, is_number, unended_length}
use Rattle.scenario.specs.Arguments.{Argument}
use Rattle.scenario.specs.Items.{one, not_one, number_in, argument_of}
use Rattle.scenario.specs.Faults.{sort_number, reason_number}
use Rattle.scenario.specs.Reads.{argument_from}
use Rattle.scenario.specs.declared.faults.Sort.{Sort}
use Rattle.scenario.specs.declared.faults.Reason.{Reason}
use Rattle.scenario.specs.declared.faults.Reason.TheVariants.{Misfit}

-- ---- where the first word begins, and where it ends
blanks_past : (c : ℕ) (l : List ℕ) → blanks (c ∷ l) ≡ cond (not (is_blank c)) 0 (1 + blanks l)
unfolding blanks
blanks_past c l =
    elim (is_blank c) as (λ b. (if b then suc (blanks l) else 0) ≡ cond (not b) 0 (1 + blanks l))
    [ true ↦ omega arith | false ↦ refl ]

pub blanks_is : (l : List ℕ) → blanks l ≡ position_or_len (λ c. not (is_blank c)) l
unfolding blanks
blanks_is l = is_position_or_len blanks (λ c. not (is_blank c)) refl blanks_past l

letters_past : (c : ℕ) (l : List ℕ) → letters (c ∷ l) ≡ cond (is_blank c) 0 (1 + letters l)
unfolding letters
letters_past c l =
    elim (is_blank c) as (λ b. (if b then 0 else suc (letters l)) ≡ cond b 0 (1 + letters l))
    [ true ↦ refl | false ↦ omega arith ]

pub letters_is : (l : List ℕ) → letters l ≡ position_or_len is_blank l
unfolding letters
letters_is l = is_position_or_len letters is_blank refl letters_past l

-- ---- two words
pub are_same_is : (l m : List ℕ) → are_same l m ≡ pointwise eqb l m
unfolding are_same
are_same_is [] [] = refl
are_same_is [] (d ∷ m) = refl
are_same_is (c ∷ l) [] = refl
are_same_is (c ∷ l) (d ∷ m) = ap (λ b. eqb c d && b) (are_same_is l m)

-- ---- what stands beside a word in a table, row after row
module _ {T V : Type 0} (says : Option T → V) (w : List ℕ) where
  abbrev pub rows_say : List (Bor (List ℕ) × T) → V
  rows_say [] = says None
  rows_say (row ∷ rows) = if are_same w row.0.now then says (Some row.1) else rows_say rows

  pub beside_is : (rows : List (Bor (List ℕ) × T))
      → says (option_map (λ row. row.1) (find (λ row. pointwise eqb w row.0.now) rows)) ≡ rows_say rows
  beside_is [] = refl
  beside_is (row ∷ rows) = rw (are_same_is w row.0.now) (go (pointwise eqb w row.0.now) (beside_is rows))
    where
      go : (b : Bool)
          → says (option_map (λ row. row.1) (find (λ row. pointwise eqb w row.0.now) rows)) ≡ rows_say rows
          → says (option_map (λ row. row.1) (cond b (Some row) (find (λ row. pointwise eqb w row.0.now) rows)))
          ≡ (if b then says (Some row.1) else rows_say rows)
      go true later = refl
      go false later = later

-- ---- a first word by its two ends
module _ (l trimmed_l word rest : List ℕ) (t : trimmed_l ≡ drop (position_or_len (λ c. not (is_blank c)) l) l) where
  trimmed_is : trimmed_l ≡ trimmed l
  trimmed_is = rw blanks_is t

  pub word_is : word ≡ take (position_or_len is_blank trimmed_l) trimmed_l → word ≡ first_word l
  word_is w = rw (letters_is, ← trimmed_is) w

  pub behind_is : rest ≡ drop (position_or_len is_blank trimmed_l) trimmed_l → rest ≡ behind l
  behind_is r = rw (letters_is, ← trimmed_is) r

-- ---- the carriage return at a line's end
last_is : (l : List ℕ) (c : ℕ)
    → pointwise eqb (drop (length l - 1) l) (suc c ∷ []) ≡ eqb (get_or l (length l - 1) 0) (suc c)
last_is [] c = sym (ne_eqb 0 (suc c) (λ e. absurd (omega arith)))
last_is (d ∷ l) c =
    let n = length (d ∷ l) - 1 in
    let h : n < length (d ∷ l) = omega arith in
    let none : drop (suc n) (d ∷ l) ≡ [] = drop_of_length-le (d ∷ l) {i = suc n} (omega arith) in
    rw (drop-cons (d ∷ l) n 0 h, none) (and-true _)

-- a line without it
pub unended_is : (l : List ℕ) (r : Option (Bor (List ℕ))) (whole : Bor (List ℕ)) → whole.now ≡ l
    → MatchOption r (pointwise eqb (drop (length l - 1) l) (13 ∷ []) ≡ false)
    (λ x. (pointwise eqb (drop (length l - 1) l) (13 ∷ []) ≡ true) × (x.now ≡ take (length l - 1) l)
    × (length x.now + 1 ≡ length l))
    → (unwrap_or r whole).now ≡ take (unended_length l) l
unfolding unended_length
unended_is l None whole w f = rw (sym (last_is l 12) ∙ f) (w ∙ sym (take_all (length l) l (omega arith)))
unended_is l (Some x) whole w f = rw (sym (last_is l 12) ∙ f.0) f.1

-- ---- a number: at a place of l that is inside it, and past its end
module _ (l : List ℕ) (i : ℕ) where
  module _ (h : i < length l) where
    pub digits_on : is_digit (get_or l i 0) ≡ true → are_digits (drop i l) ≡ are_digits (drop (i + 1) l)
    unfolding are_digits
    digits_on b = rw (add-one, drop-cons l i 0 h, b)

    pub digits_off : is_digit (get_or l i 0) ≡ false → are_digits (drop i l) ≡ false
    unfolding are_digits
    digits_off b = rw (drop-cons l i 0 h, b)

    pub value_on : (v : ℕ) → value_behind v (drop i l) ≡ value_behind (10 * v + (get_or l i 0 - 48)) (drop (i + 1) l)
    value_on v = rw (add-one, drop-cons l i 0 h)

  module _ (h : length l ≤ i) where
    pub digits_out : are_digits (drop i l) ≡ true
    unfolding are_digits
    digits_out = rw (drop_of_length-le l {i = i} h)

    pub value_out : (v : ℕ) → value_behind v (drop i l) ≡ v
    value_out v = rw (drop_of_length-le l {i = i} h)

-- more digits never make it smaller
pub value_least : (v : ℕ) (l : List ℕ) → v ≤ value_behind v l
value_least v [] = omega arith
value_least v (c ∷ l) = let r = value_least (10 * v + (c - 48)) l in omega (arith, r)

module _ (most : ℕ) (w : List ℕ) where
  pub number_none : length w ≡ 0 → number_in most w ≡ not_one
  unfolding number_in is_number
  number_none e = rw (eq-eqb (length w) 0 e)

  pub number_undigit : are_digits w ≡ false → number_in most w ≡ not_one
  unfolding number_in is_number
  number_undigit e = rw (e, and-false (length w isn't 0))

  pub number_large : most < value_behind 0 w → number_in most w ≡ not_one
  unfolding number_in is_number
  number_large h = rw (lt-leb (value_behind 0 w) most h, and-false (length w isn't 0 && are_digits w))

  pub number_good : length w ≢ 0 → are_digits w ≡ true → value_behind 0 w ≤ most
      → number_in most w ≡ one (value_behind 0 w)
  unfolding number_in is_number
  number_good d e h = rw (ne_eqb (length w) 0 d, e, le-leb (value_behind 0 w) most h)

-- ---- a number that is to be smaller
module _ (most : ℕ) (w : List ℕ) (small : most ≤ 4294967295) where
  pub narrow_none : not_one ≡ number_in 4294967295 w → not_one ≡ number_in most w
  unfolding number_in is_number
  narrow_none e = go (length w isn't 0 && are_digits w) (leb (value_behind 0 w) 4294967295) refl e
    where
      go : (b g : Bool) → leb (value_behind 0 w) 4294967295 ≡ g
          → not_one ≡ (if b && g then one (value_behind 0 w) else not_one)
          → not_one ≡ (if b && leb (value_behind 0 w) most then one (value_behind 0 w) else not_one)
      go false g f e = refl
      go true true f e = let never = ap (λ (a : Argument). a.right) e in cc
      go true false f e =
          let over = leb-false (value_behind 0 w) 4294967295 f in
          rw (lt-leb (value_behind 0 w) most (omega arith))

  pub narrow_some : {E : Type 0} (r : Result ℕ E) (v : ℕ) → one v ≡ number_in 4294967295 w
      → OkIff r (v < most + 1) v → argument_from (result_ok r) ≡ number_in most w
  unfolding number_in is_number
  narrow_some {E = E} r v e ok = go (length w isn't 0 && are_digits w) (leb (value_behind 0 w) 4294967295) e r ok
    where
      go : (b g : Bool) → one v ≡ (if b && g then one (value_behind 0 w) else not_one)
          → (r : Result ℕ E) → OkIff r (v < most + 1) v
          → argument_from (result_ok r)
          ≡ (if b && leb (value_behind 0 w) most then one (value_behind 0 w) else not_one)
      go false g e r ok = let never = ap (λ (a : Argument). a.right) e in cc
      go true false e r ok = let never = ap (λ (a : Argument). a.right) e in cc
      go true true e (Ok x) ok =
          let same = ap (λ (a : Argument). a.value) e in
          let least : value_behind 0 w ≤ most = omega (arith, same, ok.0) in
          rw (le-leb (value_behind 0 w) most least, ok.1) e
      go true true e (Err x) ok =
          let same = ap (λ (a : Argument). a.value) e in
          let over : most < value_behind 0 w = omega (arith, same, ok) in
          rw (lt-leb (value_behind 0 w) most over)

-- ---- a word behind one byte
pub prefix_is : (w : List ℕ) (c : ℕ) → pointwise eqb (take 1 w) (suc c ∷ []) ≡ eqb (get_or w 0 0) (suc c)
prefix_is [] c = sym (ne_eqb 0 (suc c) (λ e. absurd (omega arith)))
prefix_is (d ∷ l) c = and-true _

-- ---- what is read of a first word by a reader of its sort
module _ {F : Type 0} {g : Shared F (Bor (List ℕ) × Unit {0}) (Option ℕ)} {f : F} where
  pub read_is : (sort : Sort) (w : List ℕ) (r : Result ℕ Reason)
      → ((l : Bor (List ℕ)) (o : Option ℕ) → FnReturns g f (l, tt) o
      → argument_from o ≡ argument_of (sort_number sort) l.now)
      → MatchResult r (λ value. FnReturnsAt g f w (Some value)) (λ reason. FnReturnsAt g f w None × (reason ≡ Misfit sort))
      → MatchResult r (λ value. argument_of (sort_number sort) w ≡ one value)
      (λ reason. (argument_of (sort_number sort) w ≡ not_one) × (reason_number reason ≡ sort_number sort))
  read_is sort w (Ok value) reads k = rw (← k.shows) (sym (reads k.shown (Some value) k.says))
  read_is sort w (Err reason) reads k =
      (rw (← k.0.shows) (sym (reads k.0.shown None k.0.says)), ap reason_number k.1)
