-- Changing any one byte before the check is caught: the first sums part at the word that holds it, and stay apart. Assumes nothing.
use Prim.Native.Nat.{ℕ, zero, suc, ◌+◌, ◌*◌, ◌/◌, ◌%◌, ◌≤◌, ◌<◌}
use mathlib.Core.Path.{◌≡◌, refl, sym, ap, ◌∙◌}
use mathlib.Core.Bool.{Bool, true, false}
use mathlib.Core.List.{List}
use mathlib.Core.Logic.{◌≢◌}
use native.Mathlib.Omega.{arith}
use native.Mathlib.Decide.{ℕ_discrete, dec_lt}
use lib.ListN.{length, set, length-set}
use lib.Seq.{set_out, get_or-set_same, get_or-set_other}
use Rattle.search.proofs.Tests.{tests, not_false_iff}
use Rattle.input.specs.Layout.{byte, word}
use Rattle.blocks.specs.Sizes.{check_at}
use Rattle.blocks.specs.Check.{words, modulus, sums, check_of, is_checked}
use Rattle.blocks.specs.Verdicts.{Used, block_rows, verdict, number_of}
use Rattle.blocks.specs.OneByte.{AreBytes, OneChanged, OneByteIsCaught, OneByteIsRefused}
use Rattle.blocks.proofs.Sums.{sums_below}
use Rattle.blocks.proofs.Numbers.{judge_given, judge_none}

-- a block whose check is right holds its first sum
first_held : (block : List ℕ) → is_checked block ≡ true → word block check_at ≡ (check_of block).first
unfolding is_checked
first_held block checked = (simp tests at checked).0

-- an accepted block's check is right
used_checked : (block : List ℕ) (k m : ℕ) → verdict block k ≡ Used m → is_checked block ≡ true
unfolding block_rows
used_checked block k m h = simp not_false_iff at ((judge_none block k).0 (ap number_of h) 1 (omega arith))

-- words less than the modulus apart that take a sum to the same are the same
same_rest : (s x y : ℕ) → x < y + modulus → y < x + modulus → (s + x) % modulus ≡ (s + y) % modulus → x ≡ y
same_rest s x y l m e = omega arith

module _ (a b : List ℕ) (in_a : AreBytes a) (in_b : AreBytes b) (o : OneChanged a b) where
  other_words : (n : ℕ) → n ≢ o.place / 2 → word a (2 * n) ≡ word b (2 * n)
  other_words n d = rw (o.others (2 * n) (λ e. d (omega arith)), o.others (2 * n + 1) (λ e. d (omega arith)))

  -- up to the word that holds the byte the first sums are the same
  first_same : (n : ℕ) → n ≤ o.place / 2 → (sums a n).first ≡ (sums b n).first
  unfolding sums
  first_same zero h = refl
  first_same (suc n) h = rw (first_same n (omega arith), other_words n (λ e. omega arith))

  -- that word differs, by less than the modulus
  first_parts : (n : ℕ) → n ≡ o.place / 2 → (sums a (suc n)).first ≢ (sums b (suc n)).first
  unfolding sums
  first_parts n q e =
      let rest = rw (first_same n (omega arith)) at e in
      let lows : (byte a (2 * n) < 256) × (byte b (2 * n) < 256) = (in_a _, in_b _) in
      let highs : (byte a (2 * n + 1) < 256) × (byte b (2 * n + 1) < 256) = (in_a _, in_b _) in
      let word_same = same_rest (sums b n).first (word a (2 * n)) (word b (2 * n)) in
      elim (ℕ_discrete o.place (2 * n)) [
        | yes low ↦
            let high = o.others (2 * n + 1) (λ p. omega arith) in
            (rw low at o.changed) (omega (arith, word_same (omega arith) (omega arith) rest))
        | no d ↦
            let high : o.place ≡ 2 * n + 1 = omega arith in
            let low = o.others (2 * n) (λ p. omega arith) in
            (rw high at o.changed) (omega (arith, word_same (omega arith) (omega arith) rest))
      ]

  -- and the words behind it are the same
  first_apart : (n : ℕ) → o.place / 2 < n → (sums a n).first ≢ (sums b n).first
  unfolding sums
  first_apart zero h e = omega arith
  first_apart (suc n) h e = elim (ℕ_discrete n (o.place / 2)) [
    | yes q ↦ first_parts n q e
    | no d ↦ first_apart n (omega arith) (omega (arith, other_words n d, sums_below a n, sums_below b n))
  ]

  -- so not both checks are right
  one_right : is_checked a ≡ true → is_checked b ≡ true → ⊥
  one_right p q =
      let low = o.others check_at (λ e. omega arith) in
      let high = o.others (check_at + 1) (λ e. omega arith) in
      let same : (check_of a).first ≡ (check_of b).first = omega (arith, first_held a p, first_held b q) in
      first_apart words (omega arith) same

pub one_byte : OneByteIsCaught
one_byte a b in_a in_b o k l m n used used' = one_right a b in_a in_b o (used_checked a k m used) (used_checked b l n used')

-- ---- one byte set
not_true_false : (b : Bool) → (b ≡ true → ⊥) → b ≡ false
not_true_false true f = absurd (f refl)
not_true_false false f = refl

set_bytes : (block : List ℕ) (place value : ℕ) → AreBytes block → value < 256 → AreBytes (set block place value)
set_bytes block place value all small i = elim (ℕ_discrete i place) [
  | yes e ↦ elim (dec_lt place (length block)) [
    | yes l ↦ rw (e, get_or-set_same block place value 0 l) small
    | no l ↦ rw (set_out block place value (omega arith)) (all i)
  ]
  | no d ↦ rw (get_or-set_other block place i value 0 d) (all i)
]

pub one_byte_refused : OneByteIsRefused
unfolding block_rows
one_byte_refused block place value index all long checked inside small other =
    let next = set block place value in
    let l : place < length block = omega arith in
    let changed : OneChanged block next = record {
      place = place;
      inside = inside;
      changed = λ e. other (sym (e ∙ get_or-set_same block place value 0 l));
      others = λ i d. sym (get_or-set_other block place i value 0 d);
    } in
    let wrong : is_checked next ≡ false = not_true_false _ (λ right. one_right block next all (set_bytes block place value all small) changed checked right) in
    (judge_given next index 31 (λ e. omega arith)).1 (record {
      row = 1;
      inside = omega arith;
      number = refl;
      applies = rw wrong;
      earlier = λ k m. let z : k ≡ 0 = omega arith in rw (z, length-set block place value, long);
    })
