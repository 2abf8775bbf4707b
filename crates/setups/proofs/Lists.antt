-- Facts of lists. Assumes nothing.
use Prim.Native.Nat.{ℕ, ◌+◌, ◌<◌, ◌-◌, min}
use native.Mathlib.Omega.{arith}
use native.Mathlib.Decide.{dec_lt}
use mathlib.Core.Path.{◌≡◌, refl, sym, ◌∙◌}
use mathlib.Core.List.{List, map, ◌++◌}
use lib.Dec.{ltb}
use lib.ListN
use lib.ListN.{length, get_or, length-map, take, drop, replicate, length-take, length-append, length-replicate, get_or-append}
use lib.Seq.{take_all, get_or-append-add}
use borrow.Author.Tests.{lt-ltb, le-ltb}
use Rattle.std.proofs.lemmas.List.{get_or-take, drop-replicate}
use Rattle.std.specs.Prelude.{if◌then◌else◌}
use Rattle.search.specs.Table.{table}
use Rattle.search.proofs.Tables.{table_of, get_d_any, replicate_at}
use Rattle.setups.specs.Clearing.{below}

-- a list mapped, at a place and by its places
pub get_d_map {ℓ} : {A : Type ℓ} (f : A → A) (l : List A) (k : ℕ) (d : A) → k < length l → get_or (map f l) k d ≡ f (get_or l k d)
get_d_map f l k d h = get_d_any (map f l) k d (f d) (rw length-map h) ∙ ListN.get_or-map f l k d

pub map_table {ℓ} : {A : Type ℓ} (f : A → A) (l : List A) (d : A) → map f l ≡ table (λ i. f (get_or l i d)) (length l)
map_table f l d = table_of (λ i. f (get_or l i d)) (map f l) (length l) (f d) (length-map l f) (λ i h. ListN.get_or-map f l i d)

-- a list whose elements f keeps
pub map_same {ℓ} : {A : Type ℓ} (f : A → A) (l : List A) (d : A) → ((i : ℕ) → i < length l → f (get_or l i d) ≡ get_or l i d) → map f l ≡ l
map_same f l d h = map_table f l d ∙ sym (table_of (λ i. f (get_or l i d)) l (length l) d refl (λ i m. sym (h i m)))

-- place i of a list that is cleared from n on
abbrev pub kept_below : ℕ → List ℕ → ℕ → ℕ
kept_below n l i = if ltb i n then get_or l i 0 else 0

-- the first m places of l, which has n, and z at the others, as an array of z into which they are copied
pub front_kept : {A : Type 0} (l : List A) (m n : ℕ) (z : A) → length l ≡ n
    → take (min m n) l ++ drop (min m n) (replicate n z) ≡ take m l ++ replicate (n - m) z
front_kept l m n z long = elim (dec_lt m n) [
  | yes h ↦
      let e : min m n ≡ m = omega arith in
      rw (e, drop-replicate m n z)
  | no h ↦
      let e : min m n ≡ n = omega arith in
      let none : n - m ≡ n - n = omega arith in
      rw (e, none, take_all m l (omega arith), take_all n l (omega arith), drop-replicate n n z)
]

-- and as it is specified
pub below_front : (m n : ℕ) (l : List ℕ) → length l ≡ n → take m l ++ replicate (n - m) 0 ≡ below m n l
unfolding below
below_front m n l long =
    table_of (kept_below m l) (take m l ++ replicate (n - m) 0) n 0
    (simp (length-append, length-take, length-replicate) (omega arith))
    (λ i h. elim (dec_lt i m) [
      | yes g ↦ rw (lt-ltb i m g) (get_or-append (take m l) (replicate (n - m) 0) 0 i (omega (arith, length-take m l)) ∙ get_or-take m l i 0 g)
      | no g ↦
          let at : i ≡ length (take m l) + (i - m) = omega (arith, length-take m l) in
          rw (le-ltb i m (omega arith), at) (get_or-append-add (take m l) (replicate (n - m) 0) (i - m) 0 ∙ replicate_at (n - m) (i - m) 0)
    ])
