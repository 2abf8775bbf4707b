-- What a chain of iterators over the numbers below n, or over a slice, answers, in the words of specs/. The closure leaves
-- what it captures as it is, and answers the test at each number or element. Assumes nothing.
use Prim.Native.Nat.{ℕ, zero, suc, ◌+◌, ◌<◌, ◌≤◌}
use mathlib.Core.Path.{◌≡◌, refl, sym, ap, subst, ◌∙◌}
use mathlib.Core.Bool.{Bool, true, false, cond}
use mathlib.Core.List.{List, [], ◌∷◌, map-id}
use lib.ListN.{length, get_or}
use native.Mathlib.Omega.{arith}
use native.Mathlib.Decide.{ℕ_discrete, dec_lt}
use denote.Param.Members.{Mut, Called}
use denote.Ref.{Bor}
use Rattle.std.specs.declared.ops.Range.{Range}
use Rattle.std.specs.declared.iter.Filter.{Filter}
use Rattle.std.specs.declared.slice.Iter.{Iter}
use Rattle.std.specs.Prelude.{if◌then◌else◌, Option, Some, None, MatchOption, MatchBool, unwrap_or}
use Rattle.std.specs.Fn.{CalledAt}
use Rattle.std.specs.Array.{IsFromFnResult, IsFromFnResultFrom}
use Rattle.std.specs.Iterator.{ChecksAll, ChecksAny, FindsItem, FindsPosition, FoldsItems, FoldTurn, Drains}
use Rattle.std.specs.Iterator.Adapters.{filter_source, filter_callee, filter_steps}
use Rattle.std.specs.List.{FoldsTo, filter, AllWithin, HoldsAt, range_with_len}
use Rattle.std.specs.Slice.Iter.{iter_rest}
use Rattle.std.proofs.iter.Yields.{nat_range_steps, fronts}
use Rattle.std.proofs.lemmas.Iterator.{YieldsList, YieldsList-from_slice, YieldsList-from_range, items_from_drains, cases_from_all, cases_from_any, IsFirst-from_position, first_from_Range}
use Rattle.std.proofs.lemmas.Iterator.Consumers.{YieldsList-at, YieldsList-from_filter, count_from_yields_List}
use Rattle.std.proofs.lemmas.List.FromFn.{length-range_with_len, get_or-range_with_len}
use Rattle.search.specs.Below.{all_below, any_below, how_many}
use Rattle.search.specs.First.{first}
use Rattle.search.specs.Table.{table}
use Rattle.search.proofs.Firsts.{first_law}
use Rattle.search.proofs.Pigeons.{how_many_same}
use Rattle.search.proofs.Tables.{table_of}
use Rattle.search.proofs.Tests.{tests, never}

-- true where every number below n passes, and false where some number fails
pub is_all : (r : Bool) (n : ℕ) (ok : ℕ → Bool) → MatchBool r ((k : ℕ) → k < n → ok k ≡ true) ((k : ℕ) × (k < n) × (ok k ≡ false)) → r ≡ all_below n ok
is_all true n ok h = sym (simp tests h)
is_all false n ok h = go (all_below n ok) (λ e. never h.2 ((simp tests at e) h.0 h.1))
  where
    go : (b : Bool) → (b ≡ true → ⊥) → false ≡ b
    go true f = absurd (f refl)
    go false f = refl

pub is_any : (r : Bool) (n : ℕ) (ok : ℕ → Bool) → MatchBool r ((k : ℕ) × (k < n) × (ok k ≡ true)) ((k : ℕ) → k < n → ok k ≡ false) → r ≡ any_below n ok
is_any true n ok h = sym (simp tests h)
is_any false n ok h = sym (simp tests h)

-- the first number that passes
pub is_first : (ok : ℕ → Bool) (n j : ℕ) → j ≤ n → ((i : ℕ) → i < j → ok i ≡ false) → (j < n → ok j ≡ true) → j ≡ first ok 0 n
is_first ok n j le before here =
    let l = first_law ok 0 n in
    elim (dec_lt j (first ok 0 n)) [
      | yes h ↦ never (l.before j (omega arith) h) (here (omega (arith, l.high)))
      | no h ↦ elim (dec_lt (first ok 0 n) j) [
        | yes g ↦ never (before (first ok 0 n) g) (l.here (omega arith))
        | no g ↦ omega arith
      ]
    ]

-- the items of a chain are the list xs, and an answer b at an item, `Says b`, is the test's at its place
module _ {B : Type 0} (Says : Bool → B → Type 0) (xs : List B) (d : B) (n : ℕ) (ok : ℕ → Bool) (long : length xs ≡ n)
    (at : (b : Bool) (k : ℕ) → k < n → Says b (get_or xs k d) → ok k ≡ b) where
  told : (b : Bool) (k : ℕ) → k < length xs → Says b (get_or xs k d) → ok k ≡ b
  told b k l h = at b k (omega arith) h

  all_told : (b : Bool) (m : ℕ) → m ≤ length xs → AllWithin (Says b) xs 0 m → (k : ℕ) → k < m → ok k ≡ b
  all_told b m le h k l = told b k (omega arith) (h k d (omega arith) l)

  some_told : (b : Bool) → (k : ℕ) × (k < length xs) × HoldsAt (Says b) xs k → (k : ℕ) × (k < n) × (ok k ≡ b)
  some_told b h = (h.0, omega (arith, h.1), told b h.0 h.1 (h.2 d))

  all_over : (r : Bool) → MatchBool r (AllWithin (Says true) xs 0 (length xs)) ((k : ℕ) × (k < length xs) × HoldsAt (Says false) xs k) → r ≡ all_below n ok
  all_over true h = is_all true n ok (λ k l. all_told true (length xs) (omega arith) h k (omega arith))
  all_over false h = is_all false n ok (some_told false h)

  any_over : (r : Bool) → MatchBool r ((k : ℕ) × (k < length xs) × HoldsAt (Says true) xs k) (AllWithin (Says false) xs 0 (length xs)) → r ≡ any_below n ok
  any_over true h = is_any true n ok (some_told true h)
  any_over false h = is_any false n ok (λ k l. all_told false (length xs) (omega arith) h k (omega arith))

  first_over : (r : Option ℕ)
      → MatchOption r (AllWithin (Says false) xs 0 (length xs)) (λ i. (i < length xs) × HoldsAt (Says true) xs i × AllWithin (Says false) xs 0 i)
      → unwrap_or r n ≡ first ok 0 n
  first_over None h = is_first ok n n (omega arith) (λ k l. all_told false (length xs) (omega arith) h k (omega arith)) (λ l. absurd (omega arith))
  first_over (Some i) h = is_first ok n i (omega (arith, h.0)) (all_told false i (omega (arith, h.0)) h.2) (λ l. told true i h.0 (h.1 d))

-- ---- over the numbers below n, `0..n`
listed : (n : ℕ) → YieldsList nat_range_steps (λ x. x) (record { start = 0; end = n }) (range_with_len 0 n)
listed n = YieldsList-from_range 0 n n refl (omega arith)

module _ (n : ℕ) (ok : ℕ → Bool) where
  abbrev SaysBelow : Bool → ℕ → Type 0
  SaysBelow b x = x < n → ok x ≡ b

  at_range : (b : Bool) (k : ℕ) → k < n → SaysBelow b (get_or (range_with_len 0 n) k 0) → ok k ≡ b
  at_range b k l h = subst (SaysBelow b) (get_or-range_with_len 0 n k 0 l ∙ (omega arith)) h l

pub all_in_range : {F : Type 0} {g : Mut F (ℕ × Unit {0}) Bool} {f : F} {u : Range ℕ} {n : ℕ} {ok : ℕ → Bool} {r : Bool}
    → ChecksAll nat_range_steps g (record { start = 0; end = n }) f r u
    → ((x : ℕ) (b : Bool) (q : F) → Called g f (x, tt) b q → (q ≡ f) × (x < n → b ≡ ok x)) → r ≡ all_below n ok
all_in_range {f = f} {u} {n} {ok} {r} d k =
    all_over (SaysBelow n ok) (range_with_len 0 n) 0 n ok (length-range_with_len 0 n) (at_range n ok) r
    (cases_from_all u f r (SaysBelow n ok true) (SaysBelow n ok false) d (listed n)
    (λ x q c. ((k x true q c).0, λ l. sym ((k x true q c).1 l))) (λ x q c l. sym ((k x false q c).1 l)))

pub any_in_range : {F : Type 0} {g : Mut F (ℕ × Unit {0}) Bool} {f : F} {u : Range ℕ} {n : ℕ} {ok : ℕ → Bool} {r : Bool}
    → ChecksAny nat_range_steps g (record { start = 0; end = n }) f r u
    → ((x : ℕ) (b : Bool) (q : F) → Called g f (x, tt) b q → (q ≡ f) × (x < n → b ≡ ok x)) → r ≡ any_below n ok
any_in_range {f = f} {u} {n} {ok} {r} d k =
    any_over (SaysBelow n ok) (range_with_len 0 n) 0 n ok (length-range_with_len 0 n) (at_range n ok) r
    (cases_from_any u f r (SaysBelow n ok true) (SaysBelow n ok false) d (listed n)
    (λ x q c l. sym ((k x true q c).1 l)) (λ x q c. ((k x false q c).0, λ l. sym ((k x false q c).1 l))))

-- `position`, whose answer is the number itself here
pub position_in_range : {F : Type 0} {g : Mut F (ℕ × Unit {0}) Bool} {f : F} {u : Range ℕ} {n : ℕ} {ok : ℕ → Bool} {r : Option ℕ}
    → FindsPosition nat_range_steps g (record { start = 0; end = n }) f r u
    → ((x : ℕ) (b : Bool) (q : F) → Called g f (x, tt) b q → (q ≡ f) × (x < n → b ≡ ok x)) → unwrap_or r n ≡ first ok 0 n
position_in_range {f = f} {u} {n} {ok} {r} d k =
    first_over (SaysBelow n ok) (range_with_len 0 n) 0 n ok (length-range_with_len 0 n) (at_range n ok) r
    (IsFirst-from_position u f r (SaysBelow n ok true) (SaysBelow n ok false) d (listed n)
    (λ x q c l. sym ((k x true q c).1 l)) (λ x q c. ((k x false q c).0, λ l. sym ((k x false q c).1 l))))

pub find_in_range : {F : Type 0} {g : Mut F (Bor ℕ × Unit {0}) Bool} {f : F} {n : ℕ} {ok : ℕ → Bool} (u : Range ℕ) (r : Option ℕ)
    → FindsItem nat_range_steps g (record { start = 0; end = n }) f r u
    → ((x : ℕ) (b : Bool) (q : F) → CalledAt g f x b q → (q ≡ f) × (x < n → b ≡ ok x)) → unwrap_or r n ≡ first ok 0 n
find_in_range {f = f} {n} {ok} u r d k =
    go r (first_from_Range (record { start = 0; end = n }) u f r (SaysBelow n ok true) (SaysBelow n ok false) d
    (λ x q c l. sym ((k x true q c).1 l)) (λ x q c. ((k x false q c).0, λ l. sym ((k x false q c).1 l))))
  where
    go : (r : Option ℕ)
        → MatchOption r ((k : ℕ) → 0 ≤ k → k < n → SaysBelow n ok false k)
        (λ i. (0 ≤ i) × (i < n) × SaysBelow n ok true i × ((k : ℕ) → 0 ≤ k → k < i → SaysBelow n ok false k))
        → unwrap_or r n ≡ first ok 0 n
    go None h = is_first ok n n (omega arith) (λ k l. h k (omega arith) l l) (λ l. absurd (omega arith))
    go (Some i) h = is_first ok n i (omega (arith, h.1)) (λ k l. h.3 k (omega arith) l (omega (arith, h.1))) h.2

-- `fold`, where the closure computes h and `out k` is the total of the numbers below k
pub fold_in_range : {B F : Type 0} {g : Mut F (B × (ℕ × Unit {0})) B} {f : F} {n : ℕ} {init r : B} (h : B → ℕ → B) (out : ℕ → B)
    → FoldsItems nat_range_steps g (record { start = 0; end = n }) f init r
    → ((b : B) (x : ℕ) (y : B) (q : F) → Called g f (b, (x, tt)) y q → (q ≡ f) × (x < n → y ≡ h b x))
    → init ≡ out 0 → ((k : ℕ) → k < n → h (out k) k ≡ out (k + 1)) → r ≡ out n
fold_in_range {B} {F} {g} {f} {n} {init} {r} h out (xs, f', ends, folds) k start step = go n 0 (omega arith) init start (subst (λ l. FoldsTo {P = F × B} (FoldTurn g) (f, init) l (f', r)) all folds)
  where
    all : xs ≡ range_with_len 0 n
    all = sym (map-id xs) ∙ items_from_drains xs (ends.1.0, ends.1.1, λ _. (ends.0, ends.1.2)) (listed n)

    go : (m i : ℕ) → i + m ≡ n → (b : B) → b ≡ out i → FoldsTo {P = F × B} (FoldTurn g) (f, b) (range_with_len i m) (f', r) → r ≡ out n
    go zero i e b z c = sym (ap (λ (p : F × B). p.1) c) ∙ z ∙ ap out (omega arith)
    go (suc m) i e b z c =
        let told = k b i c.0.1 c.0.0 c.1 in
        let next : c.0.1 ≡ out (i + 1) = told.1 (omega arith) ∙ ap (λ x. h x i) z ∙ step i (omega arith) in
        go m (i + 1) (omega arith) c.0.1 next (subst (λ x. FoldsTo {P = F × B} (FoldTurn g) (x, c.0.1) (range_with_len (i + 1) m) (f', r)) told.0 c.2)

-- `filter` and then `count`
how_many_front : (ok : ℕ → Bool) (n : ℕ) → how_many ok (suc n) ≡ (if ok 0 then 1 else 0) + how_many (λ k. ok (suc k)) n
unfolding how_many
how_many_front ok zero = omega arith
how_many_front ok (suc n) = omega (arith, how_many_front ok n)

counted : (ok : ℕ → Bool) (a n : ℕ) → length (filter ok (range_with_len a n)) ≡ how_many (λ k. ok (a + k)) n
unfolding how_many
counted ok a zero = refl
counted ok a (suc n) =
    let rest = filter ok (range_with_len (a + 1) n) in
    let here : ok (a + 0) ≡ ok a = ap ok (omega arith) in
    let later = how_many_same (λ k. ok (a + 1 + k)) (λ k. ok (a + suc k)) n (λ k _. ap ok (omega arith)) in
    one (ok a) rest ∙ rw (counted ok (a + 1) n, later, ← here) (sym (how_many_front (λ k. ok (a + k)) n))
  where
    one : (b : Bool) (rest : List ℕ) → length (cond b (a ∷ rest) rest) ≡ (if b then 1 else 0) + length rest
    one true rest = omega arith
    one false rest = omega arith

pub count_in_range : {F : Type 0} {g : Mut F (Bor ℕ × Unit {0}) Bool} {f : F} {s : Filter (Range ℕ) F} {n r : ℕ} {ok : ℕ → Bool}
    → filter_source s ≡ record { start = 0; end = n } → filter_callee s ≡ f
    → (xs : List ℕ) × Drains (filter_steps nat_range_steps g) s xs × (r ≡ length xs)
    → ((x : ℕ) (b : Bool) (q : F) → CalledAt g f x b q → (q ≡ f) × (b ≡ ok x)) → r ≡ how_many ok n
count_in_range {g = g} {f} {s} {n} {r} {ok} source callee ran k =
    count_from_yields_List s r ran (YieldsList-from_filter g ok (YieldsList-at source (listed n)) callee k) ∙ counted ok 0 n ∙ how_many_same (λ k. ok (0 + k)) ok n (λ k _. ap ok (omega arith))

-- ---- over a slice or an array, `xs.iter()`; d is what specs/ read past its end
module _ {A F : Type 0} {g : Mut F (Bor A × Unit {0}) Bool} {f : F} {s u : Iter A} {n : ℕ} {xs : List A} (test : A → Bool) (d : A) where
  pub all_in_slice : {r : Bool} → length xs ≡ n → iter_rest s ≡ xs → ChecksAll fronts g s f r u
      → ((x : Bor A) (b : Bool) (q : F) → Called g f (x, tt) b q → (q ≡ f) × (b ≡ test x.now)) → r ≡ all_below n (λ k. test (get_or xs k d))
  all_in_slice {r} long e ran k = all_over (λ b x. test x ≡ b) xs d n (λ k. test (get_or xs k d)) long (λ b k _ h. h) r
      (cases_from_all u f r (λ x. test x ≡ true) (λ x. test x ≡ false) ran (YieldsList-from_slice xs e)
      (λ x q c. ((k x true q c).0, sym (k x true q c).1)) (λ x q c. sym (k x false q c).1))

  pub any_in_slice : {r : Bool} → length xs ≡ n → iter_rest s ≡ xs → ChecksAny fronts g s f r u
      → ((x : Bor A) (b : Bool) (q : F) → Called g f (x, tt) b q → (q ≡ f) × (b ≡ test x.now)) → r ≡ any_below n (λ k. test (get_or xs k d))
  any_in_slice {r} long e ran k = any_over (λ b x. test x ≡ b) xs d n (λ k. test (get_or xs k d)) long (λ b k _ h. h) r
      (cases_from_any u f r (λ x. test x ≡ true) (λ x. test x ≡ false) ran (YieldsList-from_slice xs e)
      (λ x q c. sym (k x true q c).1) (λ x q c. ((k x false q c).0, sym (k x false q c).1)))

  pub position_in_slice : {r : Option ℕ} → length xs ≡ n → iter_rest s ≡ xs → FindsPosition fronts g s f r u
      → ((x : Bor A) (b : Bool) (q : F) → Called g f (x, tt) b q → (q ≡ f) × (b ≡ test x.now)) → unwrap_or r n ≡ first (λ k. test (get_or xs k d)) 0 n
  position_in_slice {r} long e ran k = first_over (λ b x. test x ≡ b) xs d n (λ k. test (get_or xs k d)) long (λ b k _ h. h) r
      (IsFirst-from_position u f r (λ x. test x ≡ true) (λ x. test x ≡ false) ran (YieldsList-from_slice xs e)
      (λ x q c. sym (k x true q c).1) (λ x q c. ((k x false q c).0, sym (k x false q c).1)))

-- `filter` and then `count`
listed_count : {A : Type 0} (test : A → Bool) (d : A) (xs : List A) → length (filter test xs) ≡ how_many (λ k. test (get_or xs k d)) (length xs)
unfolding how_many
listed_count test d [] = refl
listed_count {A} test d (x ∷ xs) =
    one (test x) (filter test xs) ∙ rw (listed_count test d xs) (sym (how_many_front (λ k. test (get_or (x ∷ xs) k d)) (length xs)))
  where
    one : (b : Bool) (rest : List A) → length (cond b (x ∷ rest) rest) ≡ (if b then 1 else 0) + length rest
    one true rest = omega arith
    one false rest = omega arith

pub count_in_slice : {A F : Type 0} {g : Mut F (Bor (Bor A) × Unit {0}) Bool} {f : F} {s : Filter (Iter A) F} {xs : List A} {n r : ℕ} (test : A → Bool) (d : A)
    → length xs ≡ n → iter_rest (filter_source s) ≡ xs → filter_callee s ≡ f
    → (ys : List (Bor A)) × Drains (filter_steps fronts g) s ys × (r ≡ length ys)
    → ((x : Bor A) (b : Bool) (q : F) → CalledAt g f x b q → (q ≡ f) × (b ≡ test x.now)) → r ≡ how_many (λ k. test (get_or xs k d)) n
count_in_slice {g = g} {f} {s} {xs} {n} {r} test d long source callee ran k =
    count_from_yields_List s r ran (YieldsList-from_filter g test (YieldsList-from_slice xs source) callee k)
    ∙ listed_count test d xs ∙ ap (how_many (λ k. test (get_or xs k d))) long

-- ---- an array from a function of the place
pub made_table : {B F : Type 0} {g : Mut F (ℕ × Unit {0}) B} {f : F} {ys : List B} {n : ℕ} {h : ℕ → B}
    → IsFromFnResult g f ys n → ((x : ℕ) (y : B) (q : F) → Called g f (x, tt) y q → (q ≡ f) × (x < n → y ≡ h x)) → ys ≡ table h n
made_table {B} {F} {g} {f} {ys} {n} {h} r k = table_of h ys n (h 0) r.long (λ i l. go n 0 f (omega arith) refl r.each i (omega arith) l (h 0))
  where
    go : (m i : ℕ) (p : F) → i + m ≡ n → p ≡ f → IsFromFnResultFrom g p ys i m → (j : ℕ) → i ≤ j → j < n → (d : B) → get_or ys j d ≡ h j
    go zero i p e same each j a b d = absurd (omega arith)
    go (suc m) i p e same each j a b d =
        let says = k i each.1 each.0 (subst (λ x. Called g x (i, tt) each.1 each.0) same each.3) in
        elim (ℕ_discrete j i) [
          | yes z ↦ rw z (each.2.1 d ∙ says.1 (omega arith))
          | no z ↦ go m (i + 1) each.0 (omega arith) says.0 each.4 j (omega arith) b d
        ]
