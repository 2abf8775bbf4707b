-- The clauses of a task's requests, over the open ones alone: those past the depth are not read. Assumes nothing.
use Prim.Native.Nat.{ℕ, zero, suc, ◌<◌, ◌≤◌}
use mathlib.Core.Path.{◌≡◌, refl, ap, ◌∙◌}
use mathlib.Core.Bool.{Bool, true, false, ◌&&◌, and-true, and-false, or-false}
use mathlib.Core.List.{List}
use native.Mathlib.Omega.{arith}
use native.Mathlib.Decide.{dec_lt}
use lib.Dec.{leb, ltb}
use lib.ListN.{length, get_or, get_or-eq_default, take}
use borrow.Author.Tests.{leb-true, ltb-true}
use Rattle.std.proofs.lemmas.List.{get_or-take, length-take-le, take_all}
use Rattle.search.specs.Words.{◌is◌, ◌isn't◌, ◌implies◌}
use Rattle.search.specs.Below.{all_below, any_below}
use Rattle.search.proofs.Tests.{any_below_same}
use Rattle.numbers.specs.Limits.{most_requests, nothing}
use Rattle.input.specs.Words.{kind}
use Rattle.setups.specs.Naming.{group_of}
use Rattle.protocol.specs.Words.{absent, spinning, suspended, task, stand, asked, depth, request}
use Rattle.protocol.specs.Sound.{requests_sound, waiting_sound}
use Rattle.protocol.specs.declared.State.{State}
use Rattle.soundness.specs.Opens.{is_held, is_once, is_long, are_together, opened_sound, is_asked, is_queued}

-- tests that answer alike below a bound
all_below_same : (n : ℕ) (ok ok' : ℕ → Bool) → ((i : ℕ) → i < n → ok i ≡ ok' i) → all_below n ok ≡ all_below n ok'
unfolding all_below
all_below_same zero ok ok' same = refl
all_below_same (suc n) ok ok' same = rw (all_below_same n ok ok' (λ i l. same i (omega arith)), same n (omega arith))

module _ (l : List ℕ) (n : ℕ) (h : n ≤ length l) where
  -- a test of each of the first n places
  front_all : (test : ℕ → Bool) → all_below (length (take n l)) (λ i. test (get_or (take n l) i nothing)) ≡ all_below n (λ i. test (get_or l i nothing))
  front_all test =
      rw (length-take-le n l h) (all_below_same n (λ i. test (get_or (take n l) i nothing)) (λ i. test (get_or l i nothing)) (λ i k. ap test (get_or-take n l i nothing k)))

  front_any : (test : ℕ → Bool) → any_below (length (take n l)) (λ i. test (get_or (take n l) i nothing)) ≡ any_below n (λ i. test (get_or l i nothing))
  front_any test =
      rw (length-take-le n l h) (any_below_same n (λ i. test (get_or (take n l) i nothing)) (λ i. test (get_or l i nothing)) (λ i k. ap test (get_or-take n l i nothing k)))

  front_once : all_below (length (take n l)) (is_once (take n l)) ≡ all_below n (λ i. all_below n (λ k. get_or l i nothing is get_or l k nothing implies i is k))
  front_once =
      rw (length-take-le n l h)
      (all_below_same n (is_once (take n l)) (λ i. all_below n (λ k. get_or l i nothing is get_or l k nothing implies i is k))
      (λ i a. rw (length-take-le n l h, get_or-take n l i nothing a)
      (all_below_same n (λ k. get_or l i nothing is get_or (take n l) k nothing implies i is k) (λ k. get_or l i nothing is get_or l k nothing implies i is k)
      (λ k b. rw (get_or-take n l k nothing b)))))

  -- a test of each place and of those before it, and of each pair of places
  front_order : (test : ℕ → Bool) → all_below (length (take n l)) (λ i. test (get_or (take n l) i nothing) implies all_below (length (take i (take n l))) (λ k. test (get_or (take i (take n l)) k nothing)))
      ≡ all_below n (λ i. test (get_or l i nothing) implies all_below i (λ k. test (get_or l k nothing)))
  front_order test =
      rw (length-take-le n l h)
      (all_below_same n (λ i. test (get_or (take n l) i nothing) implies all_below (length (take i (take n l))) (λ k. test (get_or (take i (take n l)) k nothing)))
      (λ i. test (get_or l i nothing) implies all_below i (λ k. test (get_or l k nothing)))
      (λ i a.
      let short : i ≤ length (take n l) = omega (arith, length-take-le n l h) in
      rw (length-take-le i (take n l) short, get_or-take n l i nothing a)
      (ap (λ b. test (get_or l i nothing) implies b)
      (all_below_same i (λ k. test (get_or (take i (take n l)) k nothing)) (λ k. test (get_or l k nothing))
      (λ k b. ap test (get_or-take i (take n l) k nothing b ∙ get_or-take n l k nothing (omega arith)))))))

  front_pairs : (test : ℕ → ℕ → Bool) → all_below (length (take n l)) (λ i. all_below (length (take n l)) (λ k. test (get_or (take n l) i nothing) (get_or (take n l) k nothing)))
      ≡ all_below n (λ i. all_below n (λ k. test (get_or l i nothing) (get_or l k nothing)))
  front_pairs test =
      front_all (λ a. all_below (length (take n l)) (λ k. test a (get_or (take n l) k nothing)))
      ∙ all_below_same n (λ i. all_below (length (take n l)) (λ k. test (get_or l i nothing) (get_or (take n l) k nothing))) (λ i. all_below n (λ k. test (get_or l i nothing) (get_or l k nothing)))
      (λ i a. front_all (test (get_or l i nothing)))

-- the same of any number of places, where a place that is not there fails the test
pub front_some : (test : ℕ → Bool) (l : List ℕ) (n : ℕ) → test nothing ≡ false
    → any_below (length (take n l)) (λ i. test (get_or (take n l) i nothing)) ≡ any_below n (λ i. test (get_or l i nothing))
unfolding any_below
front_some test l n out = elim (dec_lt (length l) n) [
  | yes m ↦ rw (take_all n l (omega arith)) (longer n (omega arith))
  | no m ↦ front_any l n (omega arith) test
]
  where
    longer : (n : ℕ) → length l ≤ n → any_below (length l) (λ i. test (get_or l i nothing)) ≡ any_below n (λ i. test (get_or l i nothing))
    longer zero m = let e : length l ≡ 0 = omega arith in rw e
    longer (suc n) m = elim (dec_lt n (length l)) [
      | yes k ↦ let e : length l ≡ suc n = omega arith in rw e
      | no k ↦
          let past : length l ≤ n = omega arith in
          rw (longer n past, get_or-eq_default l nothing past, out, or-false)
    ]

-- the open requests of t
abbrev pub opened : State → ℕ → List ℕ
opened s t = take (task s t).depth (task s t).requests

module _ (s : State) (t : ℕ) (long : length (task s t).requests ≡ most_requests) where
  -- the clauses of the open requests, where `few` says that they are at most eight
  abbrev requests_in : Bool → Bool
  requests_in few =
      few && opened_sound s t (opened s t) && (stand s t is absent implies (task s t).depth is 0)

  pub requests_read : requests_sound s.setup s t ≡ requests_in (leb (task s t).depth most_requests)
  unfolding requests_sound depth request group_of
  requests_read = go (leb (task s t).depth most_requests) refl
    where
      go : (b : Bool) → leb (task s t).depth most_requests ≡ b → requests_sound s.setup s t ≡ requests_in b
      go false e = rw e
      go true e =
          let h : (task s t).depth ≤ length (task s t).requests = omega (arith, leb-true (task s t).depth most_requests e) in
          rw (
            e,
            front_all (task s t).requests (task s t).depth h (is_held s t),
            front_once (task s t).requests (task s t).depth h,
            front_order (task s t).requests (task s t).depth h (is_long s),
            front_pairs (task s t).requests (task s t).depth h (are_together s),
          )

  -- the clauses of a waiting job, where `few` says that fewer than eight requests are open
  abbrev waiting_in : Bool → Bool
  waiting_in few =
      leb spinning (stand s t) implies (
      is_asked s (stand s t) (asked s t) && is_queued s (group_of s.setup (asked s t)) t
      && all_below (length (opened s t)) (λ i. kind s.setup (get_or (opened s t) i nothing) isn't kind s.setup (asked s t))
      && ((stand s t is suspended implies (task s t).depth is 0) && few))

  pub waiting_read : waiting_sound s.setup s t ≡ waiting_in (ltb (task s t).depth most_requests)
  unfolding waiting_sound depth request
  waiting_read = go (ltb (task s t).depth most_requests) refl
    where
      go : (b : Bool) → ltb (task s t).depth most_requests ≡ b → waiting_sound s.setup s t ≡ waiting_in b
      go false e = simp (e, and-false)
      go true e =
          let h : (task s t).depth ≤ length (task s t).requests = omega (arith, ltb-true (task s t).depth most_requests e) in
          simp (e, and-true, front_all (task s t).requests (task s t).depth h (λ r. kind s.setup r isn't kind s.setup (asked s t)))
