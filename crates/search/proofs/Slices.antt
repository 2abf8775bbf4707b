-- Tests over a slice: what `contains` answers, and the first n elements of an array. Assumes nothing.
use Prim.Native.Nat.{ℕ, ◌<◌, ◌≤◌}
use mathlib.Core.Path.{◌≡◌, sym, ap, ◌∙◌}
use mathlib.Core.Bool.{Bool, true, false}
use mathlib.Core.List.{List}
use lib.ListN.{length, get_or, take}
use native.Mathlib.Omega.{arith}
use Rattle.std.specs.List.{IsAnyAnswer}
use Rattle.std.proofs.lemmas.List.{length-take-le, get_or-take}
use Rattle.search.specs.Words.{◌is◌}
use Rattle.search.specs.Below.{any_below}
use Rattle.search.proofs.Chains.{is_any}
use Rattle.search.proofs.Tests.{any_below_same}

-- `xs.contains(&x)`; d is what specs/ read past the end
pub contains_any : (xs : List ℕ) (x d : ℕ) (r : Bool) → IsAnyAnswer (λ y b. (y is x) ≡ b) xs r → r ≡ any_below (length xs) (λ k. get_or xs k d is x)
contains_any xs x d true h = is_any true (length xs) (λ k. get_or xs k d is x) (h.0, h.1, h.2 d)
contains_any xs x d false h = is_any false (length xs) (λ k. get_or xs k d is x) (λ k l. h k d (omega arith) l)

-- a test of the first n elements
pub any_taken : {A : Type 0} (test : A → Bool) (d : A) (xs : List A) (n : ℕ) → n ≤ length xs
    → any_below (length (take n xs)) (λ k. test (get_or (take n xs) k d)) ≡ any_below n (λ k. test (get_or xs k d))
any_taken test d xs n le =
    ap (λ m. any_below m (λ k. test (get_or (take n xs) k d))) (length-take-le n xs le)
    ∙ any_below_same n (λ k. test (get_or (take n xs) k d)) (λ k. test (get_or xs k d)) (λ k l. ap test (get_or-take n xs k d l))
