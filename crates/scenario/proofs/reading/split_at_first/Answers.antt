-- The place of the first byte that passes, or the length. Assumes nothing.
use Rattle.std.proofs.Common.{rules, ◌≡◌, ℕ, Bool, true, false, List, length, tests, cond, Option, Some, None, ltb, refl, ltb-false, arith, not, ◌∙◌}
use Rattle.std.specs.List.{position_or_len}
use Rattle.std.specs.Option.{unwrap_or}
use Rattle.std.proofs.lemmas.List.Sums.{prefix_len-le-length}
use Rattle.std.proofs.lemmas.Iterator.{YieldsList-from_slice}
use Rattle.std.proofs.lemmas.Iterator.Search.{position_from_yields_List}
use Rattle.scenario.proofs.reading.split_at_first.Goals as goal

or_length : (p : ℕ → Bool) (l : List ℕ) (r : Option ℕ)
    → r ≡ cond (ltb (position_or_len p l) (length l)) (Some (position_or_len p l)) None
    → unwrap_or r (length l) ≡ position_or_len p l
or_length p l r e = rw e (go (ltb (position_or_len p l) (length l)) refl)
  where
    go : (b : Bool) → ltb (position_or_len p l) (length l) ≡ b
        → unwrap_or (cond b (Some (position_or_len p l)) None) (length l) ≡ position_or_len p l
    go true f = refl
    go false f =
        let most = prefix_len-le-length (λ c. not (p c)) l in
        let least = ltb-false (position_or_len p l) (length l) f in
        omega arith

pub returns : goal.returns
returns g c p h =
    let l = c.args.l.now in
    let found : c.position.result ≡ cond (ltb (position_or_len p l) (length l)) (Some (position_or_len p l)) None =
    position_from_yields_List p _ _ c.position.result c.position.ensures.ran (YieldsList-from_slice l c.iter.ensures.rest)
    (λ x b q k. search (rules, tests, h)) in
    let at : c.unwrap_or-at.result ≡ position_or_len p l = c.unwrap_or-at.ensures ∙ or_length p l _ found in
    (rw at at c.split_at.ensures.front, rw at at c.split_at.ensures.back)
