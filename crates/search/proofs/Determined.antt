-- What a contract of one equation determines. Assumes nothing.
use mathlib.Core.Path.{◌≡◌, sym, ◌∙◌, ap}
use Rattle.search.specs.Views.{TellsApart}

-- any two results that an equation allows are equal: a contract `r ≡ said`, or `(r, bytes) ≡ said` with a lent buffer's bytes, has one result
pub determined {ℓ} : {A : Type ℓ} {said : A} (r q : A) → r ≡ said → q ≡ said → r ≡ q
determined r q e f = e ∙ sym f

-- so are any two that an equation of a view allows, `view r ≡ said`, where the view tells results apart
pub seen : {R V : Type 0} {said : V} (view : R → V) → TellsApart view → (r q : R) → view r ≡ said → view q ≡ said → r ≡ q
seen view apart r q e f = apart r q (determined (view r) (view q) e f)

-- and any two of `(view r, bytes) ≡ said`, with a lent buffer's bytes
pub seen_beside : {R V B : Type 0} {said : V × B} (view : R → V) → TellsApart view → (r q : R × B) → (view r.0, r.1) ≡ said → (view q.0, q.1) ≡ said → r ≡ q
seen_beside view apart (r, a) (q, b) e f =
    let both = determined (view r, a) (view q, b) e f in
    rw (apart r q (ap (λ y. y.0) both), ap (λ y. y.1) both)
