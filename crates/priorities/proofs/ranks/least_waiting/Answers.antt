use mathlib.Core.Path.{refl, ◌∙◌}
use native.Mathlib.Numerals.{add-one}
use Prim.Native.Nat.{ℕ, min}
use borrow.Author.Rules.{rules}
use Rattle.queue.specs.Waiting.{waiter}
use Rattle.search.proofs.Chains.{fold_in_range}
use Rattle.protocol.specs.Ranks.{least_of}
use Rattle.priorities.specs.Bounds.{rank_at}
use Rattle.priorities.proofs.Past.{least_read}
use Rattle.priorities.proofs.ranks.least_waiting.Goals as goal

pub returns : goal.returns
unfolding least_of
returns c =
    let a = c.args in
    let f = λ (i : ℕ). rank_at a.ranks.now (waiter a.queue i) in
    (rw c.min.ensures at (fold_in_range (λ best i. min (f i) best) (λ i. least_of f i a.rank) c.fold.ensures.ran (λ b x y q k. search rules) refl (λ i h. rw add-one)))
    ∙ least_read a.queue (search rules) (rank_at a.ranks.now) a.rank
