-- What is written of a part's events reads back, event by event, and so gives the events' lines. Assumes nothing.
use Rattle.std.proofs.Common.{◌≡◌, ℕ, zero, suc, ◌*◌, ◌<◌, ◌≤◌, List, ◌++◌, length, take, drop, refl, ap, ◌∙◌, arith}
use native.Mathlib.Decide.{ℕ_discrete}
use Rattle.processors.specs.declared.Processors.{Processors}
use Rattle.protocol.specs.declared.State.{State}
use Rattle.states.specs.Writing.{snapshot_size, places, snapshot_of}
use Rattle.locking.specs.Playing.{written_to, snapshot_at}
use Rattle.locking.proofs.Along.{long_along}
use Rattle.search.specs.Texts.{each_text}
use Rattle.pages.specs.Pages.{events_text}
use Rattle.pages.proofs.Parts.{written_there, written_before}

-- the same texts below k, one behind another
pub each_same : (f g : ℕ → List ℕ) (k : ℕ) → ((n : ℕ) → n < k → f n ≡ g n) → each_text f k ≡ each_text g k
unfolding each_text
each_same f g zero same = refl
each_same f g (suc k) same = ap (λ l. l ++ f k) (each_same f g k (λ n h. same n (omega arith))) ∙ ap (λ l. each_text g k ++ l) (same k (omega arith))

line_long : (answer : ℕ) (p : Processors) → length (snapshot_of answer p) ≡ snapshot_size
unfolding snapshot_of places
line_long answer p = refl

module _ (s : State) (part out : List ℕ) where
  -- the last event
  last_back : (n : ℕ) → snapshot_size * suc n ≤ length out → take snapshot_size (drop (snapshot_size * n) (written_to s part out (suc n))) ≡ snapshot_at s part n
  unfolding written_to
  last_back n room =
      let long : length (snapshot_at s part n) ≡ snapshot_size = line_long _ _ in
      rw long at (written_there (written_to s part out n) (snapshot_size * n) (snapshot_at s part n) (omega (arith, long_along s part out n, long)))

  -- and each before it
  pub read_back : (count n : ℕ) → n < count → snapshot_size * count ≤ length out → take snapshot_size (drop (snapshot_size * n) (written_to s part out count)) ≡ snapshot_at s part n
  unfolding written_to
  read_back zero n h room = absurd (omega arith)
  read_back (suc count) n h room = elim (ℕ_discrete n count) [
    | yes e ↦ rw e (last_back count room)
    | no d ↦ written_before (written_to s part out count) (snapshot_size * count) (snapshot_at s part count) (snapshot_size * n) snapshot_size (omega arith) ∙ read_back count n (omega arith) (omega arith)
  ]

  -- the lines of the events
  pub lines_back : (processors events count : ℕ) → snapshot_size * count ≤ length out
      → events_text (λ n. take snapshot_size (drop (snapshot_size * n) (written_to s part out count))) processors events count ≡ events_text (snapshot_at s part) processors events count
  lines_back processors events count room = each_same _ _ count (λ n h. rw (read_back count n h room))
