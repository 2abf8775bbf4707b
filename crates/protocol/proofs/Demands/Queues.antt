-- Who stands where in a queue: an outermost completion at the group moves each up by one, and nothing else moves any. Assumes nothing.
use Prim.Native.Nat.{ℕ, suc, ◌<◌}
use mathlib.Core.Path.{◌≡◌, refl, ap, ◌∙◌}
use mathlib.Core.Bool.{true, false}
use mathlib.Core.Logic.{◌≢◌}
use native.Mathlib.Omega.{arith}
use native.Mathlib.Decide.{dec_lt}
use lib.ListN.{length}
use lib.Seq.{lt-length-set}
use borrow.Author.Tests.{le-ltb}
use Rattle.search.proofs.Tests.{never}
use Rattle.queue.specs.Limits.{capacity}
use Rattle.queue.specs.Tidy.{Tidy}
use Rattle.queue.specs.Waiting.{waiter as queued, appended, without_first}
use Rattle.queue.specs.declared.Queue.{Queue}
use Rattle.queue.proofs.Laws.{append_len, append_place, without_len, without_place}
use Rattle.setups.specs.Naming.{group_of}
use Rattle.input.specs.declared.Setup.{Setup}
use Rattle.numbers.specs.Limits.{nobody}
use Rattle.protocol.specs.Words.{group, asked, len, waiter}
use Rattle.protocol.specs.Locks.{with_group, open_of_kind, opens, enqueues, closes, frees, next_at, dequeues, passes}
use Rattle.protocol.specs.Edited.{request_edit, complete_edit}
use Rattle.protocol.specs.declared.Group.{Group}
use Rattle.protocol.specs.declared.State.{State}
use Rattle.protocol.proofs.Edits.Untouched.{at_one}
use Rattle.protocol.proofs.Edits.Equations.{group_at, group_off}
use Rattle.protocol.proofs.Edits.EmptyPlaces.{tidy_group}
use Rattle.protocol.proofs.Events.Branches.{request_edit_by, complete_edit_by}

-- everyone at a keeps the place; moves up by one
abbrev pub Lines : State → State → ℕ → Type 0
Lines s s' a = (i : ℕ) → i < len s a → (i < len s' a) × (waiter s' a i ≡ waiter s a i)

abbrev pub Ups : State → State → ℕ → Type 0
Ups s s' a = (i : ℕ) → suc i < len s a → (i < len s' a) × (waiter s' a i ≡ waiter s a (suc i))

lines_then : (s₁ s₂ s₃ : State) (a : ℕ) → Lines s₁ s₂ a → Lines s₂ s₃ a → Lines s₁ s₃ a
lines_then s₁ s₂ s₃ a P Q i h = let x = P i h in let y = Q i x.0 in (y.0, y.1 ∙ x.1)

lines_up : (s₁ s₂ s₃ : State) (a : ℕ) → Lines s₁ s₂ a → Ups s₂ s₃ a → Ups s₁ s₃ a
lines_up s₁ s₂ s₃ a P Q i h = let x = P (suc i) h in let y = Q i x.0 in (y.0, y.1 ∙ x.1)

up_lines : (s₁ s₂ s₃ : State) (a : ℕ) → Ups s₁ s₂ a → Lines s₂ s₃ a → Ups s₁ s₃ a
up_lines s₁ s₂ s₃ a P Q i h = let x = P i h in let y = Q i x.0 in (y.0, y.1 ∙ x.1)

lines_same : (s s' : State) (a : ℕ) → (group s' a).queue ≡ (group s a).queue → Lines s s' a
unfolding len waiter
lines_same s s' a e i h = (omega (arith, ap (λ (q : Queue). q.len) e), ap (λ (q : Queue). queued q i) e)

-- a queue with one more at its end, full or not
append_keeps : (q : Queue) (t i : ℕ) → Tidy q → i < q.len → (i < (appended q t).len) × (queued (appended q t) i ≡ queued q i)
unfolding appended
append_keeps q t i y l = elim (dec_lt q.len capacity) [
  | yes h ↦ (omega (arith, append_len q t h), append_place q t i y (λ e. omega arith))
  | no n ↦ rw (le-ltb q.len capacity (omega arith)) (l, refl)
]

-- ---- the edits of a group
module _ (s : State) (g : ℕ) (in_groups : g < length s.groups) where
  with_queue : (h : ℕ) (q : Queue) → (group (with_group g h q s) g).queue ≡ q
  with_queue h q = ap (λ (x : Group). x.queue) (group_at s g h q in_groups)

  -- elsewhere
  lines_off : (h : ℕ) (q : Queue) (a : ℕ) → a ≢ g → Lines s (with_group g h q s) a
  lines_off h q a d = lines_same s (with_group g h q s) a (ap (λ (x : Group). x.queue) (group_off s g h q a d))

  lines_held : (h a : ℕ) → Lines s (with_group g h (group s g).queue s) a
  lines_held h =
      let q = (group s g).queue in
      at_one (Lines s (with_group g h q s)) g (lines_same s (with_group g h q s) g (with_queue h q)) (lines_off h q)

  opens_lines : (t r a : ℕ) → Lines s (opens t r g s) a
  unfolding opens len waiter
  opens_lines t r = lines_held t

  pub frees_lines : (t a : ℕ) → Lines s (frees g (closes t s)) a
  unfolding frees closes len waiter
  frees_lines t = lines_held nobody

  module _ (y : Tidy (group s g).queue) where
    enqueues_lines : (c : Setup) (t r a : ℕ) → Lines s (enqueues c t r g s) a
    unfolding enqueues len waiter
    enqueues_lines c t r =
        let q = (group s g).queue in
        let e = with_queue (group s g).holder (appended q t) in
        at_one (Lines s (enqueues c t r g s)) g
        (λ i l. let k = append_keeps q t i y l in (omega (arith, k.0, ap (λ (x : Queue). x.len) e), ap (λ (x : Queue). queued x i) e ∙ k.1))
        (lines_off (group s g).holder (appended q t))

    dequeues_ups : Ups s (dequeues g s) g
    unfolding dequeues len waiter
    dequeues_ups i l =
        let q = (group s g).queue in
        let e = with_queue (group s g).holder (without_first q) in
        (omega (arith, l, ap (λ (x : Queue). x.len) e, without_len q), ap (λ (x : Queue). queued x i) e ∙ without_place q i y)

  dequeues_lines : (a : ℕ) → a ≢ g → Lines s (dequeues g s) a
  unfolding dequeues len waiter
  dequeues_lines = lines_off (group s g).holder (without_first (group s g).queue)

  pub dequeues_in : g < length (dequeues g s).groups
  unfolding dequeues
  dequeues_in = lt-length-set s.groups g _ in_groups

module _ (s : State) (g : ℕ) (in_groups : g < length s.groups) where
  -- the next of g becomes holder
  passes_then : (a : ℕ) → Lines (dequeues g s) (passes g s) a
  unfolding passes
  passes_then = opens_lines (dequeues g s) g (dequeues_in s g in_groups) (next_at s g) (asked s (next_at s g))

  passes_ups : Tidy (group s g).queue → Ups s (passes g s) g
  passes_ups y = up_lines s (dequeues g s) (passes g s) g (dequeues_ups s g in_groups y) (passes_then g)

  passes_lines : (a : ℕ) → a ≢ g → Lines s (passes g s) a
  passes_lines a d = lines_then s (dequeues g s) (passes g s) a (dequeues_lines s g in_groups a d) (passes_then a)

module _ (c : Setup) (t r : ℕ) (s : State) (h : group_of c r < length s.groups) (tidy : (a : ℕ) → Tidy (group s a).queue) where
  abbrev g : ℕ
  g = group_of c r

  -- ---- a request moves nobody
  pub request_lines : (a : ℕ) → Lines s (request_edit c t r s) a
  request_lines a = request_edit_by c t r s (λ x. Lines s x a) (λ _. opens_lines s g h t r a) (λ _ _. enqueues_lines s g h (tidy g) c t r a)

  -- ---- a completion
  pub inner_lines : open_of_kind c (closes t s) t r ≡ true → (a : ℕ) → Lines s (complete_edit c t r s) a
  unfolding closes
  inner_lines e a = complete_edit_by c t r s (λ x. Lines s x a) (λ _. lines_same s (closes t s) a refl) (λ n. never n e) (λ n. never n e)

  f : State
  f = frees g (closes t s)

  pub freed_in : group_of c r < length (frees (group_of c r) (closes t s)).groups
  unfolding frees closes
  freed_in = lt-length-set s.groups g _ h

  f_lines : (a : ℕ) → Lines s f a
  unfolding f
  f_lines = frees_lines s g h t

  f_tidy : Tidy (group f g).queue
  unfolding f frees closes
  f_tidy = tidy_group (closes t s) g nobody (group s g).queue h tidy (tidy g) g

  -- outermost: all others stay, and at the group each moves up by one
  pub outer_lines : open_of_kind c (closes t s) t r ≡ false → (a : ℕ) → a ≢ group_of c r → Lines s (complete_edit c t r s) a
  unfolding f
  outer_lines e a d = complete_edit_by c t r s (λ x. Lines s x a) (never e) (λ _ _. f_lines a) (λ _ _. lines_then s f (passes g f) a (f_lines a) (passes_lines f g freed_in a d))

  pub outer_ups : open_of_kind c (closes t s) t r ≡ false → Ups s (complete_edit c t r s) (group_of c r)
  unfolding f
  outer_ups e = complete_edit_by c t r s (λ x. Ups s x g) (never e) (λ _ z i l. absurd (omega arith)) (λ _ _. lines_up s f (passes g f) g (f_lines g) (passes_ups f g freed_in f_tidy))
