-- Each outermost completion at a group moves all who stand there up by exactly one; nothing else moves any. Assumes nothing.
use Prim.Native.Nat.{ℕ, zero, suc, ◌<◌}
use mathlib.Core.Path.{◌≡◌, refl, sym, ap, ◌∙◌}
use mathlib.Core.Bool.{true, false}
use mathlib.Core.Logic.{◌≢◌, ⊎_elim}
use native.Mathlib.Omega.{arith}
use lib.ListN.{length}
use Rattle.search.proofs.Tests.{never}
use Rattle.queue.specs.Tidy.{Tidy}
use Rattle.queue.specs.Waiting.{appended, without_first}
use Rattle.queue.specs.declared.Queue.{Queue}
use Rattle.input.specs.Words.{kind}
use Rattle.setups.specs.Naming.{group_of}
use Rattle.input.specs.declared.Setup.{Setup}
use Rattle.numbers.specs.Limits.{nobody}
use Rattle.protocol.specs.Words.{group, asked, holder, len, waiter}
use Rattle.protocol.specs.Records.{with_standing}
use Rattle.protocol.specs.Locks.{opening, on_task, with_group, lock_of, open_of_kind, opens, enqueues, closes, frees, next_at, dequeues, passes}
use Rattle.protocol.specs.Edited.{request_edit, complete_edit}
use Rattle.protocol.specs.Demands.{Before}
use Rattle.protocol.specs.declared.Standing.TheVariants.{Active, Waiting}
use Rattle.protocol.specs.declared.Group.{Group}
use Rattle.protocol.specs.declared.State.{State}
use Rattle.protocol.proofs.Sound.Statements.{Steady, Asks, SameGroup}
use Rattle.protocol.proofs.Edits.Untouched.{at_one}
use Rattle.protocol.proofs.Edits.Equations.{group_at, group_off}
use Rattle.protocol.proofs.Events.Kept.{kind_some}
use Rattle.protocol.proofs.Events.Branches.{request_edit_by, complete_edit_by}
use Rattle.protocol.proofs.Demands.Queues.{dequeues_in, frees_lines, freed_in, request_lines, inner_lines, outer_lines, outer_ups}

-- ---- who holds
module _ (s : State) (g h : ℕ) (q : Queue) where
  held_off : (a : ℕ) → a ≢ g → holder (with_group g h q s) a ≡ holder s a
  unfolding holder
  held_off a d = ap (λ (x : Group). x.holder) (group_off s g h q a d)

  held_at : g < length s.groups → holder (with_group g h q s) g ≡ h
  unfolding holder
  held_at l = ap (λ (x : Group). x.holder) (group_at s g h q l)

module _ (s : State) (g : ℕ) (in_groups : g < length s.groups) where
  opens_at : (t r : ℕ) → holder (opens t r g s) g ≡ t
  unfolding opens
  opens_at t r = held_at (on_task t (opening r) s) g t (group s g).queue in_groups

  opens_off : (t r a : ℕ) → a ≢ g → holder (opens t r g s) a ≡ holder s a
  unfolding opens holder
  opens_off t r = held_off (on_task t (opening r) s) g t (group s g).queue

  enqueues_held : (c : Setup) (t r a : ℕ) → holder (enqueues c t r g s) a ≡ holder s a
  unfolding enqueues holder
  enqueues_held c t r =
      let s₁ = on_task t (with_standing (Waiting (lock_of (kind c r) r))) s in
      let q = appended (group s g).queue t in
      at_one (λ a. holder (enqueues c t r g s) a ≡ holder s a) g (held_at s₁ g (group s g).holder q in_groups) (held_off s₁ g (group s g).holder q)

module _ (s : State) (g : ℕ) (in_groups : g < length s.groups) where
  passes_at : holder (passes g s) g ≡ next_at s g
  unfolding passes
  passes_at = opens_at (dequeues g s) g (dequeues_in s g in_groups) (next_at s g) (asked s (next_at s g))

  passes_off : (a : ℕ) → a ≢ g → holder (passes g s) a ≡ holder s a
  unfolding passes dequeues holder
  passes_off a d =
      opens_off (dequeues g s) g (dequeues_in s g in_groups) (next_at s g) (asked s (next_at s g)) a d
      ∙ held_off (on_task (next_at s g) (with_standing Active) s) g (group s g).holder (without_first (group s g).queue) a d

module _ (c : Setup) (t r : ℕ) (s : State) (h : group_of c r < length s.groups) (tidy : (a : ℕ) → Tidy (group s a).queue) where
  abbrev g : ℕ
  g = group_of c r

  -- ---- a request takes no group from its holder
  module _ (S : Steady c s) (A : Asks c s t r) where
    request_held : (a : ℕ) → holder s a ≢ nobody → holder (request_edit c t r s) a ≡ holder s a
    unfolding holder
    request_held a d = request_edit_by c t r s (λ x. holder x a ≡ holder s a)
        (⊎_elim
        (λ e.
        let i = kind_some c s t r e in
        let mine : holder s g ≡ t = ap (holder s) (sym (A.within i.0 i.1 i.2)) ∙ ((S.locks.tasks t).opened.held i.0 i.1).1 in
        at_one (λ a. holder (opens t r g s) a ≡ holder s a) g (opens_at s g h t r ∙ sym mine) (opens_off s g h t r) a)
        (λ z. opens_off s g h t r a (λ y. d (ap (holder s) y ∙ z))))
        (λ _ _. enqueues_held s g h c t r a)

    pub request_before : (a w n : ℕ) → w ≢ nobody → Before s a w n → Before (request_edit c t r s) a w n
    request_before a w zero d e = request_held a (λ z. d (sym e ∙ z)) ∙ e
    request_before a w (suc n) d x = let y = request_lines c t r s h tidy a n x.0 in (y.0, y.1 ∙ x.1)

  -- ---- a completion
  inner_held : open_of_kind c (closes t s) t r ≡ true → (a : ℕ) → holder (complete_edit c t r s) a ≡ holder s a
  unfolding closes holder
  inner_held e a = complete_edit_by c t r s (λ x. holder x a ≡ holder s a) (λ _. refl) (λ n. never n e) (λ n. never n e)

  abbrev f : State
  f = frees g (closes t s)

  f_in : g < length f.groups
  f_in = freed_in c t r s h tidy

  f_off : (a : ℕ) → a ≢ g → holder f a ≡ holder s a
  unfolding frees closes holder
  f_off = held_off (closes t s) g nobody (group s g).queue

  f_next : len s g ≢ 0 → next_at f g ≡ next_at s g
  f_next d = (frees_lines s g h t g 0 (omega arith)).1

  -- the others keep their groups
  outer_held : open_of_kind c (closes t s) t r ≡ false → (a : ℕ) → a ≢ g → holder (complete_edit c t r s) a ≡ holder s a
  unfolding holder
  outer_held e a d = complete_edit_by c t r s (λ x. holder x a ≡ holder s a) (never e)
      (λ _ _. f_off a d)
      (λ _ _. passes_off f g f_in a d ∙ f_off a d)

  -- the first in line holds the group
  outer_first : open_of_kind c (closes t s) t r ≡ false → len s g ≢ 0 → holder (complete_edit c t r s) g ≡ next_at s g
  unfolding holder waiter
  outer_first e d = complete_edit_by c t r s (λ x. holder x g ≡ next_at s g) (never e)
      (λ _ z. absurd (d z))
      (λ _ _. passes_at f g f_in ∙ f_next d)

  pub inner_before : open_of_kind c (closes t s) t r ≡ true → (a w n : ℕ) → Before s a w n → Before (complete_edit c t r s) a w n
  inner_before e a w zero x = inner_held e a ∙ x
  inner_before e a w (suc n) x = let y = inner_lines c t r s h tidy e a n x.0 in (y.0, y.1 ∙ x.1)

  pub outer_before : open_of_kind c (closes t s) t r ≡ false → (a w n : ℕ) → a ≢ group_of c r → Before s a w n → Before (complete_edit c t r s) a w n
  outer_before e a w zero d x = outer_held e a d ∙ x
  outer_before e a w (suc n) d x = let y = outer_lines c t r s h tidy e a d n x.0 in (y.0, y.1 ∙ x.1)

  pub outer_up : open_of_kind c (closes t s) t r ≡ false → (w n : ℕ) → Before s (group_of c r) w (suc n) → Before (complete_edit c t r s) (group_of c r) w n
  outer_up e w zero x = outer_first e (λ z. omega (arith, x.0)) ∙ x.1
  outer_up e w (suc n) x = let y = outer_ups c t r s h tidy e n x.0 in (y.0, y.1 ∙ x.1)

-- ---- what touches no group
pub same_before : (s s' : State) → ((a : ℕ) → SameGroup s s' a) → (a w n : ℕ) → Before s a w n → Before s' a w n
same_before s s' E a w zero x = (E a).holds ∙ x
same_before s s' E a w (suc n) x = let e = E a in (omega (arith, e.long, x.0), e.line n ∙ x.1)
