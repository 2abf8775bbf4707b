-- What an edit does not touch keeps its clauses. Assumes nothing.
use Prim.Native.Nat.{ℕ, ◌<◌, ◌≤◌}
use mathlib.Core.Path.{◌≡◌, refl, sym, subst, ◌∙◌}
use mathlib.Core.Logic.{◌≢◌}
use native.Mathlib.Omega.{arith}
use native.Mathlib.Decide.{ℕ_discrete}
use Rattle.setups.specs.Naming.{group_of}
use Rattle.input.specs.declared.Setup.{Setup}
use Rattle.numbers.specs.Limits.{nobody}
use Rattle.protocol.specs.Words.{spinning, stand, asked, depth, request, holder, len, waiter}
use Rattle.protocol.specs.declared.State.{State}
use Rattle.protocol.proofs.Sound.Statements.{OpenOk, TaskOk, GroupOk, SameTask, SameGroup}

-- by whether a number is t
pub at_one : (P : ℕ → Type 0) (t : ℕ) → P t → ((u : ℕ) → u ≢ t → P u) → (u : ℕ) → P u
at_one P t h o u = elim (ℕ_discrete u t) [ yes e ↦ subst P (sym e) h | no d ↦ o u d ]

module _ (c : Setup) (s s' : State) where
  pub open_carry : (u : ℕ) → depth s' u ≡ depth s u → ((i : ℕ) → request s' u i ≡ request s u i)
      → ((a i : ℕ) → i < depth s u → group_of c (request s u i) ≡ a → holder s a ≡ u → holder s' a ≡ u) → OpenOk c s u → OpenOk c s' u
  open_carry u deep req hold K = record {
    few = omega (arith, K.few);
    held = λ i h. let k = K.held i (omega arith) in rw (req i) (k.0, hold _ i (omega arith) refl k.1);
    once = λ i k h g q. K.once i k (omega arith) (omega arith) (sym (req i) ∙ q ∙ req k);
    longs_first = λ i k b h q. rw (req k) (K.longs_first i k b (omega arith) (rw (req i) at q));
    one_group = λ i k h g q. rw (req i, req k) (K.one_group i k (omega arith) (omega arith) (rw (req i, req k) at q));
  }

  pub task_carry : (u : ℕ) → SameTask s s' u → ((a : ℕ) → u < c.tasks → holder s a ≡ u → holder s' a ≡ u)
      → ((a i : ℕ) → i < len s a → waiter s a i ≡ u → (k : ℕ) × (k < len s' a) × (waiter s' a k ≡ u)) → TaskOk c s u → TaskOk c s' u
  task_carry u E hold stay K = record {
    opened = open_carry u E.deep E.requested (λ a i h _ q. hold a (K.inside (λ z. omega (arith, K.none z))) q) K.opened;
    none = λ q. E.deep ∙ K.none (sym E.stood ∙ q);
    inside = λ q. K.inside (λ z. q (E.stood ∙ z));
    waits = λ q. let w = K.waits (omega (arith, E.stood)) in record {
      inside = rw E.wants w.inside;
      kinds = rw (E.stood, E.wants) w.kinds;
      place = rw E.wants (stay _ w.place.0 w.place.1 w.place.2);
      apart = λ i h. rw (E.requested i, E.wants) (w.apart i (omega (arith, E.deep)));
      asleep = λ z. E.deep ∙ w.asleep (sym E.stood ∙ z);
      room = omega (arith, E.deep, w.room);
    };
  }

  pub group_carry : (x y a : ℕ) → SameGroup s s' a
      → ((i : ℕ) → holder s a ≢ nobody → i < depth s (holder s a) → group_of c (request s (holder s a) i) ≡ a → (k : ℕ) × (k < depth s' (holder s a)) × (group_of c (request s' (holder s a) k) ≡ a))
      → ((u : ℕ) → spinning ≤ stand s u → group_of c (asked s u) ≡ a → (spinning ≤ stand s' u) × (group_of c (asked s' u) ≡ a)) → (a ≢ y → a ≢ x) → GroupOk c s x a → GroupOk c s' y a
  group_carry x y a E hold stay but K = record {
    held = λ q. rw E.holds (let h = K.held (λ z. q (E.holds ∙ z)) in hold h.0 (λ z. q (E.holds ∙ z)) h.1 h.2);
    queued = λ i h. let k = K.queued i (omega (arith, E.long)) in rw (E.line i) (stay _ k.0 k.1);
    once = λ i k h g q. K.once i k (omega (arith, E.long)) (omega (arith, E.long)) (sym (E.line i) ∙ q ∙ E.line k);
    only_held = λ d q. E.long ∙ K.only_held (but d) (sym E.holds ∙ q);
  }

  -- what stands in a queue that does not change stands there still
  pub stays_in : (a i u : ℕ) → SameGroup s s' a → i < len s a → waiter s a i ≡ u → (k : ℕ) × (k < len s' a) × (waiter s' a k ≡ u)
  stays_in a i u E h q = (i, omega (arith, E.long), E.line i ∙ q)
