-- The branches of a request and of a completion, as equations. Assumes nothing.
use Rattle.std.proofs.Common.{◌≡◌, ℕ, true, false, ◌||◌, eq-eqb, ne_eqb}
use Rattle.std.specs.Prelude.{if◌then◌else◌}
use Rattle.search.specs.Words.{◌is◌}
use Rattle.input.specs.Kinds.{short}
use Rattle.input.specs.Words.{kind}
use Rattle.setups.specs.Naming.{group_of}
use Rattle.input.specs.declared.Setup.{Setup}
use Rattle.numbers.specs.Limits.{nobody}
use Rattle.protocol.specs.Words.{holder, len}
use Rattle.protocol.specs.Locks.{open_of_kind, opens, enqueues, closes, frees, next_at, passes}
use Rattle.protocol.specs.Events.{cold, arrives, leaves, becomes_preemptable, gives_way, request_event, complete_event}
use Rattle.protocol.specs.declared.State.{State}

module _ (c : Setup) (t r : ℕ) (s : State) where
  pub request_open : (open_of_kind c s t r || holder s (group_of c r) is nobody) ≡ true → request_event c t r s ≡ opens t r (group_of c r) s
  unfolding request_event
  request_open h = rw h

  pub request_spin : (open_of_kind c s t r || holder s (group_of c r) is nobody) ≡ false → kind c r ≡ short → request_event c t r s ≡ enqueues c t r (group_of c r) s
  unfolding request_event
  request_spin h k = rw (h, eq-eqb (kind c r) short k)

  pub request_wait : (open_of_kind c s t r || holder s (group_of c r) is nobody) ≡ false → (kind c r ≡ short → ⊥) → request_event c t r s ≡ leaves c t (enqueues c t r (group_of c r) s)
  unfolding request_event
  request_wait h k = rw (h, ne_eqb (kind c r) short k)

  pub complete_inner : open_of_kind c (closes t s) t r ≡ true → complete_event cold c t r s ≡ closes t s
  unfolding complete_event
  complete_inner h = rw h

  pub complete_short : open_of_kind c (closes t s) t r ≡ false → kind c r ≡ short
      → complete_event cold c t r s ≡ becomes_preemptable c t (if len s (group_of c r) is 0 then frees (group_of c r) (closes t s) else passes (group_of c r) (frees (group_of c r) (closes t s)))
  unfolding complete_event
  complete_short h k = rw (h, eq-eqb (kind c r) short k)

  pub complete_long : open_of_kind c (closes t s) t r ≡ false → (kind c r ≡ short → ⊥)
      → complete_event cold c t r s ≡ (if len s (group_of c r) is 0 then gives_way c t (frees (group_of c r) (closes t s))
      else arrives cold c (next_at s (group_of c r)) (passes (group_of c r) (gives_way c t (frees (group_of c r) (closes t s)))))
  unfolding complete_event
  complete_long h k = rw (h, ne_eqb (kind c r) short k)
