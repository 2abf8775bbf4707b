-- The event done on the records without the scheduler's moves is the edit of the rules. Assumes nothing.
use Rattle.std.proofs.Common.{◌≡◌, ℕ, ◌<◌, ◌≤◌, length, sym, ap, ◌∙◌, arith, get_or-set_same, eq-eqb, ne_eqb}
use Rattle.numbers.specs.Limits.{most_tasks, most_resources, nobody}
use Rattle.input.specs.Kinds.{request as asking, completion}
use Rattle.input.specs.declared.Event.{Event}
use Rattle.setups.specs.Naming.{group_of}
use Rattle.protocol.specs.Records.{no_group, with_processors}
use Rattle.protocol.specs.Words.{task}
use Rattle.protocol.specs.Edited.{edited}
use Rattle.protocol.specs.Events.{cold}
use Rattle.protocol.specs.declared.Group.{Group}
use Rattle.protocol.specs.declared.State.{State}
use Rattle.protocol.proofs.Events.Edited.{act_back}
use Rattle.locking.specs.Acting.{CanAct}
use Rattle.locking.specs.Edits.{Edit, handing, stored, moved_by, handed, edit_of, acted}
use Rattle.locking.proofs.Acted.{acted_act}

-- ---- the records of an event that can be done, on the place g of its group where it has one
module _ (s : State) (e : Event) (can : CanAct s e) (tasked : length s.tasks ≡ most_tasks) (grouped : length s.groups ≡ most_resources)
    (g : ℕ) (g_in : g < most_resources) (g-is : (asking ≤ e.kind) × (e.kind ≤ completion) → g ≡ group_of s.setup e.resource) where
  abbrev d : Edit
  d = edit_of e g s

  abbrev s₁ : State
  s₁ = stored e.task g d s

  done : with_processors s.processors (acted e g s) ≡ edited s.setup e s
  done = ap (with_processors s.processors) (acted_act s e can tasked grouped g g-is) ∙ act_back cold s.setup s e

  -- nobody is handed the group
  pub edits : d.next ≡ nobody → s₁ ≡ edited s.setup e s
  unfolding acted moved_by
  edits h = sym (rw (eq-eqb d.next nobody h)) ∙ done

  -- the next is handed the group
  pub edits_handed : (d.next ≡ nobody → ⊥) → stored d.next g (handing (task s₁ d.next) d.group d.turn d.next) s₁ ≡ edited s.setup e s
  unfolding acted moved_by handed
  edits_handed h =
      ap (λ (y : Group). stored d.next g (handing (task s₁ d.next) y d.turn d.next) s₁) (sym (get_or-set_same s.groups g d.group no_group (omega (arith, grouped, g_in))))
      ∙ sym (rw (ne_eqb d.next nobody h)) ∙ done
