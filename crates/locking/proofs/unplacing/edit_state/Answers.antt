-- The records of an event, stored without moves, are the edit of the rules. Assumes nothing.
use Rattle.std.proofs.Common.{◌≡◌, ℕ, ◌<◌, [], length, get_or, sym, ap, ◌∙◌, arith}
use Rattle.numbers.specs.Limits.{most_resources, nobody}
use Rattle.input.specs.Words.{due_at}
use Rattle.input.specs.declared.Event.{Event}
use Rattle.protocol.specs.Words.{task}
use Rattle.protocol.specs.declared.Task.{Task}
use Rattle.protocol.specs.declared.State.{State}
use Rattle.states.proofs.Tables.{group_read}
use Rattle.locking.specs.Edits.{Edit, editing, stored, moved_by, edit_of}
use Rattle.locking.proofs.Acted.{edit_needs, next_in_lem, next_room}
use Rattle.locking.proofs.Shapes.{shaped}
use Rattle.locking.proofs.Unmoved.{edits, edits_handed}
use Rattle.locking.proofs.unplacing.edit_state.Goals as goal

-- the records handed to `edited` are those of the state, and so are the edits
edit_is : (s : State) (e : Event) (g : ℕ) {d : Edit} {due : ℕ} {k : Task} → length s.groups ≡ most_resources → g < most_resources
    → due ≡ due_at s.setup e.task s.clock → k ≡ task s e.task
    → d ≡ editing s.setup.kinds due s.clock k (get_or s.groups g record { holder = 0; queue = record { tasks = []; len = 0 } }) e
    → d ≡ edit_of e g s
edit_is s e g long l due-is k-is d-is = rw (due-is, k-is, group_read s.groups g (omega arith)) at d-is

pub edited-edit-requires : goal.edited-edit-requires
edited-edit-requires c = rw c.task_at-task.ensures (edit_needs c.args.state c.args.e c.requires.0)

pub returns-then-edit : goal.returns-then-edit
returns-then-edit c =
    let a = c.args in
    let Z = shaped a.state _ c.well_formed.0 in
    let is = edit_is a.state a.e a.g Z.sized.groups c.requires.1 c.due_at-due.ensures c.task_at-task.ensures c.edited-edit.ensures in
    let put_is = c.put-next.ensures ∙ ap (λ (d : Edit). stored a.e.task a.g d a.state) is in
    put_is
    ∙ edits a.state a.e c.requires.0 Z.sized.tasks Z.sized.groups a.g c.requires.1 c.requires.2 (sym (ap (λ (d : Edit). d.next) is) ∙ c.if-edit.true)

pub hand_over-given-requires : goal.hand_over-given-requires
unfolding moved_by
hand_over-given-requires c =
    let a = c.args in
    let Z = shaped a.state _ c.well_formed.0 in
    let is = edit_is a.state a.e a.g Z.sized.groups c.requires.1 c.due_at-due.ensures c.task_at-task.ensures c.edited-edit.ensures in
    let put_is = c.put-next.ensures ∙ ap (λ (d : Edit). stored a.e.task a.g d a.state) is in
    let some : (edit_of a.e a.g a.state).next ≡ nobody → ⊥ = λ q. c.if-edit.false (ap (λ (d : Edit). d.next) is ∙ q) in
    rw (c.task_at-waits.ensures, put_is, ap (λ (d : Edit). d.next) is) (next_room a.state a.e c.requires.0 a.g c.requires.2 some)

pub put-requires : goal.put-requires
put-requires c =
    let a = c.args in
    let Z = shaped a.state _ c.well_formed.0 in
    let is = edit_is a.state a.e a.g Z.sized.groups c.requires.1 c.due_at-due.ensures c.task_at-task.ensures c.edited-edit.ensures in
    let some : (edit_of a.e a.g a.state).next ≡ nobody → ⊥ = λ q. c.if-edit.false (ap (λ (d : Edit). d.next) is ∙ q) in
    rw (ap (λ (d : Edit). d.next) is) ((next_in_lem a.state a.e c.requires.0 a.g c.requires.2 some).0, c.requires.1)

pub returns : goal.returns
returns c =
    let a = c.args in
    let Z = shaped a.state _ c.well_formed.0 in
    let is = edit_is a.state a.e a.g Z.sized.groups c.requires.1 c.due_at-due.ensures c.task_at-task.ensures c.edited-edit.ensures in
    let put_is = c.put-next.ensures ∙ ap (λ (d : Edit). stored a.e.task a.g d a.state) is in
    let some : (edit_of a.e a.g a.state).next ≡ nobody → ⊥ = λ q. c.if-edit.false (ap (λ (d : Edit). d.next) is ∙ q) in
    c.put.ensures ∙ ap (λ (d : Edit). stored c.edited-edit.result.next a.g d c.put-next.result) c.hand_over-given.ensures
    ∙ rw (c.task_at-waits.ensures, put_is, ap (λ (d : Edit). d.next) is, ap (λ (d : Edit). d.group) is, ap (λ (d : Edit). d.turn) is)
    (edits_handed a.state a.e c.requires.0 Z.sized.tasks Z.sized.groups a.g c.requires.1 c.requires.2 some)
