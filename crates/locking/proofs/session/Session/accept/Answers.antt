-- Each step of an accepted event keeps to the rules. Assumes nothing.
use Rattle.std.proofs.Common.{◌≡◌, ◌⊎◌, refl, subst, rules}
use Rattle.locking.specs.Edits.{leave, give_way, Edit, edit_from}
use Rattle.locking.proofs.Accepting.{heir_stays, turned, unturned, few_tasks, clock_room, can_charge, task_in, may_edit, may_move, may_rank, ranks_stay, plays, next_may, ranks_on, plays_on}
use Rattle.locking.proofs.Holding.{accepts, place_as, edits, goes_on}
use Rattle.locking.proofs.session.Session.accept.Goals as goal

pub charge-requires : goal.charge-requires
charge-requires c =
    let X = accepts c.requires.1 c.args.e c.requires.2 _ c.step_to-ticks.ensures in
    (few_tasks X, can_charge X)

pub overflow_add-clock : goal.overflow_add-clock
overflow_add-clock c =
    let l = clock_room (accepts c.requires.1 c.args.e c.requires.2 _ c.step_to-ticks.ensures) in
    search rules

pub edited-edit-requires : goal.edited-edit-requires
edited-edit-requires c =
    let X = accepts c.requires.1 c.args.e c.requires.2 _ c.step_to-ticks.ensures in
    rw c.task-task.ensures (may_edit X c.place_in-g.result c.place_in-g.ensures.0 (place_as c.requires.1 c.args.e c.requires.2 c.step_to-ticks.ensures c.place_in-g.ensures))

pub store-requires : goal.store-requires
store-requires c = (task_in (accepts c.requires.1 c.args.e c.requires.2 _ c.step_to-ticks.ensures), c.place_in-g.ensures.0)

pub rank_again-requires : goal.rank_again-requires
rank_again-requires c =
    let E = edits c.requires.1 c.args.e c.requires.2 c.step_to-ticks.ensures c.place_in-g.ensures c.due_at-due.ensures c.task-task.ensures c.edited-edit.ensures in
    let d = edit_from c.edited-edit.result in
    rw (c.ranks_again.ensures, c.store.ensures, c.task-task.ensures) (
      λ h. let still = unturned d.turn h in ranks_stay E.accepted _ E.inside E.placed d E.edit _ _ _ refl refl refl still.0 still.1,
      λ h. may_rank E.accepted _ E.inside E.placed d E.edit _ _ _ refl refl refl (turned d.turn h),
    )

pub turn-requires : goal.turn-requires
turn-requires c =
    let E = edits c.requires.1 c.args.e c.requires.2 c.step_to-ticks.ensures c.place_in-g.ensures c.due_at-due.ensures c.task-task.ensures c.edited-edit.ensures in
    rw c.store.ensures (may_move E.accepted _ E.inside E.placed (edit_from c.edited-edit.result) E.edit _ _ _ refl refl refl)

pub hand_over-given-requires : goal.hand_over-given-requires
hand_over-given-requires c =
    let E = edits c.requires.1 c.args.e c.requires.2 c.step_to-ticks.ensures c.place_in-g.ensures c.due_at-due.ensures c.task-task.ensures c.edited-edit.ensures in
    rw (c.task-waits.ensures, c.turn.ensures, c.store.ensures) (next_may E.accepted _ E.inside E.placed (edit_from c.edited-edit.result) E.edit _ _ _ refl refl refl _ refl c.if-edit.true).1

pub store-requires-then-edit : goal.store-requires-then-edit
store-requires-then-edit c =
    let E = edits c.requires.1 c.args.e c.requires.2 c.step_to-ticks.ensures c.place_in-g.ensures c.due_at-due.ensures c.task-task.ensures c.edited-edit.ensures in
    ((next_may E.accepted _ E.inside E.placed (edit_from c.edited-edit.result) E.edit _ _ _ refl refl refl _ refl c.if-edit.true).0, E.inside)

pub turn-requires-then-edit : goal.turn-requires-then-edit
turn-requires-then-edit c = λ h. absurd (heir_stays _ _ _ _ (subst (λ (y : Edit). (y.turn ≡ leave) ⊎ (y.turn ≡ give_way)) c.hand_over-given.ensures h))

pub returns-then-edit : goal.returns-then-edit
returns-then-edit c = λ s H ok.
    let E = edits H c.args.e ok c.step_to-ticks.ensures c.place_in-g.ensures c.due_at-due.ensures c.task-task.ensures c.edited-edit.ensures in
    let d = edit_from c.edited-edit.result in
    let y = edit_from c.hand_over-given.result in
    let y-is = rw (c.task-waits.ensures, c.turn.ensures, c.store.ensures) at c.hand_over-given.ensures in
    rw (c.turn-then-edit.ensures, c.store-then-edit.ensures, c.turn.ensures, c.store.ensures, c.charge.ensures) (goes_on H c.args.e ok _ refl refl refl
    (plays_on E.accepted _ E.inside E.placed d E.edit _ _ _ refl refl refl _ refl c.if-edit.true y y-is _ _ _ refl refl refl _ refl)
    (ranks_on E.accepted _ E.inside E.placed d E.edit _ _ _ refl refl refl _ refl c.if-edit.true y y-is _ _ _ refl refl refl _ (rw c.store.ensures at c.rank_again.ensures)))

pub returns-else-edit : goal.returns-else-edit
returns-else-edit c = λ s H ok.
    let E = edits H c.args.e ok c.step_to-ticks.ensures c.place_in-g.ensures c.due_at-due.ensures c.task-task.ensures c.edited-edit.ensures in
    let d = edit_from c.edited-edit.result in
    rw (c.turn.ensures, c.store.ensures, c.charge.ensures) (goes_on H c.args.e ok _ refl refl refl
    (plays E.accepted _ E.inside E.placed d E.edit _ _ _ refl refl refl _ refl c.if-edit.false)
    (rw c.store.ensures at c.rank_again.ensures))
