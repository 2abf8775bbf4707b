-- The totals of the table, charged and put back, are those of the charged state. Assumes nothing.
use Rattle.std.proofs.Common.{refl, ap, ◌∙◌, rules}
use Rattle.protocol.specs.Events.{charged as charged_rule}
use Rattle.protocol.proofs.Sound.Reflect.{sound_of_test}
use Rattle.protocol.proofs.Events.Step.{grouped}
use Rattle.locking.specs.Totals.{counted}
use Rattle.locking.proofs.Accepted.{accepted_sound}
use Rattle.locking.proofs.Accepting.{Accepts, few_tasks, clock_room, can_charge, charges_on}
use Rattle.locking.proofs.Keeping.{keeps_start, keeps_state}
use Rattle.locking.proofs.Shapes.{shaped, periods_short}
use Rattle.locking.proofs.unplacing.charged.Goals as goal
use Rattle.locking.proofs.unplacing.charged.Goals.{After-step_to-ticks}

-- an accepted event of a sound state
accepts : (c : After-step_to-ticks)
    → let s = c.args.state in
    let k = c.kept_of-kept.result in
    Accepts s c.args.e s.setup s.clock s.tasks s.groups s.processors c.totals_of-totals.result k.own k.modes k.stands c.all_ahead-ahead.result c.step_to-ticks.result
accepts c =
    let s = c.args.state in
    let Z = shaped s _ c.well_formed.0 in
    let Q = sound_of_test s Z (accepted_sound s c.args.e c.requires) in
    record {
      sound = Q;
      ok = c.requires;
      given = refl;
      short = periods_short s _ c.well_formed.0;
      keeps = rw (c.totals_of-totals.ensures, c.kept_of-kept.ensures) (keeps_start s Z);
      ranked = c.all_ahead-ahead.ensures (grouped s c.args.e Q c.requires).few_tasks;
      stepped = c.step_to-ticks.ensures;
    }

pub charge-requires : goal.charge-requires
charge-requires c =
    let A = accepts (goal.at.charge-requires c).After-step_to-ticks in
    (few_tasks A, can_charge A)

pub overflow_add-result : goal.overflow_add-result
overflow_add-result c =
    let l = clock_room (accepts (goal.at.overflow_add-result c).After-step_to-ticks) in
    search rules

pub returns : goal.returns
unfolding charged_rule
returns c =
    keeps_state _ _ _ _ _ _ _ _ _ (charges_on (accepts (goal.at.returns c).After-step_to-ticks)) _ _ refl
    (c.with_totals.ensures ∙ ap (counted c.args.state.tasks) c.charge.ensures)
