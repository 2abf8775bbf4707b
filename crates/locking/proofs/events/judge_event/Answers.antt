use Rattle.std.proofs.Common.{sym, refl, ap, ◌∙◌}
use Rattle.soundness.specs.declared.Tested.{Tested}
use Rattle.locking.proofs.Accepted.{few_open}
use Rattle.locking.proofs.Shapes.{shaped}
use Rattle.locking.proofs.events.judge_event.Goals as goal

pub judge_parts-requires : goal.judge_parts-requires
judge_parts-requires c = λ known.
    let tested = c.test-tested.ensures in
    rw c.task_at-task.ensures (few_open c.args.state (shaped _ _ c.well_formed.0) (sym (ap (λ (x : Tested). x.passes) tested) ∙ known) c.args.e.task)

pub returns : goal.returns
returns c =
    let tested = c.test-tested.ensures in
    let read = c.task_at-task in
    c.judge_parts.ensures c.args.state (record {
      given = refl;
      timed = refl;
      totals = read.result.totals;
      recorded = sym read.ensures;
      placed = refl;
      named = ap (λ (x : Tested). x.naming) tested;
      truly = ap (λ (x : Tested). x.passes) tested;
    })
