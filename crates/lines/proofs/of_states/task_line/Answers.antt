use Rattle.std.proofs.Common.{not, Err, refl, ◌∙◌, arith, leb, le-leb}
use Rattle.numbers.specs.declared.answers.Refusal.TheVariants.{TaskUnknown}
use Rattle.numbers.specs.Refusals.{not_sound, task_unknown}
use Rattle.protocol.specs.Sound.{sound}
use Rattle.lines.proofs.Lines.{row_refused, row_passed}
use Rattle.lines.proofs.of_states.task_line.Goals as goal

pub returns-then-state-from : goal.returns-then-state-from
returns-then-state-from c =
    let tasks = c.args.state.setup.tasks in
    row_refused task_unknown (leb tasks c.args.t) _ _ _ {r = Err TaskUnknown} refl (rw (le-leb tasks c.args.t (omega arith)))
    ∙ row_passed not_sound (not (sound c.args.state)) _ _ _ (λ e. omega arith) c.in_ok-judge_sound.ensures
