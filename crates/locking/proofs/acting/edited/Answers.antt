-- A number of no kind changes no record. Assumes nothing.
use mathlib.Core.Path.{sym}
use borrow.Author.Tests.{ne_eqb}
use Rattle.input.specs.Kinds.{arrival, finish, request, completion}
use Rattle.input.specs.declared.events.Kind.TheVariants.{Arrival, Finish, Request, Completion}
use Rattle.locking.specs.Edits.{editing}
use Rattle.locking.proofs.acting.edited.Goals as goal

pub returns-in-Err : goal.returns-in-Err
unfolding editing
returns-in-Err c =
    let kind = c.args.e.kind in
    let none = c.in-Err.ensures.1 in
    rw (ne_eqb kind arrival (λ q. none Arrival (sym q)), ne_eqb kind finish (λ q. none Finish (sym q)), ne_eqb kind request (λ q. none Request (sym q)), ne_eqb kind completion (λ q. none Completion (sym q)))
