-- The frame keeps the ranks within their bounds; that a period has 16 bits, and how many tasks have a place, is known from
-- the types. Assumes nothing.
use Prim.Native.Nat.{ℕ, ◌<◌}
use mir.Syntax.{w16}
use borrow.Author.Rules.{elem_Fits}
use borrow.Author.Tests.{eq-eqb}
use Rattle.input.specs.Words.{period}
use Rattle.soundness.proofs.Lengths.{tasks_long}
use Rattle.soundness.proofs.Within.{view_ruled}
use Rattle.soundness.proofs.testing.placement_holds.Goals as goal

pub returns-then-state-setup : goal.returns-then-state-setup
returns-then-state-setup c =
    let s = c.args.state in
    let short : (t : ℕ) → period s.setup t < 65536 = λ t. (elem_Fits w16 w16 s.setup.periods _ t c.well_formed.0.1.1.0.1.1.1.1.1.1.1.0.1.1 tt).fits in
    rw (c.is_placed.ensures, c.jobs_of-jobs.ensures, view_ruled s (tasks_long s _ c.well_formed.0) short c.requires, eq-eqb s.processors.count s.setup.processors c.if-state-setup.true)
