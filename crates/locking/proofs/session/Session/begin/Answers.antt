use Rattle.std.proofs.Common.{refl, ap}
use Rattle.soundness.specs.declared.Tested.{Tested}
use Rattle.locking.proofs.Holding.{typed_as}
use Rattle.locking.proofs.Keeping.{keeps_start}
use Rattle.locking.proofs.Shapes.{shaped, periods_short}
use Rattle.locking.proofs.session.Session.begin.Goals as goal

pub returns : goal.returns
returns c =
    let s = c.args.state in
    let Z = shaped s _ c.well_formed.0 in
    record {
      typed = typed_as s Z (periods_short s _ c.well_formed.0);
      given = refl;
      tested = ap (λ (y : Tested). y.passes) c.test-tested.ensures;
      named = ap (λ (y : Tested). y.naming) c.test-tested.ensures;
      keeps = rw (c.totals_of-totals.ensures, c.kept_of-kept.ensures) (keeps_start s Z);
      ranked = c.all_ahead-ahead.ensures;
    }
