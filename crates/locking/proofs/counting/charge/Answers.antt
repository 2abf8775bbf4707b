-- The loop's invariant: the tasks passed are charged, by the table of places. Assumes nothing.
use Rattle.std.proofs.Common.{◌≡◌, ℕ, ltb, List, length, get_or, sym, refl, ap, ◌∙◌, subst, arith, rules}
use Rattle.locking.specs.Totals.{total_with, charged_to, CanChargeTask}
use Rattle.locking.proofs.Places.{place_low, total_by_low}
use Rattle.locking.proofs.Totals.{with_low, place_at, charge_can, charge_turn, charge_absent, charged_length}
use Rattle.locking.proofs.counting.charge.Goals as goal
use Rattle.locking.proofs.counting.charge.Goals.{else-stand-ne-ABSENT, then-stand-ne-ABSENT}

pub loop-t-init : goal.loop-t-init
unfolding charged_to
loop-t-init c = (search rules, λ e. refl)

pub charge_task-requires : goal.charge_task-requires
charge_task-requires c =
    let a = c.args in
    let o = c.loop-t in
    let placed = place_at a.p c.places_of-places.result c.places_of-places.ensures o.t (omega (arith, c.requires.0, c.loop-t-test.true)) in (
      omega (arith, c.total_by-total.ensures, total_by_low (get_or a.stands o.t 0) (get_or c.places_of-places.result o.t 0) (ltb (get_or a.ahead o.t 0) a.p.count) (omega (arith, placed, place_low a.p o.t))),
      subst (λ (l : List ℕ). CanChargeTask l a.ticks o.t) (sym (o.invariant.1 c.places_of-places.ensures)) (charge_can a.ticks a.stands (total_with a.stands a.ahead a.p) a.totals.now o.t (with_low a.stands a.ahead a.p) c.requires.1 (omega (arith, c.requires.0, c.loop-t-test.true))),
    )

pub loop-t-preserved : goal.loop-t-preserved
loop-t-preserved c =
    let a = c.args in
    let o = c.loop-t in
    let before = o.invariant.1 c.places_of-places.ensures in (
      omega (arith, c.loop-t-test.true),
      λ e. elim c.if-stand-ne-ABSENT.branch [ then-stand-ne-ABSENT w ↦ w.totals-is ∙ w.charge_task.ensures ∙ charge_turn a.ticks a.stands a.ahead a.p a.totals.now o.t _ _ _ (place_at a.p c.places_of-places.result e o.t (omega (arith, c.requires.0, c.loop-t-test.true))) before w.total_by-total.ensures w.if-stand-ne-ABSENT.true | else-stand-ne-ABSENT w ↦ w.totals-is ∙ before ∙ charge_absent a.ticks a.stands (total_with a.stands a.ahead a.p) a.totals.now o.t w.if-stand-ne-ABSENT.false ],
    )

pub shape_of-totals : goal.shape_of-totals
shape_of-totals c = ap length (c.loop-t.invariant.1 c.places_of-places.ensures) ∙ charged_length c.args.ticks c.args.stands (total_with c.args.stands c.args.ahead c.args.p) c.args.totals.now c.loop-t.t

pub returns : goal.returns
returns c = let e : c.loop-t.t ≡ c.args.count = omega (arith, c.loop-t.invariant.0, c.loop-t-test.false) in rw e at (c.loop-t.invariant.1 c.places_of-places.ensures)
