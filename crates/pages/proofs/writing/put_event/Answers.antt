-- `put_event` meets its contract. Assumes nothing.
use Rattle.std.proofs.Common.{arith}
use Rattle.lines.proofs.Lengths.{event_short}
use Rattle.pages.proofs.Parts.{put_snapshot}
use Rattle.pages.proofs.writing.put_event.Goals as goal

pub returns : goal.returns
returns c =
    let bytes = c.shared_slice_known-1.given in
    let short = event_short c.args.number c.args.processors c.args.line.now c.ranges.number.fits (λ k. (bytes k).fits) in
    put_snapshot c.places_line.result c.args.out.now c.args.at _ c.requires short c.unwrap_or.ensures c.places_line.ensures

pub overflow_add-result : goal.overflow_add-result
overflow_add-result c = record { fits = omega (arith, (returns c).1) }
