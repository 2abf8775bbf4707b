-- `put_task` meets its contract. Assumes nothing.
use Rattle.std.proofs.Common.{◌≡◌, ℕ, length, get_or, arith, w32, Fits, rules}
use Rattle.protocol.specs.Records.{total_count}
use Rattle.lines.proofs.Lengths.{totals_short}
use Rattle.pages.proofs.Parts.{put_snapshot}
use Rattle.pages.proofs.writing.put_task.Goals as goal

pub returns : goal.returns
returns c =
    let long : length c.args.totals ≡ total_count = search rules in
    let each : (k : ℕ) → Fits w32 (get_or c.args.totals k 0) = search rules in
    let short = totals_short c.args.t c.args.totals c.ranges.t.fits long (λ k. (each k).fits) in
    put_snapshot c.totals_line.result c.args.out.now c.args.at _ c.requires short c.unwrap_or.ensures c.totals_line.ensures

pub overflow_add-result : goal.overflow_add-result
overflow_add-result c = record { fits = omega (arith, (returns c).1) }
