use Prim.Native.Nat.{◌+◌, ◌*◌, ◌≤◌}
use mathlib.Core.Path.{◌≡◌}
use Rattle.lines.specs.Buffers.{total_width}
use Rattle.lines.specs.Texts.{totals_text}
use Rattle.lines.specs.Pens.{Wrote}
use Rattle.lines.proofs.writing.Pen.put_totals.Given as goal

abbrev pub invariant-loop-total : goal.invariant-loop-total
invariant-loop-total l = record {
  same_buffer : l.self.out.ghost_name ≡ l.initial.self.out.ghost_name;
  wrote : Wrote l.initial.self (totals_text l.fn.totals l.total-index) l.self;
  within : l.self.at ≤ l.initial.self.at + total_width * l.total-index;
}
