use Prim.Native.Nat.{◌+◌, ◌*◌, ◌≤◌}
use mathlib.Core.Path.{◌≡◌}
use Rattle.lines.specs.Buffers.{places_text, place_width}
use Rattle.lines.specs.Pens.{Wrote}
use Rattle.lines.proofs.writing.Pen.put_places.Given as goal

abbrev pub invariant-loop-k : goal.invariant-loop-k
invariant-loop-k l = record {
  same_buffer : l.self.out.ghost_name ≡ l.initial.self.out.ghost_name;
  wrote : Wrote l.initial.self (places_text l.snapshot l.k) l.self;
  within : l.self.at ≤ l.initial.self.at + place_width * l.k;
}
