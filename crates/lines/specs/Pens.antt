-- What a pen writes: a text behind what it wrote before, into the buffer that it holds.
use Rattle.std.specs.Prelude.{ℕ, ◌≡◌, ◌+◌, ◌≤◌, List, length}
use Rattle.lines.specs.Buffers.{Put}
use Rattle.lines.specs.declared.writing.Pen.{Pen}

-- there is room for a text
abbrev pub Fits : Pen → List ℕ → Type 0
Fits pen text = pen.at + length text ≤ length pen.out.now

-- the pen before and after it writes a text; it goes on with the same buffer, as each contract says beside this
pub record Wrote (before : Pen) (text : List ℕ) (after : Pen) : Type 0 where
  pub same_room : length after.out.now ≡ length before.out.now
  pub text_there : Put before.out.now before.at text after.at after.out.now
