-- What a pen writes behind what it wrote: nothing, a text behind a text, and one text more of each. Assumes nothing.
use Prim.Native.Nat.{ℕ, ◌+◌}
use mathlib.Core.Path.{◌≡◌, refl, ◌∙◌}
use mathlib.Core.List.{List, [], ◌++◌}
use lib.ListN.{length}
use Rattle.states.specs.Writing.{written}
use Rattle.states.proofs.Writing.{written_long}
use Rattle.search.specs.Texts.{each_text}
use Rattle.lines.specs.Pens.{Wrote}
use Rattle.lines.specs.declared.writing.Pen.{Pen}
use Rattle.lines.proofs.Laws.{put_none, put_then, put_more}

-- a text written from the pen's place on
pub wrote_text : {a b : Pen} {text : List ℕ} → b.at ≡ a.at + length text
    → b.out.now ≡ written a.out.now a.at text → Wrote a text b
wrote_text {a} {b} {text} place bytes = record {
  same_room = rw bytes (written_long a.out.now a.at text);
  text_there = record { place = place; bytes = bytes };
}

pub wrote_none : (a : Pen) → Wrote a [] a
wrote_none a = record { same_room = refl; text_there = put_none _ _ }

pub wrote_then : {a b c : Pen} {x y : List ℕ} → Wrote a x b → Wrote b y c → Wrote a (x ++ y) c
wrote_then p q = record {
  same_room = q.same_room ∙ p.same_room;
  text_there = put_then p.text_there q.text_there;
}

pub wrote_more : {a b c : Pen} (text : ℕ → List ℕ) (k : ℕ) → Wrote a (each_text text k) b → Wrote b (text k) c
    → Wrote a (each_text text (k + 1)) c
wrote_more text k p q = record {
  same_room = q.same_room ∙ p.same_room;
  text_there = put_more text k p.text_there q.text_there;
}
