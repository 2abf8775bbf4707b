-- Laws of lines: one that a row refuses, one that a pen wrote, and one of a state. Assumes nothing.
use Rattle.std.proofs.Common.{◌≡◌, ℕ, ◌+◌, Bool, true, false, ◌≢◌, List, [], length, refl, sym, arith, Result, Ok, Err}
use borrow.Author.Tests.{eqb-false}
use Rattle.numbers.specs.Answers.{number_of}
use Rattle.numbers.specs.declared.answers.Refusal.{Refusal}
use Rattle.numbers.specs.Rows.{Row, ◌when◌, ◌otherwise◌, first_of}
use Rattle.lines.specs.Buffers.{Put, line_into}
use Rattle.lines.specs.Lines.{line_from}
use Rattle.lines.specs.Pens.{Wrote}
use Rattle.lines.specs.declared.writing.Pen.{Pen}
use Rattle.numbers.proofs.Answered.{refusal_counts}

-- ---- of any rows
pub line_refused : (rows : List Row) (text out : List ℕ) {r : Result ℕ Refusal} {refusal : Refusal} → r ≡ Err refusal
    → number_of refusal ≡ first_of rows → (line_from r, out) ≡ line_into rows text out
unfolding line_into
line_refused rows text out {r} {refusal} same given = rw (same, ← given, refusal_counts refusal)

pub line_wrote : (rows : List Row) {text out after : List ℕ} {a b : Pen} → 0 ≡ first_of rows → a.out.now ≡ out → a.at ≡ 0
    → Wrote a text b → after ≡ b.out.now → (line_from (Ok b.at), after) ≡ line_into rows text out
unfolding line_into
line_wrote rows {text} {out} {after} {a} {b} passed same start w last =
    let put : Put out 0 text b.at b.out.now = rw (same, start) at w.text_there in
    let e : length text ≡ 0 + length text = omega arith in
    rw (last, ← passed, put.place, put.bytes, ← e)

-- ---- of a row before others: it refuses the line, or leaves it to the others
row_refuses : (n : ℕ) (b : Bool) (rows : List Row) (refusal : Refusal) → number_of refusal ≡ first_of (n when b otherwise [])
    → number_of refusal ≡ first_of (n when b otherwise rows)
row_refuses n true rows refusal given = given
row_refuses n false rows refusal given = absurd (eqb-false _ 0 (refusal_counts refusal) given)

pub row_refused : (n : ℕ) (b : Bool) (rows : List Row) (text out : List ℕ) {r : Result ℕ Refusal} {refusal : Refusal} → r ≡ Err refusal
    → number_of refusal ≡ first_of (n when b otherwise []) → (line_from r, out) ≡ line_into (n when b otherwise rows) text out
row_refused n b rows text out {r} {refusal} same given = line_refused _ text out same (row_refuses n b rows refusal given)

pub row_passed : (n : ℕ) (b : Bool) (rows : List Row) (text out : List ℕ) → n ≢ 0 → 0 ≡ first_of (n when b otherwise [])
    → line_into rows text out ≡ line_into (n when b otherwise rows) text out
unfolding line_into
row_passed n true rows text out some passed = absurd (some (sym passed))
row_passed n false rows text out some passed = refl
