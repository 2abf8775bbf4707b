-- A word of digits, whose value fits. Assumes nothing.
use Rattle.std.proofs.Common.{rules, arith, ◌≡◌, ◌+◌, ◌-◌, ◌*◌, get_or, drop, sym, ◌∙◌}
use Rattle.scenario.proofs.Words.{digits_on, digits_off, digits_out, value_on, value_out, value_least, number_none, number_undigit, number_large, number_good}
use Rattle.scenario.proofs.reading.number_in.Goals as goal

pub returns-then-is_empty : goal.returns-then-is_empty
returns-then-is_empty c = sym (number_none 4294967295 c.args.word.now (search rules))

pub returns-in_err-checked_mul : goal.returns-in_err-checked_mul
returns-in_err-checked_mul c =
    let o = c.loop-c in
    let w = c.args.word.now in
    let v = o.invariant.3 ∙ value_on w o.c-index c.loop-c-test.true o.value in
    let m = value_least (10 * o.value + (get_or w o.c-index 0 - 48)) (drop (o.c-index + 1) w) in
    rw c.from_residual.ensures (sym (number_large 4294967295 w (omega (arith, c.in_err-checked_mul.ensures))))

pub returns-in_err-digit_in : goal.returns-in_err-digit_in
returns-in_err-digit_in c =
    let o = c.loop-c in
    let w = c.args.word.now in
    let off = digits_off w o.c-index c.loop-c-test.true c.in_err-digit_in.ensures in
    rw c.from_residual-in_err-digit_in.ensures (sym (number_undigit 4294967295 w (o.invariant.2 ∙ off)))

pub returns-in_err-value : goal.returns-in_err-value
returns-in_err-value c =
    let o = c.loop-c in
    let w = c.args.word.now in
    let v = o.invariant.3 ∙ value_on w o.c-index c.loop-c-test.true o.value in
    let m = value_least (10 * o.value + (get_or w o.c-index 0 - 48)) (drop (o.c-index + 1) w) in
    rw c.from_residual-in_err-value.ensures
    (sym (number_large 4294967295 w
    (omega (arith, c.in_err-value.ensures, c.in_ok-checked_mul.ensures, c.in_ok-digit_in.ensures))))

pub loop-c-preserved : goal.loop-c-preserved
loop-c-preserved c =
    let o = c.loop-c in
    let w = c.args.word.now in
    let next : c.in_ok-value.value ≡ 10 * o.value + (get_or w o.c-index 0 - 48) =
    omega (arith, c.in_ok-value.ensures, c.in_ok-checked_mul.ensures, c.in_ok-digit_in.ensures) in (
      o.invariant.0,
      search rules,
      o.invariant.2 ∙ digits_on w o.c-index c.loop-c-test.true c.in_ok-digit_in.ensures.0,
      rw next (o.invariant.3 ∙ value_on w o.c-index c.loop-c-test.true o.value),
    )

pub returns : goal.returns
returns c =
    let o = c.loop-c in
    let w = c.args.word.now in
    let v = o.invariant.3 ∙ value_out w o.c-index c.loop-c-test.false o.value in
    rw (← v)
    (sym (number_good 4294967295 w o.invariant.0 (o.invariant.2 ∙ digits_out w o.c-index c.loop-c-test.false)
    (omega (arith, v))))
