use Rattle.std.proofs.Common.{eq-eqb, ne_eqb}
use Rattle.search.proofs.Slices.{contains_any}
use Rattle.numbers.specs.Limits.{nothing}
use Rattle.locking.proofs.judging.judge_request.Goals as goal

pub returns-then-contains : goal.returns-then-contains
returns-then-contains c = rw (← contains_any _ _ nothing _ c.contains.ensures.cases, c.if-contains.true)

pub returns-then-is_misplaced : goal.returns-then-is_misplaced
returns-then-is_misplaced c = rw (← contains_any _ _ nothing _ c.contains.ensures.cases, c.if-contains.false, ← c.is_misplaced.ensures, c.if-is_misplaced.true)

pub returns-then-requests-eq-REQUESTS : goal.returns-then-requests-eq-REQUESTS
returns-then-requests-eq-REQUESTS c = rw (← contains_any _ _ nothing _ c.contains.ensures.cases, c.if-contains.false, ← c.is_misplaced.ensures, c.if-is_misplaced.false, eq-eqb _ _ c.if-requests-eq-REQUESTS.true)

pub returns : goal.returns
returns c = rw (← contains_any _ _ nothing _ c.contains.ensures.cases, c.if-contains.false, ← c.is_misplaced.ensures, c.if-is_misplaced.false, ne_eqb _ _ c.if-requests-eq-REQUESTS.false)
