-- The answer computed part by part is that of the rules' list. Assumes nothing.
use Rattle.std.proofs.Common.{◌≡◌, ℕ, ◌+◌, ◌≤◌, Bool, true, false, ltb, ◌-◌, ◌&&◌, ◌||◌, ◌≢◌, List, [], ◌∷◌, ◌++◌, length, take, get_or, sym, refl, ap, ◌∙◌, arith, ne_eqb}
use Rattle.std.specs.Prelude.{if◌then◌else◌}
use native.Mathlib.Decide.{ℕ_discrete, dec_lt}
use mathlib.Core.Bool.{and-false}
use borrow.Author.Tests.{lt-leb, not-true}
use Rattle.std.proofs.lemmas.List.{length-take-le, get_or-take}
use Rattle.search.proofs.Tests.{and_left, and_right}
use Rattle.search.specs.Words.{◌is◌, ◌isn't◌}
use Rattle.search.specs.Below.{any_below}
use Rattle.search.proofs.Slices.{any_taken}
use Rattle.numbers.specs.Limits.{most_requests, nothing}
use Rattle.numbers.specs.Rows.{Row, ◌when◌, ◌otherwise◌, first_of}
use Rattle.numbers.specs.Numbered.{is_numbered}
use Rattle.input.specs.Kinds.{arrival, finish, request as asking, completion}
use Rattle.input.specs.Words.{period, within}
use Rattle.input.specs.declared.Setup.{Setup}
use Rattle.input.specs.declared.Event.{Event}
use Rattle.setups.specs.Naming.{group_of}
use Rattle.processors.specs.declared.Processors.{Processors}
use Rattle.protocol.specs.Words.{absent, standing_no, task, stand, depth, request}
use Rattle.protocol.specs.Situations.{situation_of, situation, situation_refusal}
use Rattle.protocol.specs.Refusals.{ticks_to, misplaced, field_rows, event_rows, judge}
use Rattle.protocol.specs.declared.Task.{Task}
use Rattle.protocol.specs.declared.State.{State}
use Rattle.protocol.specs.declared.Situation.{Situation}
use Rattle.protocol.specs.declared.Situation.TheVariants.{NoJob, Running, Spinning, LinkedOnly, Ready, Suspended}
use Rattle.locking.specs.Steps.{is_apart, clock_rows, ◌or_then◌, kind_answer, parts_answer, HasParts}

-- the rows of one list after another
first_append : (xs ys : List Row) → is_numbered xs ≡ true → first_of (xs ++ ys) ≡ first_of xs or_then first_of ys
first_append [] ys t = refl
first_append (x ∷ xs) ys t = go x.1 (first_append xs ys (and_right (x.0 isn't 0) _ t))
  where
    go : (b : Bool) → first_of (xs ++ ys) ≡ first_of xs or_then first_of ys → (if b then x.0 else first_of (xs ++ ys)) ≡ (if b then x.0 else first_of xs) or_then first_of ys
    go true h = rw (not-true (x.0 is 0) (and_left _ _ t))
    go false h = h

-- the newest open request is not for r, or there is none
newest : (xs : List ℕ) (n r : ℕ) → (n is 0 || get_or (take n xs) (n - 1) nothing isn't r) ≡ (n is 0 || get_or xs (n - 1) nothing isn't r)
newest xs n r = elim (ℕ_discrete n 0) [
  | yes q ↦ rw q
  | no x ↦ rw (get_or-take n xs (n - 1) nothing (omega arith))
]

-- the rows 16 to 25 of the list, over the parts
abbrev kind_rows : Setup → ℕ → Task → Processors → List ℕ → Event → List Row
kind_rows c clock k p naming e =
    let acts = within finish e.kind completion in
    let refusal = situation_refusal (situation_of (standing_no k.standing) p e.task) in
    let now = clock + ticks_to clock e.tick in
    16 when e.kind is arrival && standing_no k.standing isn't absent otherwise
    17 when e.kind is arrival && k.arrived && ltb now (k.last + period c e.task) otherwise
    18 when acts && refusal is 18 otherwise
    26 when acts && refusal is 26 otherwise
    19 when acts && refusal is 19 otherwise
    20 when acts && refusal is 20 otherwise
    21 when e.kind is finish && k.depth isn't 0 otherwise
    22 when e.kind is asking && any_below k.depth (λ i. get_or k.requests i nothing is e.resource) otherwise
    23 when e.kind is asking && any_below k.depth (λ i. is_apart c.kinds naming e.resource (get_or k.requests i nothing)) otherwise
    24 when e.kind is asking && k.depth is most_requests otherwise
    25 when e.kind is completion && (k.depth is 0 || get_or k.requests (k.depth - 1) nothing isn't e.resource) otherwise
    []

-- one row gives what the situation's four rows give
pub situation_row : (b : Bool) (x : Situation) (later : ℕ)
    → (if b && situation_refusal x isn't 0 then situation_refusal x else later)
    ≡ (if b && situation_refusal x is 18 then 18 else if b && situation_refusal x is 26 then 26 else if b && situation_refusal x is 19 then 19 else if b && situation_refusal x is 20 then 20 else later)
situation_row false x later = refl
situation_row true NoJob later = refl
situation_row true Running later = refl
situation_row true Spinning later = refl
situation_row true LinkedOnly later = refl
situation_row true Ready later = refl
situation_row true Suspended later = refl

-- .. and so does one answer before the others
situation_rows : (x : Situation) (later : ℕ)
    → situation_refusal x or_then later
    ≡ (if situation_refusal x is 18 then 18 else if situation_refusal x is 26 then 26 else if situation_refusal x is 19 then 19 else if situation_refusal x is 20 then 20 else later)
situation_rows NoJob later = refl
situation_rows Running later = refl
situation_rows Spinning later = refl
situation_rows LinkedOnly later = refl
situation_rows Ready later = refl
situation_rows Suspended later = refl

-- a kind that is none of those numbers, between those
beside : (k : ℕ) → k ≢ finish → k ≢ asking → k ≢ completion → within finish k completion ≡ false
beside k f a c = elim (dec_lt k finish) [
  | yes x ↦ rw (lt-leb finish k x)
  | no x ↦ rw (lt-leb k completion (omega arith), and-false)
]

-- what each kind asks, by the tests of its rows: `later` is the situation's answer and the row or rows behind it
kind_row : (k : ℕ) (x : Situation) (b16 been b17 b21 b22 b23 b24 b25 : Bool)
    → (if k is arrival then (if b16 then 16 else if been && b17 then 17 else 0)
    else if within finish k completion then situation_refusal x or_then (if k is finish then (if b21 then 21 else 0) else if k is asking then (if b22 then 22 else if b23 then 23 else if b24 then 24 else 0) else (if b25 then 25 else 0)) else 0)
    ≡ (if k is arrival && b16 then 16 else if k is arrival && been && b17 then 17
    else if within finish k completion && situation_refusal x is 18 then 18 else if within finish k completion && situation_refusal x is 26 then 26
    else if within finish k completion && situation_refusal x is 19 then 19 else if within finish k completion && situation_refusal x is 20 then 20
    else if k is finish && b21 then 21 else if k is asking && b22 then 22 else if k is asking && b23 then 23 else if k is asking && b24 then 24 else if k is completion && b25 then 25 else 0)
kind_row k x b16 been b17 b21 b22 b23 b24 b25 = elim (ℕ_discrete k arrival) [
  | yes q ↦ rw q
  | no n1 ↦ elim (ℕ_discrete k finish) [
    | yes q ↦ rw q (situation_rows x _)
    | no n2 ↦ elim (ℕ_discrete k asking) [
      | yes q ↦ rw q (situation_rows x _)
      | no n3 ↦ elim (ℕ_discrete k completion) [
        | yes q ↦ rw q (situation_rows x _)
        | no n4 ↦ rw (ne_eqb k arrival n1, ne_eqb k finish n2, ne_eqb k asking n3, ne_eqb k completion n4, beside k n2 n3 n4)
      ]
    ]
  ]
]

module _ (c : Setup) (clock : ℕ) (k : Task) (p : Processors) (naming : List ℕ) (e : Event) (le : k.depth ≤ length k.requests) where
  kind_judged : kind_answer c clock k p naming e ≡ first_of (kind_rows c clock k p naming e)
  kind_judged =
      let r = e.resource in
      rw (any_taken (λ q. q is r) nothing k.requests k.depth le, any_taken (is_apart c.kinds naming r) nothing k.requests k.depth le, length-take-le k.depth k.requests le, newest k.requests k.depth r)
      (kind_row e.kind (situation_of (standing_no k.standing) p e.task) (standing_no k.standing isn't absent) k.arrived (ltb (clock + ticks_to clock e.tick) (k.last + period c e.task))
      (k.depth isn't 0)
      (any_below k.depth (λ i. get_or k.requests i nothing is r))
      (any_below k.depth (λ i. is_apart c.kinds naming r (get_or k.requests i nothing)))
      (k.depth is most_requests)
      (k.depth is 0 || get_or k.requests (k.depth - 1) nothing isn't r))

  parts_listed : parts_answer c clock k p naming e ≡ first_of (field_rows c.tasks c.resources e ++ (clock_rows clock e.tick ++ kind_rows c clock k p naming e))
  parts_listed =
      ap (λ n. first_of (field_rows c.tasks c.resources e) or_then (first_of (clock_rows clock e.tick) or_then n)) kind_judged
      ∙ ap (λ n. first_of (field_rows c.tasks c.resources e) or_then n) (sym (first_append (clock_rows clock e.tick) (kind_rows c clock k p naming e) refl))
      ∙ sym (first_append (field_rows c.tasks c.resources e) (clock_rows clock e.tick ++ kind_rows c clock k p naming e) refl)

pub parts_judged : (s : State) {c : Setup} {clock : ℕ} (k : Task) {p : Processors} {naming : List ℕ} (e : Event) → k.depth ≤ length k.requests
    → HasParts s c clock k p naming true e → parts_answer c clock k p naming e ≡ judge s e
unfolding judge event_rows stand depth request situation misplaced group_of
parts_judged s {c} {clock} k {p} {naming} e le has =
    let at-standing : k.standing ≡ (task s e.task).standing = sym (ap (λ (x : Task). x.standing) has.recorded) in
    let at-requests : k.requests ≡ (task s e.task).requests = sym (ap (λ (x : Task). x.requests) has.recorded) in
    let at-depth : k.depth ≡ (task s e.task).depth = sym (ap (λ (x : Task). x.depth) has.recorded) in
    let at-arrived : k.arrived ≡ (task s e.task).arrived = sym (ap (λ (x : Task). x.arrived) has.recorded) in
    let at_last : k.last ≡ (task s e.task).last = sym (ap (λ (x : Task). x.last) has.recorded) in
    rw (parts_listed c clock k p naming e le, at-standing, at-requests, at-depth, at-arrived, at_last, has.named, ← has.truly, has.timed, has.placed, has.given)
