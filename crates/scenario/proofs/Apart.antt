-- What the code returns of an item that was taken is fixed by the draft after it and the outcome. Assumes nothing.
use Rattle.std.proofs.Common.{◌≡◌, ℕ, ap, arith, Ok, Err}
use Rattle.search.specs.Views.{TellsApart}
use Rattle.numbers.proofs.Apart.{numbers_apart}
use Rattle.scenario.specs.Outcomes.{Taken, Outcome, Kept, Written, Faulty, Refused}
use Rattle.scenario.specs.Takings.{taken_from}
use Rattle.scenario.specs.declared.Draft.{Draft}
use Rattle.scenario.specs.declared.Taken.TheVariants.{Kept as KeptIn, Written as WrittenBy}
use Rattle.scenario.specs.declared.faults.Trouble.TheVariants.{Faulty as FaultyFor, Refused as RefusedFor}

-- which of its four cases an outcome is
abbrev case_of : Outcome → ℕ
case_of Kept = 0
case_of Written = 1
case_of (Faulty reason) = 2
case_of (Refused number) = 3

-- the number that an outcome carries
abbrev carried : Outcome → ℕ
carried Kept = 0
carried Written = 0
carried (Faulty reason) = reason
carried (Refused number) = number

module _ {a b : Taken} (e : a ≡ b) where
  same_case : case_of a.outcome ≡ case_of b.outcome
  same_case = ap (λ (y : Taken). case_of y.outcome) e

  same_draft : a.draft ≡ b.draft
  same_draft = ap (λ (y : Taken). y.draft) e

  same_number : carried a.outcome ≡ carried b.outcome
  same_number = ap (λ (y : Taken). carried y.outcome) e

pub takings_apart : (d : Draft) → TellsApart (taken_from d)
takings_apart d (Ok (KeptIn x)) (Ok (KeptIn y)) e = ap (λ z. Ok (KeptIn z)) (same_draft e)
takings_apart d (Ok (KeptIn x)) (Ok (WrittenBy y)) e = let z : 0 ≡ 1 = same_case e in absurd (omega (arith, z))
takings_apart d (Ok (KeptIn x)) (Err (FaultyFor n)) e = let z : 0 ≡ 2 = same_case e in absurd (omega (arith, z))
takings_apart d (Ok (KeptIn x)) (Err (RefusedFor q)) e = let z : 0 ≡ 3 = same_case e in absurd (omega (arith, z))
takings_apart d (Ok (WrittenBy x)) (Ok (KeptIn y)) e = let z : 1 ≡ 0 = same_case e in absurd (omega (arith, z))
takings_apart d (Ok (WrittenBy x)) (Ok (WrittenBy y)) e = ap (λ z. Ok (WrittenBy z)) (same_draft e)
takings_apart d (Ok (WrittenBy x)) (Err (FaultyFor n)) e = let z : 1 ≡ 2 = same_case e in absurd (omega (arith, z))
takings_apart d (Ok (WrittenBy x)) (Err (RefusedFor q)) e = let z : 1 ≡ 3 = same_case e in absurd (omega (arith, z))
takings_apart d (Err (FaultyFor n)) (Ok (KeptIn y)) e = let z : 2 ≡ 0 = same_case e in absurd (omega (arith, z))
takings_apart d (Err (FaultyFor n)) (Ok (WrittenBy y)) e = let z : 2 ≡ 1 = same_case e in absurd (omega (arith, z))
takings_apart d (Err (FaultyFor n)) (Err (FaultyFor k)) e = ap (λ z. Err (FaultyFor z)) (same_number e)
takings_apart d (Err (FaultyFor n)) (Err (RefusedFor q)) e = let z : 2 ≡ 3 = same_case e in absurd (omega (arith, z))
takings_apart d (Err (RefusedFor r)) (Ok (KeptIn y)) e = let z : 3 ≡ 0 = same_case e in absurd (omega (arith, z))
takings_apart d (Err (RefusedFor r)) (Ok (WrittenBy y)) e = let z : 3 ≡ 1 = same_case e in absurd (omega (arith, z))
takings_apart d (Err (RefusedFor r)) (Err (FaultyFor k)) e = let z : 3 ≡ 2 = same_case e in absurd (omega (arith, z))
takings_apart d (Err (RefusedFor r)) (Err (RefusedFor q)) e = ap (λ z. Err (RefusedFor z)) (numbers_apart r q (same_number e))
