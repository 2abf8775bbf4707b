-- No refusal applies exactly to an accepted set-up. Assumes nothing.
use mathlib.Core.Path.{◌≡◌, refl}
use mathlib.Core.Bool.{Bool, true, false, not, ◌&&◌}
use mathlib.Core.Logic.{◌↔◌}
use native.Mathlib.Omega.{arith}
use lib.Dec.{ltb}
use Rattle.search.specs.Words.{◌is◌}
use Rattle.search.proofs.Tests.{tests, never}
use Rattle.input.specs.Kinds.{long}
use Rattle.input.specs.Words.{period, kind, some_task, some_resource, some_pair}
use Rattle.setups.specs.Refusals.{in_limits, is_stray, is_long_in_short, setup_rows, setup_refusal}
use Rattle.setups.specs.Accepted.{Accepted}
use Rattle.input.specs.declared.Setup.{Setup}
use Rattle.setups.proofs.Numbers.{setup_numbers}

-- where the first passes the second does not
pub and_none_iff : (a b : Bool) → ((a && b) ≡ false) ↔ (a ≡ true → b ≡ false)
and_none_iff a b = (there a b, back a b)
  where
    there : (a b : Bool) → (a && b) ≡ false → a ≡ true → b ≡ false
    there true b h e = h
    there false b h e = never refl e

    back : (a b : Bool) → (a ≡ true → b ≡ false) → (a && b) ≡ false
    back true b f = f refl
    back false b f = refl

module _ (c : Setup) where
  there : setup_refusal c ≡ 0 → Accepted c
  unfolding setup_rows
  there h =
      let none = (setup_numbers c).accepted.0 h in
      let limits = simp tests at (none 0 (omega arith)) in
      let periods = simp (tests, and_none_iff) at (none 1 (omega arith)) in
      let kinds = simp (tests, and_none_iff) at (none 2 (omega arith)) in
      let inside = simp (tests, and_none_iff) at (none 3 (omega arith)) in
      let nesting = simp (tests, and_none_iff) at (none 4 (omega arith)) in
      record {
        processors = limits.0.0.0;
        tasks = limits.0.0.1;
        resources = limits.0.1;
        pairs = limits.1;
        periods = λ t l. periods t (omega arith) l;
        kinds = λ r l. kinds r (omega arith) l;
        inside = λ i l. let z = inside i (omega arith) l in (z.0.0, z.0.1, z.1);
        nesting = λ i l. nesting i (omega arith) l;
      }

  back : Accepted c → setup_refusal c ≡ 0
  unfolding setup_refusal setup_rows
  back a =
      let limits : not (in_limits c) ≡ false = simp tests (((a.processors, a.tasks), a.resources), a.pairs) in
      let periods : some_task c (λ t. period c t is 0) ≡ false = simp (tests, and_none_iff) (λ t m l. a.periods t l) in
      let kinds : some_resource c (λ r. ltb long (kind c r)) ≡ false = simp (tests, and_none_iff) (λ r m l. a.kinds r l) in
      let inside : some_pair c (is_stray c) ≡ false = simp (tests, and_none_iff) (λ i m l. let z = a.inside i l in ((z.0, z.1), z.2)) in
      let nesting : some_pair c (is_long_in_short c) ≡ false = simp (tests, and_none_iff) (λ i m l. a.nesting i l) in
      rw (limits, periods, kinds, inside, nesting)

-- the answer is 0 exactly for what is accepted
pub accepted_iff : (c : Setup) → (setup_refusal c ≡ 0) ↔ Accepted c
accepted_iff c = (there c, back c)
