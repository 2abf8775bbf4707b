-- What is written of a set-up the reader accepts and reads back, places past the counts being 0. Assumes nothing.
use Prim.Native.Nat.{ℕ, ◌+◌, ◌-◌, ◌*◌, ◌/◌, ◌%◌, ◌<◌, ◌≤◌}
use mathlib.Core.Path.{◌≡◌, refl, sym, ap, ◌∙◌}
use mathlib.Core.Bool.{Bool, true, false}
use mathlib.Core.List.{List}
use native.Mathlib.Omega.{arith}
use Rattle.std.specs.Prelude.{if◌then◌else◌}
use Rattle.search.specs.Words.{◌is◌}
use Rattle.search.proofs.Tables.{table_of}
use Rattle.search.proofs.Tests.{tests}
use Rattle.numbers.specs.Limits.{most_tasks, most_resources, most_pairs}
use Rattle.input.specs.Layout.{byte, word, periods_at, kinds_at, pairs_at, setup_size, start_in, periods_in, kinds_in, side_in, setup_in, low, high}
use Rattle.input.specs.Words.{period, kind, outer_of, inner_of}
use Rattle.input.specs.declared.Setup.{Setup}
use Rattle.setups.specs.Clearing.{cleared, empty_from, is_clear}
use Rattle.setups.specs.Sized.{Sized}
use Rattle.setups.proofs.Cleared.{cleared_sized, cleared_clear}
use Rattle.blocks.specs.Sizes.{payload_size, setup_block}
use Rattle.blocks.specs.Verdicts.{Used, payload, is_blank, is_setup_filled, verdict, used_part}
use Rattle.writer.specs.Sealed.{head_of, sealed}
use Rattle.writer.specs.SetupBlocks.{setup_byte, setup_payload, block_of_setup, setup_written}
use Rattle.writer.specs.RoundTrip.{SetupAccepted, SetupBack}
use Rattle.writer.proofs.Checked.{sealed_length, sealed_head, sealed_payload, sealed_checked}
use Rattle.writer.proofs.Reading.{Right, right_accepted, blank_of, part_at}
use Rattle.writer.proofs.SetupPlaces.{payload_at_lem, at_counts, at_start, at_periods, at_kinds, at_pairs, at_rest, period_low, period_high, pair_outer, pair_inner}

-- what is 0 past a count, of a clear set-up
module _ (c : Setup) (clear : is_clear c ≡ true) where
  period_none : (t : ℕ) → c.tasks ≤ t → t < most_tasks → period c t ≡ 0
  unfolding is_clear empty_from
  period_none t l h = (simp tests at clear).0.0.0 t h l

  kind_none : (r : ℕ) → c.resources ≤ r → r < most_resources → kind c r ≡ 0
  unfolding is_clear empty_from
  kind_none r l h = (simp tests at clear).0.0.1 r h l

  outer_none : (i : ℕ) → c.pairs ≤ i → i < most_pairs → outer_of c i ≡ 0
  unfolding is_clear empty_from
  outer_none i l h = (simp tests at clear).0.1 i h l

  inner_none : (i : ℕ) → c.pairs ≤ i → i < most_pairs → inner_of c i ≡ 0
  unfolding is_clear empty_from
  inner_none i l h = (simp tests at clear).1 i h l

either_none : (b : Bool) (x y : ℕ) → x ≡ 0 → y ≡ 0 → (if b then x else y) ≡ 0
either_none true x y p q = p
either_none false x y p q = q

-- ---- the block of a set-up d whose places past the counts are 0
module _ (d : Setup) (clear : is_clear d ≡ true) where
  abbrev block : List ℕ
  block = sealed (head_of 0 setup_block 1) (setup_payload d)

  load_at : (i : ℕ) → i < payload_size → payload block i ≡ setup_byte d i
  load_at i h = sealed_payload (head_of 0 setup_block 1) (setup_payload d) i h ∙ payload_at_lem d i h

  count_at : (payload block 0 ≡ d.processors) × (payload block 1 ≡ d.tasks)
      × (payload block 2 ≡ d.resources) × (payload block 3 ≡ d.pairs)
  count_at = (
    load_at 0 (omega arith) ∙ at_counts d 0 (omega arith),
    load_at 1 (omega arith) ∙ at_counts d 1 (omega arith),
    load_at 2 (omega arith) ∙ at_counts d 2 (omega arith),
    load_at 3 (omega arith) ∙ at_counts d 3 (omega arith),
  )

  periods_blank : (i : ℕ) → periods_at + 2 * d.tasks ≤ i → i < kinds_at → payload block i ≡ 0
  periods_blank i l h =
      let z : period d ((i - periods_at) / 2) ≡ 0 =
      period_none d clear ((i - periods_at) / 2) (omega arith) (omega arith) in
      load_at i (omega arith) ∙ at_periods d i (omega arith) h
      ∙ either_none ((i - periods_at) % 2 is 0) _ _ (rw z) (rw z)

  kinds_blank : (i : ℕ) → kinds_at + d.resources ≤ i → i < pairs_at → payload block i ≡ 0
  kinds_blank i l h =
      load_at i (omega arith) ∙ at_kinds d i (omega arith) h
      ∙ kind_none d clear (i - kinds_at) (omega arith) (omega arith)

  pairs_blank : (i : ℕ) → pairs_at + 2 * d.pairs ≤ i → i < setup_size → payload block i ≡ 0
  pairs_blank i l h =
      let p = outer_none d clear ((i - pairs_at) / 2) (omega arith) (omega arith) in
      let q = inner_none d clear ((i - pairs_at) / 2) (omega arith) (omega arith) in
      load_at i (omega arith) ∙ at_pairs d i (omega arith) h ∙ either_none ((i - pairs_at) % 2 is 0) _ _ p q

  filled : is_setup_filled block ≡ true
  unfolding is_setup_filled
  filled =
      let z = count_at in
      let periods : is_blank block (periods_at + 2 * payload block 1) kinds_at ≡ true =
      blank_of block _ _ (λ i l h. periods_blank i (omega arith) h) in
      let kinds : is_blank block (kinds_at + payload block 2) pairs_at ≡ true =
      blank_of block _ _ (λ i l h. kinds_blank i (omega arith) h) in
      let pairs : is_blank block (pairs_at + 2 * payload block 3) setup_size ≡ true =
      blank_of block _ _ (λ i l h. pairs_blank i (omega arith) h) in
      let rest : is_blank block setup_size payload_size ≡ true =
      blank_of block _ _ (λ i l h. load_at i h ∙ at_rest d i l) in
      rw (periods, kinds, pairs, rest)

  right : Right block 0
  right = record {
    size = sealed_length (head_of 0 setup_block 1) (setup_payload d);
    checked = sealed_checked (head_of 0 setup_block 1) (setup_payload d);
    number =
        rw (
          sealed_head (head_of 0 setup_block 1) (setup_payload d) 0 (omega arith),
          sealed_head (head_of 0 setup_block 1) (setup_payload d) 1 (omega arith),
        );
    inside = omega arith;
    kind = sealed_head (head_of 0 setup_block 1) (setup_payload d) 2 (omega arith);
    counted =
        let e = sealed_head (head_of 0 setup_block 1) (setup_payload d) 3 (omega arith) in
        (omega (arith, e), omega (arith, e));
    filled = filled;
  }

  block_accepted : verdict block 0 ≡ Used setup_size
  block_accepted = right_accepted block 0 right

  -- ---- what is read of it
  abbrev part : List ℕ
  part = used_part block (Used setup_size)

  read_at : (i : ℕ) → i < setup_size → byte part i ≡ setup_byte d i
  read_at i h = part_at block setup_size i h ∙ load_at i (omega arith)

  start_back : start_in part ≡ d.start
  unfolding start_in
  start_back =
      let a : byte part 4 ≡ low (d.start % 65536) =
      read_at 4 (omega arith) ∙ at_start d 4 (omega arith) (omega arith) in
      let b : byte part 5 ≡ high (d.start % 65536) =
      read_at 5 (omega arith) ∙ at_start d 5 (omega arith) (omega arith) in
      let e : byte part 6 ≡ low (d.start / 65536) =
      read_at 6 (omega arith) ∙ at_start d 6 (omega arith) (omega arith) in
      let f : byte part 7 ≡ high (d.start / 65536) =
      read_at 7 (omega arith) ∙ at_start d 7 (omega arith) (omega arith) in
      omega (arith, a, b, e, f)

  module _ (s : Sized d) where
    periods_back : periods_in part ≡ d.periods
    unfolding periods_in
    periods_back = sym (table_of (λ t. word part (periods_at + 2 * t)) d.periods most_tasks 0 s.periods (λ t h.
        let a : byte part (periods_at + 2 * t) ≡ low (period d t) =
        read_at (periods_at + 2 * t) (omega arith) ∙ period_low d (periods_at + 2 * t) t h refl in
        let b : byte part (periods_at + 2 * t + 1) ≡ high (period d t) =
        read_at (periods_at + 2 * t + 1) (omega arith) ∙ period_high d (periods_at + 2 * t + 1) t h refl in
        omega (arith, a, b)))

    kinds_back : kinds_in part ≡ d.kinds
    unfolding kinds_in
    kinds_back = sym (table_of (λ r. byte part (kinds_at + r)) d.kinds most_resources 0 s.kinds (λ r h.
        let e : kinds_at + r - kinds_at ≡ r = omega arith in
        sym (read_at (kinds_at + r) (omega arith) ∙ at_kinds d (kinds_at + r) (omega arith) (omega arith)
        ∙ ap (kind d) e)))

    outer_back : side_in part 0 ≡ d.outer
    unfolding side_in
    outer_back = sym (table_of (λ i. byte part (pairs_at + 2 * i + 0)) d.outer most_pairs 0 s.outer (λ i h.
        sym (read_at (pairs_at + 2 * i + 0) (omega arith) ∙ pair_outer d (pairs_at + 2 * i + 0) i h (omega arith))))

    inner_back : side_in part 1 ≡ d.inner
    unfolding side_in
    inner_back = sym (table_of (λ i. byte part (pairs_at + 2 * i + 1)) d.inner most_pairs 0 s.inner (λ i h.
        sym (read_at (pairs_at + 2 * i + 1) (omega arith) ∙ pair_inner d (pairs_at + 2 * i + 1) i h refl)))

    block_back : setup_in part ≡ d
    unfolding setup_in
    block_back =
        let p0 : byte part 0 ≡ d.processors = part_at block setup_size 0 (omega arith) ∙ count_at.0 in
        let p1 : byte part 1 ≡ d.tasks = part_at block setup_size 1 (omega arith) ∙ count_at.1 in
        let p2 : byte part 2 ≡ d.resources = part_at block setup_size 2 (omega arith) ∙ count_at.2 in
        let p3 : byte part 3 ≡ d.pairs = part_at block setup_size 3 (omega arith) ∙ count_at.3 in
        rw (p0, p1, p2, p3, start_back, periods_back, kinds_back, outer_back, inner_back)

pub setup_accepted : SetupAccepted
unfolding setup_written block_of_setup
setup_accepted c out h = rw h (block_accepted (cleared c) (cleared_clear c))

pub setup_back : SetupBack
unfolding setup_written block_of_setup
setup_back c out h =
    rw (h, block_accepted (cleared c) (cleared_clear c)) (block_back (cleared c) (cleared_clear c) (cleared_sized c))
