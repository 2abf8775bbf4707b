-- A block of bytes that the reader accepts, its set-up being free of 1 to 5, is written again to the byte. Assumes
-- nothing.
use Prim.Native.Nat.{ℕ, ◌+◌, ◌-◌, ◌*◌, ◌/◌, ◌%◌, ◌<◌, ◌≤◌}
use mathlib.Core.Path.{◌≡◌, refl, sym, ◌∙◌}
use mathlib.Core.Bool.{true}
use mathlib.Core.List.{List}
use native.Mathlib.Omega.{arith}
use native.Mathlib.Decide.{ℕ_discrete, dec_lt}
use lib.ListN.{get_or}
use Rattle.search.proofs.Tables.{table_length, table_at}
use Rattle.search.proofs.Tests.{tests, and_iff}
use Rattle.numbers.specs.Limits.{most_tasks, most_resources, most_pairs}
use Rattle.input.specs.Layout.{byte, word, start_at, periods_at, kinds_at, pairs_at, setup_size, start_in, periods_in, kinds_in, side_in, setup_in, low, high}
use Rattle.input.specs.Words.{period, kind, outer_of, inner_of}
use Rattle.input.specs.declared.Setup.{Setup}
use Rattle.setups.specs.Clearing.{empty_from, is_clear}
use Rattle.setups.specs.Refusals.{setup_rows, setup_refusal}
use Rattle.setups.specs.Sized.{Sized}
use Rattle.setups.proofs.Cleared.{clear_kept}
use Rattle.blocks.specs.Sizes.{payload_size, payload_at, setup_block}
use Rattle.blocks.specs.OneByte.{AreBytes}
use Rattle.blocks.specs.Verdicts.{Used, payload, count, is_blank, is_setup_filled, verdict, used_part}
use Rattle.blocks.proofs.Limits.{used_size_lem}
use Rattle.writer.specs.Sealed.{head_of}
use Rattle.writer.specs.Written.{lent_rows}
use Rattle.writer.specs.SetupBlocks.{count_bytes, start_bytes, setup_byte, setup_payload, block_of_setup, setup_written}
use Rattle.writer.specs.RoundTrip.{SetupSame}
use Rattle.writer.proofs.Answers.{lent_zero, written_zero}
use Rattle.writer.proofs.Few.{below_four}
use Rattle.writer.proofs.Checked.{sealed_same}
use Rattle.writer.proofs.Reading.{Right, accepted_right, head_same, blank_at, part_at}
use Rattle.writer.proofs.SetupPlaces.{payload_at_lem, at_counts, at_start, at_kinds, at_rest, period_low, period_high, pair_outer, pair_inner}

bytes_of : (n x y : ℕ) → x < 256 → n ≡ x + 256 * y → (low n ≡ x) × (high n ≡ y)
bytes_of n x y h e = (omega arith, omega arith)

split : (s x y : ℕ) → x < 65536 → s ≡ x + 65536 * y → (s % 65536 ≡ x) × (s / 65536 ≡ y)
split s x y h e = (omega arith, omega arith)

-- ---- a block of bytes that the reader accepts
module _ (b : List ℕ) (n : ℕ) (bytes : AreBytes b) (used : verdict b 0 ≡ Used n) where
  abbrev read : List ℕ
  read = used_part b (Used n)

  abbrev c : Setup
  c = setup_in read

  well : Right b 0
  well = accepted_right b 0 n used

  at : (i : ℕ) → i < setup_size → byte read i ≡ payload b i
  at i h = part_at b n i (omega (arith, used_size_lem b 0 n used))

  counts : (c.processors ≡ payload b 0) × (c.tasks ≡ payload b 1)
      × (c.resources ≡ payload b 2) × (c.pairs ≡ payload b 3)
  unfolding setup_in
  counts = (at 0 (omega arith), at 1 (omega arith), at 2 (omega arith), at 3 (omega arith))

  -- what the tables hold
  period_in : (t : ℕ) → t < most_tasks
      → period c t ≡ payload b (periods_at + 2 * t) + 256 * payload b (periods_at + 2 * t + 1)
  unfolding setup_in periods_in
  period_in t h =
      table_at (λ t. word read (periods_at + 2 * t)) most_tasks t 0 h
      ∙ rw (at (periods_at + 2 * t) (omega arith), at (periods_at + 2 * t + 1) (omega arith))

  kind_in_lem : (r : ℕ) → r < most_resources → kind c r ≡ payload b (kinds_at + r)
  unfolding setup_in kinds_in
  kind_in_lem r h = table_at (λ r. byte read (kinds_at + r)) most_resources r 0 h ∙ at (kinds_at + r) (omega arith)

  outer_in : (i : ℕ) → i < most_pairs → outer_of c i ≡ payload b (pairs_at + 2 * i + 0)
  unfolding setup_in side_in
  outer_in i h =
      table_at (λ i. byte read (pairs_at + 2 * i + 0)) most_pairs i 0 h ∙ at (pairs_at + 2 * i + 0) (omega arith)

  inner_in : (i : ℕ) → i < most_pairs → inner_of c i ≡ payload b (pairs_at + 2 * i + 1)
  unfolding setup_in side_in
  inner_in i h =
      table_at (λ i. byte read (pairs_at + 2 * i + 1)) most_pairs i 0 h ∙ at (pairs_at + 2 * i + 1) (omega arith)

  sized : Sized c
  unfolding setup_in periods_in kinds_in side_in
  sized = record {
    periods = table_length (λ t. word read (periods_at + 2 * t)) most_tasks;
    kinds = table_length (λ r. byte read (kinds_at + r)) most_resources;
    outer = table_length (λ i. byte read (pairs_at + 2 * i + 0)) most_pairs;
    inner = table_length (λ i. byte read (pairs_at + 2 * i + 1)) most_pairs;
  }

  -- filler is 0
  blanks : (is_blank b (periods_at + 2 * payload b 1) kinds_at ≡ true) × (is_blank b (kinds_at + payload b 2) pairs_at ≡ true)
      × (is_blank b (pairs_at + 2 * payload b 3) setup_size ≡ true) × (is_blank b setup_size payload_size ≡ true)
  unfolding is_setup_filled
  blanks = let z = simp and_iff at well.filled in (z.0.0.0, z.0.0.1, z.0.1, z.1)

  is_clear_lem : is_clear c ≡ true
  unfolding is_clear empty_from
  is_clear_lem =
      let z = counts in
      let blank = blanks in
      simp tests (
        (
          (
            (λ t h l.
                let first = blank_at b _ _ blank.0 (periods_at + 2 * t) (omega arith) (omega arith) in
                let second = blank_at b _ _ blank.0 (periods_at + 2 * t + 1) (omega arith) (omega arith) in
                period_in t h ∙ rw (first, second)),
            (λ r h l. kind_in_lem r h ∙ blank_at b _ _ blank.1 (kinds_at + r) (omega arith) (omega arith)),
          ),
          (λ i h l. outer_in i h ∙ blank_at b _ _ blank.2 (pairs_at + 2 * i + 0) (omega arith) (omega arith)),
        ),
        (λ i h l. inner_in i h ∙ blank_at b _ _ blank.2 (pairs_at + 2 * i + 1) (omega arith) (omega arith)),
      )

  -- ---- each byte is written as it was read
  start_in_lem : c.start ≡ payload b 4 + 256 * payload b 5 + 65536 * (payload b 6 + 256 * payload b 7)
  unfolding setup_in start_in
  start_in_lem = rw (at 4 (omega arith), at 5 (omega arith), at 6 (omega arith), at 7 (omega arith))

  start_same : (k : ℕ) → k < 4 → get_or (start_bytes c) k 0 ≡ payload b (start_at + k)
  start_same =
      let e = start_in_lem in
      let b4 : payload b 4 < 256 = bytes (payload_at + 4) in
      let b5 : payload b 5 < 256 = bytes (payload_at + 5) in
      let b6 : payload b 6 < 256 = bytes (payload_at + 6) in
      let halves =
      split c.start (payload b 4 + 256 * payload b 5) (payload b 6 + 256 * payload b 7) (omega arith) e in
      let first = bytes_of (c.start % 65536) (payload b 4) (payload b 5) b4 halves.0 in
      let second = bytes_of (c.start / 65536) (payload b 6) (payload b 7) b6 halves.1 in
      below_four (λ k. get_or (start_bytes c) k 0 ≡ payload b (start_at + k)) first.0 first.1 second.0 second.1

  period_same : (i : ℕ) → periods_at ≤ i → i < kinds_at → setup_byte c i ≡ payload b i
  period_same i l h =
      let t = (i - periods_at) / 2 in
      let m : t < most_tasks = omega arith in
      elim (ℕ_discrete (i % 2) 0) [
        | yes p ↦
            let e : periods_at + 2 * t ≡ i = omega arith in
            let q = rw e at (period_in t m) in
            period_low c i t m (sym e) ∙ omega (arith, q, bytes (payload_at + i))
        | no p ↦
            let e : periods_at + 2 * t + 1 ≡ i = omega arith in
            let q = rw e at (period_in t m) in
            period_high c i t m (sym e) ∙ omega (arith, q, bytes (payload_at + (periods_at + 2 * t)))
      ]

  pair_same : (i : ℕ) → pairs_at ≤ i → i < setup_size → setup_byte c i ≡ payload b i
  pair_same i l h =
      let t = (i - pairs_at) / 2 in
      let m : t < most_pairs = omega arith in
      elim (ℕ_discrete (i % 2) 0) [
        | yes p ↦
            let e : pairs_at + 2 * t + 0 ≡ i = omega arith in
            pair_outer c i t m (omega arith) ∙ rw e at (outer_in t m)
        | no p ↦
            let e : pairs_at + 2 * t + 1 ≡ i = omega arith in
            pair_inner c i t m (sym e) ∙ rw e at (inner_in t m)
      ]

  byte_same : (i : ℕ) → i < payload_size → setup_byte c i ≡ payload b i
  byte_same i h = elim (dec_lt i start_at) [
    | yes l ↦
        at_counts c i l
        ∙ below_four (λ k. get_or (count_bytes c) k 0 ≡ payload b k) counts.0 counts.1 counts.2 counts.3 i l
    | no d0 ↦ elim (dec_lt i periods_at) [
      | yes l ↦
          let e : start_at + (i - start_at) ≡ i = omega arith in
          at_start c i (omega arith) l ∙ rw e at (start_same (i - start_at) (omega arith))
      | no d1 ↦ elim (dec_lt i kinds_at) [
        | yes l ↦ period_same i (omega arith) l
        | no d2 ↦ elim (dec_lt i pairs_at) [
          | yes l ↦
              let e : kinds_at + (i - kinds_at) ≡ i = omega arith in
              at_kinds c i (omega arith) l ∙ rw e at (kind_in_lem (i - kinds_at) (omega arith))
          | no d3 ↦ elim (dec_lt i setup_size) [
            | yes l ↦ pair_same i (omega arith) l
            | no d4 ↦ at_rest c i (omega arith) ∙ sym (blank_at b setup_size payload_size blanks.3 i (omega arith) h)
          ]
        ]
      ]
    ]
  ]

  again : block_of_setup c ≡ b
  unfolding block_of_setup
  again =
      let one : count b ≡ 1 = omega (arith, well.counted) in
      rw (clear_kept c sized is_clear_lem)
      (sealed_same (head_of 0 setup_block 1) (setup_payload c) b bytes well.size well.checked
      (head_same b 0 bytes well setup_block 1 refl one)
      (λ i h. sym (payload_at_lem c i h ∙ byte_same i h)))

pub setup_same : SetupSame
unfolding setup_written setup_refusal
setup_same b n bytes used free out size =
    let c = setup_in (used_part b (Used n)) in
    written_zero (lent_rows out (setup_rows c)) (block_of_setup c) out (lent_zero out (setup_rows c) size free)
    ∙ rw (again b n bytes used)
