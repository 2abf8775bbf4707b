-- The bytes of a set-up's payload, table by table. Assumes nothing.
use Prim.Native.Nat.{ℕ, ◌+◌, ◌-◌, ◌*◌, ◌/◌, ◌%◌, ◌<◌, ◌≤◌}
use mathlib.Core.Path.{◌≡◌, ◌∙◌}
use native.Mathlib.Omega.{arith}
use lib.ListN.{get_or}
use borrow.Author.Tests.{lt-ltb, le-ltb}
use Rattle.search.proofs.Tables.{table_at}
use Rattle.numbers.specs.Limits.{most_tasks, most_pairs}
use Rattle.input.specs.Layout.{start_at, periods_at, kinds_at, pairs_at, setup_size, low, high}
use Rattle.input.specs.Words.{period, kind, outer_of, inner_of}
use Rattle.input.specs.declared.Setup.{Setup}
use Rattle.blocks.specs.Sizes.{payload_size}
use Rattle.writer.specs.SetupBlocks.{count_bytes, start_bytes, period_byte, pair_byte, setup_byte, setup_payload}

module _ (c : Setup) where
  pub payload_at_lem : (i : ℕ) → i < payload_size → get_or (setup_payload c) i 0 ≡ setup_byte c i
  unfolding setup_payload
  payload_at_lem i h = table_at (setup_byte c) payload_size i 0 h

  module _ (i : ℕ) where
    pub at_counts : i < start_at → setup_byte c i ≡ get_or (count_bytes c) i 0
    unfolding setup_byte
    at_counts h = rw (lt-ltb i start_at h)

    pub at_start : start_at ≤ i → i < periods_at → setup_byte c i ≡ get_or (start_bytes c) (i - start_at) 0
    unfolding setup_byte
    at_start l h = rw (le-ltb i start_at l, lt-ltb i periods_at h)

    pub at_periods : periods_at ≤ i → i < kinds_at → setup_byte c i ≡ period_byte c (i - periods_at)
    unfolding setup_byte
    at_periods l h = rw (le-ltb i start_at (omega arith), le-ltb i periods_at l, lt-ltb i kinds_at h)

    pub at_kinds : kinds_at ≤ i → i < pairs_at → setup_byte c i ≡ kind c (i - kinds_at)
    unfolding setup_byte
    at_kinds l h =
        rw (le-ltb i start_at (omega arith), le-ltb i periods_at (omega arith), le-ltb i kinds_at l, lt-ltb i pairs_at h)

    pub at_pairs : pairs_at ≤ i → i < setup_size → setup_byte c i ≡ pair_byte c (i - pairs_at)
    unfolding setup_byte
    at_pairs l h =
        rw (
          le-ltb i start_at (omega arith),
          le-ltb i periods_at (omega arith),
          le-ltb i kinds_at (omega arith),
          le-ltb i pairs_at l,
          lt-ltb i setup_size h,
        )

    pub at_rest : setup_size ≤ i → setup_byte c i ≡ 0
    unfolding setup_byte
    at_rest l =
        rw (
          le-ltb i start_at (omega arith),
          le-ltb i periods_at (omega arith),
          le-ltb i kinds_at (omega arith),
          le-ltb i pairs_at (omega arith),
          le-ltb i setup_size l,
        )

  -- ---- the tables of two bytes a place
  module _ (i t : ℕ) where
    pub period_low : t < most_tasks → i ≡ periods_at + 2 * t → setup_byte c i ≡ low (period c t)
    period_low h e =
        let half : (i - periods_at) / 2 ≡ t = omega arith in
        let even : (i - periods_at) % 2 ≡ 0 = omega arith in
        at_periods i (omega arith) (omega arith) ∙ rw (even, half)

    pub period_high : t < most_tasks → i ≡ periods_at + 2 * t + 1 → setup_byte c i ≡ high (period c t)
    period_high h e =
        let half : (i - periods_at) / 2 ≡ t = omega arith in
        let odd : (i - periods_at) % 2 ≡ 1 = omega arith in
        at_periods i (omega arith) (omega arith) ∙ rw (odd, half)

    pub pair_outer : t < most_pairs → i ≡ pairs_at + 2 * t → setup_byte c i ≡ outer_of c t
    pair_outer h e =
        let half : (i - pairs_at) / 2 ≡ t = omega arith in
        let even : (i - pairs_at) % 2 ≡ 0 = omega arith in
        at_pairs i (omega arith) (omega arith) ∙ rw (even, half)

    pub pair_inner : t < most_pairs → i ≡ pairs_at + 2 * t + 1 → setup_byte c i ≡ inner_of c t
    pair_inner h e =
        let half : (i - pairs_at) / 2 ≡ t = omega arith in
        let odd : (i - pairs_at) % 2 ≡ 1 = omega arith in
        at_pairs i (omega arith) (omega arith) ∙ rw (odd, half)
