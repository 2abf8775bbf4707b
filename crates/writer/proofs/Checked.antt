-- A sealed block: it is what the copies of `put_block` leave, its bytes are those of its head and payload, and its
-- check is right. A block of bytes with these bytes and a right check is the sealed one. Assumes nothing.
use Prim.Native.Nat.{ℕ, ◌+◌, ◌-◌, ◌<◌, ◌≤◌}
use mathlib.Core.Path.{◌≡◌, refl, sym, ◌∙◌}
use mathlib.Core.Bool.{true}
use mathlib.Core.List.{List, ◌++◌}
use native.Mathlib.Omega.{arith}
use native.Mathlib.Decide.{dec_lt}
use lib.ListN.{length, get_or, drop, get_or-append, length-append, length-drop}
use borrow.Rule.Slice.PartMut.{put_mid}
use Rattle.std.proofs.Common.{append_assoc, append-nil}
use Rattle.std.proofs.lemmas.List.{take_at, drop_at, drop-drop, drop_all, get_or-append_right}
use borrow.Author.Tests.{lt-ltb, le-ltb}
use Rattle.search.specs.Table.{table}
use Rattle.search.proofs.Tables.{table_length, table_at, table_of}
use Rattle.search.proofs.Tests.{tests}
use Rattle.input.specs.Layout.{byte, word, low, high}
use Rattle.blocks.specs.Sizes.{payload_at, check_at, block_size, payload_size}
use Rattle.blocks.specs.Check.{words, check_of, is_checked}
use Rattle.blocks.specs.OneByte.{AreBytes}
use Rattle.blocks.specs.Verdicts.{payload}
use Rattle.blocks.specs.declared.Check.{Check}
use Rattle.blocks.proofs.Sums.{sums_same}
use Rattle.writer.proofs.Few.{below_four}
use Rattle.writer.specs.Sealed.{body_byte, check_bytes, check_behind, sealed_byte, sealed}

-- a copy behind a front whose length is the copy's place: into what follows, and over all that follows
copied_into : (front rest part : List ℕ) (n k : ℕ) → length front ≡ n
    → put_mid n k (front ++ rest) part ≡ (front ++ part) ++ drop k rest
copied_into front rest part n k e = rw (take_at front rest n e, drop_at front rest n e) (sym (append_assoc front part (drop k rest)))

copied_over : (now front rest part : List ℕ) (n k : ℕ) → now ≡ front ++ rest → length front ≡ n → length rest ≤ k
    → put_mid n k now part ≡ front ++ part
copied_over now front rest part n k e size few =
    rw (e, take_at front rest n size, drop_at front rest n size, drop_all k rest few, append-nil part) refl

module _ (head load : List ℕ) where
  sealed_body : (i : ℕ) → i < check_at → body_byte head load i ≡ sealed_byte head load i
  unfolding sealed_byte
  sealed_body i h = rw (lt-ltb i check_at h)

  -- the check is that of the bytes before it, whatever stands behind them
  pub body_check : (rest : List ℕ)
      → check_of (table (body_byte head load) check_at ++ rest) ≡ check_of (table (body_byte head load) check_at)
  body_check rest =
      let size = table_length (body_byte head load) check_at in
      sums_same _ _ words (λ i l. get_or-append (table (body_byte head load) check_at) rest 0 i (omega (arith, size)))

  -- its four bytes
  check_at_lem : (c : Check) → c ≡ check_of (table (body_byte head load) check_at)
      → (low c.first ≡ sealed_byte head load check_at) × (high c.first ≡ sealed_byte head load (check_at + 1))
      × (low c.second ≡ sealed_byte head load (check_at + 2)) × (high c.second ≡ sealed_byte head load (check_at + 3))
  unfolding sealed_byte check_behind
  check_at_lem c k = (rw k, rw k, rw k, rw k)

  -- ---- what the three copies of `put_block` leave
  module _ (few : length head ≡ payload_at) (many : length load ≡ payload_size) where
    body_joined : head ++ load ≡ table (body_byte head load) check_at
    unfolding body_byte
    body_joined = table_of (body_byte head load) (head ++ load) check_at 0 (simp length-append (omega arith)) (λ i l. elim (dec_lt i payload_at) [
      | yes h ↦ rw (lt-ltb i payload_at h) (get_or-append head load 0 i (omega arith))
      | no h ↦ rw (le-ltb i payload_at (omega arith)) (get_or-append_right head load payload_at i 0 few (omega arith))
    ])

    sealed_joined : table (body_byte head load) check_at ++ check_behind head load ≡ sealed head load
    unfolding sealed sealed_byte check_behind
    sealed_joined =
        let size = table_length (body_byte head load) check_at in
        table_of (sealed_byte head load) (table (body_byte head load) check_at ++ check_behind head load) block_size 0 (simp length-append (omega arith)) (λ i l. elim (dec_lt i check_at) [
          | yes h ↦ rw (lt-ltb i check_at h) (get_or-append (table (body_byte head load) check_at) (check_behind head load) 0 i (omega arith) ∙ table_at (body_byte head load) check_at i 0 h)
          | no h ↦ rw (le-ltb i check_at (omega arith)) (get_or-append_right (table (body_byte head load) check_at) (check_behind head load) check_at i 0 size (omega arith))
        ])

    module _ (out : List ℕ) (long : length out ≡ block_size) where
      abbrev pub two_copies : List ℕ
      two_copies = put_mid payload_at payload_size (head ++ drop payload_at out) load

      body_copied : two_copies ≡ (head ++ load) ++ drop check_at out
      body_copied = copied_into head (drop payload_at out) load payload_at payload_size few ∙ rw drop-drop refl

      pub three_copies : (check : List ℕ) → check ≡ check_bytes (check_of two_copies)
          → put_mid check_at (length two_copies - check_at) two_copies check ≡ sealed head load
      unfolding check_behind
      three_copies check e =
          let size : length (head ++ load) ≡ check_at = simp length-append (omega arith) in
          let all : length two_copies ≡ block_size = rw body_copied (simp (length-append, length-drop) (omega arith)) in
          let rest : length (drop check_at out) ≤ length two_copies - check_at = simp length-drop (omega (arith, all)) in
          let own : check_of two_copies ≡ check_of (table (body_byte head load) check_at) = rw (body_copied, body_joined) (body_check (drop check_at out)) in
          copied_over two_copies (head ++ load) (drop check_at out) check check_at _ body_copied size rest
          ∙ rw (e, own, body_joined) sealed_joined

  -- ---- what is read of it
  pub sealed_length : length (sealed head load) ≡ block_size
  unfolding sealed
  sealed_length = table_length (sealed_byte head load) block_size

  sealed_at : (i : ℕ) → i < check_at → byte (sealed head load) i ≡ body_byte head load i
  unfolding sealed
  sealed_at i h = table_at (sealed_byte head load) block_size i 0 (omega arith) ∙ sym (sealed_body i h)

  pub sealed_head : (i : ℕ) → i < payload_at → byte (sealed head load) i ≡ get_or head i 0
  unfolding body_byte
  sealed_head i h = sealed_at i (omega arith) ∙ rw (lt-ltb i payload_at h)

  pub sealed_payload : (i : ℕ) → i < payload_size → payload (sealed head load) i ≡ get_or load i 0
  unfolding body_byte
  sealed_payload i h =
      let e : payload_at + i - payload_at ≡ i = omega arith in
      sealed_at (payload_at + i) (omega arith) ∙ rw (le-ltb (payload_at + i) payload_at (omega arith), e)

  -- the check that it should have is the one that it has
  sealed_check : check_of (sealed head load) ≡ check_of (table (body_byte head load) check_at)
  sealed_check = sums_same _ _ words (λ i l. sealed_at i l ∙ sym (table_at (body_byte head load) check_at i 0 l))

  sealed_behind : (i : ℕ) → i < block_size → byte (sealed head load) i ≡ sealed_byte head load i
  unfolding sealed
  sealed_behind i h = table_at (sealed_byte head load) block_size i 0 h

  pub sealed_checked : is_checked (sealed head load) ≡ true
  unfolding is_checked
  sealed_checked =
      let c = check_of (sealed head load) in
      let z = check_at_lem c sealed_check in
      let w0 : byte (sealed head load) check_at ≡ low c.first = sealed_behind check_at (omega arith) ∙ sym z.0 in
      let w1 : byte (sealed head load) (check_at + 1) ≡ high c.first =
      sealed_behind (check_at + 1) (omega arith) ∙ sym z.1 in
      let w2 : byte (sealed head load) (check_at + 2) ≡ low c.second =
      sealed_behind (check_at + 2) (omega arith) ∙ sym z.2 in
      let w3 : byte (sealed head load) (check_at + 3) ≡ high c.second =
      sealed_behind (check_at + 3) (omega arith) ∙ sym z.3 in
      simp tests (omega (arith, w0, w1), omega (arith, w2, w3))

  -- ---- a block of bytes that has its head, its payload and its check right is the sealed one
  module _ (block : List ℕ) (bytes : AreBytes block) (size : length block ≡ block_size)
      (checked : is_checked block ≡ true)
      (heads : (i : ℕ) → i < payload_at → byte block i ≡ get_or head i 0)
      (loads : (i : ℕ) → i < payload_size → payload block i ≡ get_or load i 0) where
    body_same : (i : ℕ) → i < check_at → byte block i ≡ body_byte head load i
    unfolding body_byte
    body_same i h = elim (dec_lt i payload_at) [
      | yes l ↦ heads i l ∙ rw (lt-ltb i payload_at l)
      | no d ↦
          let e : payload_at + (i - payload_at) ≡ i = omega arith in
          rw e at (loads (i - payload_at) (omega arith)) ∙ rw (le-ltb i payload_at (omega arith))
    ]

    held : (word block check_at ≡ (check_of block).first) × (word block (check_at + 2) ≡ (check_of block).second)
    unfolding is_checked
    held = simp tests at checked

    check_same : check_of block ≡ check_of (table (body_byte head load) check_at)
    check_same = sums_same _ _ words (λ i l. body_same i l ∙ sym (table_at (body_byte head load) check_at i 0 l))

    behind_same : (k : ℕ) → k < 4 → byte block (check_at + k) ≡ sealed_byte head load (check_at + k)
    behind_same =
        let z = check_at_lem (check_of block) check_same in
        let a : byte block check_at < 256 = bytes check_at in
        let b : byte block (check_at + 2) < 256 = bytes (check_at + 2) in
        let e0 : byte block check_at ≡ low (check_of block).first = omega (arith, held.0, a) in
        let e1 : byte block (check_at + 1) ≡ high (check_of block).first = omega (arith, held.0, a) in
        let e2 : byte block (check_at + 2) ≡ low (check_of block).second = omega (arith, held.1, b) in
        let e3 : byte block (check_at + 3) ≡ high (check_of block).second = omega (arith, held.1, b) in
        below_four (λ k. byte block (check_at + k) ≡ sealed_byte head load (check_at + k)) (e0 ∙ z.0) (e1 ∙ z.1)
        (e2 ∙ z.2) (e3 ∙ z.3)

    pub sealed_same : sealed head load ≡ block
    unfolding sealed
    sealed_same = sym (table_of (sealed_byte head load) block block_size 0 size (λ i h. go i h))
      where
        go : (i : ℕ) → i < block_size → byte block i ≡ sealed_byte head load i
        go i h = elim (dec_lt i check_at) [
          | yes l ↦ body_same i l ∙ sealed_body i l
          | no d ↦
              let e : check_at + (i - check_at) ≡ i = omega arith in
              rw e at (behind_same (i - check_at) (omega arith))
        ]
