-- Laws of texts and parts of a buffer: what stands in a part once a text was written, and a line put into the part from a place on. Assumes nothing.
use Rattle.std.proofs.Common.{◌≡◌, Result, Ok, Err, ℕ, suc, ◌+◌, ◌-◌, ◌≤◌, List, [], ◌∷◌, ◌++◌, length, take, drop, set, sym, refl, ap, ◌∙◌, append_assoc, append-nil, zero-add, arith, length-drop, drop_of_length-le, length-take-le, take_all, drop-drop, drop_at, le-ltb, length-append}
use Rattle.std.proofs.lemmas.List.{drop-append-le}
use lib.Seq.{take-set-le, drop-set-add, take-append_seam, sets, sets-eq}
use Rattle.std.specs.Result.{result_unwrap_or}
use Rattle.states.specs.Writing.{written}
use Rattle.numbers.specs.declared.answers.Refusal.{Refusal}
use Rattle.states.proofs.Writing.{written_parts}
use Rattle.lines.specs.Buffers.{Put, line_limit, line_into, narrow}
use Rattle.lines.specs.Lines.{line_from}

-- ---- a text written into a buffer
-- it reads back
pub written_there : (bytes : List ℕ) (at : ℕ) (text : List ℕ) → at + length text ≤ length bytes
    → take (length text) (drop at (written bytes at text)) ≡ text
written_there bytes at text fits =
    let before : length (take at bytes) ≡ at = length-take-le at bytes (omega arith) in
    rw (written_parts bytes at text fits, drop_at (take at bytes) (text ++ drop (at + length text) bytes) at before) (take-append_seam text (drop (at + length text) bytes))

-- a part before it is as it was
pub written_before : (bytes : List ℕ) (at : ℕ) (text : List ℕ) (from size : ℕ) → from + size ≤ at
    → take size (drop from (written bytes at text)) ≡ take size (drop from bytes)
unfolding written
written_before bytes at [] from size h = refl
written_before bytes at (x ∷ text) from size h =
    let e : at ≡ from + (at - from) = omega arith in
    let same : drop from (set bytes at x) ≡ set (drop from bytes) (at - from) x = ap (λ k. drop from (set bytes k x)) e ∙ drop-set-add from bytes (at - from) x in
    written_before (set bytes at x) (suc at) text from size (omega arith) ∙ ap (take size) same ∙ take-set-le size (drop from bytes) (at - from) x (omega arith)

-- written into the part from a place on, it is written into the whole there
written_tail : (bytes : List ℕ) (at : ℕ) (text : List ℕ) → at + length text ≤ length bytes
    → take at bytes ++ written (drop at bytes) 0 text ≡ written bytes at text
written_tail bytes at text fits =
    let room : 0 + length text ≤ length (drop at bytes) = omega (arith, length-drop at bytes) in
    rw (written_parts bytes at text fits, written_parts (drop at bytes) 0 text room, zero-add (length text), drop-drop (length text) at bytes)

-- written into a front part, it is written into the whole
pub written_front : (front rest : List ℕ) (text : List ℕ) → length text ≤ length front → written front 0 text ++ rest ≡ written (front ++ rest) 0 text
written_front front rest text fits =
    rw (written_parts front 0 text (omega arith), written_parts (front ++ rest) 0 text (omega (arith, length-append front rest)), zero-add (length text), drop-append-le (length text) front rest fits)
    (append_assoc text (drop (length text) front) rest)

-- ---- a line where there is room for one: what is given back of it, into a buffer and into its part from a place on
line_len : (r : Result ℕ Refusal) → result_unwrap_or r 0 ≡ (line_from r).len
line_len (Ok len) = refl
line_len (Err refusal) = refl

pub line_given : (r : Result ℕ Refusal) {len : ℕ} {after : List ℕ} (text out : List ℕ) → line_limit ≤ length out → len ≡ result_unwrap_or r 0
    → (line_from r, after) ≡ line_into (narrow out) text out → Put out 0 text len after
unfolding line_into
line_given r text out room taken h =
    let e = rw (le-ltb (length out) line_limit room) at h in
    record { place = taken ∙ line_len r ∙ ap (λ x. x.0.len) e ∙ sym (zero-add (length text)); bytes = ap (λ x. x.1) e }

pub put_snapshot : (r : Result ℕ Refusal) (out : List ℕ) (at : ℕ) (text : List ℕ) {len : ℕ} {after : List ℕ} → at + line_limit ≤ length out → length text ≤ line_limit
    → len ≡ result_unwrap_or r 0 → (line_from r, after) ≡ line_into (narrow (take (length out - at) (drop at out))) text (take (length out - at) (drop at out))
    → Put out at text (at + len) (take at out ++ (after ++ drop (length out - at) (drop at out))) × (at + len ≤ at + line_limit)
put_snapshot r out at text {len} {after} room short taken h =
    let long = length-drop at out in
    let all : take (length out - at) (drop at out) ≡ drop at out = take_all (length out - at) (drop at out) (omega arith) in
    let none : drop (length out - at) (drop at out) ≡ [] = drop_of_length-le (drop at out) {i = length out - at} (omega arith) in
    let put : Put (drop at out) 0 text len after = line_given r text (drop at out) (omega arith) taken (rw all at h) in
    let there : take at out ++ after ≡ written out at text = rw put.bytes (written_tail out at text (omega arith)) in
    (record { place = omega (arith, put.place); bytes = rw (none, append-nil after) there }, omega (arith, put.place))
