-- Laws of lines: how one is built of the processors, and how it is written into a buffer. Assumes nothing.
use Prim.Native.Nat.{ℕ, zero, suc, ◌+◌, ◌-◌, ◌*◌, ◌≤◌, ◌<◌}
use mathlib.Core.Path.{◌≡◌, refl, sym, ap, ◌∙◌}
use mathlib.Core.List.{List, [], ◌∷◌, ◌++◌, append-nil, append_assoc}
use borrow.Author.Tests.{le-leb, lt-leb}
use native.Mathlib.Nat.{add-zero, add-suc, suc-add}
use native.Mathlib.Numerals.{add-one}
use native.Mathlib.Omega.{arith}
use lib.ListN.{length, get_or, set, take, drop, replicate, length-set, length-append}
use lib.Seq.{take-suc, length-take-le, sets, sets-eq, drop-drop}
use borrow.Rule.Slice.PartMut.{put_mid}
use Rattle.numbers.specs.Limits.{most_processors}
use Rattle.processors.specs.Words.{link, runs}
use Rattle.processors.specs.declared.Processors.{Processors}
use Rattle.states.specs.Writing.{places, snapshot_of, written, put_at}

-- ---- a text written into a buffer
pub written_long : (bytes : List ℕ) (at : ℕ) (text : List ℕ) → length (written bytes at text) ≡ length bytes
unfolding written
written_long bytes at [] = refl
written_long bytes at (x ∷ text) = written_long (set bytes at x) (suc at) text ∙ length-set bytes at x

-- one text behind another
pub written_join : (bytes : List ℕ) (at : ℕ) (text more : List ℕ) → written bytes at (text ++ more) ≡ written (written bytes at text) (at + length text) more
unfolding written
written_join bytes at [] more = rw (add-zero at)
written_join bytes at (x ∷ text) more = rw (add-suc at (length text), ← (suc-add at (length text))) (written_join (set bytes at x) (suc at) text more)

written_more : (bytes : List ℕ) (at : ℕ) (text : List ℕ) (x : ℕ) → written bytes at (text ++ (x ∷ [])) ≡ set (written bytes at text) (at + length text) x
unfolding written
written_more bytes at text x = written_join bytes at text (x ∷ [])

-- one byte more of the text
pub written_turn : (bytes : List ℕ) (at : ℕ) (text : List ℕ) (i : ℕ) → i < length text
    → set (written bytes at (take i text)) (at + i) (get_or text i 0) ≡ written bytes at (take (i + 1) text)
written_turn bytes at text i h =
    let w : i ≤ length text = omega arith in
    let n : length (take i text) ≡ i = length-take-le i text w in
    rw (add-one i, take-suc text i 0 h) (rw n at (sym (written_more bytes at (take i text) (get_or text i 0))))

written_sets : (bytes : List ℕ) (at : ℕ) (text : List ℕ) → written bytes at text ≡ sets bytes at text
unfolding written
written_sets bytes at [] = refl
written_sets bytes at (x ∷ text) = written_sets (set bytes at x) (suc at) text

-- what stood before it, the text, and what stood behind it
pub written_parts : (bytes : List ℕ) (at : ℕ) (text : List ℕ) → at + length text ≤ length bytes
    → written bytes at text ≡ take at bytes ++ (text ++ drop (at + length text) bytes)
written_parts bytes at text fits = written_sets bytes at text ∙ sets-eq text bytes at fits ∙ append_assoc (take at bytes) text (drop (at + length text) bytes)

-- the part of a buffer that it takes, filled with it
pub written_part : (bytes : List ℕ) (at : ℕ) (text part : List ℕ) → at + length text ≤ length bytes → part ≡ text
    → put_mid at (at + length text - at) bytes part ≡ written bytes at text
written_part bytes at text part fits same =
    let long : at + length text - at ≡ length text = omega arith in
    rw (long, same, written_parts bytes at text fits, drop-drop (length text) at bytes)

-- a text put where there is room for it, and where there is not
pub put_whole : (bytes : List ℕ) (at : ℕ) (text : List ℕ) → at + length text ≤ length bytes → (at + length text, written bytes at text) ≡ put_at bytes at text
unfolding put_at
put_whole bytes at text h = rw (le-leb (at + length text) (length bytes) h)

pub put_none : (bytes : List ℕ) (at : ℕ) (text : List ℕ) → length bytes < at + length text → (at, bytes) ≡ put_at bytes at text
unfolding put_at
put_none bytes at text h = rw (lt-leb (at + length text) (length bytes) h)

pub put_room : (bytes : List ℕ) (at : ℕ) (text : List ℕ) (r : ℕ) (after : List ℕ) → (r, after) ≡ put_at bytes at text → at + length text ≤ length bytes
    → (r ≡ at + length text) × (after ≡ written bytes at text)
put_room bytes at text r after h room =
    let e = h ∙ sym (put_whole bytes at text room) in
    (ap (λ (p : ℕ × List ℕ). p.0) e, ap (λ (p : ℕ × List ℕ). p.1) e)

-- ---- a line built of the processors
places_long : (p : Processors) (k : ℕ) → length (places p k) ≡ 2 * k
unfolding places
places_long p zero = refl
places_long p (suc k) = length-append (places p k) _ ∙ omega (arith, places_long p k)

set_two : (xs : List ℕ) (rest : List ℕ) (a b x y : ℕ)
    → set (set (xs ++ (a ∷ b ∷ rest)) (length xs) x) (suc (length xs)) y ≡ (xs ++ (x ∷ y ∷ [])) ++ rest
set_two [] rest a b x y = refl
set_two (z ∷ xs) rest a b x y = ap (λ l. z ∷ l) (set_two xs rest a b x y)

-- the line after the first k processors: what stands behind them is still the answer
abbrev pub line_to : ℕ → Processors → ℕ → List ℕ
line_to answer p k = (answer ∷ places p k) ++ replicate (2 * (most_processors - k)) answer

pub line_turn : (answer : ℕ) (p : Processors) (k : ℕ) → k < most_processors
    → set (set (line_to answer p k) (2 * k + 1) (link p k)) (2 * k + 2) (runs p k) ≡ line_to answer p (k + 1)
unfolding places
line_turn answer p k h =
    let n = places_long p k in
    let e : 2 * k + 1 ≡ length (answer ∷ places p k) = omega (arith, n) in
    let f : 2 * k + 2 ≡ suc (length (answer ∷ places p k)) = omega (arith, n) in
    let left : 2 * (most_processors - k) ≡ suc (suc (2 * (most_processors - suc k))) = omega arith in
    rw (add-one k, e, f, left) (set_two (answer ∷ places p k) (replicate (2 * (most_processors - suc k)) answer) answer answer (link p k) (runs p k))

pub line_whole : (answer : ℕ) (p : Processors) → line_to answer p most_processors ≡ snapshot_of answer p
unfolding snapshot_of
line_whole answer p = append-nil (answer ∷ places p most_processors)
