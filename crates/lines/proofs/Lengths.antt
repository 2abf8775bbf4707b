-- How long each text can be: no line passes the limit of a line's buffer. Assumes nothing.
use Prim.Native.Nat.{ℕ, zero, suc, ◌+◌, ◌*◌, ◌/◌, ◌^◌, ◌≤◌, ◌<◌, min}
use mathlib.Core.Path.{◌≡◌, ap}
use mathlib.Core.List.{List}
use native.Mathlib.Nat.{mul-suc, pow-suc}
use native.Mathlib.Decide.{ℕ_discrete, dec_le}
use native.Mathlib.Omega.{arith}
use lib.ListN.{length, get_or, length-append}
use borrow.Author.Tests.{lt-ltb, le-ltb, eq-eqb, ne_eqb}
use Rattle.numbers.specs.Rows.{Row, first_of}
use Rattle.numbers.specs.Limits.{most_processors, nothing}
use Rattle.input.specs.Layout.{byte}
use Rattle.protocol.specs.Records.{total_count}
use Rattle.lines.proofs.Laws.{task_none, task_some, place_long}
use Rattle.search.specs.Texts.{digit, digits, decimal, most_digits, numbered, each_text}
use Rattle.lines.specs.Texts.{first_text, task_text, place_text, totals_text, task_line_text, block_text, setup_text}
use Rattle.lines.specs.Buffers.{places_text, event_text, place_width, total_width, line_limit, line_into}

-- ---- numbers: no more digits than a power of ten has zeros, above the number
digits_short : (k n j : ℕ) → n < 10 ^ suc j → length (digits k n) ≤ suc j
unfolding digits
digits_short zero n j h = omega arith
digits_short (suc k) n zero h =
    let few : n < 10 = omega arith in
    rw (lt-ltb n 10 few) (omega arith)
digits_short (suc k) n (suc j) h =
    let front : n / 10 < 10 ^ suc j = omega (arith, pow-suc 10 (suc j)) in elim (dec_le 10 n) [
      | yes many ↦ rw (le-ltb n 10 many) (omega (arith, length-append (digits k (n / 10)) (digit n), digits_short k (n / 10) j front))
      | no few ↦ rw (lt-ltb n 10 (omega arith)) (omega arith)
    ]

pub byte_short : (n : ℕ) → n < 2 ^ 8 → length (decimal n) ≤ 3
byte_short n h = digits_short most_digits n 2 (omega arith)

pub total_digits : (n : ℕ) → n < 2 ^ 32 → length (decimal n) ≤ 10
total_digits n h = digits_short most_digits n 9 (omega arith)

pub number_short : (n : ℕ) → n < 2 ^ 64 → length (decimal n) ≤ most_digits
number_short n h = digits_short most_digits n 19 (omega arith)

-- ---- parts of a line
task_short : (t : ℕ) → t < 2 ^ 8 → length (task_text t) ≤ 3
task_short t h = elim (ℕ_discrete t nothing) [ yes none ↦ omega (arith, ap length (task_none none)) | no some ↦ omega (arith, ap length (task_some some), byte_short t h) ]

pub place_short : (linked running : ℕ) → linked < 2 ^ 8 → running < 2 ^ 8 → length (place_text linked running) ≤ place_width
place_short linked running l r = omega (arith, place_long linked running, task_short linked l, task_short running r)

pub total_short : (ticks : ℕ) → ticks < 2 ^ 32 → length (numbered " " ticks) ≤ total_width
total_short ticks h = omega (arith, total_digits ticks h)

each_short : (text : ℕ → List ℕ) (w : ℕ) → ((k : ℕ) → length (text k) ≤ w) → (n : ℕ) → length (each_text text n) ≤ w * n
unfolding each_text
each_short text w short zero = omega arith
each_short text w short (suc n) = omega (arith, length-append (each_text text n) (text n), mul-suc w n, short n, each_short text w short n)

-- ---- each line, from numbers of its arguments' types
pub first_short : (m n start : ℕ) → m < 2 ^ 64 → n < 2 ^ 64 → start < 2 ^ 32 → length (first_text m n start) ≤ line_limit
unfolding first_text
first_short m n start a b c = simp length-append (omega (arith, number_short m a, number_short n b, total_digits start c))

pub event_short : (number count : ℕ) (line : List ℕ) → number < 2 ^ 64 → ((k : ℕ) → byte line k < 2 ^ 8) → length (event_text number count line) ≤ line_limit
unfolding event_text
event_short number count line a each =
    let places : length (places_text line (min count most_processors)) ≤ place_width * min count most_processors = each_short _ place_width (λ k. place_short _ _ (each (2 * k + 1)) (each (2 * k + 2))) _ in
    simp length-append (omega (arith, number_short number a, byte_short (byte line 0) (each 0)))

pub totals_short : (t : ℕ) (totals : List ℕ) → t < 2 ^ 8 → length totals ≡ total_count → ((k : ℕ) → get_or totals k 0 < 2 ^ 32) → length (task_line_text t totals) ≤ line_limit
unfolding task_line_text
totals_short t totals a long each =
    let told : length (totals_text totals (length totals)) ≤ total_width * length totals = each_short _ total_width (λ k. total_short _ (each k)) _ in
    simp length-append (omega (arith, byte_short t a))

pub block_short : (index refusal : ℕ) → index < 2 ^ 64 → refusal < 2 ^ 8 → length (block_text index refusal) ≤ line_limit
unfolding block_text
block_short index refusal a b = simp length-append (omega (arith, number_short index a, byte_short refusal b))

pub setup_short : (refusal : ℕ) → refusal < 2 ^ 8 → length (setup_text refusal) ≤ line_limit
unfolding setup_text
setup_short refusal a = simp length-append (omega (arith, byte_short refusal a))

-- what is given back never passes the limit
pub line_short : (rows : List Row) (text out : List ℕ) → length text ≤ line_limit → (line_into rows text out).0.len ≤ line_limit
unfolding line_into
line_short rows text out h = elim (ℕ_discrete (first_of rows) 0) [ yes e ↦ rw (eq-eqb (first_of rows) 0 e) h | no d ↦ rw (ne_eqb (first_of rows) 0 d) (omega arith) ]

pub ruleset widths = (number_short, total_digits, byte_short, total_short, place_short, length-append)
