-- A page out of the text that was put into its buffer: of any text, of one line, and of a line for each event. Assumes nothing.
use Rattle.std.proofs.Common.{◌≡◌, ℕ, ◌+◌, ◌*◌, ◌/◌, ◌%◌, ◌<◌, ◌≤◌, min, false, List, ◌++◌, length, length-append, take, drop, ap, sym, ◌∙◌, arith, le-ltb, lt-ltb, Result, Ok, Err, take-append-drop}
use native.Mathlib.Decide.{dec_lt}
use Rattle.search.specs.Views.{TellsApart}
use Rattle.search.proofs.Determined.{seen_beside}
use Rattle.numbers.proofs.Apart.{numbers_apart, numbered}
use Rattle.input.specs.Layout.{event_count}
use Rattle.protocol.specs.declared.State.{State}
use Rattle.states.specs.Writing.{snapshot_size}
use Rattle.locking.specs.declared.Played.{Played}
use Rattle.locking.specs.Playing.{playable, played_to, written_to, played}
use Rattle.states.specs.Writing.{written}
use Rattle.states.proofs.Writing.{written_long}
use Rattle.blocks.specs.Sizes.{most_events}
use Rattle.lines.specs.Buffers.{Put, line_limit, line_into, narrow}
use Rattle.lines.specs.Lines.{line_from}
use Rattle.std.specs.Result.{result_unwrap_or}
use Rattle.numbers.specs.declared.answers.Refusal.{Refusal}
use Rattle.pages.specs.declared.Page.{Page as PageGiven}
use Rattle.pages.specs.Pages.{wide, events_text, event_page, page_limit, paged, page_into, page_from, PageNumbers}
use Rattle.pages.specs.declared.Session.{Session}
use Rattle.pages.specs.Pages.{Page}
use Rattle.pages.proofs.Parts.{line_given, written_front}
use Rattle.pages.proofs.Records.{lines_back}

-- what each page's function ensures: the page and the buffer after it, with its text inside the buffer
abbrev pub Printed : Session × List ℕ → List ℕ → PageGiven → List ℕ → Type 0
Printed told out page after = ((record { session = page.session; number = 0; len = page.len }, after) ≡ paged told out) × (page.len ≤ length after)

module _ {x : Session} (text out : List ℕ) {after : List ℕ} {page : PageGiven} where
  pub page_put : {len : ℕ} → page ≡ record { session = x; len = len } → Put out 0 text len after → len ≤ length out → Printed (x, text) out page after
  unfolding paged
  page_put {len} made p room =
      let e : length text ≡ 0 + length text = omega arith in
      let long : length after ≡ length out = rw p.bytes (written_long out 0 text) in
      (rw (made, p.place, p.bytes, ← e), rw made (omega (arith, long)))

  -- with room for a page there is room for a line
  pub page_line : (r : Result ℕ Refusal) {len : ℕ} → page ≡ record { session = x; len = len } → length out ≡ page_limit → len ≡ result_unwrap_or r 0
      → (line_from r, after) ≡ line_into (narrow out) text out → length text ≤ line_limit → Printed (x, text) out page after
  page_line r {len} made room taken told short =
      let put = line_given r text out (omega arith) taken told in
      page_put made put (omega (arith, put.place))

-- a page into the front of a buffer is one into the whole
pub page_front : (told : Session × List ℕ) (n : ℕ) (out : List ℕ) {front after : List ℕ} {page : PageGiven} → n ≤ length out → front ≡ take n out
    → Printed told front page after → Printed told out page (after ++ drop n out)
unfolding paged
page_front (x, text) n out {front} {after} {page} room same p =
    let whole : front ++ drop n out ≡ out = rw same (take-append-drop n out) in
    let page : page ≡ record { session = x; len = length text } = ap (λ (y : Page × List ℕ). record { session = y.0.session; len = y.0.len }) p.0 in
    let bytes : after ≡ written front 0 text = ap (λ (y : Page × List ℕ). y.1) p.0 in
    let long : length after ≡ length front = rw bytes (written_long front 0 text) in
    let fits : length text ≤ length front = omega (arith, p.1, ap (λ (y : PageGiven). y.len) page) in
    (rw (page, bytes, written_front front (drop n out) text fits, whole), omega (arith, p.1, length-append after (drop n out)))

-- every event of a block's part is played
play_all : (s : State) (part out : List ℕ) → event_count part ≤ most_events → snapshot_size * most_events ≤ length out
    → played s part out ≡ (record { state = played_to s part (event_count part); count = event_count part }, written_to s part out (event_count part))
unfolding played playable
play_all s part out few room =
    let all : min (event_count part) (length out / snapshot_size) ≡ event_count part = omega arith in
    rw all

pub play_count : (s : State) (part out : List ℕ) {done : Played} {filled : List ℕ} → event_count part ≤ most_events → snapshot_size * most_events ≤ length out
    → (done, filled) ≡ played s part out → done.count ≡ event_count part
play_count s part out few room made = ap (λ (y : Played × List ℕ). y.0.count) (made ∙ play_all s part out few room)

-- the lines of what was written of each event, in a buffer with room for all, are a page
pub page_events : (x : Session) (part buffer out : List ℕ) {done : Played} {filled : List ℕ} {events len : ℕ} {after : List ℕ}
    → event_count part ≤ most_events → snapshot_size * most_events ≤ length buffer → length out ≡ page_limit
    → (done, filled) ≡ played x.state part buffer → events ≡ (x.events + done.count) % wide
    → Put out 0 (events_text (λ n. take snapshot_size (drop (snapshot_size * n) filled)) x.state.setup.processors x.events done.count) len after → len ≤ line_limit * done.count
    → Printed (event_page x part) out (record { session = record { index = x.index + 1; events = events; over = false; state = done.state; refused = false }; len = len }) after
page_events x part buffer out {done} {filled} {events} {len} {after} few fits room made numbered put short =
    let counted = play_count x.state part buffer few fits made in
    let all = made ∙ play_all x.state part buffer few fits in
    let kept : done.state ≡ played_to x.state part (event_count part) = ap (λ (y : Played × List ℕ). y.0.state) all in
    let bytes : filled ≡ written_to x.state part buffer (event_count part) = ap (λ (y : Played × List ℕ). y.1) all in
    let same = lines_back x.state part buffer x.state.setup.processors x.events (event_count part) (omega (arith, few, fits)) in
    page_put _ out (rw (kept, numbered, counted)) (rw (counted, bytes, same) at put) (omega (arith, few, room, counted, short))

-- ---- what the code returns of a page is fixed by the page's session, number and length
abbrev as_given : Page → Result PageGiven Refusal
as_given y = Ok (record { session = y.session; len = y.len })

pub pages_apart : (x : Session) → TellsApart (page_from x)
pages_apart x (Ok page) (Ok other) e = ap as_given e
pages_apart x (Ok page) (Err q) e = absurd (numbered q (sym (ap (λ (y : Page). y.number) e)))
pages_apart x (Err r) (Ok other) e = absurd (numbered r (ap (λ (y : Page). y.number) e))
pages_apart x (Err r) (Err q) e = ap Err (numbers_apart r q (ap (λ (y : Page). y.number) e))

-- so what the contract of `next_page` allows is one result
abbrev pub Allowed : Session → List ℕ → List ℕ → Result PageGiven Refusal × List ℕ → Type 0
Allowed x read out r = ((page_from x r.0, r.1) ≡ page_into x read out) × ((page_from x r.0).len ≤ length r.1)

pub next_page_determined : (x : Session) (read out : List ℕ) (r q : Result PageGiven Refusal × List ℕ) → Allowed x read out r → Allowed x read out q → r ≡ q
next_page_determined x read out r q a b = seen_beside (page_from x) (pages_apart x) r q a.0 b.0

-- and its number says whether the buffer was long enough
module _ (x : Session) (read out : List ℕ) where
  number_narrow : length out < page_limit → (page_into x read out).0.number ≡ 36
  unfolding page_into
  number_narrow l = rw (lt-ltb (length out) page_limit l)

  number_given : page_limit ≤ length out → (page_into x read out).0.number ≡ 0
  unfolding page_into paged
  number_given l = rw (le-ltb (length out) page_limit l)

  pub page_numbers : PageNumbers x read out
  page_numbers = elim (dec_lt (length out) page_limit) [
    | yes l ↦ record { given = ((λ e. absurd (omega (arith, e, number_narrow l))), number_given); narrow = ((λ e. l), number_narrow) }
    | no l ↦ record { given = ((λ e. omega arith), number_given); narrow = ((λ e. absurd (omega (arith, e, number_given (omega arith)))), number_narrow) }
  ]
