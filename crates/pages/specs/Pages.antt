-- RULES.md, 'Printing': the page of lines that is printed of each block, and the last page, at the input's end. A
-- page is given as the session after it and its text.
use Rattle.std.specs.Prelude.{◌≡◌, ℕ, suc, ◌+◌, ◌*◌, ◌%◌, ◌<◌, ◌≤◌, min, Bool, true, false, ◌↔◌, List, [], length, take, drop, nat_lt, if◌then◌else◌, Result, Ok, Err}
use Rattle.search.specs.Words.{◌is◌}
use Rattle.numbers.specs.Refusals.{size_wrong, buffer_short}
use Rattle.numbers.specs.Limits.{most_tasks}
use Rattle.input.specs.Layout.{setup_in, event_count}
use Rattle.protocol.specs.Events.{begin, fresh}
use Rattle.input.specs.Words.{no_setup}
use Rattle.protocol.specs.Replies.{Reply}
use Rattle.states.specs.Writing.{snapshot_size, written}
use Rattle.locking.specs.Playing.{played_to, snapshot_at}
use Rattle.blocks.specs.Sizes.{most_events}
use Rattle.blocks.specs.Verdicts.{Verdict, Used, Refused, verdict, used_part}
use Rattle.search.specs.Texts.{each_text}
use Rattle.lines.specs.Texts.{first_text, block_text, setup_text}
use Rattle.lines.specs.Buffers.{line_limit, event_text}
use Rattle.pages.specs.Files.{tasks_text}
use Rattle.pages.specs.declared.Session.{Session}
use Rattle.pages.specs.declared.Page.{Page as PageGiven}
use Rattle.numbers.specs.Answers.{number_of}
use Rattle.numbers.specs.declared.answers.Refusal.{Refusal as Reason}

-- how many numbers 64 bits hold
abbrev pub wide : ℕ
wide = 18446744073709551616

-- the lines of the first of some events, from their snapshots, numbered on from `events`
abbrev pub events_text : (ℕ → List ℕ) → ℕ → ℕ → ℕ → List ℕ
events_text snapshot processors events =
    each_text (λ n. event_text ((events + suc n) % wide) processors (snapshot n))

-- snapshot n of those written one after another
abbrev pub snapshot_in : List ℕ → ℕ → List ℕ
snapshot_in written n = take snapshot_size (drop (snapshot_size * n) written)

-- the session before the first block
unfoldable pub beginning : Session
beginning = record { index = 0; events = 0; over = false; state = fresh no_setup; refused = false }

module _ (x : Session) where
  -- the output ends here, with a refusal or without
  abbrev pub ended : Bool → Session
  ended refused = record { index = x.index; events = x.events; over = true; state = x.state; refused = refused }

  -- the first block's page: the first line, or the set-up's refusal
  abbrev pub setup_page : Reply → Session × List ℕ
  setup_page r =
      let c = r.state.setup in
      if r.answer is 0 then (
        record { index = 1; events = 0; over = false; state = r.state; refused = false },
        first_text c.processors c.tasks c.start,
      )
      else (ended true, setup_text r.answer)

  -- every other block's page: a line for each event
  abbrev pub event_page : List ℕ → Session × List ℕ
  event_page part = (
    record {
      index = x.index + 1;
      events = (x.events + event_count part) % wide;
      over = false;
      state = played_to x.state part (event_count part);
      refused = false;
    },
    events_text (snapshot_at x.state part) x.state.setup.processors x.events (event_count part),
  )

  -- a block's page; a refused block ends the output
  abbrev pub block_page : List ℕ → Verdict → Session × List ℕ
  block_page block (Used n) =
      let part = used_part block (Used n) in
      if x.index is 0 then setup_page (begin (setup_in part)) else event_page part
  block_page block (Refused number) = (ended true, block_text x.index number)

  -- the input's end: the totals of each task; without any block, block 0 is refused, as it has not 512 bytes
  abbrev pub last_page : Session × List ℕ
  last_page = (
    ended (x.index is 0),
    (if x.index is 0 then block_text 0 size_wrong
        else tasks_text x.state (min x.state.setup.tasks most_tasks)),
  )

  -- the page of what was read: a block, or nothing at the input's end; once the output is over, it is empty
  unfoldable pub next_page : List ℕ → Session × List ℕ
  next_page read =
      if x.over then (x, [])
      else if length read is 0 then last_page
      else block_page read (verdict read x.index)

-- the least size of a page's buffer, in bytes: a line for each event of a block
abbrev pub page_limit : ℕ
page_limit = most_events * line_limit

-- a page: the session after it, its number from the list, and the length of its text
pub record Page : Type 0 where
  pub session : Session
  pub number : ℕ
  pub len : ℕ

-- what the code returns of a page in a session: a page, or why there is none, which leaves the session as it was
abbrev pub page_from : Session → Result PageGiven Reason → Page
page_from x (Ok page) = record { session = page.session; number = 0; len = page.len }
page_from x (Err refusal) = record { session = x; number = number_of refusal; len = 0 }

-- a page written into a buffer
unfoldable pub paged : Session × List ℕ → List ℕ → Page × List ℕ
paged (x, text) out = (record { session = x; number = 0; len = length text }, written out 0 text)

-- a page into a buffer; if that is too short, the session is handed back and nothing is written
unfoldable pub page_into : Session → List ℕ → List ℕ → Page × List ℕ
page_into x read out =
    if nat_lt (length out) page_limit then (record { session = x; number = buffer_short; len = 0 }, out)
    else paged (next_page x read) out

-- a page's number: 36 exactly where its buffer is too short, and else 0
pub record PageNumbers (x : Session) (read out : List ℕ) : Type 0 where
  pub given : ((page_into x read out).0.number ≡ 0) ↔ (page_limit ≤ length out)
  pub narrow : ((page_into x read out).0.number ≡ buffer_short) ↔ (length out < page_limit)
