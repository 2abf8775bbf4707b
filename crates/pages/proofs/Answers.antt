-- The lines of a part's events, as `play` wrote them, are those of the rules' answers. Assumes nothing.
use Rattle.std.proofs.Common.{◌≡◌, ℕ, zero, suc, ◌+◌, ◌*◌, ◌%◌, ◌<◌, ◌≤◌, min, List, ◌++◌, length, take, sym, refl, append_assoc, append-nil, add-zero, add-suc, arith, length-append, get_or-append-add}
use lib.ListN.{get_or-append}
use lib.Seq.{take-append-le, take-append-add}
use Rattle.search.proofs.Tables.{table_length}
use Rattle.numbers.specs.Limits.{most_processors}
use Rattle.processors.specs.Words.{link, runs}
use Rattle.processors.specs.declared.Processors.{Processors}
use Rattle.input.specs.Layout.{byte, event_in, event_count, events_in}
use Rattle.input.specs.declared.Event.{Event}
use Rattle.protocol.specs.Events.{run, reply_at}
use Rattle.protocol.specs.declared.State.{State}
use Rattle.protocol.specs.Replies.{Reply}
use Rattle.states.specs.Writing.{places, snapshot_of}
use Rattle.protocol.proofs.Events.Step.{run_join}
use Rattle.locking.specs.Playing.{reply_to, snapshot_at}
use Rattle.locking.proofs.Runs.{played_snapshots}
use Rattle.search.specs.Texts.{each_text}
use Rattle.lines.specs.Texts.{place_text}
use Rattle.lines.specs.Buffers.{event_text}
use Rattle.pages.specs.Pages.{wide, events_text}
use Rattle.pages.specs.Files.{answer_text, answers_text}
use Rattle.pages.proofs.Records.{each_same}

-- ---- the line of an event
-- what is written of a processor is its linked and its running task
place_there : (answer : ℕ) (p : Processors) (k : ℕ) → k < most_processors → (byte (snapshot_of answer p) (2 * k + 1) ≡ link p k) × (byte (snapshot_of answer p) (2 * k + 2) ≡ runs p k)
unfolding snapshot_of places
place_there answer p zero h = (refl, refl)
place_there answer p (suc zero) h = (refl, refl)
place_there answer p (suc (suc zero)) h = (refl, refl)
place_there answer p (suc (suc (suc zero))) h = (refl, refl)
place_there answer p (suc (suc (suc (suc zero)))) h = (refl, refl)
place_there answer p (suc (suc (suc (suc (suc zero))))) h = (refl, refl)
place_there answer p (suc (suc (suc (suc (suc (suc zero)))))) h = (refl, refl)
place_there answer p (suc (suc (suc (suc (suc (suc (suc zero))))))) h = (refl, refl)
place_there answer p (suc (suc (suc (suc (suc (suc (suc (suc k)))))))) h = absurd (omega arith)

answer_first : (answer : ℕ) (p : Processors) → byte (snapshot_of answer p) 0 ≡ answer
unfolding snapshot_of
answer_first answer p = refl

answer_line : (number m : ℕ) (r : Reply) → m ≤ most_processors → event_text number m (snapshot_of r.answer r.state.processors) ≡ answer_text number m r
unfolding event_text answer_text
answer_line number m r few =
    let all : min m most_processors ≡ m = omega arith in
    let p = r.state.processors in
    let line = snapshot_of r.answer p in
    let first : byte line 0 ≡ r.answer = answer_first r.answer p in
    rw (all, first, each_same (λ k. place_text (byte line (2 * k + 1)) (byte line (2 * k + 2))) (λ k. place_text (link p k) (runs p k)) m (λ k l. let there = place_there r.answer p k (omega arith) in rw (there.0, there.1)))

-- the lines of a part's events, numbered within 64 bits
pub answers_printed : (s : State) (part : List ℕ) (before m : ℕ) → before + event_count part < wide → m ≤ most_processors
    → events_text (snapshot_at s part) m before (event_count part) ≡ answers_text before m s (events_in part)
answers_printed s part before m small few =
    rw (table_length (event_in part) (event_count part))
    (each_same _ _ (event_count part) (λ n l.
    let number : (before + suc n) % wide ≡ before + suc n = omega arith in
    rw (number, ← (played_snapshots s part n l)) (answer_line (before + suc n) m (reply_to s part n) few)))

-- ---- the answers to two lists of events, one behind the other
each_add : (f : ℕ → List ℕ) (n k : ℕ) → each_text f (n + k) ≡ each_text f n ++ each_text (λ i. f (n + i)) k
unfolding each_text
each_add f n zero = rw (add-zero n) (sym (append-nil (each_text f n)))
each_add f n (suc k) = rw (add-suc n k, each_add f n k) (append_assoc (each_text f n) (each_text (λ i. f (n + i)) k) (f (n + k)))

pub answers_join : (before m : ℕ) (s : State) (es fs : List Event)
    → answers_text before m s (es ++ fs) ≡ answers_text before m s es ++ answers_text (before + length es) m (run s es) fs
answers_join before m s es fs =
    rw (length-append es fs, each_add (λ n. answer_text (before + suc n) m (reply_at s (es ++ fs) n)) (length es) (length fs))
    (both
    (each_same _ _ (length es) (λ n l. rw (take-append-le n es fs (omega arith), get_or-append es fs _ n l)))
    (each_same _ _ (length fs) (λ n l.
    let number : before + suc (length es + n) ≡ before + length es + suc n = omega arith in
    rw (number, take-append-add es fs n, get_or-append-add es fs n _, run_join s es (take n fs)))))
  where
    both : {a b c d : List ℕ} → a ≡ b → c ≡ d → a ++ c ≡ b ++ d
    both p q = rw (p, q)
