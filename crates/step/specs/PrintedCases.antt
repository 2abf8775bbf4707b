-- RULES.md, 'The worked cases': the printed case, computed from the bytes of its file to its text. So the theorems
-- about accepted files are not empty: this file is one, and this text is what they say of it.
use Rattle.std.specs.Prelude.{ℕ, zero, suc, ◌<◌, ◌≡◌, refl, List, [], ◌∷◌, ◌++◌, length, get_or, replicate}
use Rattle.std.proofs.Common.{arith}
use Rattle.search.specs.Below.{all_below, any_below, how_many}
use Rattle.search.specs.First.{first}
use Rattle.search.specs.Best.{best, better}
use Rattle.search.specs.Table.{table}
use Rattle.queue.specs.Waiting.{waiting, waiter as queued, empty, appended, moved_up, without_first, place_of, is_clear as tidy_at, is_tidy}
use Rattle.processors.specs.Words.{rank_of, mode_of, link_of, run_of, none_linked}
use Rattle.scheduler.specs.Arriving.{lowest_free, lowest_linked, displacing, arriving_on, taken, arriving as linking}
use Rattle.scheduler.specs.Leaving.{becoming_preemptable, next_task, filling, refilling, leaving_from, leaving, giving_way}
use Rattle.scheduler.specs.PlacedTest.{is_placed}
use Rattle.setups.specs.Refusals.{setup_rows, setup_refusal}
use Rattle.setups.specs.Naming.{joined_by, names_after, names, group_of}
use Rattle.setups.specs.Clearing.{below, cleared, empty_from, is_clear}
use Rattle.input.specs.Kinds.{fields_of}
use Rattle.protocol.specs.Words.{task, stand, asked, deadline, depth, request, holder, len, waiter}
use Rattle.protocol.specs.Ranks.{own, least_of, long_held, effective, short_open, jobs}
use Rattle.protocol.specs.Situations.{situation, is_foremost, total_for}
use Rattle.protocol.specs.Sound.{clock_sound, times_sound, requests_sound, waiting_sound, group_sound, empty_sound, sound}
use Rattle.protocol.specs.Refusals.{misplaced, event_rows, judge}
use Rattle.protocol.specs.Locks.{open_of_kind, opens, enqueues, closes, frees, dequeues, passes}
use Rattle.protocol.specs.Events.{arrives, leaves, becomes_preemptable, gives_way, arrive_event, finish_event, request_event, complete_event, charged, act, step_by, step, fresh, begin, run_by, run}
use Rattle.input.specs.Layout.{start_in, periods_in, kinds_in, side_in, setup_in, event_in, event_count}
use Rattle.blocks.specs.Check.{sums, is_checked}
use Rattle.blocks.specs.Verdicts.{is_blank, is_setup_filled, is_event_filled, block_rows, verdict}
use Rattle.search.specs.Texts.{codes, digits, each_text}
use Rattle.lines.specs.Texts.{first_text, task_text, task_line_text, block_text, setup_text}
use Rattle.blocks.specs.Files.{blocks_of, refusal_of, events_from, first_block, setup_of}
use Rattle.pages.specs.Files.{answer_text, end_text, file_text}
use Rattle.pages.specs.Program.{Accepted}

-- the number, the kind, the count; two processors, three tasks, one resource, no pair; the start, and the periods
abbrev setup_bytes : List ℕ
setup_bytes = 0 ∷ 0 ∷ 1 ∷ 1 ∷ 2 ∷ 3 ∷ 1 ∷ 0 ∷ 250 ∷ 255 ∷ 0 ∷ 0 ∷ 100 ∷ 0 ∷ 200 ∷ 0 ∷ 50 ∷ 0 ∷ []

-- the number, the kind, the count, and eight events of six bytes
abbrev event_bytes : List ℕ
event_bytes =
    1 ∷ 0 ∷ 2 ∷ 8
    ∷ 1 ∷ 0 ∷ 0 ∷ 0 ∷ 250 ∷ 255
    ∷ 1 ∷ 1 ∷ 0 ∷ 0 ∷ 252 ∷ 255
    ∷ 3 ∷ 1 ∷ 0 ∷ 0 ∷ 255 ∷ 255
    ∷ 1 ∷ 2 ∷ 0 ∷ 0 ∷ 2 ∷ 0
    ∷ 3 ∷ 0 ∷ 0 ∷ 0 ∷ 4 ∷ 0
    ∷ 4 ∷ 1 ∷ 0 ∷ 0 ∷ 9 ∷ 0
    ∷ 2 ∷ 1 ∷ 0 ∷ 0 ∷ 9 ∷ 0
    ∷ 2 ∷ 2 ∷ 0 ∷ 0 ∷ 12 ∷ 0
    ∷ []

-- the file: each block with its filler and its check
abbrev pub printed_bytes : List ℕ
printed_bytes =
    setup_bytes ++ replicate 490 0 ++ (93 ∷ 5 ∷ 247 ∷ 65 ∷ [])
    ++ event_bytes ++ replicate 456 0 ++ (48 ∷ 16 ∷ 241 ∷ 141 ∷ [])

-- the text
pub printed_case : file_text (blocks_of printed_bytes)
    ≡ codes "processors 2 tasks 3 start 65530\n"
    ++ codes "1 0 0/0 -/-\n"
    ++ codes "2 0 0/0 1/1\n"
    ++ codes "3 0 0/0 1/1\n"
    ++ codes "4 0 0/0 2/1\n"
    ++ codes "5 0 0/0 2/1\n"
    ++ codes "6 0 0/0 2/2\n"
    ++ codes "7 19 0/0 2/2\n"
    ++ codes "8 0 0/0 1/1\n"
    ++ codes "task 0 13 5 0 0 0 0\n"
    ++ codes "task 1 13 0 0 3 0 0\n"
    ++ codes "task 2 3 0 7 0 0 0\n"
unfolding all_below any_below how_many first best better table waiting queued empty appended moved_up without_first place_of tidy_at is_tidy rank_of mode_of link_of run_of none_linked lowest_free lowest_linked displacing arriving_on taken linking becoming_preemptable next_task filling refilling leaving_from leaving giving_way is_placed setup_rows setup_refusal joined_by names_after names group_of below cleared empty_from is_clear fields_of stand asked deadline depth request holder len waiter own least_of long_held effective short_open jobs situation is_foremost total_for clock_sound times_sound requests_sound waiting_sound group_sound empty_sound sound misplaced event_rows judge open_of_kind opens enqueues closes frees dequeues passes arrives leaves becomes_preemptable gives_way arrive_event finish_event request_event complete_event charged act step_by step fresh begin start_in periods_in kinds_in side_in setup_in event_in event_count run_by run sums is_checked is_blank is_setup_filled is_event_filled block_rows verdict digits each_text first_text task_text task_line_text block_text setup_text blocks_of events_from answer_text end_text file_text
printed_case = refl

-- its two blocks and its set-up are accepted, so the theorem about accepted files speaks of it
pub record Computed : Type 0 where
  pub two : length (blocks_of printed_bytes) ≡ 2
  pub opens : refusal_of (first_block (blocks_of printed_bytes)) 0 ≡ 0
  pub setup : setup_refusal (setup_of (blocks_of printed_bytes)) ≡ 0
  pub second : refusal_of (get_or (blocks_of printed_bytes) 1 []) 1 ≡ 0

pub computed : Computed
unfolding all_below any_below how_many first best better table waiting queued empty appended moved_up without_first place_of tidy_at is_tidy rank_of mode_of link_of run_of none_linked lowest_free lowest_linked displacing arriving_on taken linking becoming_preemptable next_task filling refilling leaving_from leaving giving_way is_placed setup_rows setup_refusal joined_by names_after names group_of below cleared empty_from is_clear fields_of stand asked deadline depth request holder len waiter own least_of long_held effective short_open jobs situation is_foremost total_for clock_sound times_sound requests_sound waiting_sound group_sound empty_sound sound misplaced event_rows judge open_of_kind opens enqueues closes frees dequeues passes arrives leaves becomes_preemptable gives_way arrive_event finish_event request_event complete_event charged act step_by step fresh begin start_in periods_in kinds_in side_in setup_in event_in event_count run_by run sums is_checked is_blank is_setup_filled is_event_filled block_rows verdict digits each_text first_text task_text task_line_text block_text setup_text blocks_of events_from answer_text end_text file_text
computed = record { two = refl; opens = refl; setup = refl; second = refl }

follows : (i : ℕ) → i < length (blocks_of printed_bytes) → refusal_of (get_or (blocks_of printed_bytes) i []) i ≡ 0
follows zero l = computed.opens
follows (suc zero) l = computed.second
follows (suc (suc i)) l = absurd (omega (arith, computed.two))

-- the file is accepted
pub printed_accepted : Accepted (blocks_of printed_bytes)
printed_accepted = record { begins = record { opens = computed.opens; setup = computed.setup }; follow = follows }
