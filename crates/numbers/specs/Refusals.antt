-- RULES.md, 'Numbers handed back': each number of the list by name, as the code's `Refusal` has it.
use Rattle.std.specs.Prelude.{ℕ}

-- ---- of a set-up
-- a count is outside its limits
abbrev pub count_outside : ℕ
count_outside = 1

-- a period is 0
abbrev pub period_zero : ℕ
period_zero = 2

-- a kind is neither 0 nor 1
abbrev pub kind_unknown : ℕ
kind_unknown = 3

-- a pair names a resource not in the table, or one resource twice
abbrev pub pair_stray : ℕ
pair_stray = 4

-- a pair puts a long inside a short
abbrev pub long_in_short : ℕ
long_in_short = 5

-- ---- of an event
-- the state is not sound; also for a line of a state
abbrev pub not_sound : ℕ
not_sound = 9

-- event kind not 1 to 5
abbrev pub event_unknown : ℕ
event_unknown = 10

-- kinds 1 to 4, or a line of totals: task not in the table
abbrev pub task_unknown : ℕ
task_unknown = 11

-- kinds 3, 4: resource not in the table
abbrev pub resource_unknown : ℕ
resource_unknown = 12

-- a field that the kind does not use is not 0
abbrev pub field_unused : ℕ
field_unused = 13

-- step 32,768 or more
abbrev pub step_backward : ℕ
step_backward = 14

-- clock would pass 4,294,967,295
abbrev pub clock_past_end : ℕ
clock_past_end = 15

-- arrival: job already pending
abbrev pub already_pending : ℕ
already_pending = 16

-- arrival: less than one period after the task's last
abbrev pub arrives_early : ℕ
arrives_early = 17

-- kinds 2 to 4: no pending job
abbrev pub not_pending : ℕ
not_pending = 18

-- kinds 2 to 4: the job is suspended; judged in 19's place, and so before it
abbrev pub is_suspended : ℕ
is_suspended = 26

-- kinds 2 to 4: the job is runnable, but on no processor
abbrev pub on_no_processor : ℕ
on_no_processor = 19

-- kinds 2 to 4: the job is spinning
abbrev pub is_spinning : ℕ
is_spinning = 20

-- finish: a request is open
abbrev pub finishes_open : ℕ
finishes_open = 21

-- request: already open for that resource
abbrev pub already_open : ℕ
already_open = 22

-- request: long while a short is open, or same kind open in another group
abbrev pub wrongly_nested : ℕ
wrongly_nested = 23

-- request: eight open
abbrev pub too_many_open : ℕ
too_many_open = 24

-- completion: not the job's newest open request, or none open
abbrev pub not_newest : ℕ
not_newest = 25

-- ---- of a block that is read
-- not 512 bytes
abbrev pub size_wrong : ℕ
size_wrong = 30

-- the check is wrong
abbrev pub check_wrong : ℕ
check_wrong = 31

-- the number is not the one expected, or the index is above 999,999; an event block to be written: index 0 or above
-- 999,999
abbrev pub number_wrong : ℕ
number_wrong = 32

-- the kind is wrong for its place
abbrev pub block_kind_wrong : ℕ
block_kind_wrong = 33

-- record count wrong; an event block to be written: not 1 to 84 events
abbrev pub record_count_wrong : ℕ
record_count_wrong = 34

-- reserve or filler byte not 0
abbrev pub filler_wrong : ℕ
filler_wrong = 35

-- ---- of a lent buffer
-- for a line, under 96 bytes; for a page, under 8,064
abbrev pub buffer_short : ℕ
buffer_short = 36

-- for a block to be written, not 512 bytes
abbrev pub room_wrong : ℕ
room_wrong = 37
