-- RULES.md, 'Blocks': where each part of a block is, and its limits.
use Rattle.std.specs.Prelude.{ℕ, ◌-◌}

-- where the kind is: after the two bytes of the number
abbrev pub kind_at : ℕ
kind_at = 2

-- where the record count is
abbrev pub count_at : ℕ
count_at = 3

-- where the payload begins
abbrev pub payload_at : ℕ
payload_at = 4

-- where the check begins, of four bytes
abbrev pub check_at : ℕ
check_at = 508

-- the bytes of a block
abbrev pub block_size : ℕ
block_size = 512

-- the bytes of the payload
abbrev pub payload_size : ℕ
payload_size = check_at - payload_at

-- the last index that a block may have
abbrev pub last_index : ℕ
last_index = 999999

-- how many numbers there are: a block's number is its index modulo this
abbrev pub numbers : ℕ
numbers = 65536

-- the kind of block 0
abbrev pub setup_block : ℕ
setup_block = 1

-- the kind of all others
abbrev pub event_block : ℕ
event_block = 2

-- the most events in a block
abbrev pub most_events : ℕ
most_events = 84
