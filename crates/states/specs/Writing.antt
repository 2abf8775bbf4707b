-- The snapshot that is written of an event into a lent buffer: its answer, the links and the placements.
use Rattle.std.specs.Prelude.{ℕ, zero, suc, ◌+◌, ◌*◌, List, [], ◌∷◌, ◌++◌, leb, length, set, if◌then◌else◌}
use Rattle.numbers.specs.Limits.{most_processors}
use Rattle.processors.specs.Words.{link, runs}
use Rattle.processors.specs.declared.Processors.{Processors}

-- the bytes of a snapshot: the answer, and for each processor the linked and the running task
abbrev pub snapshot_size : ℕ
snapshot_size = 1 + 2 * most_processors

-- the linked and the running task of the first k processors
unfoldable pub places : Processors → ℕ → List ℕ
places p zero = []
places p (suc k) = places p k ++ (link p k ∷ runs p k ∷ [])

-- the snapshot of an event with this answer, after which the processors are p
unfoldable pub snapshot_of : ℕ → Processors → List ℕ
snapshot_of answer p = answer ∷ places p most_processors

-- the buffer with a text written from place `at` on
unfoldable pub written : List ℕ → ℕ → List ℕ → List ℕ
written bytes at [] = bytes
written bytes at (x ∷ text) = written (set bytes at x) (suc at) text

-- a text written from place `at` on if there is room for all of it, and the next place; without room nothing is written
unfoldable pub put_at : List ℕ → ℕ → List ℕ → ℕ × List ℕ
put_at bytes at text =
    if leb (at + length text) (length bytes) then (at + length text, written bytes at text) else (at, bytes)
