-- The digits so far have a value, and the rest of the word decides what it is. Assumes nothing.
use Rattle.std.proofs.Common.{◌≡◌, ◌<◌, ◌^◌, ◌≢◌, length, drop}
use Rattle.search.specs.Texts.{value_behind}
use Rattle.scenario.specs.Words.{are_digits}
use Rattle.scenario.proofs.reading.number_in.Given as goal

abbrev pub invariant-loop-c : goal.invariant-loop-c
invariant-loop-c l =
    (length l.word ≢ 0) × (l.value < 2 ^ 32) × (are_digits l.word ≡ are_digits (drop l.c-index l.word)) ×
    (value_behind 0 l.word ≡ value_behind l.value (drop l.c-index l.word))
