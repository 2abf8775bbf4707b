-- A line without a word, and one with. Assumes nothing.
use Rattle.std.proofs.Common.{◌≡◌, true, false, length, sym, ◌∙◌}
use Rattle.search.specs.Words.{◌is◌}
use Rattle.scenario.specs.Words.{first_word}
use Rattle.scenario.specs.Items.{item_in}
use Rattle.scenario.proofs.items.item_in.Goals as goal

pub returns-then-is_empty : goal.returns-then-is_empty
unfolding item_in
returns-then-is_empty c =
    let none : (length (first_word c.args.l.now) is 0) ≡ true =
    rw (← c.first_word.ensures.word) (sym c.is_empty.ensures ∙ c.if-is_empty.true) in
    rw none

pub returns : goal.returns
unfolding item_in
returns c =
    let some : (length (first_word c.args.l.now) is 0) ≡ false =
    rw (← c.first_word.ensures.word) (sym c.is_empty.ensures ∙ c.if-is_empty.false) in
    rw (some, c.item_behind.ensures, c.first_word.ensures.word, c.first_word.ensures.rest)
