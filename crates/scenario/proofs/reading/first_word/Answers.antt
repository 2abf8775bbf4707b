-- The first word by its two ends. Assumes nothing.
use Rattle.std.proofs.Common.{rules, tests, not, []}
use Rattle.scenario.specs.Words.{is_blank}
use Rattle.scenario.proofs.Words.{word_is, behind_is}
use Rattle.scenario.proofs.reading.first_word.Goals as goal

pub returns-clause-word : goal.returns-clause-word
returns-clause-word c =
    let begun = c.split_at_first.ensures (λ x. not (is_blank x)) (λ x b k. search (rules, tests)) in
    let ended = c.split_at_first-2.ensures is_blank (λ x b k. k) in
    word_is c.args.l.now _ _ [] begun.1 ended.0

pub returns-clause-rest : goal.returns-clause-rest
returns-clause-rest c =
    let begun = c.split_at_first.ensures (λ x. not (is_blank x)) (λ x b k. search (rules, tests)) in
    let ended = c.split_at_first-2.ensures is_blank (λ x b k. k) in
    behind_is c.args.l.now _ [] _ begun.1 ended.1
