-- What the code returns of a line is fixed by its number and its length. Assumes nothing.
use Rattle.std.proofs.Common.{ap, sym, Ok, Err}
use Rattle.search.specs.Views.{TellsApart}
use Rattle.numbers.proofs.Apart.{numbers_apart, numbered}
use Rattle.lines.specs.Lines.{Line, line_from}

pub lines_apart : TellsApart line_from
lines_apart (Ok n) (Ok k) e = ap Ok (ap (λ (y : Line). y.len) e)
lines_apart (Ok n) (Err q) e = absurd (numbered q (sym (ap (λ (y : Line). y.number) e)))
lines_apart (Err r) (Ok k) e = absurd (numbered r (ap (λ (y : Line). y.number) e))
lines_apart (Err r) (Err q) e = ap Err (numbers_apart r q (ap (λ (y : Line). y.number) e))
