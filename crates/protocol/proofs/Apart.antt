-- What the code returns of a set-up or an event is fixed by its reply. Assumes nothing.
use Rattle.std.proofs.Common.{ap, sym, Ok, Err}
use Rattle.search.specs.Views.{TellsApart}
use Rattle.numbers.proofs.Apart.{numbers_apart, numbered}
use Rattle.protocol.specs.Replies.{Reply, reply_from}
use Rattle.protocol.specs.declared.State.{State}

pub replies_apart : (kept : State) → TellsApart (reply_from kept)
replies_apart kept (Ok s) (Ok t) e = ap Ok (ap (λ (y : Reply). y.state) e)
replies_apart kept (Ok s) (Err q) e = absurd (numbered q (sym (ap (λ (y : Reply). y.answer) e)))
replies_apart kept (Err r) (Ok t) e = absurd (numbered r (ap (λ (y : Reply). y.answer) e))
replies_apart kept (Err r) (Err q) e = ap Err (numbers_apart r q (ap (λ (y : Reply). y.answer) e))
