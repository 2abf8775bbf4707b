-- What the plain engine returns of a set-up or an event is fixed by its reply. Assumes nothing.
use Rattle.std.proofs.Common.{ap, sym, Ok, Err}
use Rattle.search.specs.Views.{TellsApart}
use Rattle.numbers.proofs.Apart.{numbers_apart, numbered}
use Rattle.plain.specs.Engine.{PlainReply, plain_reply_from}
use Rattle.plain.specs.declared.Plain.{Plain}

pub plain_replies_apart : (kept : Plain) → TellsApart (plain_reply_from kept)
plain_replies_apart kept (Ok x) (Ok y) e = ap Ok (ap (λ (z : PlainReply). z.session) e)
plain_replies_apart kept (Ok x) (Err q) e = absurd (numbered q (sym (ap (λ (z : PlainReply). z.answer) e)))
plain_replies_apart kept (Err r) (Ok y) e = absurd (numbered r (ap (λ (z : PlainReply). z.answer) e))
plain_replies_apart kept (Err r) (Err q) e = ap Err (numbers_apart r q (ap (λ (z : PlainReply). z.answer) e))
