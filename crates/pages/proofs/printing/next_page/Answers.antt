use Rattle.std.proofs.Common.{◌≤◌, length, drop, arith, le-ltb, lt-ltb, eq-eqb, ne_eqb}
use Rattle.std.proofs.lemmas.List.{take-append-drop}
use Rattle.states.specs.Writing.{written}
use Rattle.pages.specs.Pages.{next_page, page_limit, paged, page_into}
use Rattle.pages.proofs.Printed.{page_front}
use Rattle.pages.proofs.printing.next_page.Goals as goal

pub returns-in_default : goal.returns-in_default
unfolding page_into
returns-in_default c =
    let out = c.args.out.now in
    (rw (lt-ltb (length out) page_limit c.in_default.ensures.cases), omega arith)

pub returns-then-x : goal.returns-then-x
unfolding page_into next_page paged written
returns-then-x c =
    let out = c.args.out.now in
    let room : page_limit ≤ length out = c.in-Some.ensures.cases.enough in
    (rw (le-ltb (length out) page_limit room, c.if-x.true, c.in-Some.ensures.cases.same, take-append-drop page_limit out), omega arith)

pub returns-then-is_empty : goal.returns-then-is_empty
unfolding page_into next_page
returns-then-is_empty c =
    let out = c.args.out.now in
    let room : page_limit ≤ length out = c.in-Some.ensures.cases.enough in
    rw (le-ltb (length out) page_limit room, c.if-x.false, ← c.if-is_empty.ensures)
    (page_front _ page_limit out room c.in-Some.ensures.cases.same c.last_page.ensures)

pub returns-else-is_empty : goal.returns-else-is_empty
unfolding page_into next_page
returns-else-is_empty c =
    let out = c.args.out.now in
    let room : page_limit ≤ length out = c.in-Some.ensures.cases.enough in
    rw (le-ltb (length out) page_limit room, c.if-x.false, ← c.if-is_empty.ensures)
    (page_front _ page_limit out room c.in-Some.ensures.cases.same c.block_page.ensures)
