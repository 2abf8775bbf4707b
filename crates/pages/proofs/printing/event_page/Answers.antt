use Rattle.std.proofs.Common.{refl, arith}
use Rattle.pages.proofs.Printed.{play_count, page_events}
use Rattle.pages.proofs.printing.event_page.Goals as goal

pub put_events-len-requires : goal.put_events-len-requires
put_events-len-requires c =
    let a = c.args in
    let counted = play_count a.x.state a.part.now _ (omega arith) (omega arith) c.play-played.ensures in
    (omega (arith, counted), omega (arith, counted))

pub returns : goal.returns
returns c =
    let a = c.args in
    let put = c.put_events-len.ensures in
    page_events a.x a.part.now _ a.out.now (omega arith) (omega arith) (omega arith) c.play-played.ensures refl put.0 put.1
