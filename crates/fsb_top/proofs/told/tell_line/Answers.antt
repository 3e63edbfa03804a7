use Rattle.std.proofs.Common.{subst}
use Rattle.fsb_top.proofs.Telling.{ends_told, text_written}
use Rattle.fsb_top.specs.BenchEnds.{IsWritten}
use Rattle.fsb_top.proofs.told.tell_line.Goals as goal

pub returns-clause-ends : goal.returns-clause-ends
returns-clause-ends g c =
    ends_told g.O.Sink c.args.out.now c.put_all.new.sink c.put_all.result c.args.found c.told.result
    c.told.ensures.written c.told.ensures.failed c.put_all.ensures.cause

pub returns-clause-text : goal.returns-clause-text
returns-clause-text g c prints =
    subst (λ t. IsWritten c.told.result t (g.O.Sink.holds c.args.out.now) (g.O.Sink.holds c.put_all.new.sink))
    c.as_slice.ensures.value
    (text_written c.put_all.result c.args.found c.told.result _ _ _ c.told.ensures.written c.told.ensures.failed
    (c.put_all.ensures.whole prints) (c.put_all.ensures.part prints))
