use Rattle.std.proofs.Common.{subst}
use Rattle.fsb_top.proofs.Telling.{ends_told, text_written}
use Rattle.fsb_top.specs.CallEnds.{EndsTold}
use Rattle.fsb_top.proofs.show.tell_table.Goals as goal

pub returns-clause-ends : goal.returns-clause-ends
returns-clause-ends g c =
    subst (λ s. EndsTold g.O.Sink c.args.out.now c.put_show.new.out s c.told.result) c.status_of_broken.ensures
    (ends_told g.O.Sink c.args.out.now c.put_show.new.out c.put_show.result c.status_of_broken.result c.told.result
    c.told.ensures.written c.told.ensures.failed c.put_show.ensures.cause)

pub returns-clause-text : goal.returns-clause-text
returns-clause-text g c prints =
    text_written c.put_show.result c.status_of_broken.result c.told.result _ _ _ c.told.ensures.written
    c.told.ensures.failed (c.put_show.ensures.whole prints) (c.put_show.ensures.part prints)
