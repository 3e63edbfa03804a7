use Rattle.fsb_top.proofs.Telling.{ends_told, text_written}
use Rattle.fsb_top.specs.declared.status.Status.TheVariants.{Done}
use Rattle.fsb_top.proofs.wave.tell_wave.Goals as goal

pub returns-clause-ends : goal.returns-clause-ends
returns-clause-ends g c =
    ends_told g.O.Sink c.args.out.now c.put_wave.new.out c.put_wave.result Done c.told.result
    c.told.ensures.written c.told.ensures.failed c.put_wave.ensures.cause

pub returns-clause-text : goal.returns-clause-text
returns-clause-text g c prints from to h stands =
    text_written c.put_wave.result Done c.told.result _ _ _ c.told.ensures.written c.told.ensures.failed
    (c.put_wave.ensures.whole prints from to h stands) (c.put_wave.ensures.part prints from to h stands)
