use Rattle.std.proofs.Common.{◌<◌, length, arith, ◌∙◌}
use Rattle.std.proofs.Math.Seq.{map-set_same}
use Rattle.fsb_hazard.proofs.AskedObjects.{joined_at}
use Rattle.fsb_hazard.proofs.asking.ask_all.Goals as goal

pub loop-hazard-preserved : goal.loop-hazard-preserved
loop-hazard-preserved g c =
    let l = c.loop-hazard in
    let answered = c.choose-answer in
    let item = c.hazard-item.result in
    let within : l.hazard-index < length l.hazard-items = omega (arith, c.loop-hazard-test.true, l.auto.hazard-items) in
    record {
      joined = rw c.join-choice.ensures
          (joined_at _ l.hazard-items c.args.hazards.now l.hazard-index item _ _ _ within l.invariant.told_stays
          l.invariant.joined answered.ensures.answer);
      told_stays = map-set_same _ l.hazard-items l.hazard-index answered.new.self item
          answered.ensures.told_stays ∙ l.invariant.told_stays;
      kinds_stay = map-set_same _ l.hazard-items l.hazard-index answered.new.self item
          answered.ensures.kind_stays ∙ l.invariant.kinds_stay;
    }
