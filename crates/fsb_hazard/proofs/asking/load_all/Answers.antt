use Rattle.std.proofs.Common.{◌<◌, length, Result, Ok, Err, arith, ◌∙◌}
use Rattle.std.specs.Result.{OnErr}
use Rattle.std.proofs.Math.Seq.{map-set_same}
use Rattle.fsb_hazard.proofs.LoadedObjects.{loaded_at, loaded_before}
use Rattle.fsb_hazard.proofs.asking.load_all.Goals as goal

pub returns-in_err-load-clause-kinds_stay : goal.returns-in_err-load-clause-kinds_stay
returns-in_err-load-clause-kinds_stay g c =
    let l = c.loop-hazard in
    map-set_same _ l.hazard-items l.hazard-index c.load.new.self c.hazard-item.result c.load.ensures.kind_stays
    ∙ l.invariant.kinds_stay

err_anyway : {T E P : Type 0} (r : Result T E) → P → OnErr r P
err_anyway (Ok x) p = tt
err_anyway (Err e) p = p

pub returns-in_err-load-clause-in_part : goal.returns-in_err-load-clause-in_part
returns-in_err-load-clause-in_part g c =
    let l = c.loop-hazard in
    let new = c.load.new.self in
    let within : l.hazard-index < length c.args.hazards.now = omega (arith, c.loop-hazard-test.true) in
    err_anyway c.from_residual.result
    (loaded_before _ _ l.hazard-items c.args.hazards.now l.hazard-index new within l.invariant.loaded
    (map-set_same _ l.hazard-items l.hazard-index new c.hazard-item.result c.in_err-load.ensures.told_stays))

pub loop-hazard-preserved : goal.loop-hazard-preserved
loop-hazard-preserved g c =
    let l = c.loop-hazard in
    let item = c.hazard-item.result in
    let new = c.load.new.self in
    let within : l.hazard-index < length c.args.hazards.now = omega (arith, c.loop-hazard-test.true) in
    record {
      loaded = loaded_at _ _ c.args.lines.now l.hazard-items c.args.hazards.now l.hazard-index item new within
          l.invariant.kinds_stay l.invariant.loaded c.in_ok-load.ensures.loaded;
      kinds_stay = map-set_same _ l.hazard-items l.hazard-index new item c.load.ensures.kind_stays
          ∙ l.invariant.kinds_stay;
    }
