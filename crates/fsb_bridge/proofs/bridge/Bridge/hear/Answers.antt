use Rattle.std.proofs.Common.{◌<◌, length, set, get_or, ap, ◌∙◌, arith}
use Rattle.std.proofs.lemmas.List.{get_or_default}
use Rattle.std.proofs.lemmas.List.Edits.{map_over_more}
use Rattle.fsb_bridge.specs.Deferrals.{no_deferral, told}
use Rattle.fsb_bridge.specs.declared.deferral.Waiting.{Waiting}
use Rattle.fsb_bridge.proofs.bridge.Bridge.hear.Goals as goal

pub loop-waiting-preserved : goal.loop-waiting-preserved
loop-waiting-preserved c =
    let items = c.loop-waiting.waiting-items in
    let k = c.loop-waiting.waiting-index in
    let x : Waiting = get_or items k no_deferral in
    let within : k < length items = omega (arith, c.loop-waiting-test.true, c.loop-waiting.auto.waiting-items) in
    ap (λ w. set items k w) c.told.ensures
    ∙ map_over_more (told c.args.news) c.as_mut_slice-waiting-items.result.now items k x
    c.loop-waiting-test.true c.loop-waiting.invariant (get_or_default items k _ x within)
