use Rattle.std.proofs.Common.{◌≡◌, ◌<◌, ◌+◌, ◌-◌, [], ◌∷◌, true, false, Some, None, get_or, sym, ap, ◌∙◌, arith}
use Rattle.std.proofs.lemmas.List.{length-map}
use Rattle.fsb_trigger.specs.TriggerSteps.{view_of, step_holds}
use Rattle.fsb_trigger.specs.Hunt.{steps_in, kept}
use Rattle.fsb_trigger.proofs.Newest.{newest_match-off, begins, goes_on, gone, keeps-at, step_at}
use Rattle.fsb_trigger.proofs.hunt.chain_to.Goals as goal

pub returns-then-not-holds : goal.returns-then-not-holds
returns-then-not-holds c = λ h e k.
    let trigger = c.args.trigger.now in
    let steps = steps_in trigger in
    let step = c.index-as_slice-i.result in
    let at = step_at trigger.steps.items c.as_slice.result.now c.args.i step c.as_slice.ensures.value c.requires
    c.index-as_slice-i.is in
    let off : step_holds c.args.sample.now (view_of step) ≡ false = cc in
    sym (newest_match-off steps h c.args.sample.now c.args.i (view_of step) at off)

pub returns-then-i-eq0 : goal.returns-then-i-eq0
returns-then-i-eq0 c = λ h e k.
    let trigger = c.args.trigger.now in
    let steps = steps_in trigger in
    let step = c.index-as_slice-i.result in
    let at = step_at trigger.steps.items c.as_slice.result.now c.args.i step c.as_slice.ensures.value c.requires
    c.index-as_slice-i.is in
    let on : step_holds c.args.sample.now (view_of step) ≡ true = cc in
    begins steps h c.args.sample.now c.args.i c.args.clock (view_of step) (0 ∷ 0 ∷ 0 ∷ 0 ∷ 0 ∷ 0 ∷ 0 ∷ [])
    c.if-i-eq0.true e at on

pub returns-in-Some : goal.returns-in-Some
returns-in-Some c = λ h e k.
    let trigger = c.args.trigger.now in
    let steps = steps_in trigger in
    let step = c.index-as_slice-i.result in
    let at = step_at trigger.steps.items c.as_slice.result.now c.args.i step c.as_slice.ensures.value c.requires
    c.index-as_slice-i.is in
    let on : step_holds c.args.sample.now (view_of step) ≡ true = cc in
    let was = keeps-at c.args.latest.now steps h (c.args.i - 1) (k (c.args.i - 1) (omega (arith, c.if-i-eq0.false))) in
    let is : get_or c.args.latest.now (c.args.i - 1) None ≡ Some c.in-Some.before = c.in-Some.is in
    let some : 0 < c.args.i = omega (arith, c.if-i-eq0.false) in
    goes_on steps h c.args.sample.now c.args.i c.args.clock (view_of step) c.in-Some.before
    c.chain_behind.result some e at on
    (omega (
      arith,
      c.chain_behind.ensures.long,
      c.requires,
      trigger.few,
      length-map trigger.steps.items view_of,
    )) (sym was ∙ ap (kept (c.args.i - 1 + 1)) is)
    c.chain_behind.ensures.value

pub returns-in-None : goal.returns-in-None
returns-in-None c = λ h e k.
    let trigger = c.args.trigger.now in
    let steps = steps_in trigger in
    let step = c.index-as_slice-i.result in
    let at = step_at trigger.steps.items c.as_slice.result.now c.args.i step c.as_slice.ensures.value c.requires
    c.index-as_slice-i.is in
    let on : step_holds c.args.sample.now (view_of step) ≡ true = cc in
    let was = keeps-at c.args.latest.now steps h (c.args.i - 1) (k (c.args.i - 1) (omega (arith, c.if-i-eq0.false))) in
    let is : get_or c.args.latest.now (c.args.i - 1) None ≡ None = c.in-None.is in
    let some : 0 < c.args.i = omega (arith, c.if-i-eq0.false) in
    gone steps h c.args.sample.now c.args.i (view_of step) some at on (sym was ∙ ap (kept (c.args.i - 1 + 1)) is)
