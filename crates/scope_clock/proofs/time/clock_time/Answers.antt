use Rattle.std.proofs.Common.{inl, refl, subst}
use Rattle.vcd_header.specs.Gathering.{FitsRules}
use Rattle.vcd_joined.specs.Picking.{picking}
use Rattle.scope_watch.specs.declared.bus.Picked.TheVariants as picks
use Rattle.scope_watch.specs.Buses.{IsBus, IsPicked}
use Rattle.scope_watch.specs.Heading.{any_header}
use Rattle.scope_watch.specs.Watching.{rules_for}
use Rattle.scope_watch.proofs.Checks.{declares-of, wired-by, taken-by}
use Rattle.scope_clock.proofs.Timing.{lacks-by, timed-by, timed-way, untimed-by}
use Rattle.scope_clock.proofs.time.clock_time.Goals as goal

pub returns-in-Refused-clause-none : goal.returns-in-Refused-clause-none
returns-in-Refused-clause-none g c = λ tells is.
    let m = rules_for c.args.sampling in
    let fits : FitsRules m any_header = record { widest = refl; skips_preface = refl } in
    let h = c.in_ok-begun.ensures.read tells m fits in
    inl (record {
      header = c.in_ok-begun.begun.header;
      refusal = c.in-Refused.field-0;
      declares = declares-of m c.in_ok-begun.begun _ _ h;
      picked = subst (λ vs. IsPicked vs c.args.choice.now (picks.Refused c.in-Refused.field-0)) c.deref.ensures.value
          (subst (λ x. IsPicked c.deref.result.now c.args.choice.now x) c.in-Refused.is c.in_ok-pick_bus.ensures);
    })

pub returns-in-Wired-clause-timed : goal.returns-in-Wired-clause-timed
returns-in-Wired-clause-timed g c = λ tells.
    let s = c.args.sampling in
    let m = rules_for s in
    let fits : FitsRules m any_header = record { widest = refl; skips_preface = refl } in
    let b = c.in_ok-begun.begun in
    let bus = c.in-Wired.bus in
    let ws = bus.wiring.wires.items in
    let h = c.in_ok-begun.ensures.read tells m fits in
    let k : IsBus b.header.variables.items c.args.choice.now bus =
    subst (λ vs. IsBus vs c.args.choice.now bus) c.deref.ensures.value
    (subst (λ x. IsPicked c.deref.result.now c.args.choice.now x) c.in-Wired.is c.in_ok-pick_bus.ensures) in
    timed-by c.time_behind.result c.args.choice.now s b.header bus.wiring _ c.args.clock
    (wired-by c.args.choice.now s b _ _ bus h k)
    (timed-way c.time_behind.result _ _ c.args.clock _ (c.picked_wires_choose.ensures (λ all. ws) m)
    (c.time_behind.ensures.timed tells (picking (λ all. ws)) h.tokens _ h.stands
    (taken-by c.args.choice.now s b _ _ bus h k)))

pub returns-in-Wired-clause-none : goal.returns-in-Wired-clause-none
returns-in-Wired-clause-none g c = λ tells is.
    let s = c.args.sampling in
    let m = rules_for s in
    let fits : FitsRules m any_header = record { widest = refl; skips_preface = refl } in
    let b = c.in_ok-begun.begun in
    let bus = c.in-Wired.bus in
    let ws = bus.wiring.wires.items in
    let h = c.in_ok-begun.ensures.read tells m fits in
    let k : IsBus b.header.variables.items c.args.choice.now bus =
    subst (λ vs. IsBus vs c.args.choice.now bus) c.deref.ensures.value
    (subst (λ x. IsPicked c.deref.result.now c.args.choice.now x) c.in-Wired.is c.in_ok-pick_bus.ensures) in
    lacks-by c.time_behind.result c.args.choice.now s b.header bus.wiring _ c.args.clock
    (wired-by c.args.choice.now s b _ _ bus h k)
    (timed-way c.time_behind.result _ _ c.args.clock _ (c.picked_wires_choose.ensures (λ all. ws) m)
    (c.time_behind.ensures.timed tells (picking (λ all. ws)) h.tokens _ h.stands
    (taken-by c.args.choice.now s b _ _ bus h k))) is

pub returns-in-Wired-clause-stop : goal.returns-in-Wired-clause-stop
returns-in-Wired-clause-stop g c = λ tells.
    let s = c.args.sampling in
    let m = rules_for s in
    let fits : FitsRules m any_header = record { widest = refl; skips_preface = refl } in
    let b = c.in_ok-begun.begun in
    let bus = c.in-Wired.bus in
    let ws = bus.wiring.wires.items in
    let h = c.in_ok-begun.ensures.read tells m fits in
    let k : IsBus b.header.variables.items c.args.choice.now bus =
    subst (λ vs. IsBus vs c.args.choice.now bus) c.deref.ensures.value
    (subst (λ x. IsPicked c.deref.result.now c.args.choice.now x) c.in-Wired.is c.in_ok-pick_bus.ensures) in
    untimed-by c.time_behind.result c.args.choice.now s b.header bus.wiring _ c.args.clock
    (wired-by c.args.choice.now s b _ _ bus h k)
    (timed-way c.time_behind.result _ _ c.args.clock _ (c.picked_wires_choose.ensures (λ all. ws) m)
    (c.time_behind.ensures.timed tells (picking (λ all. ws)) h.tokens _ h.stands
    (taken-by c.args.choice.now s b _ _ bus h k)))
