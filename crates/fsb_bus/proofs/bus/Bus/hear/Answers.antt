use Rattle.std.proofs.Common.{◌≡◌, ◌<◌, Some, length, sym, ap, ◌∙◌, subst, arith}
use Rattle.std.specs.Option.{option_map_or}
use Rattle.fsb_memory.specs.Controller.{is_mapped}
use Rattle.fsb_bench_view.specs.BusEvents.{answered_by, bus_answered, bus_cancelled, bus_snooped, ending_by}
use Rattle.fsb_bench_view.specs.BusEvents.{heard_answer, heard_cancel, heard_ending, heard_snoop}
use Rattle.fsb_bench_view.specs.BusViews.{BusView}
use Rattle.fsb_bench_view.specs.MaySteps.{MayEnd}
use Rattle.fsb_bus.specs.Buses.{bus_view}
use Rattle.fsb_bus.specs.LogRoom.{accesses_left_of}
use Rattle.fsb_bus.proofs.KeptScripts.{answer-kept, cancel-kept}
use Rattle.fsb_bus.proofs.bus.Bus.hear.Goals as goal

pub hear_snoop-requires-clause-few : goal.hear_snoop-requires-clause-few
hear_snoop-requires-clause-few c =
    let v = bus_view c.args.self.now in
    let d = c.args.decided.now in
    let cancel : bus_view c.hear_cancel.new.self ≡ heard_cancel v c.args.clock d =
    c.hear_cancel.ensures.view
    ∙ ap (λ bus. option_map_or (bus_cancelled bus) d.cancelled bus) c.hear_start.ensures.view in
    subst (λ n. n < 256) (sym (ap (λ (bus : BusView). length bus.agents) cancel
    ∙ (cancel-kept v c.args.clock d).count)) c.requires.few

answered : (c : goal.After-hear_end-arg-2-1)
    → bus_view c.hear_answer.new.self ≡ heard_answer (bus_view c.args.self.now) c.args.clock c.args.decided.now
answered c =
    let v = bus_view c.args.self.now in
    let d = c.args.decided.now in
    let cancel : bus_view c.hear_cancel.new.self ≡ heard_cancel v c.args.clock d =
    c.hear_cancel.ensures.view
    ∙ ap (λ bus. option_map_or (bus_cancelled bus) d.cancelled bus) c.hear_start.ensures.view in
    let snoop : bus_view c.hear_snoop.new.self ≡ heard_snoop v c.args.clock d =
    c.hear_snoop.ensures.view ∙ ap (λ bus. option_map_or (bus_snooped bus) d.snooped bus) cancel in
    c.hear_answer.ensures.view
    ∙ ap (λ bus. option_map_or (bus_answered bus c.args.clock) (answered_by bus d.drive) bus) snoop

pub hear_end-requires-clause-may : goal.hear_end-requires-clause-may
hear_end-requires-clause-may c e is =
    let v = bus_view c.args.self.now in
    let d = c.args.decided.now in
    let ends : heard_ending v c.args.clock d c.args.phased.now ≡ Some e =
    ap (λ bus. ending_by bus c.args.phased.now) (sym (answered c)) ∙ sym c.ending-ending.ensures ∙ is in
    let memory : c.hear_answer.new.self.memory ≡ c.args.self.now.memory =
    ap (λ bus. bus.memory) c.hear_answer.ensures.rest
    ∙ ap (λ bus. bus.memory) c.hear_snoop.ensures.rest
    ∙ ap (λ bus. bus.memory) c.hear_cancel.ensures.rest
    ∙ ap (λ bus. bus.memory) c.hear_start.ensures.rest in
    subst (λ lines. MayEnd (is_mapped lines) (bus_view c.hear_answer.new.self) e) (sym memory)
    (subst (λ bus. MayEnd (is_mapped c.args.self.now.memory) bus e) (sym (answered c)) (c.requires.may.ends e ends))

pub hear_end-requires-clause-room : goal.hear_end-requires-clause-room
hear_end-requires-clause-room c =
    let left = ap (λ (bus : BusView). accesses_left_of bus.agents) (answered c)
    ∙ (answer-kept (bus_view c.args.self.now) c.args.clock c.args.decided.now).left in
    omega (arith, c.requires.room, left)
