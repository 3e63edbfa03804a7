use Rattle.std.proofs.Common.{◌++◌, ℕ, Option, is_some, length, None, Some, sym, ap, subst, ◌∙◌}
use Rattle.vcd_way.specs.Answers.{EarlyEnd}
use Rattle.vcd_scan.specs.Told.{events_told}
use Rattle.vcd_scan.specs.Standing.{Appends, rules_of, wiring_of, events_of, tokens_after, last_tokens_after, told_after}
use Rattle.vcd_scan.proofs.Quiet.{told-quiet}
use Rattle.vcd_scan.proofs.Marks.{limit-took}
use Rattle.vcd_scan.proofs.Endings.{well-is, early-is, told-where, told-early, fault-where, fault-early, end-early}
use Rattle.vcd_scan.proofs.Readers.{sound-first, end-fault, end-lets, end-open, told_all}
use Rattle.vcd_scan.proofs.reader.ValueReader.end.Goals as goal

pub returns-in_ok-close-in-None-clause-told : goal.returns-in_ok-close-in-None-clause-told
returns-in_ok-close-in-None-clause-told c = λ head fed w.
    let start = c.args.self.now in
    let now = c.last.new.self in
    let m = rules_of start in
    let wires = wiring_of start in
    let fault = end-fault start now head fed c.place-place.result None c.last.ensures.keeps
    (c.in_ok-last.ensures.took head fed w) (c.place-place.ensures (head ++ fed) w.reads.cutter)
    (sym c.in-None.is ∙ c.fault_at.ensures) in
    let new = events_told c.close.new.self.told.items in
    subst (λ x. Appends (told_after m wires (tokens_after head fed)) x (events_of start) new)
    (sym (told-where m wires head fed (well-is m wires head fed fault)))
    (told_all start now (told_after m wires (tokens_after head fed)) new (events_of start)
    (last_tokens_after head fed) c.last.ensures.keeps (c.in_ok-last.ensures.took head fed w)
    (c.in_ok-last.ensures.told head fed w) c.in_ok-close-in-None.ensures.told)

pub returns-else-not-lets_end-clause-told : goal.returns-else-not-lets_end-clause-told
returns-else-not-lets_end-clause-told c = λ head fed w.
    let start = c.args.self.now in
    let now = c.last.new.self in
    let m = rules_of start in
    let wires = wiring_of start in
    let sound = sound-first start head fed w in
    let fault = end-fault start now head fed c.place-place.result (Some c.in-Some.fault) c.last.ensures.keeps
    (c.in_ok-last.ensures.took head fed w) (c.place-place.ensures (head ++ fed) w.reads.cutter)
    (sym c.in-Some.is ∙ c.fault_at.ensures) in
    let early = early-is m wires head fed c.in-Some.fault sound fault
    ∙ end-lets start now head fed c.lets_end.result c.last.ensures.keeps (c.in_ok-last.ensures.took head fed w)
    c.lets_end.ensures ∙ c.if-not-lets_end.false in
    subst (λ x. Appends (told_after m wires (tokens_after head fed)) x (events_of start) (events_of now))
    (told-quiet m wires head fed (length (head ++ fed)) sound (ap is_some fault) ∙ sym (told-early m wires head fed early))
    (c.in_ok-last.ensures.told head fed w)

pub returns-then-not-lets_end-clause-answer : goal.returns-then-not-lets_end-clause-answer
returns-then-not-lets_end-clause-answer c = λ head fed w.
    let start = c.args.self.now in
    let now = c.last.new.self in
    let m = rules_of start in
    let wires = wiring_of start in
    let sound = sound-first start head fed w in
    let fault = end-fault start now head fed c.place-place.result (Some c.in-Some.fault) c.last.ensures.keeps
    (c.in_ok-last.ensures.took head fed w) (c.place-place.ensures (head ++ fed) w.reads.cutter)
    (sym c.in-Some.is ∙ c.fault_at.ensures) in
    let early = early-is m wires head fed c.in-Some.fault sound fault
    ∙ end-lets start now head fed c.lets_end.result c.last.ensures.keeps (c.in_ok-last.ensures.took head fed w)
    c.lets_end.ensures ∙ c.if-not-lets_end.true in
    fault-where m wires head fed early ∙ fault

pub returns-else-not-lets_end-clause-answer : goal.returns-else-not-lets_end-clause-answer
returns-else-not-lets_end-clause-answer c = λ head fed w.
    let start = c.args.self.now in
    let now = c.last.new.self in
    let m = rules_of start in
    let wires = wiring_of start in
    let sound = sound-first start head fed w in
    let fault = end-fault start now head fed c.place-place.result (Some c.in-Some.fault) c.last.ensures.keeps
    (c.in_ok-last.ensures.took head fed w) (c.place-place.ensures (head ++ fed) w.reads.cutter)
    (sym c.in-Some.is ∙ c.fault_at.ensures) in
    let early = early-is m wires head fed c.in-Some.fault sound fault
    ∙ end-lets start now head fed c.lets_end.result c.last.ensures.keeps (c.in_ok-last.ensures.took head fed w)
    c.lets_end.ensures ∙ c.if-not-lets_end.false in
    fault-early m wires head fed early

pub returns-else-not-lets_end-clause-early : goal.returns-else-not-lets_end-clause-early
returns-else-not-lets_end-clause-early c = λ head fed w.
    let start = c.args.self.now in
    let now = c.last.new.self in
    let m = rules_of start in
    let wires = wiring_of start in
    let sound = sound-first start head fed w in
    let fault = end-fault start now head fed c.place-place.result (Some c.in-Some.fault) c.last.ensures.keeps
    (c.in_ok-last.ensures.took head fed w) (c.place-place.ensures (head ++ fed) w.reads.cutter)
    (sym c.in-Some.is ∙ c.fault_at.ensures) in
    let early = early-is m wires head fed c.in-Some.fault sound fault
    ∙ end-lets start now head fed c.lets_end.result c.last.ensures.keeps (c.in_ok-last.ensures.took head fed w)
    c.lets_end.ensures ∙ c.if-not-lets_end.false in
    let end : Option ℕ → Option EarlyEnd = λ o. Some (record { fault = c.in-Some.fault; open_from = o }) in
    sym (end-early m wires head fed c.in-Some.fault early fault
    ∙ ap end (end-open start now head fed c.open_from.result c.last.ensures.keeps
    (c.in_ok-last.ensures.took head fed w) c.open_from.ensures))

pub returns-in_ok-close-in-None-clause-marks : goal.returns-in_ok-close-in-None-clause-marks
returns-in_ok-close-in-None-clause-marks c = λ head fed w. record {
  lines = c.in_ok-close-in-None.ensures.lines (head ++ fed) (c.in_ok-last.ensures.lines head fed w);
  limit = c.close.ensures.limit
      ∙ limit-took c.args.self.now c.last.new.self (last_tokens_after head fed) c.last.ensures.keeps
      (c.in_ok-last.ensures.took head fed w);
}

pub returns-else-not-lets_end-clause-marks : goal.returns-else-not-lets_end-clause-marks
returns-else-not-lets_end-clause-marks c = λ head fed w. record {
  lines = c.in_ok-last.ensures.lines head fed w;
  limit = limit-took c.args.self.now c.last.new.self (last_tokens_after head fed) c.last.ensures.keeps
      (c.in_ok-last.ensures.took head fed w);
}

pub returns-then-not-lets_end-clause-marks : goal.returns-then-not-lets_end-clause-marks
returns-then-not-lets_end-clause-marks c = λ head fed w. record {
  lines = c.in_ok-last.ensures.lines head fed w;
  limit = limit-took c.args.self.now c.last.new.self (last_tokens_after head fed) c.last.ensures.keeps
      (c.in_ok-last.ensures.took head fed w);
}
