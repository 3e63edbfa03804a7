use Rattle.std.proofs.Common.{◌≡◌, ◌+◌, ◌++◌, take, Some, is_some, refl, sym, ap, subst, ◌∙◌, arith, append-nil}
use Rattle.std.proofs.lemmas.List.{take_all}
use Rattle.vcd_way.specs.Steps.{DumpState}
use Rattle.vcd_scan.specs.Wired.{Wiring}
use Rattle.vcd_scan.specs.Standing.{Reads, Works, Keeps, Appends, rules_of, wiring_of, events_of, tokens_after, known_after, told_after}
use Rattle.vcd_scan.proofs.Reading.{more_of, appends_nothing}
use Rattle.vcd_scan.specs.Limits.{first_limit}
use Rattle.vcd_scan.specs.Lined.{stamps_in}
use Rattle.vcd_scan.proofs.Marks.{lines-whole, limit-took, room_left}
use Rattle.vcd_scan.proofs.Readers.{known_there, told_there, fault_took, told_on}
use Rattle.vcd_scan.proofs.reader.ValueReader.absorb.Goals as goal

pub loop-used-init : goal.loop-used-init
loop-used-init c =
    let self = c.args.self.now in
    record {
      within = omega arith;
      works = λ head fed w. subst (λ x. Works self head x) (sym (append-nil fed)) w;
      told = λ head fed w.
          subst (λ x. Appends (told_after (rules_of self) (wiring_of self) (tokens_after head fed))
          (told_after (rules_of self) (wiring_of self) (tokens_after head x)) (events_of self) (events_of self))
          (sym (append-nil fed))
          (appends_nothing (told_after (rules_of self) (wiring_of self) (tokens_after head fed)) (events_of self));
      keeps = record { rules = refl; wiring = refl };
      refusal = refl;
    }

pub loop-used-preserved : goal.loop-used-preserved
loop-used-preserved c =
    let start = c.args.self.now in
    let piece = c.args.piece.now in
    let used = c.loop-used.used in
    let len = c.in_ok-len.len in
    let inv = c.loop-used.invariant in
    let keeps : Keeps start c.step.new.self = record {
      rules = c.in_ok-len.ensures.keeps.rules ∙ inv.keeps.rules;
      wiring = c.in_ok-len.ensures.keeps.wiring ∙ inv.keeps.wiring;
    } in
    record {
      within = omega (arith, c.in_ok-len.ensures.within);
      works = λ head fed w. record {
        reads = subst (λ x. Reads c.step.new.self head x) (more_of fed piece used len)
            (c.in_ok-len.ensures.reads head (fed ++ take used piece) (inv.works head fed w));
        faultless = c.in-None.is;
      };
      told = λ head fed w.
          told_on start c.loop-used.self c.step.new.self head fed piece used len inv.keeps (inv.told head fed w)
          (c.in_ok-len.ensures.told head (fed ++ take used piece) (inv.works head fed w));
      keeps = keeps;
      refusal = c.in_ok-len.ensures.refusal ∙ inv.refusal;
    }

pub returns-in-Some-clause-answer : goal.returns-in-Some-clause-answer
returns-in-Some-clause-answer c = λ head fed w.
    let start = c.args.self.now in
    let new = c.step.new.self in
    let piece = c.args.piece.now in
    let used = c.loop-used.used in
    let len = c.in_ok-len.len in
    let inv = c.loop-used.invariant in
    let m = rules_of start in
    let wires = wiring_of start in
    let ts = tokens_after head (fed ++ take (used + len) piece) in
    let keeps : Keeps start new = record {
      rules = c.in_ok-len.ensures.keeps.rules ∙ inv.keeps.rules;
      wiring = c.in_ok-len.ensures.keeps.wiring ∙ inv.keeps.wiring;
    } in
    let read : Reads new head (fed ++ take (used + len) piece) =
    subst (λ x. Reads new head x) (more_of fed piece used len)
    (c.in_ok-len.ensures.reads head (fed ++ take used piece) (inv.works head fed w)) in
    let fault : (known_after m wires ts).fault ≡ Some c.in-Some.fault =
    sym (fault_took start new ts keeps read.took) ∙ c.in-Some.is in
    ap (λ (s : DumpState Wiring). s.fault) (known_there m wires head fed piece (used + len) (ap is_some fault)) ∙ fault

pub returns-in-Some-clause-told : goal.returns-in-Some-clause-told
returns-in-Some-clause-told c = λ head fed w.
    let start = c.args.self.now in
    let new = c.step.new.self in
    let piece = c.args.piece.now in
    let used = c.loop-used.used in
    let len = c.in_ok-len.len in
    let inv = c.loop-used.invariant in
    let m = rules_of start in
    let wires = wiring_of start in
    let ts = tokens_after head (fed ++ take (used + len) piece) in
    let keeps : Keeps start new = record {
      rules = c.in_ok-len.ensures.keeps.rules ∙ inv.keeps.rules;
      wiring = c.in_ok-len.ensures.keeps.wiring ∙ inv.keeps.wiring;
    } in
    let read : Reads new head (fed ++ take (used + len) piece) =
    subst (λ x. Reads new head x) (more_of fed piece used len)
    (c.in_ok-len.ensures.reads head (fed ++ take used piece) (inv.works head fed w)) in
    let fault : (known_after m wires ts).fault ≡ Some c.in-Some.fault =
    sym (fault_took start new ts keeps read.took) ∙ c.in-Some.is in
    subst (λ x. Appends (told_after m wires (tokens_after head fed)) x (events_of start) (events_of new))
    (sym (told_there m wires head fed piece (used + len) (ap is_some fault)))
    (told_on start c.loop-used.self new head fed piece used len inv.keeps (inv.told head fed w)
    (c.in_ok-len.ensures.told head (fed ++ take used piece) (inv.works head fed w)))

pub returns-in-Some-clause-marks : goal.returns-in-Some-clause-marks
returns-in-Some-clause-marks c = λ head fed w.
    let start = c.args.self.now in
    let new = c.step.new.self in
    let piece = c.args.piece.now in
    let used = c.loop-used.used in
    let len = c.in_ok-len.len in
    let inv = c.loop-used.invariant in
    let m = rules_of start in
    let wires = wiring_of start in
    let ts = tokens_after head (fed ++ take (used + len) piece) in
    let keeps : Keeps start new = record {
      rules = c.in_ok-len.ensures.keeps.rules ∙ inv.keeps.rules;
      wiring = c.in_ok-len.ensures.keeps.wiring ∙ inv.keeps.wiring;
    } in
    let read : Reads new head (fed ++ take (used + len) piece) =
    subst (λ x. Reads new head x) (more_of fed piece used len)
    (c.in_ok-len.ensures.reads head (fed ++ take used piece) (inv.works head fed w)) in
    let fault : (known_after m wires ts).fault ≡ Some c.in-Some.fault =
    sym (fault_took start new ts keeps read.took) ∙ c.in-Some.is in
    record {
      lines = lines-whole head fed piece (used + len) (stamps_in new.machine) read.lines;
      limit = limit-took start new ts keeps read.took
          ∙ ap (λ (s : DumpState Wiring). first_limit s.remarks)
          (sym (known_there m wires head fed piece (used + len) (ap is_some fault)));
    }

-- ---- the loop

pub step-requires-clause-room : goal.step-requires-clause-room
step-requires-clause-room c =
    let piece = c.args.piece.now in
    let used = c.loop-used.used in
    let head = c.requires.0 in
    let fed = c.requires.1 in (
      head,
      fed ++ take used piece,
      c.loop-used.invariant.works head fed c.requires.2,
      room_left head fed piece used c.requires.3,
    )

pub returns-clause-works : goal.returns-clause-works
returns-clause-works c = λ head fed w.
    let piece = c.args.piece.now in
    let used = c.loop-used.used in
    let all : take used piece ≡ piece = take_all used piece (omega arith) in
    subst (λ x. Works c.loop-used.self head (fed ++ x)) all (c.loop-used.invariant.works head fed w)

pub returns-clause-answer : goal.returns-clause-answer
returns-clause-answer c = λ head fed w.
    let piece = c.args.piece.now in
    let used = c.loop-used.used in
    let inv = c.loop-used.invariant in
    let all : take used piece ≡ piece = take_all used piece (omega arith) in
    let works = subst (λ x. Works c.loop-used.self head (fed ++ x)) all (inv.works head fed w) in
    sym (fault_took c.args.self.now c.loop-used.self (tokens_after head (fed ++ piece)) inv.keeps works.reads.took)
    ∙ works.faultless

pub returns-clause-told : goal.returns-clause-told
returns-clause-told c = λ head fed w.
    let start = c.args.self.now in
    let piece = c.args.piece.now in
    let used = c.loop-used.used in
    let all : take used piece ≡ piece = take_all used piece (omega arith) in
    subst (λ x. Appends (told_after (rules_of start) (wiring_of start) (tokens_after head fed))
    (told_after (rules_of start) (wiring_of start) (tokens_after head (fed ++ x)))
    (events_of start) (events_of c.loop-used.self)) all (c.loop-used.invariant.told head fed w)

pub returns-clause-marks : goal.returns-clause-marks
returns-clause-marks c = λ head fed w.
    let piece = c.args.piece.now in
    let used = c.loop-used.used in
    let inv = c.loop-used.invariant in
    let all : take used piece ≡ piece = take_all used piece (omega arith) in
    let works = subst (λ x. Works c.loop-used.self head (fed ++ x)) all (inv.works head fed w) in
    record {
      lines = works.reads.lines;
      limit = limit-took c.args.self.now c.loop-used.self (tokens_after head (fed ++ piece)) inv.keeps works.reads.took;
    }
