use Rattle.std.proofs.Common.{◌+◌, ◌++◌, take, sym, ap, subst, ◌∙◌, arith}
use Rattle.vcd_header.specs.Told.{state_told}
use Rattle.vcd_header.specs.Gathering.{FitsRules, gathered_so_far}
use Rattle.vcd_header.specs.Standing.{Reads}
use Rattle.vcd_header.proofs.Readings.{over_told, more_of, fault_none, fault_some}
use Rattle.vcd_header.proofs.reader.HeaderReader.absorb.Goals as goal

pub returns-then-is_over-clause-answer : goal.returns-then-is_over-clause-answer
returns-then-is_over-clause-answer c = λ m fed f w.
    let g = c.loop-used.self.gathered in
    let now = c.loop-used.invariant.works fed w in
    fault_none m fed c.args.piece.now c.loop-used.used (state_told g)
    (now.reads.gathered m (subst (λ r. FitsRules m r) (sym c.loop-used.invariant.rules) f)) now.faultless
    (λ less. over_told g.stage g.section ∙ sym c.is_over.ensures ∙ c.if-is_over.true) c.loop-used.invariant.within

pub returns-clause-answer : goal.returns-clause-answer
returns-clause-answer c = λ m fed f w.
    let g = c.loop-used.self.gathered in
    let now = c.loop-used.invariant.works fed w in
    fault_none m fed c.args.piece.now c.loop-used.used (state_told g)
    (now.reads.gathered m (subst (λ r. FitsRules m r) (sym c.loop-used.invariant.rules) f)) now.faultless
    (λ less. absurd (omega arith)) c.loop-used.invariant.within

pub returns-in-Some-clause-answer : goal.returns-in-Some-clause-answer
returns-in-Some-clause-answer c = λ m fed f w.
    let piece = c.args.piece.now in
    let used = c.loop-used.used in
    let len = c.in_ok-len.len in
    let g = c.step.new.self.gathered in
    let now = c.loop-used.invariant.works fed w in
    let read = c.in_ok-len.ensures.reads (fed ++ take used piece) now in
    let all = more_of fed piece used len in
    let rules = c.in_ok-len.ensures.rules ∙ c.loop-used.invariant.rules in
    fault_some m fed piece (used + len) (state_told g) c.in-Some.fault
    (read.gathered m (subst (λ r. FitsRules m r) (sym rules) f) ∙ ap (gathered_so_far m) all) c.in-Some.is
    (record { apart = λ e. over_told g.stage g.section ∙ c.in_ok-len.ensures.apart e })

pub loop-used-preserved : goal.loop-used-preserved
loop-used-preserved c =
    let piece = c.args.piece.now in
    let used = c.loop-used.used in
    let len = c.in_ok-len.len in
    record {
      within = omega (arith, c.in_ok-len.ensures.within);
      works = λ fed w.
          let now = c.loop-used.invariant.works fed w in
          let all = more_of fed piece used len in
          record {
            reads = subst (λ x. Reads c.step.new.self x) all (c.in_ok-len.ensures.reads (fed ++ take used piece) now);
            faultless = c.in-None.is;
          };
      rules = c.in_ok-len.ensures.rules ∙ c.loop-used.invariant.rules;
      refusal = c.in_ok-len.ensures.refusal ∙ c.loop-used.invariant.refusal;
    }
