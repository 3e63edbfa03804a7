-- What both ways say of a text.
use Rattle.std.proofs.Common.{◌≡◌, ℕ, Bool, true, List, length, None, sym, ap, subst, ◌∙◌}
use Rattle.vcd_grammar.specs.Judging.{marks_of_lines}
use Rattle.vcd_way.specs.Ways.{ValueRules}
use Rattle.vcd_way.specs.Events.{samples_among}
use Rattle.vcd_way.specs.Answers.{header_by, first_fault_by, events_by}
use Rattle.vcd_way.specs.Strict.{strict, marks_by}
use Rattle.scope_wiring.specs.declared.wire.Wire.{Wire}
use Rattle.scope_way.specs.Wired.{wired_way, wired_lines}
use Rattle.fsb_signal.specs.declared.marks.Marks.{Marks}
use Rattle.fsb_signal.specs.declared.sample.Sample.{Sample}
use Rattle.fsb_rules.specs.Checker.{as_broken}
use Rattle.fsb_trace.specs.Verdict.{verdict}
use Rattle.scope_check.specs.declared.finding.Judged.{Judged}
use Rattle.scope_check.specs.Findings.{IsFoundIn}
use Rattle.scope_both.specs.Finding.{begins_known, whole_part, IsJudgedWhole}
use Rattle.scope_both.proofs.Finds.{found-whole}
use Rattle.scope_both.specs.Usual.{usual_rules}
use Rattle.scope_both.specs.Taking.{TakesStrictly}
use Rattle.scope_both.specs.Alike.{never_stops, TellsNoHole, IsReadAlike}
use Rattle.scope_both.proofs.Texts.{TakesAllOf, no-fault, same-told, alone-sampled, sampled-alone}
use Rattle.scope_both.proofs.Quiet.{quiet-text}
use Rattle.scope_both.proofs.Wires.{wires-lines, wires-taps, wires-take, same-marks}

-- wires that take the same are what is asked of lines and taps
takes-all : (ws : List Wire) (early : Bool) (text : List ℕ) → TakesStrictly ws (usual_rules early) text
    → TakesAllOf (wires-lines ws) (wires-taps ws) early text
takes-all ws early text h = λ k.
    wires-take ws (header_by (wired_way ws (usual_rules early)) text) (header_by strict text) h k

pub wired-fault : (ws : List Wire) (early : Bool) (text : List ℕ) → first_fault_by strict text ≡ None
    → TakesStrictly ws (usual_rules early) text → first_fault_by (wired_way ws (usual_rules early)) text ≡ None
wired-fault ws early text h takes =
    no-fault (wires-lines ws) (wires-taps ws) early text h (takes-all ws early text takes)

pub wired-events : (ws : List Wire) (early : Bool) (text : List ℕ) → first_fault_by strict text ≡ None
    → IsReadAlike ws (usual_rules early) text
    → events_by (wired_way ws (usual_rules early)) text ≡ events_by strict text
wired-events ws early text h k =
    same-told (wires-lines ws) (wires-taps ws) early text h (takes-all ws early text k.takes)
    (alone-sampled (events_by (wired_way ws (usual_rules early)) text) k.no_hole)

pub wired-quiet : (ws : List Wire) (early : Bool) (text : List ℕ) → first_fault_by strict text ≡ None
    → TakesStrictly ws (usual_rules early) text → never_stops text ≡ true → TellsNoHole ws (usual_rules early) text
wired-quiet ws early text h takes n =
    sampled-alone (events_by (wired_way ws (usual_rules early)) text)
    (quiet-text (wires-lines ws) (wires-taps ws) early text h (takes-all ws early text takes) n)

pub wired-marks : (ws : List Wire) (m : ValueRules) (text : List ℕ) → TakesStrictly ws m text
    → marks_of_lines (wired_lines ws) ≡ marks_by (header_by strict text)
wired-marks ws m text takes = same-marks ws (header_by (wired_way ws m) text) (header_by strict text) takes

-- what is found of a text that is read alike
pub wired-found : (ws : List Wire) (early : Bool) (text : List ℕ) (w : List Sample) (marks : Marks) (f : Judged)
    → first_fault_by strict text ≡ None → w ≡ samples_among (events_by strict text)
    → marks ≡ marks_by (header_by strict text) → IsReadAlike ws (usual_rules early) text → begins_known w ≡ true
    → IsFoundIn f whole_part (marks_of_lines (wired_lines ws)) (events_by (wired_way ws (usual_rules early)) text)
    → IsJudgedWhole f (length w) (as_broken (verdict marks w))
wired-found ws early text w marks f h a b k r found =
    let m = usual_rules early in
    let events = events_by (wired_way ws m) text in
    let trace : samples_among events ≡ w = ap samples_among (wired-events ws early text h k) ∙ sym a in
    let same : marks_of_lines (wired_lines ws) ≡ marks = wired-marks ws m text k.takes ∙ sym b in
    subst (λ x. IsJudgedWhole f (length x) (as_broken (verdict marks x))) trace
    (subst (λ x. IsJudgedWhole f (length (samples_among events)) (as_broken (verdict x (samples_among events)))) same
    (found-whole f (marks_of_lines (wired_lines ws)) events (alone-sampled events k.no_hole)
    (subst (λ x. begins_known x ≡ true) (sym trace) r) found))
