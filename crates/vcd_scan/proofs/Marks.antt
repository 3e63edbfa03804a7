-- What a value reader keeps besides what it tells: the lines of stamps, and the limit that is told.
use Rattle.std.proofs.Common.{◌≡◌, ◌<◌, ◌+◌, ◌-◌, ◌^◌, ℕ, List, ◌++◌, length, take, drop, Option, Some, None, sym, ap, subst, ◌∙◌}
use Rattle.std.proofs.Common.{append_assoc, length-append, arith}
use Rattle.std.proofs.lemmas.List.{take-append-drop, take_rest}
use Rattle.std.specs.Prelude.{IfSome}
use Rattle.std.proofs.lemmas.List.Elements.{All-weaker}
use Rattle.vcd_grammar.specs.Tokens.{Token}
use Rattle.vcd_way.specs.Pieces.{line_number}
use Rattle.vcd_way.specs.Steps.{DumpState}
use Rattle.vcd_cut.specs.declared.cut.CutToken.{CutToken}
use Rattle.vcd_cut.specs.Standing.{IsOnLine}
use Rattle.vcd_course.specs.declared.event.Stamp.{Stamp}
use Rattle.vcd_course.specs.declared.event.CourseEvent.{CourseEvent}
use Rattle.vcd_scan.specs.declared.reader.ValueReader.{ValueReader}
use Rattle.vcd_scan.specs.Wired.{Wiring}
use Rattle.vcd_scan.specs.Limits.{first_limit}
use Rattle.vcd_scan.specs.Lined.{IsLined, Stamped, AreLined}
use Rattle.vcd_scan.specs.Standing.{rules_of, wiring_of, limit_after, limit_of, Took, Keeps}
use Rattle.vcd_scan.proofs.Erasing.{limit-again}
use Rattle.vcd_scan.proofs.Reading.{whole_of}

-- ---- lines, where the text goes on

line-longer : (text more : List ℕ) (place line : ℕ) → IsOnLine text place line → IsOnLine (text ++ more) place line
line-longer text more place line h =
    λ rest. subst (λ x. line ≡ line_number x place) (sym (append_assoc text more rest)) (h (more ++ rest))

stamp-longer : (text more : List ℕ) (stamp : Option Stamp) → IsLined text stamp → IsLined (text ++ more) stamp
stamp-longer text more None h = tt
stamp-longer text more (Some s) h = line-longer text more s.place s.line h

pub lines-longer : (text more : List ℕ) (s : Stamped) → AreLined text s → AreLined (text ++ more) s
lines-longer text more s l = record {
  last = stamp-longer text more s.last l.last;
  told = All-weaker (λ (e : CourseEvent). IsLined text e.stamp) (λ e. IsLined (text ++ more) e.stamp)
      (λ (e : CourseEvent) h. stamp-longer text more e.stamp h) s.told l.told;
}

-- the same, where more bytes after a header were read
pub lines-read : (head fed more : List ℕ) (s : Stamped) → AreLined (head ++ fed) s → AreLined (head ++ (fed ++ more)) s
lines-read head fed more s l =
    subst (λ x. AreLined x s) (append_assoc head fed more) (lines-longer (head ++ fed) more s l)

-- and where they are a piece of which the first were
pub lines-whole : (head fed piece : List ℕ) (used : ℕ) (s : Stamped) → AreLined (head ++ (fed ++ take used piece)) s
    → AreLined (head ++ (fed ++ piece)) s
lines-whole head fed piece used s l =
    subst (λ x. AreLined (head ++ x) s) (sym (whole_of fed piece used))
    (lines-read head (fed ++ take used piece) (drop used piece) s l)

-- the line of a token that was cut off
pub token-line : (text : List ℕ) (cut : Option CutToken) (token : CutToken) → cut ≡ Some token
    → IfSome cut (λ t. IsOnLine text t.place t.line) → IsOnLine text token.place token.line
token-line text cut token is h = subst (λ o. IfSome o (λ t. IsOnLine text t.place t.line)) is h

-- ---- the limit that is told

pub limit-took : (start now : ValueReader) (ts : List Token) → Keeps start now → Took now ts
    → limit_of now ≡ limit_after (rules_of start) (wiring_of start) ts
limit-took start now ts keeps took =
    sym (limit-again now.machine.limit)
    ∙ ap (λ (s : DumpState Wiring). first_limit s.remarks) took.state
    ∙ limit-again (limit_after (rules_of now) (wiring_of now) ts)
    ∙ (λ i. limit_after (keeps.rules i) (keeps.wiring i) ts)

-- ---- bytes that are left

pub room_left : (head fed piece : List ℕ) (used : ℕ) → length (head ++ fed) + length piece + 1 < 2 ^ 64
    → length (head ++ (fed ++ take used piece)) + length (take (length piece - used) (drop used piece)) + 1 < 2 ^ 64
room_left head fed piece used few =
    omega (
      arith,
      few,
      length-append head (fed ++ take used piece),
      length-append fed (take used piece),
      length-append head fed,
      length-append (take used piece) (drop used piece),
      ap length (take-append-drop used piece),
      ap length (take_rest piece used),
    )
