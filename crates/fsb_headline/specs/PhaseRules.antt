-- What a verdict says of a trace, in words that lie below it.
use Rattle.std.specs.Prelude.{◌≡◌, ◌<◌, ℕ, List, false, length, true}
use Rattle.fsb_rules.specs.declared.broken.Broken.{Broken}
use Rattle.fsb_signal.specs.declared.marks.Marks.{Marks}
use Rattle.fsb_signal.specs.declared.sample.Sample.{Sample}
use Rattle.fsb_trace.specs.Verdict.{is_broken}
use Rattle.vcd_grammar.specs.Reading.{Reads}

-- none of the twenty phase rules is broken at any clock of the trace, of a dump with these marks
pub record BreaksNoRule (marks : Marks) (trace : List Sample) : Type 0 where
  pub none : (c j : ℕ) → j < 21 → is_broken marks trace c j ≡ false

-- this rule is broken at this clock of the trace, while no rule is broken at a clock before, and
-- no lesser rule at this one
pub record IsFirstBroken (marks : Marks) (trace : List Sample) (first : Broken) : Type 0 where
  pub within : first.clock < length trace
  pub of_twenty : first.rule < 21
  pub breaks : is_broken marks trace first.clock first.rule ≡ true
  pub none_before : (c j : ℕ) → c < first.clock → j < 21 → is_broken marks trace c j ≡ false
  pub none_less : (j : ℕ) → j < first.rule → is_broken marks trace first.clock j ≡ false

-- the text is the dump of a trace that breaks no phase rule
pub record IsAccepted (text : List ℕ) : Type 0 where
  pub marks : Marks
  pub trace : List Sample
  pub reads : Reads text marks trace
  pub accepted : BreaksNoRule marks trace

-- the text is the dump of a trace in which this rule is broken first, at this clock
pub record IsRejected (text : List ℕ) (first : Broken) : Type 0 where
  pub marks : Marks
  pub trace : List Sample
  pub reads : Reads text marks trace
  pub rejected : IsFirstBroken marks trace first
