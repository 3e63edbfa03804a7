-- What is said of the first broken clock of a waveform.
use Rattle.std.specs.Prelude.{◌≡◌, ℕ, ◌+◌, List, take, Option, Some, None}
use Rattle.fsb_signal.specs.declared.marks.Marks.{Marks}
use Rattle.fsb_trace.specs.At.{Trace}
use Rattle.fsb_trace.specs.Verdict.{verdict}
use Rattle.fsb_reasons.specs.declared.reason.Reason.{Reason}
use Rattle.fsb_recent.specs.declared.recent.Around.{Around}
use Rattle.fsb_recent.specs.Recent.{AreAround}
use Rattle.scope_explain.specs.declared.explained.Explained.{Explained}
use Rattle.scope_explain.specs.Reasons.{AreReasonsOf, phase_numbers}

-- c is the first broken clock of the samples, and j the least rule that is broken there; these reasons hold of the samples
-- up to there: one for each rule that is broken there and is answered, the least rule's first; these are the requests
-- around it, by the samples before it
pub record IsExplainedAt (c j : ℕ) (reasons : List Reason) (around : Around) (m : Marks) (w : Trace) : Type 0 where
  pub found : verdict m w ≡ Some (c, j)
  pub reasons_are : AreReasonsOf phase_numbers m (take (c + 1) w) c reasons
  pub around_are : AreAround around (take c w)

-- what is said of the samples of a dump with these marks, where a rule is broken by them
abbrev pub IsExplained : Explained → Marks → Trace → Type 0
IsExplained e m w = IsExplainedAt e.clock e.rule e.reasons.items e.around m w

-- the same, or that none is
abbrev pub IsExplainedBy : Option Explained → Marks → Trace → Type 0
IsExplainedBy None m w = verdict m w ≡ None
IsExplainedBy (Some e) m w = IsExplained e m w
