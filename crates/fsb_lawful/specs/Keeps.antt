-- A trace that keeps a phase rule.
use Rattle.std.specs.Prelude.{◌≡◌, ℕ, false}
use Rattle.fsb_signal.specs.declared.marks.Marks.{Marks}
use Rattle.fsb_trace.specs.At.{Trace}
use Rattle.fsb_trace.specs.Verdict.{is_broken}

-- rule j is broken at no clock of the trace, in a dump with these marks
pub record Keeps (m : Marks) (j : ℕ) (w : Trace) : Type 0 where
  pub unbroken : (c : ℕ) → is_broken m w c j ≡ false
