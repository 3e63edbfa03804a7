-- What is shown of a dump.
use Rattle.std.specs.Prelude.{◌≡◌, ◌≤◌, ℕ, Bool, IsTrue, List, None, length}
use Rattle.fsb_probe.specs.Weights.{totals_of}
use Rattle.fsb_rules.specs.Checker.{as_broken}
use Rattle.fsb_signal.specs.declared.marks.Marks.{Marks}
use Rattle.fsb_signal.specs.declared.sample.Sample.{Sample}
use Rattle.fsb_table.specs.Rows.{rows_of}
use Rattle.fsb_trace.specs.Verdict.{verdict}
use Rattle.vcd_grammar.specs.Reading.{Reads}
use Rattle.fsb_show.specs.declared.show.Shown.{Shown}

-- the trace, of a dump with these marks, is shown: its verdict or, where it breaks no rule, its table, and objects that weigh
-- samples so have the weights of all its samples as their totals
pub record IsOfTrace (weights : List (Sample → ℕ)) (totals : List ℕ) (shown : Shown) (marks : Marks) (w : List Sample) : Type 0 where
  pub clocks : shown.clocks ≡ length w
  pub broken : shown.broken ≡ as_broken (verdict marks w)
  pub rows : verdict marks w ≡ None → shown.rows.items ≡ rows_of w
  pub weighed : verdict marks w ≡ None → totals ≡ totals_of weights w

-- the text is the dump of a trace of at most 200,000 samples, which is shown
pub record IsShown (weights : List (Sample → ℕ)) (totals : List ℕ) (shown : Shown) (text : List ℕ) : Type 0 where
  pub marks : Marks
  pub trace : List Sample
  pub reads : Reads text marks trace
  pub few : length trace ≤ 200000
  pub of_trace : IsOfTrace weights totals shown marks trace

-- a trace of at most 200,000 samples is shown; where the source tells what it holds, this text is the dump of it
pub record IsOfOneTrace (weights : List (Sample → ℕ)) (totals : List ℕ) (shown : Shown) (text : List ℕ) (tells : Bool) : Type 0 where
  pub marks : Marks
  pub trace : List Sample
  pub few : length trace ≤ 200000
  pub of_trace : IsOfTrace weights totals shown marks trace
  pub reads : IsTrue tells → Reads text marks trace
