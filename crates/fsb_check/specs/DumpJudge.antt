-- What the judge of a dump stands for.
use Rattle.std.specs.Prelude.{◌≡◌, List}
use Rattle.fsb_signal.specs.declared.marks.Marks.{Marks}
use Rattle.fsb_signal.specs.declared.sample.Sample.{Sample}
use Rattle.fsb_rules.specs.Checker.{as_broken, Stands}
use Rattle.fsb_trace.specs.Verdict.{verdict}
use Rattle.fsb_check.specs.declared.check.Judge.{Judge}

-- the verdict so far is that of the samples of this trace, of a dump with these marks
pub record HasJudged (judge : Judge) (marks : Marks) (w : List Sample) : Type 0 where
  pub checker : Stands judge.checker marks w
  pub broken : judge.broken ≡ as_broken (verdict marks w)
