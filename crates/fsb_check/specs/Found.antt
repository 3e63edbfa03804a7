-- What is found of a dump.
use Rattle.std.specs.Prelude.{◌≡◌, ℕ, List}
use Rattle.fsb_rules.specs.Checker.{as_broken}
use Rattle.fsb_trace.specs.Verdict.{verdict}
use Rattle.fsb_watch.specs.Watched.{IsSeen}
use Rattle.fsb_check.specs.declared.check.Judgement.{Judgement}

-- the text is the dump of a trace, which has so many clocks and this verdict
abbrev pub IsFound : Judgement → List ℕ → Type 0
IsFound finding text = IsSeen (λ marks w. finding.broken ≡ as_broken (verdict marks w)) finding.clocks text
