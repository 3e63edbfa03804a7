use Rattle.std.proofs.Common.{◌≡◌, take}
use Rattle.fsb_rules.specs.Checker.{Stands, as_broken}
use Rattle.fsb_trace.specs.Verdict.{verdict}
use Rattle.fsb_show.proofs.show.judge.Given as goal

-- the checker was fed the samples so far, and has told their verdict
abbrev pub invariant-loop-sample : goal.invariant-loop-sample
invariant-loop-sample l = record {
  checker : Stands l.checker l.fn.marks (take l.sample-index l.w);
  broken : l.broken ≡ as_broken (verdict l.fn.marks (take l.sample-index l.w));
}
