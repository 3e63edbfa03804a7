use Rattle.std.proofs.Common.{◌≡◌}
use Rattle.fsb_trace.specs.Requests.{is_reply, is_write_back}
use Rattle.fsb_report.specs.RequestCounts.{is_read, is_invalidate, count_begun}
use Rattle.fsb_report.proofs.counts.request_counts.Given as goal

abbrev pub invariant-loop-q : goal.invariant-loop-q
invariant-loop-q l = record {
  reads : l.counts.reads ≡ count_begun is_read l.w l.q;
  invalidates : l.counts.invalidates ≡ count_begun is_invalidate l.w l.q;
  writebacks : l.counts.writebacks ≡ count_begun is_write_back l.w l.q;
  replies : l.counts.replies ≡ count_begun is_reply l.w l.q;
}
