use Rattle.std.proofs.Common.{◌≡◌, length, refl, arith}
use Rattle.fsb_count.specs.Clocks.{count_where}
use Rattle.fsb_trace.specs.Requests.{is_reply, is_write_back}
use Rattle.fsb_report.specs.RequestCounts.{is_read, is_invalidate, count_begun, counts_below, request_counts}
use Rattle.fsb_report.proofs.Counting.{count_begun-more, count_begun-most}
use Rattle.fsb_report.proofs.counts.request_counts.Goals as goal

pub loop-q-init : goal.loop-q-init
unfolding count_begun count_where
loop-q-init c = record { reads = refl; invalidates = refl; writebacks = refl; replies = refl }

pub add-requires-clause-reads : goal.add-requires-clause-reads
add-requires-clause-reads c =
    let most = count_begun-most is_read c.args.w.now c.loop-q.q in rw c.loop-q.invariant.reads (omega arith)

pub add-requires-clause-invalidates : goal.add-requires-clause-invalidates
add-requires-clause-invalidates c =
    let most = count_begun-most is_invalidate c.args.w.now c.loop-q.q in rw c.loop-q.invariant.invalidates (omega arith)

pub add-requires-clause-writebacks : goal.add-requires-clause-writebacks
add-requires-clause-writebacks c =
    let most = count_begun-most is_write_back c.args.w.now c.loop-q.q in rw c.loop-q.invariant.writebacks (omega arith)

pub add-requires-clause-replies : goal.add-requires-clause-replies
add-requires-clause-replies c =
    let most = count_begun-most is_reply c.args.w.now c.loop-q.q in rw c.loop-q.invariant.replies (omega arith)

pub loop-q-preserved : goal.loop-q-preserved
loop-q-preserved c = record {
  reads = rw (c.add.ensures.reads, c.request_begun_at.ensures, c.loop-q.invariant.reads, count_begun-more) refl;
  invalidates = rw (
    c.add.ensures.invalidates,
    c.request_begun_at.ensures,
    c.loop-q.invariant.invalidates,
    count_begun-more,
  ) refl;
  writebacks = rw (
    c.add.ensures.writebacks,
    c.request_begun_at.ensures,
    c.loop-q.invariant.writebacks,
    count_begun-more,
  ) refl;
  replies = rw (c.add.ensures.replies, c.request_begun_at.ensures, c.loop-q.invariant.replies, count_begun-more) refl;
}

pub returns : goal.returns
unfolding request_counts counts_below
returns c =
    let end : c.loop-q.q ≡ length c.args.w.now = omega arith in
    rw (
      ← end,
      ← c.loop-q.invariant.reads,
      ← c.loop-q.invariant.invalidates,
      ← c.loop-q.invariant.writebacks,
      ← c.loop-q.invariant.replies,
    ) refl
