-- The requests of a trace, counted by their kinds.
use Rattle.std.specs.Prelude.{ℕ, Bool, true, false, if◌then◌else◌, Option, None, length}
use Rattle.fsb_count.specs.Clocks.{count_where}
use Rattle.fsb_count.specs.Options.{is_some_and}
use Rattle.fsb_signal.specs.declared.lines.TheConstants.Lines.{ADS}
use Rattle.fsb_signal.specs.Samples.{line_at}
use Rattle.fsb_encode.specs.declared.request.Kind.{Kind}
use Rattle.fsb_encode.specs.declared.request.Kind.TheVariants.{Reply, Invalidate, Read, WriteBack, Upgrade}
use Rattle.fsb_encode.specs.declared.request.Request.{Request}
use Rattle.fsb_trace.specs.At.{Trace, request_at}
use Rattle.fsb_trace.specs.Requests.{is_reply, is_write_back}
use Rattle.fsb_report.specs.declared.counts.RequestCounts.{RequestCounts}

-- the kind is that of a read
unfoldable pub is_read_kind : Kind → Bool
is_read_kind Reply = false
is_read_kind Invalidate = false
is_read_kind Read = true
is_read_kind WriteBack = false
is_read_kind Upgrade = false

-- the kind is that of a read and invalidate
unfoldable pub is_invalidate_kind : Kind → Bool
is_invalidate_kind Reply = false
is_invalidate_kind Invalidate = true
is_invalidate_kind Read = false
is_invalidate_kind WriteBack = false
is_invalidate_kind Upgrade = false

-- the request is decoded, and it is a read
unfoldable pub is_read : Option Request → Bool
is_read request = is_some_and request (λ r. is_read_kind r.kind)

-- the request is decoded, and it is a read and invalidate
unfoldable pub is_invalidate : Option Request → Bool
is_invalidate request = is_some_and request (λ r. is_invalidate_kind r.kind)

-- the request whose first clock is q, cancelled or not; none where q + 1 is past the end, or the two clocks hold none
unfoldable pub request_begun_at : Trace → ℕ → Option Request
request_begun_at w q = if line_at ADS w q then request_at w q else None

-- how many requests that begin below n pass
unfoldable pub count_begun : (Option Request → Bool) → Trace → ℕ → ℕ
count_begun test w n = count_where (λ q. test (request_begun_at w q)) n

-- how many requests of each of these kinds begin below n; an upgrade counts in none
unfoldable pub counts_below : Trace → ℕ → RequestCounts
counts_below w n = record {
  reads = count_begun is_read w n;
  invalidates = count_begun is_invalidate w n;
  writebacks = count_begun is_write_back w n;
  replies = count_begun is_reply w n;
}

-- how many requests of each kind the trace has
unfoldable pub request_counts : Trace → RequestCounts
request_counts w = counts_below w (length w)
