-- How far a trace has come: which live requests have their snoop ends, responses and ends.
use Rattle.std.specs.Prelude.{◌≡◌, ◌<◌, ◌≤◌, ℕ, zero, suc, ◌+◌, Bool, ◌&&◌, not, nat_lt, nat_le, is_none, if◌then◌else◌, Option, Some, None, length}
use Rattle.std.specs.Option.{option_and_then}
use Rattle.fsb_count.specs.Options.{is_some_and}
use Rattle.fsb_count.specs.Clocks.{count_where, from_clock}
use Rattle.fsb_signal.specs.declared.sample.Sample.{Sample}
use Rattle.fsb_signal.specs.declared.lines.TheConstants.Lines.{DRDY}
use Rattle.fsb_signal.specs.Samples.{line_at}
use Rattle.fsb_trace.specs.At.{Trace, responds_at}
use Rattle.fsb_trace.specs.Snoop.{snoop_end_of, snoop_start_of, is_every_second_from}
use Rattle.fsb_trace.specs.Outcome.{response_clock_of}
use Rattle.fsb_trace.specs.Response.{end_of}
use Rattle.fsb_trace.specs.Rules.{is_transferring_of}
use Rattle.fsb_laws.specs.OneMore.{stalls}

-- exactly the live requests below s have their snoop end
pub record SnoopsTo (h : Trace) (s : ℕ) : Type 0 where
  pub reached : (i : ℕ) → i < s → (t : ℕ) × (snoop_end_of h i ≡ Some t) × (t < length h)
  pub next : snoop_end_of h s ≡ None

-- live request s, the first without its snoop end, has a snoop clock at c
unfoldable pub is_snoop_due : Trace → ℕ → ℕ → Bool
is_snoop_due h s c = is_some_and (snoop_start_of h s) (λ start. is_every_second_from start c)

-- the sample, as the next one of h, is the snoop end of live request s
unfoldable pub ends_snoop_of : Trace → ℕ → Sample → Bool
ends_snoop_of h s x = is_snoop_due h s (length h) && not (stalls x)

-- exactly the live requests below e have their end
pub record EndsTo (h : Trace) (e : ℕ) : Type 0 where
  pub reached : (i : ℕ) → i < e → (t : ℕ) × (end_of h i ≡ Some t) × (t < length h)
  pub above : (i : ℕ) → e ≤ i → end_of h i ≡ None

-- how many responses there are
unfoldable pub response_count : Trace → ℕ
response_count h = count_where (responds_at h) (length h)

-- how many chunks of live request i came from its response on
unfoldable pub chunks_of : Trace → ℕ → Option ℕ
chunks_of h i = option_and_then (λ r. Some (count_where (from_clock r (line_at DRDY h)) (length h))) (response_clock_of h i)

-- how many chunks of the live request that responded last came, while its data are still on the way; none where no
-- data are
unfoldable pub transfer_after : Trace → ℕ → Option ℕ
transfer_after h zero = None
transfer_after h (suc i) = if is_transferring_of h (length h) i then chunks_of h i else None

-- how many chunks came of the transfer that is on the way at the end of the trace
unfoldable pub transfer_of : Trace → Option ℕ
transfer_of h = transfer_after h (response_count h)

-- a transfer of so many chunks goes on to the next clock, where a chunk comes or none does; the fourth ends it
unfoldable pub chunk_step : Bool → Option ℕ → Option ℕ
chunk_step comes None = None
chunk_step comes (Some k) = let now = k + (if comes then 1 else 0) in if nat_lt now 4 then Some now else None

-- the next response may come at the clock after the trace: its request's snoop end lies two clocks before at least,
-- and no transfer is on the way
unfoldable pub may_answer_next : Trace → Bool
may_answer_next h =
    is_some_and (snoop_end_of h (response_count h)) (λ t. nat_le (t + 2) (length h)) && is_none (transfer_of h)
