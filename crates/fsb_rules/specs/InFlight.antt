-- What is kept of the live requests that have not ended.
use Rattle.std.specs.Prelude.{◌≡◌, ◌≤◌, ℕ, suc, ◌+◌, ◌-◌, false, is_some, if◌then◌else◌, Option, Some, []}
use Rattle.std.specs.Prelude.{◌∷◌, ◌++◌, length}
use Rattle.fsb_count.specs.Clocks.{count_where}
use Rattle.fsb_signal.specs.declared.lines.TheConstants.Lines.{ADS}
use Rattle.fsb_signal.specs.declared.sample.Sample.{Sample}
use Rattle.fsb_trace.specs.At.{Trace, line_back}
use Rattle.fsb_trace.specs.Requests.{is_live}
use Rattle.fsb_trace.specs.Rules.{is_request_too_soon, is_code_unlawful, is_queue_full, is_error_alone, is_response_early}
use Rattle.fsb_laws.specs.Orderly.{Orderly}
use Rattle.fsb_laws.specs.Progress.{response_count, transfer_of}
use Rattle.fsb_heads.specs.Heads.{snooped_count, Stands as HeadsStands}
use Rattle.fsb_rules.specs.declared.live.LiveRequest.{LiveRequest}
use Rattle.fsb_rules.specs.declared.in_flight.InFlight.{InFlight}
use Rattle.fsb_rules.specs.LeastRule.{begun_at}
use Rattle.fsb_rules.specs.Live.{IsLive, IsSnooped}
use Rattle.fsb_rules.specs.Stretch.{Stretch}

-- how many live requests began below the last clock, so that they are decoded
unfoldable pub known_count : Trace → ℕ
known_count h = count_where (is_live h) (length h - 1)

-- this is kept of the live request that responded last, if one did
pub record KeepsLast (last : Option LiveRequest) (h : Trace) : Type 0 where
  pub kept : (i : ℕ) → response_count h ≡ suc i → (a : LiveRequest) × (last ≡ Some a) × IsLive h i a

-- the requests without their snoop end, those without their response, and the one that responded last; at most eight
-- are in flight with the one that begins at the last clock
pub record InFlightStands (queue : InFlight) (h : Trace) : Type 0 where
  pub asking : Stretch (IsLive h) queue.asking.items (snooped_count h) (known_count h)
  pub waiting : Stretch (IsSnooped h) queue.waiting.items (response_count h) (snooped_count h)
  pub heads : HeadsStands queue.heads h
  pub last : KeepsLast queue.last h
  pub few : known_count h + (if is_some (transfer_of h) then 1 else 0) + (if line_back ADS h (length h) 1 then 1 else 0)
      ≤ response_count h + 8

-- clock n comes after an orderly history that the queue stands for
pub record IsAt (queue : InFlight) (n : ℕ) (h : Trace) : Type 0 where
  pub stands : InFlightStands queue h
  pub orderly : Orderly h
  pub clock : n ≡ length h

-- and so does the sample, which keeps the rules of request spacing and of response timing
pub record InTime (queue : InFlight) (n : ℕ) (x : Sample) (h : Trace) : Type 0 where
  pub here : IsAt queue n h
  pub apart : is_request_too_soon (h ++ x ∷ []) (length h) ≡ false
  pub timely : is_response_early (h ++ x ∷ []) (length h) ≡ false

-- and it keeps those of lawful codes, queue depth and address errors; its request is the one whose second clock n is
pub record Brings (queue : InFlight) (n : ℕ) (x : Sample) (begun : Option LiveRequest) (h : Trace) : Type 0 where
  pub in_time : InTime queue n x h
  pub begun_is : begun ≡ begun_at (h ++ x ∷ []) (length h)
  pub lawful : is_code_unlawful (h ++ x ∷ []) (length h) ≡ false
  pub room : is_queue_full (h ++ x ∷ []) (length h) ≡ false
  pub error : is_error_alone (h ++ x ∷ []) (length h) ≡ false
