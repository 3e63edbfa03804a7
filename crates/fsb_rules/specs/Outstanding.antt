-- What is kept of the outstanding requests, and what a sample does to them.
use Rattle.std.specs.Prelude.{◌≡◌, ◌≤◌, ℕ, zero, suc, ◌-◌, Bool, ◌&&◌, nat_eq, true, if◌then◌else◌, List, [], ◌∷◌}
use Rattle.std.specs.Prelude.{◌++◌, All, Option, Some, None, length, take}
use Rattle.std.specs.Option.{option_map, option_to_list}
use Rattle.fsb_count.specs.Options.{is_some_and, is_at}
use Rattle.fsb_count.specs.Clocks.{count_where}
use Rattle.fsb_signal.specs.declared.lines.TheConstants.Lines.{ADS}
use Rattle.fsb_signal.specs.declared.sample.Sample.{Sample}
use Rattle.fsb_encode.specs.declared.request.Request.{Request}
use Rattle.fsb_trace.specs.declared.who.Who.TheVariants.{Symmetric}
use Rattle.fsb_trace.specs.At.{Trace, line_back, request_at}
use Rattle.fsb_trace.specs.Winner.{is_agent, winner_at}
use Rattle.fsb_trace.specs.Requests.{live_number_of}
use Rattle.fsb_trace.specs.Outcome.{response_clock_of, is_deferred}
use Rattle.fsb_trace.specs.Flight.{is_outstanding, reply_clock_of}
use Rattle.fsb_laws.specs.OneMore.{OneMore, cancels}
use Rattle.fsb_laws.specs.Orderly.{Orderly}
use Rattle.fsb_laws.specs.Leaving.{ends_at}
use Rattle.fsb_rules.specs.declared.outstanding.Open.{Open}
use Rattle.fsb_rules.specs.declared.outstanding.Happened.{Happened}
use Rattle.fsb_rules.specs.declared.outstanding.Outstanding.{Outstanding}
use Rattle.fsb_rules.specs.LeastRule.{begun_at}

-- live request i, which begins at p, as it is kept
unfoldable pub open_from : Trace → ℕ → ℕ → Request → Open
open_from h i p r =
    record {
      clock = p;
      did = r.did;
      deferred = if is_deferred h i then response_clock_of h i else None;
      reply = if is_deferred h i then reply_clock_of h i else None;
    }

-- a request that is not Deferred, as it is kept
abbrev pub plain_open : ℕ → ℕ → Open
plain_open p did = record { clock = p; did = did; deferred = None; reply = None }

-- the request that begins at p, where it is decoded
unfoldable pub open_at : Trace → ℕ → Option Open
open_at h p = option_map (open_from h (live_number_of h p) p) (request_at h p)

-- the request that begins at p, where it is outstanding at the end of the history and decoded
unfoldable pub kept_at : Trace → ℕ → Option Open
kept_at h p = if is_outstanding h (length h) p then open_at h p else None

-- those that begin below n, in order
unfoldable pub kept_below : Trace → ℕ → List Open
kept_below h zero = []
kept_below h (suc n) = kept_below h n ++ option_to_list (kept_at h n)

-- the outstanding requests at the end of the history, in order
abbrev pub open_of : Trace → List Open
open_of h = kept_below h (length h)

-- the outstanding requests now, and those when the request of the last clock began
pub record OutstandingStands (kept : Outstanding) (h : Trace) : Type 0 where
  pub current : kept.current.items ≡ open_of h
  pub before : line_back ADS h (length h) 1 ≡ true → kept.before.items ≡ open_of (take (length h - 1) h)

-- the request that begins at p is outstanding at the end of the history, and is of this symmetric agent
unfoldable pub is_outstanding_of : Trace → ℕ → ℕ → Bool
is_outstanding_of h a p = is_outstanding h (length h) p && is_agent (winner_at h p) (Symmetric a)

-- no symmetric agent has more than four requests outstanding that began before the last clock
pub record Few (h : Trace) : Type 0 where
  pub few : (a : ℕ) → count_where (is_outstanding_of h a) (length h - 1) ≤ 4

-- v is h and then the sample x, with which this happens: x cancels that request of h, this one ends at its clock, and
-- that one has its second clock there; both keep the distance of requests and the time of responses
pub record Happens (h : Trace) (x : Sample) (v : Trace) (happened : Happened) : Type 0 where
  pub more : OneMore h x v
  pub orderly : Orderly h
  pub after : Orderly v
  pub clock : happened.clock ≡ length h
  pub cancelled : (q : ℕ) → is_at happened.cancelled q ≡ cancels x (length h) q
  pub ended : (q : ℕ) → is_some_and happened.ended (λ e. nat_eq e.request.clock q) ≡ ends_at v (length h) q
  pub deferred : (q : ℕ) → ends_at v (length h) q ≡ true
      → is_some_and happened.ended (λ e. e.is_deferred) ≡ is_deferred v (live_number_of v q)
  pub begun : happened.begun ≡ begun_at v (length h)

-- kept stands for h, this happens with the sample x, and after it at most sixteen requests are outstanding
pub record Takes (kept : Outstanding) (h : Trace) (x : Sample) (happened : Happened) : Type 0 where
  pub stands : OutstandingStands kept h
  pub happens : Happens h x (h ++ x ∷ []) happened
  pub room : length (open_of (h ++ x ∷ [])) ≤ 16

-- what is left of a request that is kept, at the end of v
abbrev pub left_in : Trace → Open → Option Open
left_in v o = kept_at v o.clock

-- each of these is kept of an outstanding request of h
abbrev pub AreKept : Trace → List Open → Type 0
AreKept h opens = All (λ o. kept_at h o.clock ≡ Some o) opens
