-- The samples that a checker was fed.
use Rattle.std.specs.Prelude.{◌≡◌, ◌<◌, ℕ, ◌+◌, ◌-◌, true, false, if◌then◌else◌, Option, Some, None, [], ◌∷◌, ◌++◌, length}
use Rattle.std.specs.Option.{option_map}
use Rattle.fsb_signal.specs.declared.lines.TheConstants.Lines.{ADS}
use Rattle.fsb_signal.specs.declared.marks.Marks.{Marks}
use Rattle.fsb_signal.specs.declared.sample.Sample.{Sample}
use Rattle.fsb_signal.specs.Samples.{line_at}
use Rattle.fsb_encode.specs.declared.request.Request.{Request}
use Rattle.fsb_trace.specs.declared.who.Who.{Who}
use Rattle.fsb_trace.specs.At.{Trace, line_back, request_at}
use Rattle.fsb_trace.specs.Winner.{winner_at}
use Rattle.fsb_trace.specs.Requests.{live_request_of, is_reply}
use Rattle.fsb_trace.specs.Outcome.{is_deferred}
use Rattle.fsb_trace.specs.Rules.{is_identified}
use Rattle.fsb_trace.specs.Verdict.{verdict}
use Rattle.fsb_arbiter.specs.Arbiter.{Stands as ArbiterStands}
use Rattle.fsb_laws.specs.Orderly.{Orderly}
use Rattle.fsb_rules.specs.declared.broken.Broken.{Broken}
use Rattle.fsb_rules.specs.declared.checker.Checker.{Checker}
use Rattle.fsb_rules.specs.declared.live.LiveRequest.{LiveRequest}
use Rattle.fsb_rules.specs.declared.outstanding.Outstanding.{Outstanding}
use Rattle.fsb_rules.specs.LeastRule.{begun_at}
use Rattle.fsb_rules.specs.Recent.{RecentStands}
use Rattle.fsb_rules.specs.InFlight.{InFlightStands}
use Rattle.fsb_rules.specs.Outstanding.{Few, OutstandingStands}

-- a verdict as the checker tells it
unfoldable pub as_broken : Option (ℕ × ℕ) → Option Broken
as_broken found = option_map {U = Broken} (λ p. record { clock = p.0; rule = p.1 }) found

-- each request of the trace but one that begins at its last clock is decoded
pub record Decoded (h : Trace) : Type 0 where
  pub there : (q : ℕ) → line_at ADS h q ≡ true → q + 1 < length h → (r : Request) × (request_at h q ≡ Some r)

-- each request is a reply of the priority agent, or has an ID of the symmetric agent that began it
pub record Identified (h : Trace) : Type 0 where
  pub own : (q : ℕ) (r : Request) → line_at ADS h q ≡ true → request_at h q ≡ Some r → is_identified (winner_at h q) (Some r) ≡ true

-- no reply is Deferred
pub record Deferrable (h : Trace) : Type 0 where
  pub no_reply : (i : ℕ) → is_deferred h i ≡ true → is_reply (live_request_of h i) ≡ false

-- the agent that began a request at the last clock
unfoldable pub beginner_of : Trace → Option Who
beginner_of h = if line_back ADS h (length h) 1 then winner_at h (length h - 1) else None

-- the history has what one has that breaks no rule, as far as it is needed, and what is kept is what it leaves
pub record Follows (checker : Checker) (h : Trace) : Type 0 where
  pub orderly : Orderly h
  pub decoded : Decoded h
  pub identified : Identified h
  pub deferrable : Deferrable h
  pub few : Few h
  pub clock : checker.clock ≡ length h
  pub recent : RecentStands checker.recent h
  pub arbiter : ArbiterStands checker.arbiter h
  pub beginner : checker.beginner ≡ beginner_of h
  pub queue : InFlightStands checker.queue h
  pub outstanding : OutstandingStands checker.outstanding h

-- the checker was made with these marks and fed these samples: it found their verdict, and as long as there is none it
-- follows them
pub record Stands (checker : Checker) (marks : Marks) (h : Trace) : Type 0 where
  pub marked : checker.marks ≡ marks
  pub found : checker.found ≡ as_broken (verdict marks h)
  pub follows : checker.found ≡ None → Follows checker h

-- the sample comes at clock n, after a history that the checker follows; the request is the one whose second clock n is
pub record Comes (checker : Checker) (n : ℕ) (sample : Sample) (request : Option LiveRequest) (h : Trace) : Type 0 where
  pub follows : Follows checker h
  pub clock : n ≡ length h
  pub begun : request ≡ begun_at (h ++ sample ∷ []) (length h)

-- a is the request of the last clock of h, decoded with the sample x, and kept stands for h; and both histories have what
-- the rule of outstanding requests rests on
pub record WasBegun (kept : Outstanding) (h : Trace) (x : Sample) (a : LiveRequest) : Type 0 where
  pub stands : OutstandingStands kept h
  pub begun : begun_at (h ++ x ∷ []) (length h) ≡ Some a
  pub before : Orderly h
  pub after : Orderly (h ++ x ∷ [])
  pub decoded : Decoded (h ++ x ∷ [])
  pub identified : Identified (h ++ x ∷ [])
  pub deferrable : Deferrable h
