-- What is kept of a live request.
use Rattle.std.specs.Prelude.{◌≡◌, ℕ, false, Some}
use Rattle.fsb_signal.specs.declared.lines.TheConstants.Lines.{HITM, DEFER}
use Rattle.fsb_signal.specs.Samples.{line_at}
use Rattle.fsb_encode.specs.declared.request.Kind.TheVariants.{Reply}
use Rattle.fsb_encode.specs.declared.request.Request.{Request}
use Rattle.fsb_trace.specs.At.{Trace, request_at}
use Rattle.fsb_trace.specs.Requests.{live_clock_of}
use Rattle.fsb_trace.specs.Snoop.{snoop_end_of}
use Rattle.fsb_rules.specs.declared.live.LiveRequest.{LiveRequest}
use Rattle.fsb_rules.specs.declared.live.Snooped.{Snooped}

-- what stands in a place of a list that none is kept in
abbrev pub no_request : LiveRequest
no_request = record { clock = 0; kind = Reply; did = 0; den = false }

-- the request that begins at q
unfoldable pub live_from : ℕ → Request → LiveRequest
live_from q r = record { clock = q; kind = r.kind; did = r.did; den = r.den }

-- a is what is kept of live request i, which is decoded
pub record IsLive (h : Trace) (i : ℕ) (a : LiveRequest) : Type 0 where
  pub request : Request
  pub clock : live_clock_of h i ≡ Some a.clock
  pub decoded : request_at h a.clock ≡ Some request
  pub same : a ≡ live_from a.clock request

-- w is what is kept of live request i, which has its snoop end
pub record IsSnooped (h : Trace) (i : ℕ) (w : Snooped) : Type 0 where
  pub live : IsLive h i w.request
  pub end : snoop_end_of h i ≡ Some w.clock
  pub hitm : w.hitm ≡ line_at HITM h w.clock
  pub defer : w.defer ≡ line_at DEFER h w.clock
