-- What is kept of a live request tells of it.
use Rattle.std.proofs.Common.{ℕ, ◌+◌, ◌<◌, ◌≡◌, Some, length, refl, ap}
use Rattle.std.proofs.Common.{inl, inr}
use Rattle.std.proofs.lemmas.Bool.{cases_lt}
use Rattle.fsb_encode.specs.declared.request.Request.{Request}
use Rattle.fsb_trace.specs.At.{Trace, request_at}
use Rattle.fsb_trace.specs.Requests.{live_request_of}
use Rattle.fsb_laws.proofs.Interface.{request_at-last}
use Rattle.fsb_rules.specs.declared.live.LiveRequest.{LiveRequest}
use Rattle.fsb_rules.specs.Live.{live_from, IsLive}

-- a request that is decoded has its second clock in the history
early_cases : (h : Trace) (q : ℕ) (r : Request) → request_at h q ≡ Some r → q + 1 < length h
early_cases h q r e =
    elim (cases_lt (q + 1) (length h)) [
      | inl l ↦ l
      | inr l ↦ let none = request_at-last h q l in absurd (let no : ⊥ = cc in no)
    ]

module _ {h : Trace} {i : ℕ} {a : LiveRequest} (l : IsLive h i a) where
  pub live-early : a.clock + 1 < length h
  live-early = early_cases h a.clock l.request l.decoded

  pub live-request : live_request_of h i ≡ Some l.request
  unfolding live_request_of
  live-request = rw (l.clock, l.decoded) refl

  pub live-did : a.did ≡ l.request.did
  unfolding live_from
  live-did = ap (λ b. b.did) l.same
