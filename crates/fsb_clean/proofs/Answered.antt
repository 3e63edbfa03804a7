-- A live request that responded: its snoop end, and that what is told of it is what was settled there; and its claim.
use Rattle.std.proofs.Common.{ℕ, zero, suc, ◌+◌, ◌/◌, ◌<◌, ◌≤◌, ◌≡◌, false, [], ◌∷◌, Some, length, slice_get, refl, sym}
use Rattle.std.proofs.Common.{ap, ◌∙◌, arith}
use Rattle.std.proofs.lemmas.Option.{same_Some}
use Rattle.std.specs.Option.{option_and_then}
use Rattle.fsb_count.proofs.Interface.{nth_where-found}
use Rattle.fsb_encode.specs.declared.request.Request.{Request}
use Rattle.fsb_signal.specs.declared.sample.Sample.{Sample}
use Rattle.fsb_trace.specs.At.{Trace, request_at, responds_at}
use Rattle.fsb_trace.specs.declared.who.Who.TheVariants.{Symmetric}
use Rattle.fsb_trace.specs.Outcome.{outcome_of, response_clock_of}
use Rattle.fsb_trace.specs.Requests.{is_reply, is_reply_kind, line_of, live_request_of}
use Rattle.fsb_trace.specs.Winner.{winner_at}
use Rattle.fsb_trace.proofs.Interface.{AgreeTo-sym, outcome_of-stays, response_clock_of-stays, snoop_end_of-stays}
use Rattle.fsb_trace.proofs.Interface.{winner_at-agree}
use Rattle.fsb_timely.specs.Moments.{agent_at, claim_at, live_claim_of}
use Rattle.fsb_timely.specs.Past.{Claim, SnoopEnd}
use Rattle.fsb_timely.specs.Runs.{Run, past_of, past_to, run_to}
use Rattle.fsb_timely.specs.Starts.{request_begun, would_begin}
use Rattle.fsb_timely.specs.Timely.{Timely}
use Rattle.fsb_timely.proofs.Interface.{snoop-tied}
use Rattle.fsb_lawful.specs.Beginning.{KeepsBounds}
use Rattle.fsb_lawful.proofs.Interface.{begun-winner, run_to-agrees, told-as-settled, turned-at, wanted-by}
use Rattle.fsb_lawful.proofs.Interface.{wants-lawfully}
use Rattle.fsb_tied.proofs.Interface.{IsSnooped, asked-at, claimed-at, live-request, snooped-by}

-- live request i responded at t: its snoop end, and what is told of it
pub record Answered (r : Run) (i t : ℕ) : Type 0 where
  pub snoop : ℕ
  pub end : SnoopEnd
  pub snooped : IsSnooped r snoop i end
  pub early : snoop + 2 ≤ t
  pub told : outcome_of r.trace i ≡ Some end.outcome

pub response-below : (w : Trace) (i t : ℕ) → response_clock_of w i ≡ Some t → t < length w
unfolding response_clock_of
response-below w i t e = (nth_where-found (responds_at w) i (length w) t e).0

pub answered-run : (r : Run) (i t : ℕ) → Timely r → response_clock_of r.trace i ≡ Some t → Answered r i t
answered-run r i t h e =
    let w = r.trace in
    let v = (run_to r t).trace in
    let l = response-below w i t e in
    let agree = run_to-agrees r t l in
    let back = AgreeTo-sym (t + 1) w v agree in
    let here = response_clock_of-stays (t + 1) w v i t agree (omega arith) e in
    let told = told-as-settled r t i t h l here in
    let early : told.snoop + 2 ≤ t = told.before in
    let turned = turned-at r t i told.snoop h l told.is_snoop in
    let reached = snoop_end_of-stays (t + 1) v w i told.snoop back (omega arith) told.is_snoop in
    let tied = snoop-tied r i told.snoop reached in
    let same : turned.end ≡ tied.0 = same_Some _ _ (sym turned.there ∙ tied.1.there) in
    let stays = outcome_of-stays (t + 1) v w i told.snoop t back (omega arith) told.is_snoop (omega arith) here in
    record {
      snoop = told.snoop;
      end = tied.0;
      snooped = snooped-by r told.snoop i tied.0 tied.1;
      early = early;
      told = sym stays ∙ told.outcome ∙ turned.outcome ∙ ap (λ s. Some s.outcome) same;
    }

-- the request of a live request with a claim: it is for the claim's line
pub record Claimed (r : Run) (j : ℕ) (claim : Claim) : Type 0 where
  pub request : Request
  pub asked : live_request_of r.trace j ≡ Some request
  pub names : request.line ≡ claim.line
  pub plain : is_reply_kind request.kind ≡ false

pub claimed-live : (r : Run) (j n : ℕ) (s : SnoopEnd) (claim : Claim) → Timely r → KeepsBounds r.plan
    → IsSnooped r n j s → s.claim ≡ Some claim → Claimed r j claim
claimed-live r j n s claim h bounds k e =
    let c = claimed-at r n j s claim h bounds k e in
    record {
      request = c.request;
      asked = live-request r.trace j s.first k.tied.first ∙ c.decoded;
      names = c.names;
      plain = c.plain;
    }

pub claim-there : (r : Run) (j n : ℕ) (s : SnoopEnd) → IsSnooped r n j s → live_claim_of r.trace j ≡ s.claim
unfolding live_claim_of
claim-there r j n s k = ap (option_and_then (claim_at r.trace)) k.tied.first ∙ sym k.tied.claim

sample-there : (w : Trace) (q : ℕ) → q < length w → (x : Sample) × (slice_get w q ≡ Some x)
sample-there [] q l = absurd (omega arith)
sample-there (x ∷ w) zero l = (x, refl)
sample-there (x ∷ w) (suc q) l = sample-there w q (omega arith)

claim-of-winner : (w : Trace) (q a : ℕ) → winner_at w q ≡ Some (Symmetric a) → q < length w
    → (claim : Claim) × (claim_at w q ≡ Some claim)
unfolding claim_at agent_at line_of
claim-of-winner w q a e l =
    let x = sample-there w q l in
    (record { first = q; agent = a; line = x.0.addr.bits / 4 }, rw (e, claim_at, agent_at, line_of, x.1) refl)

-- a live request that is no reply has a claim
pub plain-claimed : (r : Run) (j n : ℕ) (s : SnoopEnd) → Timely r → KeepsBounds r.plan → IsSnooped r n j s
    → is_reply (request_at r.trace s.first) ≡ false → (claim : Claim) × (s.claim ≡ Some claim)
unfolding request_begun
plain-claimed r j n s h bounds k plain =
    let q = s.first in
    let above = k.above in
    let within = k.within in
    let shown = asked-at r n j s h (wants-lawfully r bounds) k in
    let p = past_to (past_of r) q in
    let who = begun-winner (would_begin (run_to r q) p q) (winner_at (run_to r q).trace q) shown.request shown.begun in
    let want = wanted-by r q who.0 shown.request who.2 (ap is_reply (sym shown.decoded) ∙ plain) in
    let agree = run_to-agrees r q (omega arith) in
    let winner = winner_at-agree (q + 1) r.trace (run_to r q).trace q agree (omega arith) ∙ who.1 ∙ ap Some want.1 in
    let c = claim-of-winner r.trace q want.0 winner (omega arith) in
    (c.0, k.tied.claim ∙ c.1)
