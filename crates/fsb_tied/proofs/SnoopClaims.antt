-- The request whose snoop end this is.
use Rattle.fsb_tied.proofs.Words
use Words.{ℕ, suc, ◌+◌, ◌<◌, ◌≤◌, ◌≡◌, true, false, Some, length, sym, ap, ◌∙◌, arith, Request, is_lawful_request, ADS}
use Words.{line_at, option_map, request_at, is_reply_kind, request_at-agree, snoop_end_of-clock, snooped_at, claim_at}
use Words.{Claim, SnoopEnd, Run, past_of, IsSnoopOf, Timely, tied-snoop, KeepsBounds, WantsLawfully, begun-decoded}
use Words.{begun_of, live-ads, run_to-agrees, wants-lawfully}
use Rattle.fsb_tied.proofs.Beginnings.{begun-from, begun-shown, begun-want}
use Rattle.fsb_tied.proofs.SnoopTold.{line-whole}

-- the request that begins at q: the winner would begin it, it is decoded, and it is lawful
pub record IsShown (r : Run) (q : ℕ) : Type 0 where
  pub request : Request
  pub begun : begun_of r q ≡ Some request
  pub decoded : request_at r.trace q ≡ Some request
  pub lawful : is_lawful_request request ≡ true

pub shown-at : (r : Run) (q : ℕ) → Timely r → WantsLawfully r → suc q < length r.trace → line_at ADS r.trace q ≡ true
    → IsShown r q
shown-at r q h wants l ads = grind (arith, begun-decoded, line-whole, run_to-agrees, request_at-agree)

-- live request i, whose snoop end is at n: its first clock has ADS#, and is four clocks before at least
pub record IsSnooped (r : Run) (n i : ℕ) (s : SnoopEnd) : Type 0 where
  pub tied : IsSnoopOf r i n s
  pub above : s.first + 4 ≤ n
  pub within : n < length r.trace
  pub ads : line_at ADS r.trace s.first ≡ true

pub snooped-by : (r : Run) (n i : ℕ) (s : SnoopEnd) → IsSnoopOf r i n s → IsSnooped r n i s
snooped-by r n i s tied =
    let k = snoop_end_of-clock r.trace i n tied.reached in
    let same : k.clock ≡ s.first = (let e = sym k.is_clock ∙ tied.first in cc) in
    let above = k.above in
    record { tied = tied; above = omega arith; within = k.within; ads = live-ads r.trace i s.first tied.first }

-- each snoop end of the run is that of such a request
pub snooped-in : (r : Run) (n : ℕ) (s : SnoopEnd) → snooped_at (past_of r) n ≡ Some s → (i : ℕ) × IsSnooped r n i s
snooped-in r n s there = let t = tied-snoop r n s there in (t.0, snooped-by r n t.0 s t.1)

-- the request of a snoop end is shown
pub asked-at : (r : Run) (n i : ℕ) (s : SnoopEnd) → Timely r → WantsLawfully r → IsSnooped r n i s → IsShown r s.first
asked-at r n i s h wants k = grind (arith, shown-at)

pub kind-shown : (r : Run) (n i : ℕ) (s : SnoopEnd) (request : Request) → IsSnooped r n i s
    → request_at r.trace s.first ≡ Some request → s.kind ≡ Some request.kind
kind-shown r n i s request k e = k.tied.kind ∙ ap (option_map (λ x. x.kind)) e

-- the snoop end of a symmetric agent's request with this claim: the request is decoded, lawful and no reply, and is for
-- the claim's line
pub record IsClaimed (r : Run) (s : SnoopEnd) (claim : Claim) : Type 0 where
  pub request : Request
  pub decoded : request_at r.trace s.first ≡ Some request
  pub kind : s.kind ≡ Some request.kind
  pub lawful : is_lawful_request request ≡ true
  pub plain : is_reply_kind request.kind ≡ false
  pub names : request.line ≡ claim.line
  pub first : claim.first ≡ s.first
  pub claims : claim_at r.trace s.first ≡ Some claim

pub claimed-at : (r : Run) (n i : ℕ) (s : SnoopEnd) (claim : Claim) → Timely r → KeepsBounds r.plan → IsSnooped r n i s
    → s.claim ≡ Some claim → IsClaimed r s claim
claimed-at r n i s claim h bounds k e =
    let q = s.first in
    let above = k.above in
    let within = k.within in
    let claims : claim_at r.trace q ≡ Some claim = sym k.tied.claim ∙ e in
    let want = begun-want r q claim h bounds (omega arith) (begun-from r q claim (omega arith) k.ads claims) in
    let decoded = begun-shown r q claim h bounds (omega arith) want in
    record {
      request = want.request;
      decoded = decoded;
      kind = kind-shown r n i s want.request k decoded;
      lawful = (wants-lawfully r bounds).lawful q want.request want.begins;
      plain = want.no_reply;
      names = want.line;
      first = want.first;
      claims = claims;
    }
