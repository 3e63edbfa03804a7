-- In a timely run the link of a grant that owns its line owns it.
use Rattle.fsb_tied.proofs.Words
use Words.{ℕ, ◌≡◌, Bool, true, false, Option, Some, refl, sym, ◌∙◌, arith, option_map, is_some_and, Request, kind_owns}
use Words.{Trace, request_at, Outcome, is_reply, is_reply_kind, is_owning, snooped_at, gives_line, grant_to}
use Words.{is_owner_request, Claim, Grant, Past, SnoopEnd, Run, past_of, tied-snoop, purpose_of, purpose_at}
use Words.{purpose_granted, own_grant, grant-made}
use Rattle.fsb_tied.proofs.CarryingRuns.{claims-grant}

-- a grant of a request that is no reply owns where the request does
own-owns : (p : Past) (w : Trace) (q t : ℕ) (outcome : Outcome) (claim : Claim) (grant : Grant) (b : Bool)
    → gives_line p w q t outcome ≡ b → Some grant ≡ own_grant p w q t outcome claim
    → grant.owns ≡ is_owner_request (request_at w q)
unfolding own_grant grant_to
own-owns p w q t outcome claim grant b h1 h2 = grind arith

by-request : (s : SnoopEnd) (grant : Grant) (o : Option Request) → s.grant ≡ Some grant → grant.owns ≡ true
    → s.kind ≡ option_map (λ (x : Request). x.kind) o
    → (is_reply o ≡ false → grant.owns ≡ is_owner_request o) → kind_owns (purpose_at s) ≡ true
unfolding purpose_at purpose_of purpose_granted is_some_and is_reply is_reply_kind is_owner_request is_owning
by-request s grant o h1 h2 h3 h4 = grind arith

-- what is asked of a line by a request that is granted it to own owns
pub granted-owns : (r : Run) (t : ℕ) (s : SnoopEnd) (grant : Grant) → snooped_at (past_of r) t ≡ Some s
    → s.grant ≡ Some grant → grant.owns ≡ true → kind_owns (purpose_at s) ≡ true
granted-owns r t s grant e f owns =
    let tied = tied-snoop r t s e in
    by-request s grant (request_at r.trace s.first) f owns tied.1.kind
    (λ plain.
    let c = claims-grant r t s grant s.claim refl e f plain in
    own-owns (past_of r) r.trace s.first t s.outcome c.claim grant
    (gives_line (past_of r) r.trace s.first t s.outcome) refl (sym f ∙ grant-made r t s c.claim e c.claimed plain))
