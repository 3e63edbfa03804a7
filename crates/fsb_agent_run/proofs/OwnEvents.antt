-- The snoop ends and ends of a run that an agent sees as those of its own requests, or as those of others.
use Rattle.fsb_agent_run.proofs.Words
use Words.{Request, Claim, Grant, Past, SnoopEnd, is_claim_of, is_end_at, snooped_at, is_granted_by, OwnRequest}
use Rattle.std.specs.Prelude.{◌≡◌, ◌≢◌, ℕ, Bool, true, Some, None, is_some}

-- the snoop end is that of agent a's request for the line, or of the reply that grants a the line
unfoldable pub is_settled_for : ℕ → ℕ → SnoopEnd → Bool
is_settled_for a line s = elim s.claim [ Some claim ↦ is_claim_of a line claim | None ↦ is_granted_by s a line ]

-- the snoop end of t is that of agent a's own request: of this one, or of the reply that serves it
pub record IsOwnSnoopEnd (p : Past) (a t : ℕ) (s : SnoopEnd) (out : OwnRequest) : Type 0 where
  pub there : snooped_at p t ≡ Some s
  pub settles : is_settled_for a out.request.line s ≡ true
  pub number : is_some s.claim ≡ true → out.number ≡ s.first

-- the snoop end of t is that of another agent's request, and of this one; or it is that of a reply to another agent
pub record IsOtherSnoopEnd (p : Past) (a t : ℕ) (s : SnoopEnd) (number : ℕ) (request : Request) : Type 0 where
  pub there : snooped_at p t ≡ Some s
  pub other : (claim : Claim) → s.claim ≡ Some claim → claim.agent ≢ a
  pub line : (claim : Claim) → s.claim ≡ Some claim → request.line ≡ claim.line
  pub kind : (claim : Claim) → s.claim ≡ Some claim → s.kind ≡ Some request.kind
  pub first : (claim : Claim) → s.claim ≡ Some claim → number ≡ s.first
  pub replied : s.claim ≡ None → (grant : Grant) × (s.grant ≡ Some grant) × (grant.agent ≢ a)

-- agent a's own request has its end at c, or the reply that serves it has, after this snoop end
pub record IsOwnEnd (p : Past) (a c : ℕ) (s : SnoopEnd) (out : OwnRequest) : Type 0 where
  pub at : ℕ
  pub snooped : IsOwnSnoopEnd p a at s out
  pub ends : is_end_at p c s.first ≡ true
