-- What a reply serves is the request that its agent has outstanding on the line.
use Rattle.fsb_agent_run.proofs.Words
use Words.{ℕ, ◌+◌, ◌≡◌, Some, sym, ap, ◌∙◌, arith, subst, Claim, Grant, Owing, past_of, Run, owed, begun-want, Reaches}
use Words.{ServesOutstanding, number_asked}
use Rattle.fsb_agent_run.proofs.Among.{Among}
use Rattle.fsb_agent_run.proofs.EndFacts.{asked-there}
use Rattle.fsb_agent_run.proofs.OtherSnoops.{asked-number}
use Rattle.fsb_agent_run.proofs.OwedApart.{one-line, owed-apart}
use Rattle.fsb_agent_run.proofs.OwedSteps.{owed-there, reaches-less}

pub served-number : (r : Run) (c : ℕ) (grant : Grant) → Reaches r (c + 1) → (k : ServesOutstanding r c grant)
    → number_asked (past_of r) grant.agent c grant.line ≡ Some k.end.first
served-number r c grant h k =
    let p = past_of r in
    let a : ℕ = grant.agent in
    let long = h.long in
    let q : ℕ = k.end.first in
    let below = k.early in
    let early : Reaches r c = reaches-less r c (c + 1) (omega arith) h in
    let want = begun-want r q k.claim h.timely h.bounds (omega arith) k.begun in
    let owing = owed-there r c q k.claim early k.begun k.early k.out in
    let among : Among owing.0 (owed p a c) = subst (λ b. Among owing.0 (owed p b c)) k.agent owing.1 in
    let line : owing.0.claim.line ≡ grant.line = ap (λ (x : Claim). x.line) owing.2 ∙ k.line in
    let asked = asked-there p a c grant.line owing.0 among line in
    let other = asked-number p a c grant.line asked.0 asked.1 in
    let same : other.0 ≡ owing.0 = one-line p (owed p a c) other.0 owing.0 (owed-apart r a c early) other.1 among
    (other.2 ∙ sym line) in
    let first : owing.0.claim.first ≡ q = ap (λ (x : Claim). x.first) owing.2 ∙ want.first in
    asked.1 ∙ ap (λ x. Some x) (sym other.3 ∙ ap (λ (o : Owing). o.claim.first) same ∙ first)
