-- The snoop end of each clock settles in order.
use Rattle.fsb_tied.proofs.Words
use Words.{ℕ, ◌<◌, ◌≡◌, ◌≢◌, Bool, if◌then◌else◌, Some, None, length, refl, sym, ap, subst, ◌∙◌, arith, Kind, Purpose}
use Words.{kind_owns, Outcome, Granted, Handed, Retried, Deferred, Written, Upgraded, begun_at, holds_line, is_owning}
use Words.{snooped_at, is_shared_at, Claim, Grant, SnoopEnd, Run, past_of, Timely, begun-told, purpose_of, IsSettledOn}
use Words.{SettlesInOrder, deferral_below, KeepsBounds}
use Rattle.fsb_tied.proofs.Deferrals.{given-free}
use Rattle.fsb_tied.proofs.FewAgents.{few-agents}
use Rattle.fsb_tied.proofs.RepliedLines.{replied-on}
use Rattle.fsb_tied.proofs.SnoopClaims.{IsClaimed, IsSnooped, claimed-at, snooped-in}
use Rattle.fsb_tied.proofs.SnoopOpen.{oldest-at-snoop-end, open-at-snoop-end, unevicted-at-snoop-end}
use Rattle.fsb_tied.proofs.SnoopOutcomes.{kind-fits, snoop-claimed, snoop-clean, snoop-granted, snoop-handed}
use Rattle.fsb_tied.proofs.SnoopOutcomes.{snoop-owned, snoop-seen}
use Rattle.fsb_tied.proofs.SnoopTold.{held-whole}

-- what owns is asked for as such
owns-by : (kind : Kind) (purpose : Purpose) → purpose_of kind ≡ Some purpose → is_owning kind ≡ kind_owns purpose
unfolding purpose_of is_owning
owns-by kind purpose h1 = grind arith

-- with such an outcome the line has no deferral
free-with : (r : Run) (n i : ℕ) (s : SnoopEnd) (claim : Claim) (outcome : Outcome) → Timely r → KeepsBounds r.plan
    → IsSnooped r n i s → IsClaimed r s claim → outcome ≢ Handed → outcome ≢ Retried → outcome ≢ Written
    → s.outcome ≡ outcome → deferral_below (past_of r) claim.line n ≡ None
free-with r n i s claim outcome h bounds k c handed retried written e = grind (arith, given-free)

settled-on : (r : Run) (n : ℕ) (s : SnoopEnd) (claim : Claim) → Timely r → KeepsBounds r.plan → n < length r.trace
    → snooped_at (past_of r) n ≡ Some s → s.claim ≡ Some claim → IsSettledOn (past_of r) claim.line n s
settled-on r n s claim h bounds l there claimed =
    let line = claim.line in
    let k = snooped-in r n s there in
    let i : ℕ = k.0 in
    let snooped : IsSnooped r n i s = k.1 in
    let c = claimed-at r n i s claim h bounds snooped claimed in
    let asked = open-at-snoop-end r n s claim h bounds l there claimed in
    let same : asked.kind ≡ c.request.kind = (let e = sym asked.known ∙ c.kind in cc) in
    let known = ap purpose_of (sym same) ∙ asked.asks in
    record {
      fits = record {
        agent = claim.agent;
        kind = c.request.kind;
        won = holds_line (past_of r) claim.agent line n;
        owns = is_owning c.request.kind;
        shared = is_shared_at r.trace n;
        claimed = snoop-claimed r n i s claim snooped c;
        known = c.kind;
        fits = λ own. kind-fits r n i s claim h snooped c own;
        granted = snoop-granted r n i s claim snooped c;
        owned = λ e. snoop-owned r n i s claim h snooped c e;
      };
      purpose = asked.purpose;
      known = known;
      opened = asked.opened;
      uncancelled = asked.uncancelled;
      oldest = λ b request e. oldest-at-snoop-end r n s h l there b line request e;
      unevicted = unevicted-at-snoop-end r n s claim h bounds l there claimed;
      won = refl;
      owns = owns-by c.request.kind asked.purpose known;
      clean = λ plain b other. snoop-clean r n i s claim h snooped c (few-agents r line n l) plain b other;
      seen = λ e. snoop-seen r n i s claim h snooped c (λ f. let wrong : ⊥ = (let g = sym e ∙ f in cc) in wrong)
          ∙ held-whole r n claim.agent line h l;
      seen_dirty = λ e. snoop-handed r n i s claim snooped c e;
      kept = λ e. free-with r n i s claim Granted h bounds snooped c
          (λ f. let wrong : ⊥ = cc in wrong) (λ f. let wrong : ⊥ = cc in wrong) (λ f. let wrong : ⊥ = cc in wrong) e;
      kept_later = λ e. free-with r n i s claim Deferred h bounds snooped c
          (λ f. let wrong : ⊥ = cc in wrong) (λ f. let wrong : ⊥ = cc in wrong) (λ f. let wrong : ⊥ = cc in wrong) e;
      kept_won = λ e. free-with r n i s claim Upgraded h bounds snooped c
          (λ f. let wrong : ⊥ = cc in wrong) (λ f. let wrong : ⊥ = cc in wrong) (λ f. let wrong : ⊥ = cc in wrong) e;
    }

-- the claim of a snoop end is that of the request that began
claim-begun : (r : Run) (n : ℕ) (s : SnoopEnd) → snooped_at (past_of r) n ≡ Some s
    → s.claim ≡ begun_at (past_of r) s.first
claim-begun r n s there = grind (arith, snooped-in, begun-told)

granted-line : (b : Bool) (made grant : Grant) → (if b then Some made else None) ≡ Some grant → grant.line ≡ made.line
granted-line b made grant h1 = grind arith

pub settles-in-order : (r : Run) (line n : ℕ) → Timely r → KeepsBounds r.plan → n < length r.trace
    → SettlesInOrder (past_of r) line n
settles-in-order r line n h bounds l = record {
  claimed = λ s there. claim-begun r n s there;
  settled = λ s claim there claimed names.
      subst (λ x. IsSettledOn (past_of r) x n s) names (settled-on r n s claim h bounds l there claimed);
  replied = λ s grant there none grants names. replied-on r line n s grant h bounds there none grants names;
  elsewhere = λ s claim grant there claimed grants.
      let k = snooped-in r n s there in
      let c = claimed-at r n k.0 s claim h bounds k.1 claimed in
      granted-line _ _ grant (sym (snoop-granted r n k.0 s claim k.1 c) ∙ grants);
  few_agents = few-agents r line n l;
}
