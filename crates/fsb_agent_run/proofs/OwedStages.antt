-- What an agent owes after the snoop ends and ends of a clock, by its record at the stages of the clock.
use Rattle.fsb_agent_run.proofs.Words
use Words.{ℕ, ◌+◌, ◌<◌, ◌≡◌, ◌≢◌, Bool, true, false, ◌&&◌, Some, None, nat_eq, refl, sym, ap, subst, ◌∙◌, arith}
use Words.{and_parts, both_ways, eqb-true, false_from_ne_true, is_some_and, Request, is_modified, Claim, Grant, Past}
use Words.{SnoopEnd, begun_at, holds_line, is_claim_of, is_evicted, is_exclusive, is_rival, snooped_at, is_dirty, Run}
use Words.{past_of, want_of, some-and, is_granted_by, clock-facts, Reaches, replied-outstanding, OwnRequest, AgentView}
use Words.{line_state_by, request_numbered, committed, number_asked, HasBytesOwed, IsViewAfterSnoop, IsViewBeforeSnoop}
use Words.{IsViewOf}
use Rattle.std.specs.Prelude.{is_some}
use Rattle.fsb_agent_run.proofs.AwaitedFills.{HasFillsOf}
use Rattle.fsb_agent_run.proofs.FewOwed.{within}
use Rattle.fsb_agent_run.proofs.OtherSnoops.{served-out}
use Rattle.fsb_agent_run.proofs.OwedSnoopEnds.{other-owed-after, own-owed-after}
use Rattle.fsb_agent_run.proofs.OwnEvents.{IsOwnSnoopEnd, is_settled_for}
use Rattle.fsb_agent_run.proofs.OwnSnoops.{own-out, settled-as}

pub fills-before : (p : Past) (a c : ℕ) (v : AgentView) → IsViewBeforeSnoop p a c v → HasFillsOf p a c c v
fills-before p a c v view = record { fills = view.lines.fills }

pub fills-after : (p : Past) (a c : ℕ) (v : AgentView) → IsViewAfterSnoop p a c v → HasFillsOf p a (c + 1) c v
fills-after p a c v view = record { fills = view.lines.fills }

pub fills-then : (p : Past) (a c : ℕ) (v : AgentView) → IsViewOf p a c v → HasFillsOf p a c c v
fills-then p a c v view = record { fills = view.lines.fills }

-- a line on which an agent is dirty is not dropped
dirty-stays : (r : Run) (a line c : ℕ) → Reaches r (c + 1) → is_dirty (past_of r) a line c ≡ true
    → is_evicted (past_of r) a line c ≡ false
unfolding is_evicted
dirty-stays r a line c h dirty =
    let p : Past = past_of r in
    false_from_ne_true (is_some_and (begun_at p c) (λ claim. nat_eq claim.agent a && is_rival p claim.line line)) (λ e.
    let k = some-and (begun_at p c) (λ (claim : Claim). nat_eq claim.agent a && is_rival p claim.line line) e in
    let parts = and_parts (nat_eq k.0.agent a) (is_rival p k.0.line line) k.2 in
    let clean = (clock-facts r line c h.timely h.bounds (within r c h.long)).begins.dropped k.0 k.1 parts.1 in
    both_ways (is_dirty p a line c) (ap (λ b. is_dirty p b line c) (sym (eqb-true k.0.agent a parts.0)) ∙ clean) dirty)

dirty-held : (p : Past) (a line c : ℕ) → is_dirty p a line c ≡ true
    → (holds_line p a line c ≡ true) × (is_exclusive p a line c ≡ true)
unfolding is_dirty is_exclusive
dirty-held p a line c dirty = grind arith

-- before the snoop end the record has those lines Modified on which its agent is dirty
pub modified-kept : (r : Run) (a c line : ℕ) (v : AgentView) → Reaches r (c + 1) → IsViewBeforeSnoop (past_of r) a c v
    → is_modified (line_state_by v line) ≡ is_dirty (past_of r) a line c
modified-kept r a c line v h view = grind (arith, dirty-held, dirty-stays)

-- the snoop end is that of the agent's request, or of the reply to it
pub settled-claimed : (a line : ℕ) (s : SnoopEnd) (claim : Claim) → s.claim ≡ Some claim → claim.agent ≡ a
    → claim.line ≡ line → is_settled_for a line s ≡ true
unfolding is_settled_for is_claim_of
settled-claimed a line s claim claims mine names = grind arith

pub settled-replied : (a line : ℕ) (s : SnoopEnd) (grant : Grant) → s.claim ≡ None → s.grant ≡ Some grant
    → grant.agent ≡ a → grant.line ≡ line → is_settled_for a line s ≡ true
unfolding is_settled_for is_granted_by is_some_and
settled-replied a line s grant none made mine names = grind arith

pub unclaimed-number : (s : SnoopEnd) (n m : ℕ) → s.claim ≡ None → is_some s.claim ≡ true → n ≡ m
unclaimed-number s n m none some = absurd (let never : false ≡ true = rw none at some in (let no : ⊥ = cc in no))

-- the agent's own request at its snoop end
pub record IsOwnAt (p : Past) (a c number : ℕ) (s : SnoopEnd) (v : AgentView) : Type 0 where
  pub out : OwnRequest
  pub numbered : out.number ≡ number
  pub found : request_numbered out.number v.outs ≡ Some out
  pub own : IsOwnSnoopEnd p a c s out

pub claimed-out : (r : Run) (a c : ℕ) (s : SnoopEnd) (claim : Claim) (v : AgentView) → Reaches r (c + 1)
    → snooped_at (past_of r) c ≡ Some s → s.claim ≡ Some claim → claim.agent ≡ a → IsViewBeforeSnoop (past_of r) a c v
    → IsOwnAt (past_of r) a c s.first s v
claimed-out r a c s claim v h there claims mine view =
    let k = settled-as r c s claim h there claims in
    let o = own-out r a c c s claim v h there claims mine view.requests k in
    let line : claim.line ≡ o.0.request.line = sym k.line ∙ ap (λ (x : Request). x.line) (sym o.4) in
    record {
      out = o.0;
      numbered = o.2;
      found = ap (λ q. request_numbered q v.outs) o.2 ∙ o.3;
      own = record {
        there = there;
        settles = settled-claimed a o.0.request.line s claim claims mine line;
        number = λ some. o.2;
      };
    }

pub replied-out : (r : Run) (a c number : ℕ) (s : SnoopEnd) (grant : Grant) (v : AgentView) → Reaches r (c + 1)
    → snooped_at (past_of r) c ≡ Some s → s.claim ≡ None → s.grant ≡ Some grant → grant.agent ≡ a
    → number_asked (past_of r) a c grant.line ≡ Some number → IsViewBeforeSnoop (past_of r) a c v
    → IsOwnAt (past_of r) a c number s v
replied-out r a c number s grant v h there none made mine asked view =
    let k = served-out r a c c number grant v h
    (replied-outstanding r c s grant h there none made) mine asked view.requests in
    record {
      out = k.out;
      numbered = k.numbered;
      found = ap (λ q. request_numbered q v.outs) k.numbered ∙ k.found;
      own = record {
        there = there;
        settles = settled-replied a k.out.request.line s grant none made mine (sym k.line);
        number = λ some. unclaimed-number s k.out.number s.first none some;
      };
    }

-- what it owes behind it
pub own-owed-then : (r : Run) (a c number : ℕ) (s : SnoopEnd) (v : AgentView) (request : Request) (shared : Bool)
    → Reaches r (c + 1) → IsOwnAt (past_of r) a c number s v → HasBytesOwed (past_of r) a c (c + 1) c v
    → HasBytesOwed (past_of r) a (c + 1) (c + 1) c (committed v number true request shared s.outcome)
own-owed-then r a c number s v request shared h k owed =
    subst (λ q. HasBytesOwed (past_of r) a (c + 1) (c + 1) c (committed v q true request shared s.outcome)) k.numbered
    (own-owed-after r a c s k.out v request shared h.timely h.bounds (within r c h.long) k.own k.found owed)

pub other-claimed-owed : (r : Run) (a c : ℕ) (s : SnoopEnd) (claim : Claim) (request : Request) (shared : Bool)
    (v : AgentView) → Reaches r (c + 1) → a < 4 → snooped_at (past_of r) c ≡ Some s → s.claim ≡ Some claim
    → claim.agent ≢ a → want_of (past_of r) claim.agent s.first ≡ Some request → IsViewBeforeSnoop (past_of r) a c v
    → HasBytesOwed (past_of r) a c (c + 1) c v
    → HasBytesOwed (past_of r) a (c + 1) (c + 1) c (committed v s.first false request shared s.outcome)
other-claimed-owed r a c s claim request shared v h few there claims other want view owed =
    let k = settled-as r c s claim h there claims in
    let wanted = k.want in
    let same : k.request ≡ request = cc in
    let only : (x : Claim) → s.claim ≡ Some x → claim ≡ x = λ x e. (let both = sym claims ∙ e in cc) in
    other-owed-after r a c s.first s v request shared h.timely h.bounds (within r c h.long) few
    (record {
      there = there;
      other = λ x e mine. other (ap (λ (y : Claim). y.agent) (only x e) ∙ mine);
      line = λ x e. ap (λ (q : Request). q.line) (sym same) ∙ k.line ∙ ap (λ (y : Claim). y.line) (only x e);
      kind = λ x e. k.kind ∙ ap (λ (q : Request). Some q.kind) same;
      first = λ x e. refl;
      replied = λ none. absurd (let both = sym none ∙ claims in let no : ⊥ = cc in no);
    })
    (modified-kept r a c request.line v h view) (fills-before (past_of r) a c v view) owed
