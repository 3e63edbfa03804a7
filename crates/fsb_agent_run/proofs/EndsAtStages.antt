-- When an agent may see the ends of its requests, by its record after the snoop end of the clock.
use Rattle.fsb_agent_run.proofs.Words
use Words.{ℕ, ◌+◌, ◌<◌, ◌≡◌, ◌≢◌, ◌⊎◌, Bool, true, false, ◌&&◌, ◌||◌, if◌then◌else◌, Some, None, refl, sym, ap, ◌∙◌}
use Words.{inl, inr, arith, Kind, kind_owns, Outcome, Deferred, Replied, Retried, Upgraded, Written, Claim, Grant}
use Words.{Owing, Past, SnoopEnd, holds_line, is_end_at, snooped_at, is_got, is_upgraded, makes_grant, Run, past_of}
use Words.{owed, fits_getting, fits_kind, fits_upgrade, fits_write_back, clock-facts, Reaches, OwnRequest, AgentView}
use Words.{may_arrive, may_end_upgrade, may_give_up, request_numbered, kind_asks, IsSound, EndsFor, is_won_below}
use Words.{owing_by, IsViewAfterSnoop, owed_through}
use Rattle.std.specs.Prelude.{is_some}
use Rattle.fsb_agent_run.proofs.EndFacts.{IsEnded, IsLast, below-says, ended-grant, ended-out, left-last, left-says}
use Rattle.fsb_agent_run.proofs.FewOwed.{within}
use Rattle.fsb_agent_run.proofs.MayCalls.{arrives-may, given-up-may, upgrade-may}
use Rattle.fsb_agent_run.proofs.OutLists.{kept-of}
use Rattle.fsb_agent_run.proofs.OwedApart.{one-first, owed-apart}
use Rattle.fsb_agent_run.proofs.OwedStages.{fills-after, settled-claimed, settled-replied, unclaimed-number}
use Rattle.fsb_agent_run.proofs.OwedSteps.{reaches-less}
use Rattle.fsb_agent_run.proofs.OwnEvents.{IsOwnEnd}
use Rattle.fsb_agent_run.proofs.OwnSnoops.{settled-as}
use Rattle.fsb_agent_run.proofs.WonSteps.{won-known}

-- the agent's own request at its end
record IsOwnAtEnd (p : Past) (a c number : ℕ) (s : SnoopEnd) (v : AgentView) : Type 0 where
  out : OwnRequest
  numbered : out.number ≡ number
  found : request_numbered out.number v.outs ≡ Some out
  own : IsOwnEnd p a c s out

-- its line is that of its claim
line-ended : (r : Run) (a c number : ℕ) (v : AgentView) → Reaches r (c + 1) → (last : IsLast r a c number)
    → (k : IsEnded r a c number v) → k.out.request.line ≡ last.claim.line
line-ended r a c number v h last k =
    let early = reaches-less r c (c + 1) (omega arith) h in
    let same = one-first (past_of r) (owed (past_of r) a c) (owing_by a k.out) last.owing
    (owed-apart r a c early) k.owing
    last.among (k.numbered ∙ sym last.first) in
    ap (λ (o : Owing). o.claim.line) same ∙ ap (λ (x : Claim). x.line) last.owns

own-ended : (r : Run) (a c number : ℕ) (s : SnoopEnd) (v : AgentView) → Reaches r (c + 1)
    → EndsFor (past_of r) a c number s → IsViewAfterSnoop (past_of r) a c v → IsOwnAtEnd (past_of r) a c number s v
own-ended r a c number s v h ends view =
    let p : Past = past_of r in
    let long = h.long in
    let below = below-says p (c + 1) ends.first s ends.snooped in
    let low : below.0 < c + 1 = below.1 in
    let last = left-last r a c number s h ends in
    let k = ended-out r a c number v h last view.requests in
    let line = line-ended r a c number v h last k in
    let ended : is_end_at p c s.first ≡ true = ap (is_end_at p c) below.3 ∙ ends.ends in
    let found = ap (λ q. request_numbered q v.outs) k.numbered ∙ k.found in
    elim (left-says p a c number s ends.left) [
      | inl own ↦
          let claimed = (clock-facts r 0 below.0 h.timely h.bounds (omega arith)).settles.claimed s below.2 in
          let both : Some own.claim ≡ Some last.claim = grind arith in
          let same : own.claim ≡ last.claim = cc in
          record {
            out = k.out;
            numbered = k.numbered;
            found = found;
            own = record {
              at = below.0;
              snooped = record {
                there = below.2;
                settles = settled-claimed a k.out.request.line s own.claim own.claims own.agent
                    (ap (λ (x : Claim). x.line) same ∙ sym line);
                number = λ some. k.numbered ∙ sym own.first;
              };
              ends = ended;
            };
          }
      | inr reply ↦
          let g = ended-grant r a c number s reply.grant v h ends reply.grants view.requests k in
          record {
            out = k.out;
            numbered = k.numbered;
            found = found;
            own = record {
              at = below.0;
              snooped = record {
                there = below.2;
                settles = settled-replied a k.out.request.line s reply.grant reply.unclaimed reply.grants reply.agent
                    g.line;
                number = λ some. unclaimed-number s k.out.number s.first reply.unclaimed some;
              };
              ends = ended;
            };
          }
    ]

-- a reply that grants a line is Replied
replied-so : (r : Run) (c t : ℕ) (s : SnoopEnd) (grant : Grant) (outcome : Outcome) → Reaches r (c + 1) → t < c + 1
    → snooped_at (past_of r) t ≡ Some s → s.claim ≡ None → s.grant ≡ Some grant → s.outcome ≡ Replied
replied-so r c t s grant outcome h low there none made =
    let long = h.long in
    ((clock-facts r grant.line t h.timely h.bounds (omega arith)).settles.replied s grant there none made refl).replied

pub arrives-seen : (r : Run) (a c number : ℕ) (s : SnoopEnd) (grant : Grant) (v : AgentView) → Reaches r (c + 1)
    → EndsFor (past_of r) a c number s → s.grant ≡ Some grant → IsSound v → IsViewAfterSnoop (past_of r) a c v
    → may_arrive v number ≡ true
arrives-seen r a c number s grant v h ends made sound view =
    let k = own-ended r a c number s v h ends view in
    ap (may_arrive v) (sym k.numbered)
    ∙ arrives-may r a c s k.out v h.timely h.bounds (within r c h.long) k.own (ap is_some made) sound k.found
    (fills-after (past_of r) a c v view)

-- an upgrade for which no data moved keeps bytes exactly where it was granted
upgrade-kept : (r : Run) (a c number : ℕ) (s : SnoopEnd) (v : AgentView) → Reaches r (c + 1)
    → EndsFor (past_of r) a c number s → s.outcome ≡ Upgraded → IsViewAfterSnoop (past_of r) a c v
    → (k : IsEnded r a c number v) → is_some k.out.kept ≡ is_some s.grant
unfolding is_upgraded
upgrade-kept r a c number s v h ends upgraded view k =
    let p : Past = past_of r in
    let below = below-says p (c + 1) ends.first s ends.snooped in
    elim (left-says p a c number s ends.left) [
      | inl own ↦
          let number_first : ends.first ≡ k.out.number = sym below.3 ∙ own.first ∙ sym k.numbered in
          let won = won-known p (c + 1) ends.first s ends.snooped in
          kept-of p a (c + 1) (owed_through p a c) v k.out view.requests k.among
          ∙ ap (is_won_below p (c + 1)) (sym number_first) ∙ won ∙ rw upgraded refl
      | inr reply ↦
          let replied = replied-so r c below.0 s reply.grant Replied h below.1 below.2 reply.unclaimed reply.grants in
          absurd (let both = sym replied ∙ upgraded in let no : ⊥ = cc in no)
    ]

pub upgrade-seen : (r : Run) (a c number : ℕ) (s : SnoopEnd) (v : AgentView) → Reaches r (c + 1)
    → EndsFor (past_of r) a c number s → s.outcome ≡ Upgraded → IsSound v → IsViewAfterSnoop (past_of r) a c v
    → may_end_upgrade v number ≡ true
upgrade-seen r a c number s v h ends upgraded sound view =
    let k = own-ended r a c number s v h ends view in
    let last = left-last r a c number s h ends in
    let e = ended-out r a c number v h last view.requests in
    let one : request_numbered number v.outs ≡ Some k.out = grind arith in
    let both : Some e.out ≡ Some k.out = sym e.found ∙ one in
    let same : e.out ≡ k.out = cc in
    let kept = ap (λ (o : OwnRequest). is_some o.kept)
    (sym same) ∙ upgrade-kept r a c number s v h ends upgraded view e in
    ap (may_end_upgrade v) (sym k.numbered)
    ∙ upgrade-may r a c s k.out v h.timely h.bounds (within r c h.long) k.own upgraded sound k.found
    (fills-after (past_of r) a c v view) kept

-- a request that is retried or written back gets no line
ungranted-as : (kind : Kind) (outcome : Outcome) (held : Bool) → (outcome ≡ Retried) ⊎ (outcome ≡ Written)
    → fits_kind kind outcome ≡ true → (makes_grant kind outcome || (is_upgraded outcome && held)) ≡ false
unfolding fits_kind fits_getting fits_upgrade fits_write_back makes_grant is_got is_upgraded
ungranted-as kind outcome held h1 h2 = grind arith

grantless : (r : Run) (a c number : ℕ) (s : SnoopEnd) → Reaches r (c + 1) → EndsFor (past_of r) a c number s
    → (s.outcome ≡ Retried) ⊎ (s.outcome ≡ Written) → s.grant ≡ None
grantless r a c number s h ends so =
    let p : Past = past_of r in
    let below = below-says p (c + 1) ends.first s ends.snooped in
    let low : below.0 < c + 1 = below.1 in
    elim (left-says p a c number s ends.left) [
      | inl own ↦
          let at = reaches-less r (below.0 + 1) (c + 1) (omega arith) h in
          let k = settled-as r below.0 s own.claim at below.2 own.claims in
          let held : Bool = holds_line p own.claim.agent own.claim.line below.0 in
          let grant : Grant = record {
            first = s.first;
            agent = own.claim.agent;
            line = own.claim.line;
            owns = kind_owns (kind_asks k.request.kind);
            shared = k.shared;
          } in
          none (makes_grant k.request.kind s.outcome || (is_upgraded s.outcome && held)) grant
          (ungranted-as k.request.kind s.outcome held so k.fits) k.granted
      | inr reply ↦
          let replied = replied-so r c below.0 s reply.grant Replied h low below.2 reply.unclaimed reply.grants in
          absurd (not-replied replied so)
    ]
  where
    none : (b : Bool) (x : Grant) → b ≡ false → s.grant ≡ (if b then Some x else None) → s.grant ≡ None
    none b x off e = e ∙ ap (λ y. if y then Some x else None) off

    not-replied : s.outcome ≡ Replied → (s.outcome ≡ Retried) ⊎ (s.outcome ≡ Written) → ⊥
    not-replied h1 h2 = grind arith

undeferred : (outcome : Outcome) → (outcome ≡ Retried) ⊎ (outcome ≡ Written) → outcome ≢ Deferred
undeferred outcome h1 = grind arith

pub given-up-seen : (r : Run) (a c number : ℕ) (s : SnoopEnd) (v : AgentView) → Reaches r (c + 1)
    → EndsFor (past_of r) a c number s → (s.outcome ≡ Retried) ⊎ (s.outcome ≡ Written) → IsSound v
    → IsViewAfterSnoop (past_of r) a c v → may_give_up v number ≡ true
given-up-seen r a c number s v h ends so sound view =
    let k = own-ended r a c number s v h ends view in
    ap (may_give_up v) (sym k.numbered)
    ∙ given-up-may r a c s k.out v h.timely h.bounds (within r c h.long) k.own (grantless r a c number s h ends so)
    (undeferred s.outcome so) sound k.found (fills-after (past_of r) a c v view)
