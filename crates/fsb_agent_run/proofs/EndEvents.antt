-- The events by which a request of an agent ends.
use Rattle.fsb_agent_run.proofs.Words
use Words.{ℕ, ◌+◌, ◌<◌, ◌≡◌, ◌≢◌, ◌⊎◌, false, ◌&&◌, List, Option, Some, None, is_some, refl, sym, ap, subst, ◌∙◌, inl}
use Words.{inr, arith, option_map_or, Kind, kind_owns, Claim, Grant, SnoopEnd, is_upgraded, makes_grant, is_arrival}
use Words.{Run, past_of, Outcome, Replied, Retried, Upgraded, Written, fits_kind, Reaches, replied-on, OwnRequest}
use Words.{AgentView, arrived_for, ended_for, given_up, is_arrival_by, line_arrived, upgrade_ended, request_numbered}
use Words.{kind_asks, EndsFor, IsComing, is_won_below, IsViewAfterSnoop, IsViewOf, is_dirty_snooped, owed_through}
use Rattle.fsb_encode.specs.declared.request.Kind.TheVariants as kinds
use Rattle.fsb_agent_run.proofs.ArrivedViews.{arrived-view}
use Rattle.fsb_agent_run.proofs.EndFacts.{IsEnded, below-says, ended-comes, ended-out, left-last, left-says}
use Rattle.fsb_agent_run.proofs.EndViews.{left-view}
use Rattle.fsb_agent_run.proofs.HitsMade.{arrival-by}
use Rattle.fsb_agent_run.proofs.OutLists.{kept-of}
use Rattle.fsb_agent_run.proofs.OwedSteps.{reaches-less}
use Rattle.fsb_agent_run.proofs.OwnSnoops.{idle-retried, settled-as, unmade, written-kind}
use Rattle.fsb_agent_run.proofs.WonSteps.{won-known}

-- what ends is one of the requests of the view after the snoop end
pub ended-here : (r : Run) (a c number : ℕ) (s : SnoopEnd) (v : AgentView) → Reaches r (c + 1)
    → EndsFor (past_of r) a c number s
    → IsViewAfterSnoop (past_of r) a c v → IsEnded r a c number v
ended-here r a c number s v h ends view = ended-out r a c number v h (left-last r a c number s h ends) view.requests

-- bytes come
pub line-view : (r : Run) (a c number : ℕ) (s : SnoopEnd) (grant : Grant) (bytes : List ℕ) (v : AgentView)
    → Reaches r (c + 1) → 0 < r.plan.cache → a < 4 → EndsFor (past_of r) a c number s → s.grant ≡ Some grant
    → IsViewAfterSnoop (past_of r) a c v → IsViewOf (past_of r) a (c + 1) (line_arrived v c number bytes)
line-view r a c number s grant bytes v h some few ends makes view =
    let k = ended-here r a c number s v h ends view in
    subst (IsViewOf (past_of r) a (c + 1))
    (sym (ap (λ o. option_map_or (λ out. arrived_for v c out bytes) o v) k.found))
    (arrived-view r a c number s grant bytes v h some few ends makes view k)

-- the request is the agent's own, where the outcome is not that of a reply
own-number : (r : Run) (a c number : ℕ) (s : SnoopEnd) → Reaches r (c + 1) → EndsFor (past_of r) a c number s
    → s.outcome ≢ Replied → (claim : Claim) × (s.claim ≡ Some claim) × (s.first ≡ number)
own-number r a c number s h ends other =
    let p = past_of r in
    let below = below-says p (c + 1) ends.first s ends.snooped in
    let low = below.1 in
    elim (left-says p a c number s ends.left) [
      | inl own ↦ (own.claim, own.claims, own.first)
      | inr reply ↦
          let at : Reaches r (below.0 + 1) = reaches-less r (below.0 + 1) (c + 1) (omega arith) h in
          absurd (other (replied-on r below.0 s reply.grant at below.2 reply.unclaimed reply.grants).replied)
    ]

-- an upgrade ends
kept-cases : (r : Run) (a c number : ℕ) (s : SnoopEnd) (v : AgentView) (out : OwnRequest) → (kept : Option (List ℕ))
    → out.kept ≡ kept → (made : Option Grant) → s.grant ≡ made → is_some kept ≡ is_some made
    → ((bytes : List ℕ) (grant : Grant) → s.grant ≡ Some grant
    → IsViewOf (past_of r) a (c + 1) (arrived_for v c out bytes))
    → (s.grant ≡ None → IsViewOf (past_of r) a (c + 1) (given_up v out.number))
    → IsViewOf (past_of r) a (c + 1) (ended_for v c out)
kept-cases r a c number s v out None e None f same come gone = rw e (gone f)
kept-cases r a c number s v out None e (Some grant) f same come gone = absurd (let no : ⊥ = cc in no)
kept-cases r a c number s v out (Some bytes) e None f same come gone = absurd (let no : ⊥ = cc in no)
kept-cases r a c number s v out (Some bytes) e (Some grant) f same come gone = rw e (come bytes grant f)

never-replied : (outcome : Outcome) → outcome ≡ Upgraded → outcome ≢ Replied
never-replied outcome e f = cc

-- bytes are kept for an upgrade that ends exactly where it was won
pub kept-made : (r : Run) (a c number : ℕ) (s : SnoopEnd) (v : AgentView) → Reaches r (c + 1)
    → EndsFor (past_of r) a c number s → s.outcome ≡ Upgraded → IsViewAfterSnoop (past_of r) a c v
    → (k : IsEnded r a c number v) → is_some k.out.kept ≡ is_some s.grant
unfolding is_upgraded
kept-made r a c number s v h ends upgraded view k =
    let p = past_of r in
    let own = own-number r a c number s h ends (never-replied s.outcome upgraded) in
    let below = below-says p (c + 1) ends.first s ends.snooped in
    let first : ends.first ≡ number = sym below.3 ∙ own.2 in
    kept-of p a (c + 1) (owed_through p a c) v k.out view.requests k.among
    ∙ ap (is_won_below p (c + 1)) (k.numbered ∙ sym first) ∙ won-known p (c + 1) ends.first s ends.snooped
    ∙ ap (λ o. is_upgraded o && is_some s.grant) upgraded

pub upgrade-view : (r : Run) (a c number : ℕ) (s : SnoopEnd) (v : AgentView) → Reaches r (c + 1) → 0 < r.plan.cache
    → a < 4
    → EndsFor (past_of r) a c number s → s.outcome ≡ Upgraded → IsViewAfterSnoop (past_of r) a c v
    → IsViewOf (past_of r) a (c + 1) (upgrade_ended v c number)
upgrade-view r a c number s v h some few ends upgraded view =
    let p = past_of r in
    let k = ended-here r a c number s v h ends view in
    let kept = kept-made r a c number s v h ends upgraded view k in
    subst (IsViewOf p a (c + 1)) (sym (ap (λ o. option_map_or (ended_for v c) o v) k.found))
    (kept-cases r a c number s v k.out k.out.kept refl s.grant refl kept
    (λ bytes grant makes. arrived-view r a c number s grant bytes v h some few ends makes view k)
    (λ none. subst (λ n. IsViewOf p a (c + 1) (given_up v n)) (sym k.numbered)
    (left-view r a c number s v h few ends none view)))

-- a request was retried, or a write-back has ended
written-makes : (kind : Kind) → kind ≡ kinds.WriteBack → makes_grant kind Written ≡ false
unfolding makes_grant
written-makes kind e = rw e refl

pub ungranted : (r : Run) (a c number : ℕ) (s : SnoopEnd) → Reaches r (c + 1) → EndsFor (past_of r) a c number s
    → (s.outcome ≡ Retried) ⊎ (s.outcome ≡ Written) → s.grant ≡ None
unfolding is_upgraded
ungranted r a c number s h ends which =
    let p = past_of r in
    let other : s.outcome ≢ Replied = λ f. elim which [ inl e ↦ cc | inr e ↦ cc ] in
    let own = own-number r a c number s h ends other in
    let below = below-says p (c + 1) ends.first s ends.snooped in
    let low = below.1 in
    let at : Reaches r (below.0 + 1) = reaches-less r (below.0 + 1) (c + 1) (omega arith) h in
    let settled = settled-as r below.0 s own.0 at below.2 own.1 in
    elim which [
      | inl e ↦
          let i = idle-retried settled.request.kind (ap (fits_kind settled.request.kind) (sym e) ∙ settled.fits) in
          unmade r below.0 s own.0 settled Retried e i.makes i.plain
      | inr e ↦
          let kind = written-kind settled.request.kind (ap (fits_kind settled.request.kind) (sym e) ∙ settled.fits) in
          unmade r below.0 s own.0 settled Written e (written-makes settled.request.kind kind) refl
    ]

pub given-up-view : (r : Run) (a c number : ℕ) (s : SnoopEnd) (v : AgentView) → Reaches r (c + 1) → a < 4
    → EndsFor (past_of r) a c number s → (s.outcome ≡ Retried) ⊎ (s.outcome ≡ Written)
    → IsViewAfterSnoop (past_of r) a c v
    → IsViewOf (past_of r) a (c + 1) (given_up v number)
given-up-view r a c number s v h few ends which view =
    left-view r a c number s v h few ends (ungranted r a c number s h ends which) view

-- the line of the request that ends comes
pub comes-to : (r : Run) (a c number : ℕ) (s : SnoopEnd) (grant : Grant) (out : OwnRequest) (v : AgentView)
    → Reaches r (c + 1) → EndsFor (past_of r) a c number s → s.grant ≡ Some grant → IsViewAfterSnoop (past_of r) a c v
    → request_numbered number v.outs ≡ Some out
    → IsComing (past_of r) a c out.request.line (kind_owns (kind_asks out.request.kind))
comes-to r a c number s grant out v h ends makes view found =
    let k = ended-here r a c number s v h ends view in
    let one = k.found in
    let same : k.out ≡ out = cc in
    subst (λ (o : OwnRequest). IsComing (past_of r) a c o.request.line (kind_owns (kind_asks o.request.kind))) same
    (ended-comes r a c number s grant v h ends makes view.requests k)

-- and what it completes is what the run says
pub arrives-by : (r : Run) (a c number : ℕ) (s : SnoopEnd) (grant : Grant) (out : OwnRequest) (v : AgentView)
    → Reaches r (c + 1) → EndsFor (past_of r) a c number s → s.grant ≡ Some grant → IsViewAfterSnoop (past_of r) a c v
    → request_numbered number v.outs ≡ Some out → is_arrival_by v c out ≡ is_arrival (past_of r) a c
arrives-by r a c number s grant out v h ends makes view found =
    arrival-by (past_of r) a c (λ line. is_dirty_snooped (past_of r) a line c) v out view.agent view.placed.item
    view.lines
    (comes-to r a c number s grant out v h ends makes view found)
