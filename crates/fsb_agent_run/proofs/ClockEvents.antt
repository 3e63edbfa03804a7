-- The events of an agent at a clock lead from its view as the clock finds it to that of the next clock.
use Rattle.fsb_agent_run.proofs.Words
use Words.{ℕ, zero, suc, ◌+◌, ◌<◌, ◌≡◌, ◌⊎◌, Bool, true, false, List, [], ◌∷◌, Option, Some, None, fold, nat_eq, refl}
use Words.{sym, ap, subst, ◌∙◌, inl, inr, arith, append-nil, if◌then◌else◌, flat_map, list_any, option_map_or}
use Words.{cases_Bool, eq-eqb, eqb-true, both_ways, fold-append, is_some_and, Request, Claim, Grant, Past, SnoopEnd}
use Words.{begun_at, ended_requests, is_end_at, snooped_at, Run, past_of, items_of, owed, want_of, is_deferral, Outcome}
use Words.{Granted, Handed, Retried, Deferred, Written, Replied, Failed, Upgraded, cancelled_in, snoop_end_below}
use Words.{fits_kind, begun-want, one-at-end, Reaches, replied-outstanding, AgentEvent, Arrived, Committed, GivenUp}
use Words.{Sent, UpgradeEnded, agent_after, first_view, AgentView, cancelled_events, committed_events, end_events_of}
use Words.{ended_events, events_of_agent, events_of_agent_below, given_up_events, handed_events, is_seen_shared}
use Words.{number_asked, own_end_events, replied_events, reply_end_events, sent_events, snoop_events_of, EndsFor}
use Words.{number_claimed, number_left, number_replied, IsViewAfterHit, IsViewAfterSent, IsViewAfterSnoop}
use Words.{IsViewBeforeSnoop, IsViewOf}
use Rattle.fsb_agent_run.proofs.Among.{Among}
use Rattle.fsb_agent_run.proofs.EndEvents.{given-up-view, line-view, upgrade-view}
use Rattle.fsb_agent_run.proofs.EndFacts.{asked-there, below-says, own-left, replied-left}
use Rattle.fsb_agent_run.proofs.EndViews.{quiet-end-view}
use Rattle.fsb_agent_run.proofs.FirstViews.{first-of}
use Rattle.fsb_agent_run.proofs.HitViews.{performed-view}
use Rattle.fsb_agent_run.proofs.OtherSnoops.{asked-number, other-claimed, other-replied, own-replied, quiet-view}
use Rattle.fsb_agent_run.proofs.OwedSteps.{owed-there, owing-is, reaches-less}
use Rattle.fsb_agent_run.proofs.OwnSnoops.{IsSettledAs, getting-granted, getting-handed, getting-makes, never-fits}
use Rattle.fsb_agent_run.proofs.OwnSnoops.{own-claimed, settled-as}
use Rattle.fsb_agent_run.proofs.SentViews.{cancelled-view, sent-view, uncancelled-view, unsent-view}

-- the agent after some events
abbrev pub after : AgentView → List AgentEvent → AgentView
after v events = fold agent_after v events

pub handed-all : (p : Past) (a c : ℕ) (v : AgentView) → IsViewOf p a c v
    → IsViewOf p a c (after v (handed_events p a c))
unfolding handed_events
handed-all p a c v view = grind arith

pub sent-all : (r : Run) (a c : ℕ) (v : AgentView) → Reaches r (c + 1) → IsViewAfterHit (past_of r) a c v
    → IsViewAfterSent (past_of r) a c (after v (sent_events (past_of r) a c))
unfolding sent_events
sent-all r a c v h view = by (begun_at (past_of r) c) refl
  where
    one : (claim : Claim) → begun_at (past_of r) c ≡ Some claim → (mine : Bool) → nat_eq claim.agent a ≡ mine
        → IsViewAfterSent (past_of r) a c (after v (if mine then Sent c c ∷ [] else []))
    one claim e true m = sent-view r a c claim v h e (eqb-true claim.agent a m) view
    one claim e false m =
        unsent-view (past_of r) a c v (λ other f.
        let same : claim ≡ other = cc in
        λ own. both_ways (nat_eq claim.agent a) m (eq-eqb claim.agent a (ap (λ (x : Claim). x.agent) same ∙ own))) view

    by : (o : Option Claim) → begun_at (past_of r) c ≡ o
        → IsViewAfterSent (past_of r) a c
        (after v (option_map_or (λ claim. if nat_eq claim.agent a then Sent c c ∷ [] else []) o []))
    by None e = unsent-view (past_of r) a c v (λ other f. absurd (let no : ⊥ = cc in no)) view
    by (Some claim) e = one claim e (nat_eq claim.agent a) refl

pub cancelled-all : (r : Run) (a c : ℕ) (v : AgentView) → Reaches r (c + 1) → IsViewAfterSent (past_of r) a c v
    → IsViewBeforeSnoop (past_of r) a c (after v (cancelled_events (past_of r) a c))
unfolding cancelled_events given_up_events
cancelled-all r a c v h view = by (cancelled_in (past_of r) c) refl
  where
    one : (q : ℕ) (claim : Claim) → cancelled_in (past_of r) c ≡ Some q → begun_at (past_of r) q ≡ Some claim
        → (mine : Bool) → nat_eq claim.agent a ≡ mine
        → IsViewBeforeSnoop (past_of r) a c (after v (if mine then GivenUp q ∷ [] else []))
    one q claim e f true m = cancelled-view r a c q v h e view
    one q claim e f false m = grind (arith, uncancelled-view)

    begun : (q : ℕ) → cancelled_in (past_of r) c ≡ Some q → (o : Option Claim) → begun_at (past_of r) q ≡ o
        → IsViewBeforeSnoop (past_of r) a c
        (after v (option_map_or (λ claim. if nat_eq claim.agent a then GivenUp q ∷ [] else []) o []))
    begun q h1 o h2 = grind (arith, uncancelled-view, one)

    by : (o : Option ℕ) → cancelled_in (past_of r) c ≡ o
        → IsViewBeforeSnoop (past_of r) a c (after v (option_map_or (given_up_events (past_of r) a) o []))
    by o h1 = grind (arith, uncancelled-view, begun)

-- what a grant says of whether its line was seen to be shared
seen-by : (s : SnoopEnd) (grant : Grant) → s.grant ≡ Some grant → is_seen_shared s ≡ grant.shared
unfolding is_seen_shared is_some_and
seen-by s grant e = rw e refl

claimed-events : (p : Past) (a c : ℕ) (s : SnoopEnd) (claim : Claim) (request : Request) → s.claim ≡ Some claim
    → want_of p claim.agent s.first ≡ Some request → snoop_events_of p a c s
    ≡ Committed s.first (nat_eq claim.agent a) request (is_seen_shared s) s.outcome ∷ []
unfolding snoop_events_of committed_events is_seen_shared
claimed-events p a c s claim request claims want = rw (claims, snoop_events_of, want) refl

replied-as : (p : Past) (a c number : ℕ) (s : SnoopEnd) (grant : Grant) (request : Request) → s.claim ≡ None
    → s.grant ≡ Some grant → number_asked p grant.agent c grant.line ≡ Some number
    → want_of p grant.agent number ≡ Some request → snoop_events_of p a c s
    ≡ Committed number (nat_eq grant.agent a) request (is_seen_shared s) s.outcome ∷ []
unfolding snoop_events_of replied_events committed_events is_seen_shared
replied-as p a c number s grant request none makes asked want = rw (none, snoop_events_of, makes, asked, want) refl

unclaimed-events : (p : Past) (a c : ℕ) (s : SnoopEnd) → s.claim ≡ None → s.grant ≡ None → snoop_events_of p a c s ≡ []
unfolding snoop_events_of
unclaimed-events p a c s none ungranted = rw (none, snoop_events_of, ungranted) refl

-- what an agent asked for is what it wanted when it began
asked-wants : (r : Run) (b c line number : ℕ) → Reaches r (c + 1) → number_asked (past_of r) b c line ≡ Some number
    → (request : Request) × (want_of (past_of r) b number ≡ Some request)
asked-wants r b c line number h asked =
    let p = past_of r in
    let long = h.long in
    let k = asked-number p b c line number asked in
    let is = owing-is r b c k.0 (reaches-less r c (c + 1) (omega arith) h) k.1 in
    let before = is.before in
    let first = k.3 in
    let want = begun-want r k.0.claim.first k.0.claim h.timely h.bounds (omega arith) is.claimed in (
      want.request,
      subst (λ x. want_of p x number ≡ Some want.request) is.agent
          (subst (λ q. want_of p k.0.claim.agent q ≡ Some want.request) first want.want),
    )

pub snooped-all : (r : Run) (a c : ℕ) (v : AgentView) → Reaches r (c + 1) → 0 < r.plan.cache
    → IsViewBeforeSnoop (past_of r) a c v → IsViewAfterSnoop (past_of r) a c
    (after v (option_map_or (snoop_events_of (past_of r) a c) (snooped_at (past_of r) c) []))
snooped-all r a c v h some view = by (snooped_at (past_of r) c) refl
  where
    own : (s : SnoopEnd) (claim : Claim) (request : Request) → snooped_at (past_of r) c ≡ Some s → s.claim ≡ Some claim
        → want_of (past_of r) claim.agent s.first ≡ Some request → (mine : Bool) → nat_eq claim.agent a ≡ mine
        → IsViewAfterSnoop (past_of r) a c (after v (Committed s.first mine request (is_seen_shared s) s.outcome ∷ []))
    own s claim request there claims want true m =
        own-claimed r a c s claim request (is_seen_shared s) v h some there claims (eqb-true claim.agent a m)
        (λ grant e. seen-by s grant e) view
    own s claim request there claims want false m =
        other-claimed r a c s.first s claim request (is_seen_shared s) v h there claims
        (λ e. both_ways (nat_eq claim.agent a) m (eq-eqb claim.agent a e)) want view

    reply : (s : SnoopEnd) (grant : Grant) (number : ℕ) (request : Request) → snooped_at (past_of r) c ≡ Some s
        → s.claim ≡ None → s.grant ≡ Some grant → number_asked (past_of r) grant.agent c grant.line ≡ Some number
        → (mine : Bool) → nat_eq grant.agent a ≡ mine
        → IsViewAfterSnoop (past_of r) a c (after v (Committed number mine request (is_seen_shared s) s.outcome ∷ []))
    reply s grant number request there none makes asked true m =
        let p = past_of r in
        let agent = eqb-true grant.agent a m in
        subst (λ b. IsViewAfterSnoop p a c (after v (Committed number true request b s.outcome ∷ [])))
        (sym (seen-by s grant makes))
        (own-replied r a c number s grant request v h some there none makes agent
        (subst (λ b. number_asked p b c grant.line ≡ Some number) agent asked) view)
    reply s grant number request there none makes asked false m =
        other-replied r a c number s grant request (is_seen_shared s) v h there none makes
        (λ e. both_ways (nat_eq grant.agent a) m (eq-eqb grant.agent a e)) view

    granted : (s : SnoopEnd) → snooped_at (past_of r) c ≡ Some s → s.claim ≡ None → (o : Option Grant) → s.grant ≡ o
        → IsViewAfterSnoop (past_of r) a c (after v (snoop_events_of (past_of r) a c s))
    granted s there none None makes =
        let p = past_of r in
        subst (λ events. IsViewAfterSnoop p a c (after v events)) (sym (unclaimed-events p a c s none makes))
        (quiet-view r a c v h (λ other e.
        let same : s ≡ other = cc in
        (sym (ap (λ (x : SnoopEnd). x.claim) same) ∙ none, sym (ap (λ (x : SnoopEnd). x.grant) same) ∙ makes)) view)
    granted s there none (Some grant) makes =
        let p = past_of r in
        let long = h.long in
        let serves = replied-outstanding r c s grant h there none makes in
        let early = serves.early in
        let owing = owed-there r c serves.end.first serves.claim (reaches-less r c (c + 1) (omega arith) h) serves.begun
        serves.early serves.out in
        let among = subst (λ b. Among owing.0 (owed p b c)) serves.agent owing.1 in
        let line : owing.0.claim.line ≡ grant.line = ap (λ (x : Claim). x.line) owing.2 ∙ serves.line in
        let asked = asked-there p grant.agent c grant.line owing.0 among line in
        let wants = asked-wants r grant.agent c grant.line asked.0 h asked.1 in
        subst (λ events. IsViewAfterSnoop p a c (after v events))
        (sym (replied-as p a c asked.0 s grant wants.0 none makes asked.1 wants.1))
        (reply s grant asked.0 wants.0 there none makes asked.1 (nat_eq grant.agent a) refl)

    claimed : (s : SnoopEnd) → snooped_at (past_of r) c ≡ Some s → (o : Option Claim) → s.claim ≡ o
        → IsViewAfterSnoop (past_of r) a c (after v (snoop_events_of (past_of r) a c s))
    claimed s there (Some claim) claims =
        let p = past_of r in
        let k = settled-as r c s claim h there claims in
        subst (λ events. IsViewAfterSnoop p a c (after v events))
        (sym (claimed-events p a c s claim k.request claims k.want))
        (own s claim k.request there claims k.want (nat_eq claim.agent a) refl)
    claimed s there None none = granted s there none s.grant refl

    by : (o : Option SnoopEnd) → snooped_at (past_of r) c ≡ o
        → IsViewAfterSnoop (past_of r) a c (after v (option_map_or (snoop_events_of (past_of r) a c) o []))
    by None e = quiet-view r a c v h (λ s f. absurd (let no : ⊥ = cc in no)) view
    by (Some s) e = claimed s e s.claim refl

-- one request alone has its end at the clock
one-end : (p : Past) (c q first : ℕ) → ended_requests p c ≡ q ∷ [] → is_end_at p c first ≡ true → first ≡ q
unfolding is_end_at
one-end p c q first e ends = grind arith

pub end-there : (p : Past) (c q : ℕ) → ended_requests p c ≡ q ∷ [] → is_end_at p c q ≡ true
unfolding is_end_at
end-there p c q e = ap (list_any (nat_eq q)) e ∙ rw (eq-eqb q q refl) refl

none-ends : (p : Past) (c first : ℕ) → ended_requests p c ≡ [] → is_end_at p c first ≡ true → ⊥
unfolding is_end_at
none-ends p c first e ends = let any : false ≡ true = sym (ap (list_any (nat_eq first)) e) ∙ ends in cc

ended-as : (p : Past) (a c q : ℕ) (bytes : ℕ → List ℕ) (s : SnoopEnd) → snoop_end_below p (c + 1) q ≡ Some s
    → end_events_of p a c bytes q ≡ ended_events p a c bytes s
unfolding end_events_of
ended-as p a c q bytes s e = rw e refl

own-ended : (p : Past) (a c : ℕ) (bytes : ℕ → List ℕ) (s : SnoopEnd) (claim : Claim) → s.claim ≡ Some claim
    → claim.agent ≡ a → ended_events p a c bytes s ≡ own_end_events c s bytes
unfolding ended_events own_end_events
own-ended p a c bytes s claim claims mine = rw (claims, ended_events, eq-eqb claim.agent a mine) refl

other-ended : (p : Past) (a c : ℕ) (bytes : ℕ → List ℕ) (s : SnoopEnd) (claim : Claim) → s.claim ≡ Some claim
    → nat_eq claim.agent a ≡ false → (ended_events p a c bytes s ≡ []) × (number_left p a c s ≡ None)
unfolding ended_events number_left number_claimed
other-ended p a c bytes s claim claims other = grind arith

reply-ended : (p : Past) (a c : ℕ) (bytes : ℕ → List ℕ) (s : SnoopEnd) (grant : Grant) → s.claim ≡ None
    → s.grant ≡ Some grant → (ended_events p a c bytes s ≡ reply_end_events p a c bytes grant)
    × (number_left p a c s ≡ number_replied p a c grant)
unfolding ended_events number_left
reply-ended p a c bytes s grant none makes = (rw (none, ended_events, makes) refl, rw (none, number_left, makes) refl)

none-ended : (p : Past) (a c : ℕ) (bytes : ℕ → List ℕ) (s : SnoopEnd) → s.claim ≡ None → s.grant ≡ None
    → (ended_events p a c bytes s ≡ []) × (number_left p a c s ≡ None)
unfolding ended_events number_left
none-ended p a c bytes s none makes = (rw (none, ended_events, makes) refl, rw (none, number_left, makes) refl)

deferred-left : (p : Past) (a c : ℕ) (s : SnoopEnd) (claim : Claim) → s.claim ≡ Some claim → claim.agent ≡ a
    → is_deferral s.outcome ≡ true → number_left p a c s ≡ None
unfolding number_left number_claimed
deferred-left p a c s claim claims mine kept = rw (claims, number_left, eq-eqb claim.agent a mine, kept) refl

unended : (p : Past) (a c q : ℕ) (bytes : ℕ → List ℕ) → snoop_end_below p (c + 1) q ≡ None
    → end_events_of p a c bytes q ≡ []
unfolding end_events_of
unended p a c q bytes e = rw e refl

reply-mine : (p : Past) (a c number : ℕ) (bytes : ℕ → List ℕ) (grant : Grant) → nat_eq grant.agent a ≡ true
    → number_asked p a c grant.line ≡ Some number
    → reply_end_events p a c bytes grant ≡ Arrived c number (bytes number) ∷ []
unfolding reply_end_events
reply-mine p a c number bytes grant mine asked = rw (mine, asked) refl

reply-unasked : (p : Past) (a c : ℕ) (bytes : ℕ → List ℕ) (grant : Grant)
    → (nat_eq grant.agent a ≡ false) ⊎ (number_asked p a c grant.line ≡ None)
    → (reply_end_events p a c bytes grant ≡ []) × (number_replied p a c grant ≡ None)
unfolding reply_end_events number_replied
reply-unasked p a c bytes grant h1 = grind arith

-- where what ends leaves no request of the agent
quiet-end : (r : Run) (a c q : ℕ) (v : AgentView) → Reaches r (c + 1) → a < 4 → ended_requests (past_of r) c ≡ q ∷ []
    → ((s : SnoopEnd) → snoop_end_below (past_of r) (c + 1) q ≡ Some s → number_left (past_of r) a c s ≡ None)
    → IsViewAfterSnoop (past_of r) a c v → IsViewOf (past_of r) a (c + 1) v
quiet-end r a c q v h few one none view =
    quiet-end-view r a c v h few (record {
      none = λ first s ends snooped.
          let is = one-end (past_of r) c q first one ends in
          none s (subst (λ x. snoop_end_below (past_of r) (c + 1) x ≡ Some s) is snooped);
    }) view

-- the end of the agent's own request
own-end-all : (r : Run) (a c q : ℕ) (bytes : ℕ → List ℕ) (s : SnoopEnd) (claim : Claim) (v : AgentView)
    → Reaches r (c + 1)
    → 0 < r.plan.cache → a < 4 → ended_requests (past_of r) c ≡ q ∷ [] → snoop_end_below (past_of r) (c + 1) q ≡ Some s
    → s.claim ≡ Some claim → claim.agent ≡ a → IsViewAfterSnoop (past_of r) a c v
    → IsViewOf (past_of r) a (c + 1) (after v (own_end_events c s bytes))
unfolding own_end_events is_deferral
own-end-all r a c q bytes s claim v h some few one snooped claims mine view = by s.outcome refl
  where
    below : (t : ℕ) × (t < c + 1) × (snooped_at (past_of r) t ≡ Some s) × (s.first ≡ q)
    below = below-says (past_of r) (c + 1) q s snooped

    settled : IsSettledAs r below.0 s claim
    settled = grind (arith, settled-as)

    ending : is_deferral s.outcome ≡ false → EndsFor (past_of r) a c s.first s
    ending kept = record {
      first = q;
      ends = end-there (past_of r) c q one;
      snooped = snooped;
      left = own-left (past_of r) a c s claim claims mine kept;
    }

    fits : (outcome : Outcome) → s.outcome ≡ outcome → fits_kind settled.request.kind outcome ≡ true
    fits outcome e = ap (fits_kind settled.request.kind) (sym e) ∙ settled.fits

    by : (outcome : Outcome) → s.outcome ≡ outcome
        → IsViewOf (past_of r) a (c + 1) (after v (elim outcome [
          | Granted ↦ Arrived c s.first (bytes s.first) ∷ []
          | Handed ↦ Arrived c s.first (bytes s.first) ∷ []
          | Retried ↦ GivenUp s.first ∷ []
          | Deferred ↦ []
          | Written ↦ GivenUp s.first ∷ []
          | Replied ↦ []
          | Failed ↦ []
          | Upgraded ↦ UpgradeEnded c s.first ∷ []
        ]))
    by Granted e =
        let makes = getting-makes r below.0 s claim settled Granted e
        (getting-granted settled.request.kind (fits Granted e)) in
        line-view r a c s.first s makes.0 (bytes s.first) v h some few (ending (ap is_deferral e)) makes.1 view
    by Handed e =
        let makes = getting-makes r below.0 s claim settled Handed e
        (getting-handed settled.request.kind (fits Handed e)) in
        line-view r a c s.first s makes.0 (bytes s.first) v h some few (ending (ap is_deferral e)) makes.1 view
    by Retried e = given-up-view r a c s.first s v h few (ending (ap is_deferral e)) (inl e) view
    by Written e = given-up-view r a c s.first s v h few (ending (ap is_deferral e)) (inr e) view
    by Upgraded e = upgrade-view r a c s.first s v h some few (ending (ap is_deferral e)) e view
    by Replied e = absurd (never-fits settled.request.kind s.outcome (inl e) settled.fits)
    by Failed e = absurd (never-fits settled.request.kind s.outcome (inr e) settled.fits)
    by Deferred e =
        quiet-end r a c q v h few one (λ other f.
        let same : s ≡ other = cc in
        sym (ap (number_left (past_of r) a c) same)
        ∙ deferred-left (past_of r) a c s claim claims mine (ap is_deferral e)) view

-- what ends at the clock, for the agent
pub ended-all : (r : Run) (a c : ℕ) (bytes : ℕ → List ℕ) (v : AgentView) → Reaches r (c + 1) → 0 < r.plan.cache → a < 4
    → IsViewAfterSnoop (past_of r) a c v
    → IsViewOf (past_of r) a (c + 1)
    (after v (flat_map (end_events_of (past_of r) a c bytes) (ended_requests (past_of r) c)))
ended-all r a c bytes v h some few view = by (ended_requests (past_of r) c) refl
  where
    Goal : List AgentEvent → Type 0
    Goal events = IsViewOf (past_of r) a (c + 1) (after v events)

    unasked : (q : ℕ) (s : SnoopEnd) (grant : Grant) → ended_requests (past_of r) c ≡ q ∷ []
        → snoop_end_below (past_of r) (c + 1) q ≡ Some s → s.claim ≡ None → s.grant ≡ Some grant
        → (nat_eq grant.agent a ≡ false) ⊎ (number_asked (past_of r) a c grant.line ≡ None)
        → Goal (ended_events (past_of r) a c bytes s)
    unasked q s grant one snooped none makes which =
        let p = past_of r in
        let k = reply-ended p a c bytes s grant none makes in
        let u = reply-unasked p a c bytes grant which in
        subst Goal (sym (k.0 ∙ u.0))
        (quiet-end r a c q v h few one (λ other f.
        let same : s ≡ other = cc in
        sym (ap (number_left p a c) same) ∙ k.1 ∙ u.1) view)

    reply : (q : ℕ) (s : SnoopEnd) (grant : Grant) → ended_requests (past_of r) c ≡ q ∷ []
        → snoop_end_below (past_of r) (c + 1) q ≡ Some s → s.claim ≡ None → s.grant ≡ Some grant → (mine : Bool)
        → nat_eq grant.agent a ≡ mine → (asked : Option ℕ) → number_asked (past_of r) a c grant.line ≡ asked
        → Goal (ended_events (past_of r) a c bytes s)
    reply q s grant one snooped none makes true m (Some number) asked =
        let p = past_of r in
        let k = reply-ended p a c bytes s grant none makes in
        subst Goal (sym (k.0 ∙ reply-mine p a c number bytes grant m asked))
        (line-view r a c number s grant (bytes number) v h some few (record {
          first = q;
          ends = end-there p c q one;
          snooped = snooped;
          left = replied-left p a c s grant none makes (eqb-true grant.agent a m) ∙ asked;
        }) makes view)
    reply q s grant one snooped none makes true m None asked = grind (arith, unasked)
    reply q s grant one snooped none makes false m asked e =
        unasked q s grant one snooped none makes (inl m)

    known : (q : ℕ) (s : SnoopEnd) → ended_requests (past_of r) c ≡ q ∷ []
        → snoop_end_below (past_of r) (c + 1) q ≡ Some s → (o : Option Claim) → s.claim ≡ o → (g : Option Grant)
        → s.grant ≡ g
        → Goal (ended_events (past_of r) a c bytes s)
    known q s one snooped (Some claim) claims g makes = elim (cases_Bool (nat_eq claim.agent a)) [
      | inl mine ↦
          let agent = eqb-true claim.agent a mine in
          subst Goal (sym (own-ended (past_of r) a c bytes s claim claims agent))
          (own-end-all r a c q bytes s claim v h some few one snooped claims agent view)
      | inr other ↦
          let k = other-ended (past_of r) a c bytes s claim claims other in
          subst Goal (sym k.0)
          (quiet-end r a c q v h few one (λ x f.
          let same : s ≡ x = cc in
          sym (ap (number_left (past_of r) a c) same) ∙ k.1) view)
    ]
    known q s one snooped None none (Some grant) makes =
        reply q s grant one snooped none makes (nat_eq grant.agent a) refl
        (number_asked (past_of r) a c grant.line) refl
    known q s one snooped None none None makes = grind (arith, none-ended, quiet-end)

    single : (q : ℕ) → ended_requests (past_of r) c ≡ q ∷ [] → (o : Option SnoopEnd)
        → snoop_end_below (past_of r) (c + 1) q ≡ o → Goal (end_events_of (past_of r) a c bytes q)
    single q one None e = grind (arith, unended, quiet-end)
    single q one (Some s) e =
        subst Goal (sym (ended-as (past_of r) a c q bytes s e)) (known q s one e s.claim refl s.grant refl)

    by : (qs : List ℕ) → ended_requests (past_of r) c ≡ qs → Goal (flat_map (end_events_of (past_of r) a c bytes) qs)
    by [] e = quiet-end-view r a c v h few
        (record { none = λ first s ends f. absurd (none-ends (past_of r) c first e ends) }) view
    by (q ∷ []) e = grind (arith, append-nil, single)
    by (q ∷ u ∷ qs) e = let long = h.long in absurd (one-at-end r c q u qs h.timely (omega arith) e)

-- the whole clock
pub clock-view : (r : Run) (a c : ℕ) (bytes : ℕ → List ℕ) (v : AgentView) → Reaches r (c + 1) → 0 < r.plan.cache → a < 4
    → IsViewOf (past_of r) a c v
    → IsViewOf (past_of r) a (c + 1) (fold agent_after v (events_of_agent (past_of r) a c bytes))
unfolding events_of_agent
clock-view r a c bytes v h some few view =
    grind (arith, performed-view, handed-all, sent-all, cancelled-all, snooped-all, ended-all, fold-append)

-- all clocks below one
pub clocks-view : (r : Run) (a n : ℕ) (bytes : ℕ → List ℕ) → Reaches r n → 0 < r.plan.cache → a < 4
    → IsViewOf (past_of r) a n (fold agent_after
    (first_view a (items_of (past_of r) a) r.plan.cache r.plan.ahead r.plan.profile)
    (events_of_agent_below (past_of r) a n bytes))
unfolding events_of_agent_below past_of
clocks-view r a zero bytes h some few = first-of (past_of r) a
clocks-view r a (suc n) bytes h some few = grind (arith, clock-view, fold-append, clocks-view r a n bytes)
