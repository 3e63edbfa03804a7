-- An agent may see the events of each clock, one after the other; so it stays sound.
use Rattle.fsb_agent_run.proofs.Words
use Words.{ℕ, ◌+◌, ◌<◌, ◌≡◌, Bool, true, false, if◌then◌else◌, List, [], ◌∷◌, ◌++◌, fold, Option, Some, None, nat_eq}
use Words.{refl, sym, ap, subst, ◌∙◌, append-nil, inr, arith, flat_map, option_map_or, eqb-true, is_at, Request}
use Words.{is_deferral, Outcome, Granted, Handed, Retried, Deferred, Written, Replied, Failed, Upgraded, Claim, Grant}
use Words.{Past, SnoopEnd, ended_requests, snooped_at, Run, past_of, want_of, responded_in, snoop_end_below, fits_kind}
use Words.{one-at-end, Reaches, AgentEvent, Arrived, Committed, GivenUp, HandedOn, Performed, Sent, UpgradeEnded}
use Words.{agent_after, AgentView, performed, IsSound, sound_given_up, sound_handed, cancelled_events, committed_events}
use Words.{end_events_of, ended_events, events_of_agent, given_up_events, giver_of, handed_events, is_seen_shared}
use Words.{number_asked, own_end_events, replied_events, reply_end_events, sent_events, snoop_events_of, HasBytesOwed}
use Words.{EndsFor, IsViewAfterHit, IsViewAfterSent, IsViewAfterSnoop, IsViewBeforeSnoop, IsViewOf}
use Rattle.fsb_agent.proofs.Interface.{sound_arrived, sound_committed, sound_ended, sound_performed, sound_sent}
use Rattle.fsb_agent_run.specs.EventsSeen.{may_see, may_see_all}
use Rattle.fsb_agent_run.proofs.BytesHandedOn.{hand-there}
use Rattle.fsb_agent_run.proofs.CallsAtStages.{cancelled-seen, own-seen, send-may}
use Rattle.fsb_agent_run.proofs.ClockEvents.{after, cancelled-all, end-there, handed-all, sent-all, snooped-all}
use Rattle.fsb_agent_run.proofs.ClockOwed.{handed-part, middle-part}
use Rattle.fsb_agent_run.proofs.EndFacts.{below-says, own-left, replied-left}
use Rattle.fsb_agent_run.proofs.EndsAtStages.{arrives-seen, given-up-seen, upgrade-seen}
use Rattle.fsb_agent_run.proofs.FewOwed.{within}
use Rattle.fsb_agent_run.proofs.GiversNamed.{given-named}
use Rattle.fsb_agent_run.proofs.HitViews.{performed-view}
use Rattle.fsb_agent_run.proofs.MayCalls.{other-may}
use Rattle.fsb_agent_run.proofs.OwedStages.{claimed-out, replied-out}
use Rattle.fsb_agent_run.proofs.OwnSnoops.{IsSettledAs, getting-granted, getting-handed, getting-makes, settled-as}

-- a sound agent that sees an event which it may see stays sound
sound-seen : (v : AgentView) (event : AgentEvent) → IsSound v → may_see v event ≡ true → IsSound (agent_after v event)
unfolding may_see
sound-seen v (Performed clock) s may = sound_performed v clock s
sound-seen v (Sent clock number) s may = sound_sent v clock number s may
sound-seen v (Committed number mine request shared outcome) s may = grind (arith, sound_committed)
sound-seen v (HandedOn number) s may = sound_handed v number s
sound-seen v (Arrived clock number bytes) s may = sound_arrived v clock number bytes s may
sound-seen v (UpgradeEnded clock number) s may = sound_ended v clock number s may
sound-seen v (GivenUp number) s may = sound_given_up v number s may

pub sound-all : (v : AgentView) (events : List AgentEvent) → IsSound v → may_see_all v events ≡ true
    → IsSound (fold agent_after v events)
unfolding may_see_all
sound-all v [] s may = s
sound-all v (event ∷ events) s may = grind (arith, sound-seen, sound-all (agent_after v event) events)

see-both : (v : AgentView) (xs ys : List AgentEvent) → may_see_all v xs ≡ true
    → may_see_all (fold agent_after v xs) ys ≡ true → may_see_all v (xs ++ ys) ≡ true
unfolding may_see_all
see-both v [] ys first then_all = then_all
see-both v (event ∷ xs) ys first then_all = grind (arith, see-both (agent_after v event) xs ys)

see-none : (v : AgentView) → may_see_all v [] ≡ true
unfolding may_see_all
see-none v = refl

see-one : (v : AgentView) (event : AgentEvent) → may_see v event ≡ true → may_see_all v (event ∷ []) ≡ true
unfolding may_see_all
see-one v event may = rw may refl

-- the bytes that are handed on
handed-seen : (r : Run) (a c : ℕ) (v : AgentView) → Reaches r (c + 1) → HasBytesOwed (past_of r) a c c c v
    → may_see_all v (handed_events (past_of r) a c) ≡ true
unfolding handed_events may_see
handed-seen r a c v h owed = by (responded_in (past_of r) c) refl
  where
    one : (q : ℕ) → responded_in (past_of r) c ≡ Some q → (gives : Bool)
        → is_at (giver_of (past_of r) c q) a ≡ gives → may_see_all v (if gives then HandedOn q ∷ [] else []) ≡ true
    one q e true g =
        let gives = given-named r a c q h.timely h.bounds (within r c h.long) e ∙ g in
        see-one v (HandedOn q) (hand-there r a c q v h.timely h.bounds (within r c h.long) e gives owed)
    one q e false g = see-none v

    by : (o : Option ℕ) → responded_in (past_of r) c ≡ o
        → may_see_all v (option_map_or (λ q. if is_at (giver_of (past_of r) c q) a then HandedOn q ∷ [] else []) o [])
        ≡ true
    by o h1 = grind (arith, see-none, one)

-- the request that begins
sent-seen : (r : Run) (a c : ℕ) (v : AgentView) → Reaches r (c + 1) → IsViewAfterHit (past_of r) a c v
    → may_see_all v (sent_events (past_of r) a c) ≡ true
unfolding sent_events may_see
sent-seen r a c v h view = grind (arith, see-one, send-may, see-none)

-- the request that is cancelled
cancelled-may : (r : Run) (a c : ℕ) (v : AgentView) → Reaches r (c + 1) → IsSound v → IsViewAfterSent (past_of r) a c v
    → may_see_all v (cancelled_events (past_of r) a c) ≡ true
unfolding cancelled_events given_up_events may_see
cancelled-may r a c v h sound view = grind (arith, see-one, cancelled-seen, see-none)

-- the snoop end
snoop-may : (r : Run) (a c : ℕ) (v : AgentView) → Reaches r (c + 1) → IsSound v → IsViewBeforeSnoop (past_of r) a c v
    → HasBytesOwed (past_of r) a c (c + 1) c v
    → may_see_all v (option_map_or (snoop_events_of (past_of r) a c) (snooped_at (past_of r) c) []) ≡ true
unfolding snoop_events_of replied_events committed_events may_see
snoop-may r a c v h sound view owed = by (snooped_at (past_of r) c) refl
  where
    own : (s : SnoopEnd) (claim : Claim) (request : Request) → snooped_at (past_of r) c ≡ Some s → s.claim ≡ Some claim
        → (mine : Bool) → nat_eq claim.agent a ≡ mine
        → may_see_all v (Committed s.first mine request (is_seen_shared s) s.outcome ∷ []) ≡ true
    own s claim request there claims true m =
        see-one v (Committed s.first true request (is_seen_shared s) s.outcome)
        (own-seen r a c s.first s v h (claimed-out r a c s claim v h there claims (eqb-true claim.agent a m) view)
        sound view owed)
    own s claim request there claims false m =
        see-one v (Committed s.first false request (is_seen_shared s) s.outcome)
        (other-may r a c s.first s v h.timely h.bounds (within r c h.long) there owed)

    claimed : (s : SnoopEnd) (claim : Claim) → snooped_at (past_of r) c ≡ Some s → s.claim ≡ Some claim
        → (o : Option Request) → may_see_all v (option_map_or (λ request.
        Committed s.first (nat_eq claim.agent a) request (is_seen_shared s) s.outcome ∷ []) o []) ≡ true
    claimed s claim h1 h2 o = grind (arith, see-none, own)

    reply : (s : SnoopEnd) (grant : Grant) (number : ℕ) (request : Request) → snooped_at (past_of r) c ≡ Some s
        → s.claim ≡ None → s.grant ≡ Some grant → number_asked (past_of r) grant.agent c grant.line ≡ Some number
        → (mine : Bool) → nat_eq grant.agent a ≡ mine
        → may_see_all v (Committed number mine request (is_seen_shared s) s.outcome ∷ []) ≡ true
    reply s grant number request there none makes asked true m =
        let agent : grant.agent ≡ a = eqb-true grant.agent a m in
        see-one v (Committed number true request (is_seen_shared s) s.outcome)
        (own-seen r a c number s v h (replied-out r a c number s grant v h there none makes agent
        (subst (λ b. number_asked (past_of r) b c grant.line ≡ Some number) agent asked) view) sound view owed)
    reply s grant number request there none makes asked false m =
        see-one v (Committed number false request (is_seen_shared s) s.outcome)
        (other-may r a c number s v h.timely h.bounds (within r c h.long) there owed)

    wanted : (s : SnoopEnd) (grant : Grant) (number : ℕ) → snooped_at (past_of r) c ≡ Some s
        → s.claim ≡ None → s.grant ≡ Some grant → number_asked (past_of r) grant.agent c grant.line ≡ Some number
        → (o : Option Request) → may_see_all v (option_map_or (λ request.
        Committed number (nat_eq grant.agent a) request (is_seen_shared s) s.outcome ∷ []) o []) ≡ true
    wanted s grant number h1 h2 h3 h4 o = grind (arith, see-none, reply)

    numbered : (s : SnoopEnd) (grant : Grant) → snooped_at (past_of r) c ≡ Some s → s.claim ≡ None
        → s.grant ≡ Some grant → (o : Option ℕ) → number_asked (past_of r) grant.agent c grant.line ≡ o
        → may_see_all v (option_map_or (committed_events (past_of r) a s grant.agent) o []) ≡ true
    numbered s grant there none makes None asked = see-none v
    numbered s grant there none makes (Some number) asked =
        wanted s grant number there none makes asked (want_of (past_of r) grant.agent number)

    granted : (s : SnoopEnd) → snooped_at (past_of r) c ≡ Some s → s.claim ≡ None → (o : Option Grant) → s.grant ≡ o
        → may_see_all v (option_map_or (replied_events (past_of r) a c s) o []) ≡ true
    granted s h1 h2 o h3 = grind (arith, see-none, numbered)

    of-claim : (s : SnoopEnd) → snooped_at (past_of r) c ≡ Some s → (o : Option Claim) → s.claim ≡ o
        → may_see_all v (snoop_events_of (past_of r) a c s) ≡ true
    of-claim s there (Some claim) claims =
        rw (claims, snoop_events_of) (claimed s claim there claims (want_of (past_of r) claim.agent s.first))
    of-claim s there None none = rw (none, snoop_events_of) (granted s there none s.grant refl)

    by : (o : Option SnoopEnd) → snooped_at (past_of r) c ≡ o
        → may_see_all v (option_map_or (snoop_events_of (past_of r) a c) o []) ≡ true
    by o h1 = grind (arith, see-none, of-claim)

-- the end of the agent's own request
own-end-may : (r : Run) (a c q : ℕ) (bytes : ℕ → List ℕ) (s : SnoopEnd) (claim : Claim) (v : AgentView)
    → Reaches r (c + 1) → ended_requests (past_of r) c ≡ q ∷ [] → snoop_end_below (past_of r) (c + 1) q ≡ Some s
    → s.claim ≡ Some claim → claim.agent ≡ a → IsSound v → IsViewAfterSnoop (past_of r) a c v
    → may_see_all v (own_end_events c s bytes) ≡ true
unfolding own_end_events is_deferral may_see
own-end-may r a c q bytes s claim v h one snooped claims mine sound view = by s.outcome refl
  where
    below : (t : ℕ) × (t < c + 1) × (snooped_at (past_of r) t ≡ Some s) × (s.first ≡ q)
    below = below-says (past_of r) (c + 1) q s snooped

    settled : IsSettledAs r below.0 s claim
    settled = grind (arith, settled-as)

    ending : is_deferral s.outcome ≡ false → EndsFor (past_of r) a c s.first s
    ending kept = record {
      first = q;
      ends = end-there (past_of r) c q one;
      snooped = snooped;
      left = own-left (past_of r) a c s claim claims mine kept;
    }

    fits : (outcome : Outcome) → s.outcome ≡ outcome → fits_kind settled.request.kind outcome ≡ true
    fits outcome e = ap (fits_kind settled.request.kind) (sym e) ∙ settled.fits

    by : (outcome : Outcome) → s.outcome ≡ outcome
        → may_see_all v (elim outcome [
          | Granted ↦ Arrived c s.first (bytes s.first) ∷ []
          | Handed ↦ Arrived c s.first (bytes s.first) ∷ []
          | Retried ↦ GivenUp s.first ∷ []
          | Deferred ↦ []
          | Written ↦ GivenUp s.first ∷ []
          | Replied ↦ []
          | Failed ↦ []
          | Upgraded ↦ UpgradeEnded c s.first ∷ []
        ]) ≡ true
    by Granted e =
        let getting = getting-granted settled.request.kind (fits Granted e) in
        let makes = getting-makes r below.0 s claim settled Granted e getting in
        see-one v (Arrived c s.first (bytes s.first))
        (arrives-seen r a c s.first s makes.0 v h (ending (ap is_deferral e)) makes.1 sound view)
    by Handed e =
        let getting = getting-handed settled.request.kind (fits Handed e) in
        let makes = getting-makes r below.0 s claim settled Handed e getting in
        see-one v (Arrived c s.first (bytes s.first))
        (arrives-seen r a c s.first s makes.0 v h (ending (ap is_deferral e)) makes.1 sound view)
    by Retried e = grind (arith, see-one, given-up-seen, ending)
    by Written e =
        see-one v (GivenUp s.first) (given-up-seen r a c s.first s v h (ending (ap is_deferral e)) (inr e) sound view)
    by Upgraded e =
        see-one v (UpgradeEnded c s.first) (upgrade-seen r a c s.first s v h (ending (ap is_deferral e)) e sound view)
    by Replied e = see-none v
    by Failed e = see-none v
    by Deferred e = see-none v

-- what ends at the clock, for the agent
ends-may : (r : Run) (a c : ℕ) (bytes : ℕ → List ℕ) (v : AgentView) → Reaches r (c + 1) → IsSound v
    → IsViewAfterSnoop (past_of r) a c v
    → may_see_all v (flat_map (end_events_of (past_of r) a c bytes) (ended_requests (past_of r) c)) ≡ true
unfolding end_events_of ended_events reply_end_events may_see
ends-may r a c bytes v h sound view = by (ended_requests (past_of r) c) refl
  where
    own : (q : ℕ) (s : SnoopEnd) (claim : Claim) → ended_requests (past_of r) c ≡ q ∷ []
        → snoop_end_below (past_of r) (c + 1) q ≡ Some s → s.claim ≡ Some claim → (mine : Bool)
        → nat_eq claim.agent a ≡ mine → may_see_all v (if mine then own_end_events c s bytes else []) ≡ true
    own q s claim h1 h2 h3 mine h4 = grind (arith, own-end-may, see-none)

    reply : (q : ℕ) (s : SnoopEnd) (grant : Grant) → ended_requests (past_of r) c ≡ q ∷ []
        → snoop_end_below (past_of r) (c + 1) q ≡ Some s → s.claim ≡ None → s.grant ≡ Some grant → (mine : Bool)
        → nat_eq grant.agent a ≡ mine → (o : Option ℕ) → number_asked (past_of r) a c grant.line ≡ o
        → may_see_all v (if mine then option_map_or (λ x. Arrived c x (bytes x) ∷ []) o [] else []) ≡ true
    reply q s grant one snooped none makes true m (Some number) asked =
        see-one v (Arrived c number (bytes number)) (arrives-seen r a c number s grant v h (record {
          first = q;
          ends = end-there (past_of r) c q one;
          snooped = snooped;
          left = replied-left (past_of r) a c s grant none makes (eqb-true grant.agent a m) ∙ asked;
        }) makes sound view)
    reply q s grant one snooped none makes true m None asked = see-none v
    reply q s grant one snooped none makes false m o asked = see-none v

    granted : (q : ℕ) (s : SnoopEnd) → ended_requests (past_of r) c ≡ q ∷ []
        → snoop_end_below (past_of r) (c + 1) q ≡ Some s → s.claim ≡ None → (o : Option Grant) → s.grant ≡ o
        → may_see_all v (option_map_or (reply_end_events (past_of r) a c bytes) o []) ≡ true
    granted q s h1 h2 h3 o h4 = grind (arith, see-none, reply)

    known : (q : ℕ) (s : SnoopEnd) → ended_requests (past_of r) c ≡ q ∷ []
        → snoop_end_below (past_of r) (c + 1) q ≡ Some s → (o : Option Claim) → s.claim ≡ o
        → may_see_all v (ended_events (past_of r) a c bytes s) ≡ true
    known q s h1 h2 o h3 = grind (arith, own, granted)

    single : (q : ℕ) → ended_requests (past_of r) c ≡ q ∷ [] → (o : Option SnoopEnd)
        → snoop_end_below (past_of r) (c + 1) q ≡ o
        → may_see_all v (option_map_or (ended_events (past_of r) a c bytes) o []) ≡ true
    single q h1 o h2 = grind (arith, see-none, known)

    by : (qs : List ℕ) → ended_requests (past_of r) c ≡ qs
        → may_see_all v (flat_map (end_events_of (past_of r) a c bytes) qs) ≡ true
    by [] e = see-none v
    by (q ∷ []) e = grind (arith, append-nil, single)
    by (q ∷ u ∷ qs) e = let long = h.long in absurd (one-at-end r c q u qs h.timely (omega arith) e)

performs : (v : AgentView) (c : ℕ) → may_see_all v (Performed c ∷ []) ≡ true
unfolding may_see_all may_see
performs v c = refl

-- the whole clock
pub clock-seen : (r : Run) (a c : ℕ) (bytes : ℕ → List ℕ) (v : AgentView) → Reaches r (c + 1) → 0 < r.plan.cache → a < 4
    → IsSound v → IsViewOf (past_of r) a c v → HasBytesOwed (past_of r) a c c c v
    → may_see_all v (events_of_agent (past_of r) a c bytes) ≡ true
unfolding events_of_agent
clock-seen r a c bytes v h some few sound view owed =
    let p : Past = past_of r in
    let handed : List AgentEvent = handed_events p a c in
    let sends : List AgentEvent = sent_events p a c in
    let gives : List AgentEvent = cancelled_events p a c in
    let snoops : List AgentEvent = option_map_or (snoop_events_of p a c) (snooped_at p c) [] in
    let ends : List AgentEvent = flat_map (end_events_of p a c bytes) (ended_requests p c) in
    let v1 : AgentView = after v handed in
    let v2 : AgentView = performed v1 c in
    let v3 : AgentView = after v2 sends in
    let v4 : AgentView = after v3 gives in
    let v5 : AgentView = after v4 snoops in
    let view2 = performed-view r a c v1 h few (handed-all p a c v view) in
    let view3 = sent-all r a c v2 h view2 in
    let view4 = cancelled-all r a c v3 h view3 in
    let view5 = snooped-all r a c v4 h some view4 in
    let owed4 = middle-part p a c c (c + 1) v1 (handed-part r a c v h owed) in
    let may1 = handed-seen r a c v h owed in
    let sound1 = sound-all v handed sound may1 in
    let sound2 = sound_performed v1 c sound1 in
    let may3 = sent-seen r a c v2 h view2 in
    let sound3 = sound-all v2 sends sound2 may3 in
    let may4 = cancelled-may r a c v3 h sound3 view3 in
    let sound4 = sound-all v3 gives sound3 may4 in
    let may5 = snoop-may r a c v4 h sound4 view4 owed4 in
    let sound5 = sound-all v4 snoops sound4 may5 in
    let may6 = ends-may r a c bytes v5 h sound5 view5 in
    see-both v handed (Performed c ∷ (sends ++ (gives ++ (snoops ++ ends)))) may1
    (see-both v1 (Performed c ∷ []) (sends ++ (gives ++ (snoops ++ ends))) (performs v1 c)
    (see-both v2 sends (gives ++ (snoops ++ ends)) may3
    (see-both v3 gives (snoops ++ ends) may4 (see-both v4 snoops ends may5 may6))))

pub sound-clock : (r : Run) (a c : ℕ) (bytes : ℕ → List ℕ) (v : AgentView) → Reaches r (c + 1) → 0 < r.plan.cache
    → a < 4 → IsSound v → IsViewOf (past_of r) a c v → HasBytesOwed (past_of r) a c c c v
    → IsSound (fold agent_after v (events_of_agent (past_of r) a c bytes))
sound-clock r a c bytes v h some few sound view owed = grind (arith, sound-all, clock-seen)
