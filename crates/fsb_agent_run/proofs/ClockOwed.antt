-- What an agent owes goes on by the events of the agent at a clock.
use Rattle.fsb_agent_run.proofs.Words
use Words.{ℕ, zero, suc, ◌+◌, ◌<◌, ◌≡◌, Bool, true, false, if◌then◌else◌, List, [], ◌∷◌, ◌++◌, fold, Option, Some, None}
use Words.{nat_eq, refl, sym, ap, subst, ◌∙◌, add-one, arith, flat_map, option_map_or, eqb-false, eqb-true, is_at}
use Words.{Request, Outcome, Granted, Handed, Retried, Deferred, Written, Replied, Failed, Upgraded, Claim, Grant, Past}
use Words.{SnoopEnd, ended_requests, snooped_at, Run, past_of, items_of, want_of, responded_in, snoop_end_below}
use Words.{clock-facts, one-at-end, Reaches, OwnRequest, AgentEvent, Arrived, Committed, GivenUp, HandedOn, Performed}
use Words.{UpgradeEnded, agent_after, first_view, AgentView, given_up, line_arrived, upgrade_ended, performed}
use Words.{request_numbered, committed, own_settled, events_of_agent, events_of_agent_below, cancelled_events}
use Words.{committed_events, end_events_of, ended_events, given_up_events, giver_of, handed_events, is_seen_shared}
use Words.{number_asked, own_end_events, replied_events, reply_end_events, sent_events, snoop_events_of, HasBytesOwed}
use Words.{is_given_below, IsViewAfterSnoop, IsViewBeforeSnoop, IsViewOf}
use Rattle.fsb_agent_run.proofs.BytesHandedOn.{handed-owed, kept-at-response}
use Rattle.fsb_agent_run.proofs.ClockEvents.{after, cancelled-all, clocks-view, ended-all, handed-all, sent-all}
use Rattle.fsb_agent_run.proofs.ClockEvents.{snooped-all}
use Rattle.fsb_agent_run.proofs.FewOwed.{within}
use Rattle.fsb_agent_run.proofs.FirstOwed.{first-owed}
use Rattle.fsb_agent_run.proofs.GivenBytes.{none-claimed}
use Rattle.fsb_agent_run.proofs.GiversNamed.{given-named}
use Rattle.fsb_agent_run.proofs.OwedEnds.{ends-kept, line-owed, upgrade-owed}
use Rattle.fsb_agent_run.proofs.OwedSnoopEnds.{granted-debts, replied-owed-after, unsettled-owed-after}
use Rattle.fsb_agent_run.proofs.OwedSnoops.{SameDebts, owed-on, quiet-owed}
use Rattle.fsb_agent_run.proofs.OwedStages.{claimed-out, fills-after, fills-then, other-claimed-owed, own-owed-then}
use Rattle.fsb_agent_run.proofs.HitViews.{performed-view}
use Rattle.fsb_agent_run.proofs.OwedSteps.{reaches-less}
use Rattle.fsb_agent_run.proofs.OwnSnoops.{settled-as}

-- one list of events after another
pub fold-both : (v : AgentView) (xs ys : List AgentEvent)
    → fold agent_after v (xs ++ ys) ≡ fold agent_after (fold agent_after v xs) ys
fold-both v [] ys = refl
fold-both v (x ∷ xs) ys = fold-both (agent_after v x) xs ys

-- bytes that are handed on
pub handed-part : (r : Run) (a c : ℕ) (v : AgentView) → Reaches r (c + 1) → HasBytesOwed (past_of r) a c c c v
    → HasBytesOwed (past_of r) a c (c + 1) c (fold agent_after v (handed_events (past_of r) a c))
unfolding handed_events
handed-part r a c v h owed = by (responded_in (past_of r) c) refl
  where
    named : (q : ℕ) → responded_in (past_of r) c ≡ Some q → (b : Bool) → is_at (giver_of (past_of r) c q) a ≡ b
        → HasBytesOwed (past_of r) a c (c + 1) c
        (fold agent_after v (if is_at (giver_of (past_of r) c q) a then HandedOn q ∷ [] else []))
    named q e true on =
        rw on (handed-owed r a c q v h.timely h.bounds (within r c h.long) e
        (given-named r a c q h.timely h.bounds (within r c h.long) e ∙ on) owed)
    named q e false off =
        rw off (kept-at-response (past_of r) a c v (λ x f.
        let both : Some q ≡ Some x = sym e ∙ f in
        let same : q ≡ x = cc in
        ap (is_given_below (past_of r) a c) (sym same)
        ∙ given-named r a c q h.timely h.bounds (within r c h.long) e ∙ off) owed)

    by : (o : Option ℕ) → responded_in (past_of r) c ≡ o
        → HasBytesOwed (past_of r) a c (c + 1) c (fold agent_after v (handed_events (past_of r) a c))
    by None e =
        rw (e, handed_events)
        (kept-at-response (past_of r) a c v (λ x f. absurd (let both = sym e ∙ f in let no : ⊥ = cc in no)) owed)
    by (Some q) e = rw (e, handed_events) (named q e (is_at (giver_of (past_of r) c q) a) refl)

sent-keep : (p : Past) (a c : ℕ) (v : AgentView) → (fold agent_after v (sent_events p a c)).buffers ≡ v.buffers
unfolding sent_events
sent-keep p a c v = grind arith

cancelled-keep : (p : Past) (a c : ℕ) (v : AgentView)
    → (fold agent_after v (cancelled_events p a c)).buffers ≡ v.buffers
unfolding cancelled_events given_up_events
cancelled-keep p a c v = grind arith

-- the hit, what begins and what is cancelled
pub middle-part : (p : Past) (a c n r : ℕ) (v : AgentView) → HasBytesOwed p a n r c v
    → HasBytesOwed p a n r c
    (fold agent_after (fold agent_after (performed v c) (sent_events p a c)) (cancelled_events p a c))
middle-part p a c n r v owed = grind (arith, cancelled-keep, sent-keep)

-- a reply leaves what is owed as it is, whoever's it is
own-replied-owed : (r : Run) (a c number : ℕ) (s : SnoopEnd) (grant : Grant) (request : Request) (shared : Bool)
    (v : AgentView) → Reaches r (c + 1) → snooped_at (past_of r) c ≡ Some s → s.claim ≡ None → s.grant ≡ Some grant
    → HasBytesOwed (past_of r) a c (c + 1) c v
    → HasBytesOwed (past_of r) a (c + 1) (c + 1) c (committed v number true request shared s.outcome)
own-replied-owed r a c number s grant request shared v h there none made owed = by (request_numbered number v.outs) refl
  where
    quiet : (w : AgentView) → SameDebts v.buffers w.buffers → HasBytesOwed (past_of r) a (c + 1) (c + 1) c w
    quiet w debts =
        owed-on (past_of r) a c (c + 1) c (c + 1) (c + 1) c v w
        (quiet-owed r a c h.timely h.bounds (within r c h.long) (none-claimed (past_of r) a c s there none)) debts owed

    replied : s.outcome ≡ Replied
    replied =
        ((clock-facts r grant.line c h.timely h.bounds
        (within r c h.long)).settles.replied s grant there none made refl).replied

    settled : (out : OwnRequest) (outcome : Outcome) → outcome ≡ Replied
        → SameDebts v.buffers (own_settled v out shared outcome).buffers
    settled out outcome h1 = grind (arith, granted-debts)

    by : (o : Option OwnRequest) → request_numbered number v.outs ≡ o
        → HasBytesOwed (past_of r) a (c + 1) (c + 1) c (committed v number true request shared s.outcome)
    by o h1 = grind (arith, quiet, settled, replied)

unclaimed-owed : (r : Run) (a c : ℕ) (s : SnoopEnd) (v : AgentView) → Reaches r (c + 1)
    → snooped_at (past_of r) c ≡ Some s
    → s.claim ≡ None → HasBytesOwed (past_of r) a c (c + 1) c v → HasBytesOwed (past_of r) a (c + 1) (c + 1) c v
unclaimed-owed r a c s v h there none owed =
    unsettled-owed-after r a c v h.timely h.bounds (within r c h.long)
    (λ x f. let both : Some s ≡ Some x = sym there ∙ f in
    let same : s ≡ x = cc in
    ap (λ (y : SnoopEnd). y.claim) (sym same) ∙ none)
    owed

reply-owed : (r : Run) (a c number b : ℕ) (s : SnoopEnd) (grant : Grant) (v : AgentView) → Reaches r (c + 1)
    → snooped_at (past_of r) c ≡ Some s → s.claim ≡ None → s.grant ≡ Some grant
    → HasBytesOwed (past_of r) a c (c + 1) c v
    → HasBytesOwed (past_of r) a (c + 1) (c + 1) c (fold agent_after v (committed_events (past_of r) a s b number))
unfolding committed_events
reply-owed r a c number b s grant v h there none made owed = by (want_of (past_of r) b number) refl
  where
    named : (mine : Bool) (request : Request) → HasBytesOwed (past_of r) a (c + 1) (c + 1) c
        (fold agent_after v (Committed number mine request (is_seen_shared s) s.outcome ∷ []))
    named true request = own-replied-owed r a c number s grant request (is_seen_shared s) v h there none made owed
    named false request =
        replied-owed-after r a c number s grant v request (is_seen_shared s) h.timely h.bounds
        (within r c h.long) there none made owed

    by : (o : Option Request) → want_of (past_of r) b number ≡ o
        → HasBytesOwed (past_of r) a (c + 1) (c + 1) c (fold agent_after v (committed_events (past_of r) a s b number))
    by None e = rw (e, committed_events) (unclaimed-owed r a c s v h there none owed)
    by (Some request) e = rw (e, committed_events) (named (nat_eq b a) request)

replies-owed : (r : Run) (a c : ℕ) (s : SnoopEnd) (v : AgentView) → Reaches r (c + 1)
    → snooped_at (past_of r) c ≡ Some s
    → s.claim ≡ None → HasBytesOwed (past_of r) a c (c + 1) c v → (o : Option Grant) → s.grant ≡ o
    → HasBytesOwed (past_of r) a (c + 1) (c + 1) c
    (fold agent_after v (option_map_or (replied_events (past_of r) a c s) o []))
unfolding replied_events
replies-owed r a c s v h there none owed None made = unclaimed-owed r a c s v h there none owed
replies-owed r a c s v h there none owed (Some grant) made =
    by (number_asked (past_of r) grant.agent c grant.line) refl
  where
    by : (o : Option ℕ) → number_asked (past_of r) grant.agent c grant.line ≡ o
        → HasBytesOwed (past_of r) a (c + 1) (c + 1) c (fold agent_after v (replied_events (past_of r) a c s grant))
    by None e = rw (e, replied_events) (unclaimed-owed r a c s v h there none owed)
    by (Some number) e = rw (e, replied_events) (reply-owed r a c number grant.agent s grant v h there none made owed)

claimed-owed : (r : Run) (a c : ℕ) (s : SnoopEnd) (claim : Claim) (v : AgentView) → Reaches r (c + 1) → a < 4
    → snooped_at (past_of r) c ≡ Some s → s.claim ≡ Some claim → IsViewBeforeSnoop (past_of r) a c v
    → HasBytesOwed (past_of r) a c (c + 1) c v
    → HasBytesOwed (past_of r) a (c + 1) (c + 1) c
    (fold agent_after v (committed_events (past_of r) a s claim.agent s.first))
unfolding committed_events
claimed-owed r a c s claim v h few there claims view owed =
    let k = settled-as r c s claim h there claims in
    rw (k.want, committed_events) (by k.request k.want (nat_eq claim.agent a) refl)
  where
    by : (request : Request) → want_of (past_of r) claim.agent s.first ≡ Some request → (mine : Bool)
        → nat_eq claim.agent a ≡ mine → HasBytesOwed (past_of r) a (c + 1) (c + 1) c
        (fold agent_after v (Committed s.first (nat_eq claim.agent a) request (is_seen_shared s) s.outcome ∷ []))
    by request want true e =
        rw e (own-owed-then r a c s.first s v request (is_seen_shared s) h
        (claimed-out r a c s claim v h there claims (eqb-true claim.agent a e) view) owed)
    by request want false e =
        rw e (other-claimed-owed r a c s claim request (is_seen_shared s) v h few there claims
        (eqb-false claim.agent a e)
        want view owed)

-- the snoop end
pub snoop-part : (r : Run) (a c : ℕ) (v : AgentView) → Reaches r (c + 1) → a < 4 → IsViewBeforeSnoop (past_of r) a c v
    → HasBytesOwed (past_of r) a c (c + 1) c v
    → HasBytesOwed (past_of r) a (c + 1) (c + 1) c
    (fold agent_after v (option_map_or (snoop_events_of (past_of r) a c) (snooped_at (past_of r) c) []))
unfolding snoop_events_of
snoop-part r a c v h few view owed = by (snooped_at (past_of r) c) refl
  where
    of-claim : (s : SnoopEnd) → snooped_at (past_of r) c ≡ Some s → (o : Option Claim) → s.claim ≡ o
        → HasBytesOwed (past_of r) a (c + 1) (c + 1) c (fold agent_after v (snoop_events_of (past_of r) a c s))
    of-claim s there (Some claim) claims =
        rw (claims, snoop_events_of) (claimed-owed r a c s claim v h few there claims view owed)
    of-claim s there None none = grind (arith, replies-owed)

    by : (o : Option SnoopEnd) → snooped_at (past_of r) c ≡ o
        → HasBytesOwed (past_of r) a (c + 1) (c + 1) c
        (fold agent_after v (option_map_or (snoop_events_of (past_of r) a c) (snooped_at (past_of r) c) []))
    by None e =
        rw e (unsettled-owed-after r a c v h.timely h.bounds (within r c h.long)
        (λ x f. absurd (let both = sym e ∙ f in let no : ⊥ = cc in no)) owed)
    by (Some s) e = rw e (of-claim s e s.claim refl)

-- what an agent sees of the ends of a clock: nothing, or one event of its own
pub data SeesEnd (c : ℕ) (events : List AgentEvent) : Type 0 where
  Nothing : events ≡ [] → SeesEnd c events
  Comes : (number : ℕ) (bytes : List ℕ) → events ≡ Arrived c number bytes ∷ [] → SeesEnd c events
  Upgrades : (number : ℕ) → events ≡ UpgradeEnded c number ∷ [] → SeesEnd c events
  GivesUp : (number : ℕ) → events ≡ GivenUp number ∷ [] → SeesEnd c events

pub end-part : (r : Run) (a c : ℕ) (v : AgentView) (events : List AgentEvent) → Reaches r (c + 1) → SeesEnd c events
    → IsViewAfterSnoop (past_of r) a c v → IsViewOf (past_of r) a (c + 1) (fold agent_after v events)
    → HasBytesOwed (past_of r) a (c + 1) (c + 1) c v
    → HasBytesOwed (past_of r) a (c + 1) (c + 1) (c + 1) (fold agent_after v events)
end-part r a c v events h sees before after owed = by sees
  where
    turned : (list : List AgentEvent) → events ≡ list
        → (IsViewOf (past_of r) a (c + 1) (fold agent_after v list)
        → HasBytesOwed (past_of r) a (c + 1) (c + 1) (c + 1) (fold agent_after v list))
        → HasBytesOwed (past_of r) a (c + 1) (c + 1) (c + 1) (fold agent_after v events)
    turned list e behind = grind arith

    kept : (w : AgentView) → w.buffers ≡ v.buffers → IsViewOf (past_of r) a (c + 1) w
        → HasBytesOwed (past_of r) a (c + 1) (c + 1) (c + 1) w
    kept w same behind =
        ends-kept (past_of r) a (c + 1) (c + 1) c (c + 1) v w same (fills-after (past_of r) a c v before)
        (fills-then (past_of r) a (c + 1) w behind) owed

    by : SeesEnd c events → HasBytesOwed (past_of r) a (c + 1) (c + 1) (c + 1) (fold agent_after v events)
    by (Nothing e) = turned [] e (λ behind. kept v refl behind)
    by (Comes number bytes e) =
        turned (Arrived c number bytes ∷ []) e (λ behind.
        line-owed r a c number bytes v h.timely h.bounds (within r c h.long) (fills-after (past_of r) a c v before)
        (fills-then (past_of r) a (c + 1) (line_arrived v c number bytes) behind) owed)
    by (Upgrades number e) =
        turned (UpgradeEnded c number ∷ []) e (λ behind.
        upgrade-owed r a c number v h.timely h.bounds (within r c h.long) (fills-after (past_of r) a c v before)
        (fills-then (past_of r) a (c + 1) (upgrade_ended v c number) behind) owed)
    by (GivesUp number e) = turned (GivenUp number ∷ []) e (λ behind. kept (given_up v number) refl behind)

-- its own request's end
own-sees : (c : ℕ) (s : SnoopEnd) (bytes : ℕ → List ℕ) (outcome : Outcome) → s.outcome ≡ outcome
    → SeesEnd c (own_end_events c s bytes ++ [])
unfolding own_end_events
own-sees c s bytes Granted e = Comes s.first (bytes s.first) (rw (e, own_end_events) refl)
own-sees c s bytes Handed e = Comes s.first (bytes s.first) (rw (e, own_end_events) refl)
own-sees c s bytes Retried e = GivesUp s.first (rw (e, own_end_events) refl)
own-sees c s bytes Deferred e = Nothing (rw (e, own_end_events) refl)
own-sees c s bytes Written e = GivesUp s.first (rw (e, own_end_events) refl)
own-sees c s bytes Replied e = Nothing (rw (e, own_end_events) refl)
own-sees c s bytes Failed e = Nothing (rw (e, own_end_events) refl)
own-sees c s bytes Upgraded e = Upgrades s.first (rw (e, own_end_events) refl)

reply-sees : (p : Past) (a c : ℕ) (bytes : ℕ → List ℕ) (grant : Grant)
    → SeesEnd c (reply_end_events p a c bytes grant ++ [])
unfolding reply_end_events
reply-sees p a c bytes grant = by (nat_eq grant.agent a) refl (number_asked p a c grant.line) refl
  where
    by : (b : Bool) → nat_eq grant.agent a ≡ b → (o : Option ℕ) → number_asked p a c grant.line ≡ o
        → SeesEnd c (reply_end_events p a c bytes grant ++ [])
    by false e o f = Nothing (rw (e, reply_end_events) refl)
    by true e None f = Nothing (rw (e, reply_end_events, f) refl)
    by true e (Some number) f = Comes number (bytes number) (rw (e, reply_end_events, f) refl)

ended-sees : (p : Past) (a c : ℕ) (bytes : ℕ → List ℕ) (s : SnoopEnd) → SeesEnd c (ended_events p a c bytes s ++ [])
unfolding ended_events
ended-sees p a c bytes s = by s.claim refl
  where
    mine : (b : Bool) → SeesEnd c ((if b then own_end_events c s bytes else []) ++ [])
    mine true = own-sees c s bytes s.outcome refl
    mine false = Nothing refl

    reply : (o : Option Grant) → SeesEnd c (option_map_or (reply_end_events p a c bytes) o [] ++ [])
    reply None = Nothing refl
    reply (Some grant) = reply-sees p a c bytes grant

    by : (o : Option Claim) → s.claim ≡ o → SeesEnd c (ended_events p a c bytes s ++ [])
    by (Some claim) e = rw (e, ended_events) (mine (nat_eq claim.agent a))
    by None e = rw (e, ended_events) (reply s.grant)

one-sees : (p : Past) (a c q : ℕ) (bytes : ℕ → List ℕ) → SeesEnd c (end_events_of p a c bytes q ++ [])
unfolding end_events_of
one-sees p a c q bytes = by (snoop_end_below p (c + 1) q) refl
  where
    by : (o : Option SnoopEnd) → snoop_end_below p (c + 1) q ≡ o → SeesEnd c (end_events_of p a c bytes q ++ [])
    by None e = Nothing (rw (e, end_events_of) refl)
    by (Some s) e = rw (e, end_events_of) (ended-sees p a c bytes s)

pub ends-seen : (r : Run) (a c : ℕ) (bytes : ℕ → List ℕ) → Reaches r (c + 1)
    → SeesEnd c (flat_map (end_events_of (past_of r) a c bytes) (ended_requests (past_of r) c))
ends-seen r a c bytes h = by (ended_requests (past_of r) c) refl
  where
    by : (qs : List ℕ) → ended_requests (past_of r) c ≡ qs
        → SeesEnd c (flat_map (end_events_of (past_of r) a c bytes) (ended_requests (past_of r) c))
    by [] e = rw e (Nothing refl)
    by (q ∷ []) e = rw e (one-sees (past_of r) a c q bytes)
    by (q ∷ u ∷ qs) e = absurd (one-at-end r c q u qs h.timely (within r c h.long) e)

-- the whole clock
pub clock-owed : (r : Run) (a c : ℕ) (bytes : ℕ → List ℕ) (v : AgentView) → Reaches r (c + 1) → 0 < r.plan.cache → a < 4
    → IsViewOf (past_of r) a c v → HasBytesOwed (past_of r) a c c c v
    → HasBytesOwed (past_of r) a (c + 1) (c + 1) (c + 1) (fold agent_after v (events_of_agent (past_of r) a c bytes))
unfolding events_of_agent
clock-owed r a c bytes v h some few view owed =
    let p : Past = past_of r in
    let snoops : List AgentEvent = option_map_or (snoop_events_of p a c) (snooped_at p c) [] in
    let ends : List AgentEvent = flat_map (end_events_of p a c bytes) (ended_requests p c) in
    let v1 : AgentView = after v (handed_events p a c) in
    let v2 : AgentView = performed v1 c in
    let v3 : AgentView = after v2 (sent_events p a c) in
    let v4 : AgentView = after v3 (cancelled_events p a c) in
    let v5 : AgentView = after v4 snoops in
    let stage4 =
    cancelled-all r a c v3 h (sent-all r a c v2 h (performed-view r a c v1 h few (handed-all p a c v view))) in
    let stage5 = snooped-all r a c v4 h some stage4 in
    let owed4 = middle-part p a c c (c + 1) v1 (handed-part r a c v h owed) in
    let owed5 = snoop-part r a c v4 h few stage4 owed4 in
    let owed6 = end-part r a c v5 ends h (ends-seen r a c bytes h) stage5
    (ended-all r a c bytes v5 h some few stage5) owed5 in
    subst (HasBytesOwed p a (c + 1) (c + 1) (c + 1))
    (sym (fold-both v (handed_events p a c)
    (Performed c ∷ (sent_events p a c ++ (cancelled_events p a c ++ (snoops ++ ends))))
    ∙ fold-both v2 (sent_events p a c) (cancelled_events p a c ++ (snoops ++ ends))
    ∙ fold-both v3 (cancelled_events p a c) (snoops ++ ends)
    ∙ fold-both v4 snoops ends))
    owed6

-- all clocks below one
pub clocks-owed : (r : Run) (a n : ℕ) (bytes : ℕ → List ℕ) → Reaches r n → 0 < r.plan.cache → a < 4
    → HasBytesOwed (past_of r) a n n n (fold agent_after
    (first_view a (items_of (past_of r) a) r.plan.cache r.plan.ahead r.plan.profile)
    (events_of_agent_below (past_of r) a n bytes))
unfolding events_of_agent_below past_of
clocks-owed r a zero bytes h some few = first-owed (past_of r) a
clocks-owed r a (suc n) bytes h some few =
    let p : Past = past_of r in
    let long = h.long in
    let more : Reaches r (n + 1) = record { timely = h.timely; bounds = h.bounds; long = omega arith } in
    let less : Reaches r n = reaches-less r n (n + 1) (omega arith) more in
    let first : AgentView = first_view a (items_of p a) r.plan.cache r.plan.ahead r.plan.profile in
    let then_view : AgentView = fold agent_after first (events_of_agent_below p a n bytes) in
    let next = clock-owed r a n bytes then_view more some few (clocks-view r a n bytes less some few)
    (clocks-owed r a n bytes less some few) in
    subst (λ m. HasBytesOwed p a m m m (fold agent_after first (events_of_agent_below p a (suc n) bytes))) (add-one n)
    (subst (HasBytesOwed p a (n + 1) (n + 1) (n + 1))
    (sym (fold-both first (events_of_agent_below p a n bytes) (events_of_agent p a n bytes))) next)
