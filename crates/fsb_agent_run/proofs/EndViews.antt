-- From behind the snoop end of a clock to the next clock, where no line comes to the agent.
use Rattle.fsb_agent_run.proofs.Words
use Words.{ℕ, ◌+◌, ◌<◌, ◌≡◌, true, false, not, ◌&&◌, ◌||◌, map, Option, Some, None, nat_eq, refl, sym, ap, subst, ◌∙◌}
use Words.{inl, inr, arith, filter, list_any, option_and_then, and_parts, cases_Bool, eq-eqb, eqb-true}
use Words.{false_from_ne_true, is_some_and, Claim, Grant, Past, SnoopEnd, completes_by, is_arrival, is_brought}
use Words.{ended_requests, holds_line, is_end_at, is_exclusive, is_granted, latest_grant, is_hit, is_store_on, Run}
use Words.{past_of, Need, completes_at, is_done_at, owed, is_ended-more, is_deferral, Outcome, Deferred}
use Words.{snoop_end_below, fits_kind, is_dirty_below, some-there, and-then, some-and, Reaches, brought-told}
use Words.{ending-serves, snoop-below, AgentView, given_up, EndsFor, NothingEndsFor, HasLinesOf, HasRequestsOf}
use Words.{IsAgentOf, IsPlacedIn, is_awaited, owing_by, state_told, IsPlacedThrough, IsViewAfterSnoop, IsViewOf}
use Words.{is_dirty_snooped, owed_through}
use Rattle.fsb_run_laws.specs.Brought.{brings, is_bringing}
use Rattle.fsb_agent_run.proofs.Among.{Among, among-any, any-among}
use Rattle.fsb_agent_run.proofs.EndFacts.{asked-there, below-says, first-of-grant, grant-there, last-is, made-by}
use Rattle.fsb_agent_run.proofs.EndFacts.{one-ended, own-left, owed-kept, owed-left, replied-left}
use Rattle.fsb_agent_run.proofs.GrantsAwaited.{latest-says}
use Rattle.fsb_agent_run.proofs.ItemsCompleted.{completes-not}
use Rattle.fsb_agent_run.proofs.OutLists.{among-without, kept-of, map-without, requests-from, wanted-of}
use Rattle.fsb_agent_run.proofs.OwedSteps.{reaches-less}
use Rattle.fsb_agent_run.proofs.OwnSnoops.{idle-deferred, settled-as, unmade}
use Rattle.fsb_agent_run.proofs.PlaceSteps.{place-quiet}
use Rattle.fsb_agent_run.proofs.SentViews.{same-place}
use Rattle.fsb_agent_run.proofs.SnoopSteps.{outs-apart}
use Rattle.fsb_agent_run.proofs.StoresTold.{any_stored, end-state, end-state_hit}
use Rattle.fsb_agent_run.proofs.ToldStates.{state_snooped_at}

-- no request ends at c that was granted a line to the agent
pub record NoGrantEnds (p : Past) (a c : ℕ) : Type 0 where
  pub none : (first : ℕ) (s : SnoopEnd) (grant : Grant) → is_end_at p c first ≡ true
      → snoop_end_below p (c + 1) first ≡ Some s → s.grant ≡ Some grant → grant.agent ≡ a → ⊥

-- so no line is brought to it
unbrought : (r : Run) (a c : ℕ) (need : Need) → Reaches r (c + 1) → NoGrantEnds (past_of r) a c
    → is_brought (past_of r) a c need ≡ false
unfolding brings is_bringing is_end_at
unbrought r a c need h no_grant =
    let p = past_of r in
    brought-told r a c need h ∙ false_from_ne_true (list_any (brings p a c need) (ended_requests p c)) (λ t.
    let q = any-among (brings p a c need) (ended_requests p c) t in
    let g = some-and (option_and_then (λ (x : SnoopEnd). x.grant) (snoop_end_below p (c + 1) q.0))
    (is_bringing a need) q.2 in
    let s = and-then (λ (x : SnoopEnd). x.grant) (snoop_end_below p (c + 1) q.0) g.0 g.1 in
    let parts = and_parts (nat_eq g.0.agent a && nat_eq g.0.line need.line) (g.0.owns || not need.alone) g.2 in
    let mine = and_parts (nat_eq g.0.agent a) (nat_eq g.0.line need.line) parts.0 in
    no_grant.none q.0 s.0 g.0 (among-any (nat_eq q.0) q.0 (ended_requests p c) q.1 (eq-eqb q.0 q.0 refl)) s.1 s.2
    (eqb-true g.0.agent a mine.0))

pub no-arrival : (r : Run) (a c : ℕ) → Reaches r (c + 1) → NoGrantEnds (past_of r) a c
    → is_arrival (past_of r) a c ≡ false
unfolding is_arrival completes_by
no-arrival r a c h no_grant = grind (arith, some-and, any-among, unbrought)

-- a line is awaited as before where the end of its latest grant is not at the clock
pub awaited-still : (p : Past) (a line c : ℕ)
    → ((grant : Grant) → latest_grant p a line (c + 1) ≡ Some grant → is_end_at p c grant.first ≡ false)
    → is_awaited p a line (c + 1) (c + 1) ≡ is_awaited p a line (c + 1) c
unfolding is_awaited is_some_and
awaited-still p a line c none = grind (arith, is_ended-more)

-- the latest grant of a line, with its snoop end
pub latest-snooped : (r : Run) (a line c : ℕ) (grant : Grant) → Reaches r (c + 1)
    → latest_grant (past_of r) a line (c + 1) ≡ Some grant
    → (s : SnoopEnd) × (snoop_end_below (past_of r) (c + 1) grant.first ≡ Some s) × (s.grant ≡ Some grant)
    × (grant.agent ≡ a) × (grant.line ≡ line)
unfolding is_granted
latest-snooped r a line c grant h e = grind (arith, latest-says, grant-there, first-of-grant, snoop-below, some-there)

latest-unended : (r : Run) (a line c : ℕ) (grant : Grant) → Reaches r (c + 1) → NoGrantEnds (past_of r) a c
    → latest_grant (past_of r) a line (c + 1) ≡ Some grant → is_end_at (past_of r) c grant.first ≡ false
latest-unended r a line c grant h no_grant e = grind (arith, latest-snooped)

-- an agent without an entry at a clock stores into nothing
unstored : (p : Past) (a line c : ℕ) → completes_at p a c ≡ false → any_stored p a line c ≡ false
unfolding completes_at is_store_on is_done_at
unstored p a line c none = grind (arith, any-among, among-any)

-- without an arrival the states stay
pub end-lines : (r : Run) (a line c : ℕ) → Reaches r (c + 1) → a < 4 → is_arrival (past_of r) a c ≡ false
    → state_told (holds_line (past_of r) a line (c + 1)) (is_exclusive (past_of r) a line (c + 1))
    (is_dirty_below (past_of r) a line (c + 1))
    ≡ state_snooped_at (past_of r) a line c
end-lines r a line c h few off = grind (arith, end-state_hit, unstored, completes-not, end-state)

-- and so does the place, unless a hit has moved it on
pub end-placed : (r : Run) (a c : ℕ) (v : AgentView) → Reaches r (c + 1) → a < 4 → is_arrival (past_of r) a c ≡ false
    → IsPlacedThrough (past_of r) a c v → IsPlacedIn (past_of r) a (c + 1) v
end-placed r a c v h few off at =
    let p = past_of r in
    elim (cases_Bool (is_hit p a c)) [
      | inl hit ↦ at.behind hit
      | inr none ↦ place-quiet p a c v (completes-not r a c h few none off) (at.before none)
    ]

-- where no line comes, only the requests may be others
pub still-view : (r : Run) (a c : ℕ) (v : AgentView) → Reaches r (c + 1) → a < 4 → NoGrantEnds (past_of r) a c
    → HasRequestsOf (past_of r) a (c + 1) (owed (past_of r) a (c + 1)) v → IsAgentOf (past_of r) a v
    → IsPlacedThrough (past_of r) a c v
    → HasLinesOf (past_of r) a (c + 1) c (λ line. is_dirty_snooped (past_of r) a line c) v
    → IsViewOf (past_of r) a (c + 1) v
still-view r a c v h few no_grant requests agent placed lines =
    grind (arith, no-arrival, end-placed, end-lines, awaited-still, latest-unended)

is-deferred : (outcome : Outcome) → is_deferral outcome ≡ true → outcome ≡ Deferred
unfolding is_deferral
is-deferred outcome h1 = grind arith

-- where nothing ends for the agent no line comes to it
pub nothing-granted : (r : Run) (a c : ℕ) → Reaches r (c + 1) → NothingEndsFor (past_of r) a c
    → NoGrantEnds (past_of r) a c
nothing-granted r a c h quiet = record {
  none = λ first s grant ends snooped makes mine. by first s grant ends snooped makes mine s.claim refl;
}
  where
    by : (first : ℕ) (s : SnoopEnd) (grant : Grant) → is_end_at (past_of r) c first ≡ true
        → snoop_end_below (past_of r) (c + 1) first ≡ Some s → s.grant ≡ Some grant → grant.agent ≡ a
        → (o : Option Claim) → s.claim ≡ o → ⊥
    by first s grant ends snooped makes mine (Some claim) claims =
        let p = past_of r in
        let below = below-says p (c + 1) first s snooped in
        let low = below.1 in
        let at : Reaches r (below.0 + 1) = reaches-less r (below.0 + 1) (c + 1) (omega arith) h in
        let settled = settled-as r below.0 s claim at below.2 claims in
        let made = made-by _ _ grant (sym settled.granted ∙ makes) in
        let own : claim.agent ≡ a = ap (λ (g : Grant). g.agent) made ∙ mine in
        let none = quiet.none first s ends snooped in
        elim (cases_Bool (is_deferral s.outcome)) [
          | inr kept ↦ let left = own-left p a c s claim claims own kept in cc
          | inl deferred ↦
              let is = is-deferred s.outcome deferred in
              let i = idle-deferred settled.request.kind (ap (fits_kind settled.request.kind) (sym is)
              ∙ settled.fits) in
              let nothing = unmade r below.0 s claim settled Deferred is i.makes i.plain in
              cc
        ]
    by first s grant ends snooped makes mine None none =
        let p = past_of r in
        let k = ending-serves r c first s grant h ends snooped none makes in
        let serves = k.0 in
        let above = serves.snooped.above in
        let before = serves.before in
        let last = last-is r a c serves.end.first serves.claim h serves.begun (serves.agent ∙ mine) (omega arith) k.1 in
        let one = last.begun in
        let two = serves.begun in
        let claims : last.claim ≡ serves.claim = cc in
        let line : last.owing.claim.line ≡ grant.line = ap (λ (x : Claim). x.line) (last.owns ∙ claims) ∙ serves.line in
        let asked = asked-there p a c grant.line last.owing last.among line in
        let number = asked.1 in
        let left = replied-left p a c s grant none makes mine in
        let gone = quiet.none first s ends snooped in
        cc

pub quiet-end-view : (r : Run) (a c : ℕ) (v : AgentView) → Reaches r (c + 1) → a < 4 → NothingEndsFor (past_of r) a c
    → IsViewAfterSnoop (past_of r) a c v → IsViewOf (past_of r) a (c + 1) v
quiet-end-view r a c v h few quiet view =
    let p = past_of r in
    still-view r a c v h few (nothing-granted r a c h quiet)
    (subst (λ xs. HasRequestsOf p a (c + 1) xs v) (sym (owed-kept r a c h quiet)) view.requests)
    view.agent view.placed view.lines

-- the requests without the one that has ended
pub left-requests : (r : Run) (a c number : ℕ) (s : SnoopEnd) (v w : AgentView) → Reaches r (c + 1)
    → EndsFor (past_of r) a c number s → w.outs ≡ (given_up v number).outs
    → HasRequestsOf (past_of r) a (c + 1) (owed_through (past_of r) a c) v
    → HasRequestsOf (past_of r) a (c + 1) (owed (past_of r) a (c + 1)) w
left-requests r a c number s v w h ends same requests =
    let p = past_of r in
    let list = map-without p a number v.outs (outs-apart r a c (c + 1) v h requests)
    ∙ ap (filter (λ owing. not (nat_eq owing.claim.first number))) requests.owed
    ∙ sym (owed-left r a c number s h ends) in
    requests-from p a (c + 1) (owed p a (c + 1)) w (ap (map (owing_by a)) same ∙ list)
    (λ out there. wanted-of p a (c + 1) (owed_through p a c) v out requests
    (among-without number out v.outs (subst (Among out) same there)))
    (λ out there. kept-of p a (c + 1) (owed_through p a c) v out requests
    (among-without number out v.outs (subst (Among out) same there)))

-- where a request ends for the agent that was granted nothing, no line comes to it
nothing-made : (r : Run) (a c number : ℕ) (s : SnoopEnd) → Reaches r (c + 1) → EndsFor (past_of r) a c number s
    → s.grant ≡ None → NoGrantEnds (past_of r) a c
nothing-made r a c number s h ends none = grind (arith, one-ended)

-- so there the agent has no arrival
pub quiet-arrival : (r : Run) (a c : ℕ) → Reaches r (c + 1) → NothingEndsFor (past_of r) a c
    → is_arrival (past_of r) a c ≡ false
quiet-arrival r a c h quiet = no-arrival r a c h (nothing-granted r a c h quiet)

pub ungranted-arrival : (r : Run) (a c number : ℕ) (s : SnoopEnd) → Reaches r (c + 1)
    → EndsFor (past_of r) a c number s → s.grant ≡ None → is_arrival (past_of r) a c ≡ false
ungranted-arrival r a c number s h ends none = no-arrival r a c h (nothing-made r a c number s h ends none)

-- a request that was granted nothing is given up
pub left-view : (r : Run) (a c number : ℕ) (s : SnoopEnd) (v : AgentView) → Reaches r (c + 1) → a < 4
    → EndsFor (past_of r) a c number s → s.grant ≡ None → IsViewAfterSnoop (past_of r) a c v
    → IsViewOf (past_of r) a (c + 1) (given_up v number)
left-view r a c number s v h few ends none view =
    let p = past_of r in
    let w : AgentView = given_up v number in
    let no_grant = nothing-made r a c number s h ends none in
    still-view r a c w h few no_grant (left-requests r a c number s v w h ends refl view.requests)
    (record {
      number = view.agent.number;
      items = view.agent.items;
      ahead = view.agent.ahead;
      profile = view.agent.profile;
      cache = view.agent.cache;
    })
    (same-place p a c v w refl refl refl view.placed)
    (record { states = view.lines.states; fills = view.lines.fills; in_sets = view.lines.in_sets })
