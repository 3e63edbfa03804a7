-- The agents of a bench are sound at the stages of its next clock.
use Rattle.fsb_bench_run.proofs.Words
use Words.{ℕ, ◌+◌, ◌<◌, ◌≡◌, ◌||◌, Bool, true, false, if◌then◌else◌, Option, Some, None, List, [], ◌∷◌, fold, is_some}
use Words.{nat_eq, refl, sym, ap, subst, ◌∙◌, inl, inr, arith, option_map, option_map_or, eqb-true, cancelled_events}
use Words.{given_up_events, number_asked, sent_events, HasBytesOwed, may_see, may_see_all, IsViewAfterHit}
use Words.{IsViewAfterSent, IsViewBeforeSnoop, cancelled-seen, claimed-out, other-may, own-seen, replied-out, send-may}
use Words.{sound-all, AgentEvent, Committed, GivenUp, HandedOn, Performed, Sent, agent_after, AgentView, may_commit}
use Words.{IsSound, sound_handed, cancelled_in, Choice, Entry, Reaches, begun_at, Claim, Run, past_of, Starting}
use Words.{BytesFrom, Memory, Agents, SnoopSettled, step_answered, step_cancelled, step_decided, step_drive}
use Words.{step_entries, step_fetched, step_performed, step_run, step_snooped, step_started, answered_by, bus_cancelled}
use Words.{bus_snooped, bus_started, cancelled_event, snooped_event, starting_event, BenchView, BusView, next_clock_of}
use Words.{bus_fetched, bytes_source, for_all, IsBegunAt, IsBenchOf}
use Rattle.fsb_bench_run.proofs.AgentsOwing.{owed-cancelled}
use Rattle.fsb_bench_run.proofs.BegunEvents.{AgentsAre, begun-nothing, cancel-events, cancelled-entry, cancelled-now}
use Rattle.fsb_bench_run.proofs.BegunEvents.{start-events, started-views, told-each, views-cancelled}
use Rattle.fsb_bench_run.proofs.LogsNow.{reaches-step}
use Rattle.fsb_bench_run.proofs.SnoopCases.{snoop-cases}
use Rattle.fsb_bench_run.proofs.SnoopHeard.{IsSnoopHeard, hears-snoop}
use Rattle.fsb_bench_run.proofs.SnoopViews.{answered-agents}
use Rattle.fsb_bench_run.proofs.StartingNow.{starting-begins}
use Rattle.fsb_bench_run.proofs.StepEntries.{step-with}
use Rattle.fsb_bench_run.proofs.StepWith.{begins-with}

-- each of the agents is sound
abbrev pub AreSound : List AgentView → Type 0
AreSound agents = AgentsAre (λ a w. IsSound w) agents

-- a sound agent that sees an event which it may see stays sound
pub sound-seen : (w : AgentView) (event : AgentEvent) → IsSound w → may_see w event ≡ true
    → IsSound (agent_after w event)
unfolding may_see_all
sound-seen w event sound may = sound-all w (event ∷ []) sound (rw may refl)

fetched-sound : (bus : BusView) (o : Option BytesFrom) → AreSound bus.agents → AreSound (bus_fetched bus o).agents
fetched-sound bus None sound = sound
fetched-sound bus (Some (Memory line)) sound = sound
fetched-sound bus (Some (Agents number)) sound =
    told-each (λ a w. IsSound w) (λ a w. IsSound w) (for_all (HandedOn number)) bus.agents
    (λ a w is. sound_handed w number is) sound

-- with the bytes that move
pub sound-fetched : (v : BenchView) → IsBenchOf v → AreSound (step_fetched v).agents
sound-fetched v b =
    fetched-sound v.bus (bytes_source v.bus (step_drive v)) (λ a w at. (b.agents.each a w at).sound)

-- after the hits
pub sound-performed : (v : BenchView) → IsBenchOf v → AreSound (step_performed v).agents
unfolding may_see
sound-performed v b =
    let n = next_clock_of v in
    told-each (λ a w. IsSound w) (λ a w. IsSound w) (for_all (Performed n)) (step_fetched v).agents
    (λ a w is. sound-seen w (Performed n) is refl) (sound-fetched v b)

-- with what an agent of a run sends
sent-sound : (s : Run) (a n : ℕ) (w : AgentView) → Reaches s (n + 1) → IsViewAfterHit (past_of s) a n w → IsSound w
    → IsSound (fold agent_after w (sent_events (past_of s) a n))
unfolding sent_events may_see
sent-sound s a n w h view sound = by (begun_at (past_of s) n) refl
  where
    one : (claim : Claim) → begun_at (past_of s) n ≡ Some claim → (mine : Bool) → nat_eq claim.agent a ≡ mine
        → IsSound (fold agent_after w (if mine then Sent n n ∷ [] else []))
    one claim e true m = sound-seen w (Sent n n) sound (send-may s a n claim w h e (eqb-true claim.agent a m) view)
    one claim e false m = sound

    by : (o : Option Claim) → begun_at (past_of s) n ≡ o
        → IsSound (fold agent_after w
        (option_map_or (λ (claim : Claim). if nat_eq claim.agent a then Sent n n ∷ [] else []) o []))
    by None e = sound
    by (Some claim) e = one claim e (nat_eq claim.agent a) refl

-- without what is cancelled
given-sound : (s : Run) (a n : ℕ) (w : AgentView) → Reaches s (n + 1) → IsViewAfterSent (past_of s) a n w → IsSound w
    → IsSound (fold agent_after w (cancelled_events (past_of s) a n))
unfolding cancelled_events given_up_events may_see
given-sound s a n w h view sound = by (cancelled_in (past_of s) n) refl
  where
    one : (q : ℕ) (claim : Claim) → cancelled_in (past_of s) n ≡ Some q → begun_at (past_of s) q ≡ Some claim
        → (mine : Bool) → nat_eq claim.agent a ≡ mine
        → IsSound (fold agent_after w (if mine then GivenUp q ∷ [] else []))
    one q claim e f true m =
        sound-seen w (GivenUp q) sound (cancelled-seen s a n q claim w h e f (eqb-true claim.agent a m) sound view)
    one q claim e f false m = sound

    begun : (q : ℕ) → cancelled_in (past_of s) n ≡ Some q → (o : Option Claim) → begun_at (past_of s) q ≡ o
        → IsSound (fold agent_after w
        (option_map_or (λ (claim : Claim). if nat_eq claim.agent a then GivenUp q ∷ [] else []) o []))
    begun q e None f = sound
    begun q e (Some claim) f = one q claim e f (nat_eq claim.agent a) refl

    by : (o : Option ℕ) → cancelled_in (past_of s) n ≡ o
        → IsSound (fold agent_after w (option_map_or (given_up_events (past_of s) a) o []))
    by None e = sound
    by (Some q) e = begun q e (begun_at (past_of s) q) refl

started-sound : (s : Run) (n : ℕ) (bus : BusView) (o : Option Starting) → Reaches s (n + 1)
    → ((x : Starting) → o ≡ Some x → IsBegunAt s n x.who x.request)
    → AgentsAre (λ a w. IsViewAfterHit (past_of s) a n w) bus.agents → AreSound bus.agents
    → AreSound (option_map_or (bus_started bus n) o bus).agents
started-sound s n bus None h begun views sound = sound
started-sound s n bus (Some x) h begun views sound =
    let long = h.long in
    told-each (λ a w. IsViewAfterHit (past_of s) a n w × IsSound w) (λ a w. IsSound w) (starting_event n x.who)
    bus.agents
    (λ a w k. subst (λ events. IsSound (fold agent_after w events))
    (sym (start-events s n a x.who x.request (omega arith) (begun x refl))) (sent-sound s a n w h k.0 k.1))
    (λ a w at. (views a w at, sound a w at))

-- after what begins
pub sound-started : (v : BenchView) (hold : Bool) (choice : Choice) → IsBenchOf v
    → AreSound (step_started v hold).agents
sound-started v hold choice b =
    let k = step-with v hold choice b in
    started-sound (step_run v hold choice) (next_clock_of v) (step_performed v) (step_decided v hold).starting
    (reaches-step v hold choice b) (λ x is. starting-begins v hold choice (step_entries v hold) x k is)
    (λ a w at. k.hits.after a w at) (sound-performed v b)

-- the agents after what begins are as the longer run says
pub views-started : (v : BenchView) (hold : Bool) (choice : Choice) → IsBenchOf v
    → AgentsAre (λ a w. IsViewAfterSent (past_of (step_run v hold choice)) a (next_clock_of v) w)
    (step_started v hold).agents
views-started v hold choice b =
    let s = step_run v hold choice in
    let n = next_clock_of v in
    let entries = step_entries v hold in
    let k = step-with v hold choice b in
    let h = reaches-step v hold choice b in
    let long = h.long in
    started-views s n (step_performed v) (step_decided v hold).starting h
    (λ none. begun-nothing s n (omega arith) (begins-with v hold choice entries ∙ ap is_some none))
    (λ x is. starting-begins v hold choice entries x k is) (λ a w at. k.hits.after a w at)

cancelled-sound : (s : Run) (n : ℕ) (bus : BusView) (o : Option Entry) → Reaches s (n + 1)
    → cancelled_in (past_of s) n ≡ option_map (λ (e : Entry). e.clock) o
    → ((e : Entry) → o ≡ Some e → (e.clock < n) × IsBegunAt s e.clock e.who e.request)
    → AgentsAre (λ a w. IsViewAfterSent (past_of s) a n w) bus.agents → AreSound bus.agents
    → AreSound (option_map_or (bus_cancelled bus) o bus).agents
cancelled-sound s n bus None h is begun views sound = sound
cancelled-sound s n bus (Some e) h is begun views sound =
    let long = h.long in
    let b = begun e refl in
    let low = b.0 in
    told-each (λ a w. IsViewAfterSent (past_of s) a n w × IsSound w) (λ a w. IsSound w)
    (cancelled_event e.clock e.who) bus.agents
    (λ a w k. subst (λ events. IsSound (fold agent_after w events))
    (sym (cancel-events s n a e.clock e.who e.request (omega arith) b.1 is)) (given-sound s a n w h k.0 k.1))
    (λ a w at. (views a w at, sound a w at))

-- after what is cancelled
pub sound-cancelled : (v : BenchView) (hold : Bool) (choice : Choice) → IsBenchOf v
    → AreSound (step_cancelled v hold).agents
sound-cancelled v hold choice b =
    let entries = step_entries v hold in
    let k = step-with v hold choice b in
    cancelled-sound (step_run v hold choice) (next_clock_of v) (step_started v hold) (step_decided v hold).cancelled
    (reaches-step v hold choice b) (cancelled-now v hold choice entries k)
    (λ e is. cancelled-entry v hold choice entries e k is) (views-started v hold choice b)
    (sound-started v hold choice b)

-- an agent that is sound before the snoop end, with what it owes
pub record IsSoundBefore (s : Run) (n a : ℕ) (w : AgentView) : Type 0 where
  pub view : IsViewBeforeSnoop (past_of s) a n w
  pub owed : HasBytesOwed (past_of s) a n (n + 1) n w
  pub sound : IsSound w

-- it may see the snoop end that the bench hears: that of its own request, that of a reply to it, and that of another's
pub snoop-may : (s : Run) (n a : ℕ) (x : SnoopSettled) (w : AgentView) → Reaches s (n + 1) → IsSnoopHeard s n x
    → IsSoundBefore s n a w → (mine : Bool) → nat_eq a x.served.agent ≡ mine
    → may_commit w x.served.first mine x.outcome ≡ true
snoop-may s n a x w h k y true m = elim k.served [
  | inl c ↦
      subst (λ q. may_commit w q true x.outcome ≡ true) c.first
      (subst (λ o. may_commit w k.end.first true o ≡ true) k.outcome
      (own-seen s a n k.end.first k.end w h (claimed-out s a n k.end c.claim w h k.there c.claims
      (c.agent ∙ sym (eqb-true a x.served.agent m)) y.view) y.sound y.view y.owed))
  | inr c ↦
      let agent : c.grant.agent ≡ a = c.agent ∙ sym (eqb-true a x.served.agent m) in
      subst (λ o. may_commit w x.served.first true o ≡ true) k.outcome
      (own-seen s a n x.served.first k.end w h (replied-out s a n x.served.first k.end c.grant w h k.there c.unclaimed
      c.grants agent
      (subst (λ b. number_asked (past_of s) b n c.grant.line ≡ Some x.served.first) agent c.asked) y.view)
      y.sound y.view y.owed)
]
snoop-may s n a x w h k y false m =
    let long = h.long in
    subst (λ o. may_commit w x.served.first false o ≡ true) k.outcome
    (other-may s a n x.served.first k.end w h.timely h.bounds (omega arith) k.there y.owed)

snooped-sound : (s : Run) (n a : ℕ) (x : SnoopSettled) (w : AgentView) → Reaches s (n + 1) → IsSnoopHeard s n x
    → IsSoundBefore s n a w → IsSound (fold agent_after w (snooped_event x a))
unfolding may_see
snooped-sound s n a x w h k y =
    sound-seen w
    (Committed x.served.first (nat_eq a x.served.agent) x.served.request (x.hit || x.hitm) x.outcome) y.sound
    (snoop-may s n a x w h k y (nat_eq a x.served.agent) refl)

-- the agents before the snoop end
pub sound-before : (v : BenchView) (hold : Bool) (choice : Choice) → IsBenchOf v
    → AgentsAre (λ a w. IsSoundBefore (step_run v hold choice) (next_clock_of v) a w) (step_cancelled v hold).agents
sound-before v hold choice b =
    let views = views-cancelled v hold choice (step_entries v hold) (step-with v hold choice b)
    (reaches-step v hold choice b) in
    let owing = owed-cancelled v hold choice b in
    let sound = sound-cancelled v hold choice b in
    λ a w at. record { view = views a w at; owed = owing a w at; sound = sound a w at }

-- after the snoop end
pub sound-snooped : (v : BenchView) (hold : Bool) (choice : Choice) → IsBenchOf v
    → AreSound (step_snooped v hold).agents
sound-snooped v hold choice b =
    let s = step_run v hold choice in
    let n = next_clock_of v in
    let entries = step_entries v hold in
    let k = step-with v hold choice b in
    let h = reaches-step v hold choice b in
    let before = step_cancelled v hold in
    elim (snoop-cases v hold choice entries k.grows k.bench.requests) [
      | inl c ↦
          let x = hears-snoop v hold choice entries k h c in
          subst (λ o. AreSound (option_map_or (bus_snooped before) o before).agents) (sym x.decided)
          (told-each (λ a w. IsSoundBefore s n a w) (λ a w. IsSound w) (snooped_event x.snooped) before.agents
          (λ a w y. snooped-sound s n a x.snooped w h x.heard y) (sound-before v hold choice b))
      | inr g ↦
          subst (λ o. AreSound (option_map_or (bus_snooped before) o before).agents) (sym g.none)
          (sound-cancelled v hold choice b)
    ]

-- after the response
pub sound-answered : (v : BenchView) (hold : Bool) (choice : Choice) → IsBenchOf v
    → AreSound (step_answered v hold).agents
sound-answered v hold choice b =
    subst (λ agents. AreSound agents)
    (sym (answered-agents (step_snooped v hold) (next_clock_of v) (answered_by (step_snooped v hold) (step_drive v))))
    (sound-snooped v hold choice b)
