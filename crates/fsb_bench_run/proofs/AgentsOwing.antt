-- What the agents of a bench owe at the stages of its next clock is what they owe there in the longer run.
use Rattle.fsb_bench_run.proofs.Words
use Words.{ℕ, ◌+◌, ◌<◌, ◌≡◌, ◌||◌, Bool, true, false, Option, Some, None, fold, nat_eq, refl, sym, ap, subst, ◌∙◌, inl}
use Words.{inr, arith, option_map_or, both_ways, eq-eqb, eqb-true, number_asked, HasBytesOwed, IsViewBeforeSnoop}
use Words.{claimed-out, kept-at-response, other-claimed-owed, owed-grown, own-owed-then, replied-out}
use Words.{unsettled-owed-after, HandedOn, Performed, agent_after, AgentView, committed, Request, Choice, Entry}
use Words.{Reaches, replied-on, snooped_at, Past, SnoopEnd, Run, past_of, Outcome, Replied, Starting, SnoopSettled}
use Words.{step_answered, step_cancelled, step_decided, step_drive, step_entries, step_fetched, step_performed}
use Words.{step_run, step_snooped, step_started, answered_by, bus_cancelled, bus_snooped, bus_started, cancelled_event}
use Words.{snooped_event, starting_event, BenchView, BusView, next_clock_of, for_all, IsBenchOf}
use Rattle.fsb_bench_run.proofs.AgentsCounted.{cancelled-few}
use Rattle.fsb_bench_run.proofs.BegunEvents.{AgentsAre, told-each, views-cancelled}
use Rattle.fsb_bench_run.proofs.FetchCases.{fetch-cases}
use Rattle.fsb_bench_run.proofs.LogsNow.{reaches-step}
use Rattle.fsb_bench_run.proofs.NextRun.{grows-to}
use Rattle.fsb_bench_run.proofs.OwingKept.{cancelled-buffers, owed-alike, performed-buffers, started-buffers}
use Rattle.fsb_bench_run.proofs.OwingKept.{told-handed}
use Rattle.fsb_bench_run.proofs.SnoopCases.{snoop-cases}
use Rattle.fsb_bench_run.proofs.SnoopHeard.{IsClaimHeard, IsReplyHeard, IsSnoopHeard, hears-snoop}
use Rattle.fsb_bench_run.proofs.SnoopViews.{answered-agents}
use Rattle.fsb_bench_run.proofs.StepEntries.{step-with}

-- an agent owes, before the snoop end of the clock, what it owes there in the longer run
abbrev pub OwesBefore : BenchView → Bool → Choice → ℕ → AgentView → Type 0
OwesBefore v hold choice a w =
    HasBytesOwed (past_of (step_run v hold choice)) a (next_clock_of v) (next_clock_of v + 1) (next_clock_of v) w

-- and after it
abbrev pub OwesAfter : BenchView → Bool → Choice → ℕ → AgentView → Type 0
OwesAfter v hold choice a w =
    HasBytesOwed (past_of (step_run v hold choice)) a (next_clock_of v + 1) (next_clock_of v + 1) (next_clock_of v) w

-- with the bytes that move
pub owed-fetched : (v : BenchView) (hold : Bool) (choice : Choice) → IsBenchOf v
    → AgentsAre (OwesBefore v hold choice) (step_fetched v).agents
owed-fetched v hold choice b =
    let r = v.run in
    let s = step_run v hold choice in
    let p : Past = past_of s in
    let n = next_clock_of v in
    let h = reaches-step v hold choice b in
    let old : Reaches r n = record { timely = b.timely; bounds = b.bounds; long = omega arith } in
    let before : AgentsAre (λ a w. HasBytesOwed p a n n n w) v.bus.agents =
    λ a w at. owed-grown r s a n w (grows-to v hold choice b) old (b.agents.each a w at).owed in
    elim (fetch-cases v hold choice b) [
      | inl k ↦
          subst (λ agents. AgentsAre (OwesBefore v hold choice) agents) (sym k.agents)
          (told-each (λ a w. HasBytesOwed p a n n n w) (OwesBefore v hold choice) (for_all (HandedOn k.number))
          v.bus.agents (λ a w owed. told-handed s a n k.number w h k.responds owed) before)
      | inr k ↦
          subst (λ agents. AgentsAre (OwesBefore v hold choice) agents) (sym k.agents)
          (λ a w at. kept-at-response p a n w (λ q e. k.nobody a q e) (before a w at))
    ]

-- after the hits
pub owed-performed : (v : BenchView) (hold : Bool) (choice : Choice) → IsBenchOf v
    → AgentsAre (OwesBefore v hold choice) (step_performed v).agents
owed-performed v hold choice b =
    let p : Past = past_of (step_run v hold choice) in
    let n = next_clock_of v in
    told-each (OwesBefore v hold choice) (OwesBefore v hold choice) (for_all (Performed n)) (step_fetched v).agents
    (λ a w owed.
    owed-alike p a n (n + 1) n w (fold agent_after w (for_all (Performed n) a)) (performed-buffers w n) owed)
    (owed-fetched v hold choice b)

started-owed : (p : Past) (n c r d : ℕ) (bus : BusView) (o : Option Starting)
    → AgentsAre (λ a w. HasBytesOwed p a n r d w) bus.agents
    → AgentsAre (λ a w. HasBytesOwed p a n r d w) (option_map_or (bus_started bus c) o bus).agents
started-owed p n c r d bus None owing = owing
started-owed p n c r d bus (Some x) owing =
    told-each (λ a w. HasBytesOwed p a n r d w) (λ a w. HasBytesOwed p a n r d w) (starting_event c x.who) bus.agents
    (λ a w owed.
    owed-alike p a n r d w (fold agent_after w (starting_event c x.who a)) (started-buffers c a x.who w) owed)
    owing

-- after what begins
pub owed-started : (v : BenchView) (hold : Bool) (choice : Choice) → IsBenchOf v
    → AgentsAre (OwesBefore v hold choice) (step_started v hold).agents
owed-started v hold choice b =
    let n = next_clock_of v in
    started-owed (past_of (step_run v hold choice)) n n (n + 1) n (step_performed v) (step_decided v hold).starting
    (owed-performed v hold choice b)

cancelled-owed : (p : Past) (n r d : ℕ) (bus : BusView) (o : Option Entry)
    → AgentsAre (λ a w. HasBytesOwed p a n r d w) bus.agents
    → AgentsAre (λ a w. HasBytesOwed p a n r d w) (option_map_or (bus_cancelled bus) o bus).agents
cancelled-owed p n r d bus None owing = owing
cancelled-owed p n r d bus (Some e) owing =
    told-each (λ a w. HasBytesOwed p a n r d w) (λ a w. HasBytesOwed p a n r d w) (cancelled_event e.clock e.who)
    bus.agents (λ a w owed.
    owed-alike p a n r d w (fold agent_after w (cancelled_event e.clock e.who a)) (cancelled-buffers e.clock a e.who w)
    owed) owing

-- after what is cancelled
pub owed-cancelled : (v : BenchView) (hold : Bool) (choice : Choice) → IsBenchOf v
    → AgentsAre (OwesBefore v hold choice) (step_cancelled v hold).agents
owed-cancelled v hold choice b =
    let n = next_clock_of v in
    cancelled-owed (past_of (step_run v hold choice)) n (n + 1) n (step_started v hold) (step_decided v hold).cancelled
    (owed-started v hold choice b)

-- the snoop end of an agent's request
claimed-owed : (s : Run) (n a : ℕ) (x : SnoopSettled) (w : AgentView) → Reaches s (n + 1) → a < 4
    → (k : IsSnoopHeard s n x) → IsClaimHeard s n k.end x → IsViewBeforeSnoop (past_of s) a n w
    → HasBytesOwed (past_of s) a n (n + 1) n w → (mine : Bool) → nat_eq a x.served.agent ≡ mine
    → HasBytesOwed (past_of s) a (n + 1) (n + 1) n
    (committed w x.served.first mine x.served.request (x.hit || x.hitm) x.outcome)
claimed-owed s n a x w h few k c view owed true m =
    let shared = x.hit || x.hitm in
    subst (λ q. HasBytesOwed (past_of s) a (n + 1) (n + 1) n (committed w q true x.served.request shared x.outcome))
    c.first
    (subst (λ o. HasBytesOwed (past_of s) a (n + 1) (n + 1) n (committed w k.end.first true x.served.request shared o))
    k.outcome
    (own-owed-then s a n k.end.first k.end w x.served.request shared h
    (claimed-out s a n k.end c.claim w h k.there c.claims (c.agent ∙ sym (eqb-true a x.served.agent m)) view) owed))
claimed-owed s n a x w h few k c view owed false m =
    let shared = x.hit || x.hitm in
    subst (λ q. HasBytesOwed (past_of s) a (n + 1) (n + 1) n (committed w q false x.served.request shared x.outcome))
    c.first
    (subst (λ o. HasBytesOwed (past_of s) a (n + 1) (n + 1) n (committed w k.end.first false x.served.request shared o))
    k.outcome
    (other-claimed-owed s a n k.end c.claim x.served.request shared w h few k.there c.claims
    (λ own. both_ways (nat_eq a x.served.agent) m (eq-eqb a x.served.agent (sym own ∙ c.agent))) c.want view owed))

-- a reply to another agent leaves the buffers
replied-buffers : (w : AgentView) (number : ℕ) (request : Request) (shared : Bool) (o : Outcome) → o ≡ Replied
    → (committed w number false request shared o).buffers ≡ w.buffers
replied-buffers w number request shared o e = grind arith

-- the snoop end of a reply
replied-owed : (s : Run) (n a : ℕ) (x : SnoopSettled) (w : AgentView) → Reaches s (n + 1)
    → (k : IsSnoopHeard s n x) → IsReplyHeard s n k.end x → IsViewBeforeSnoop (past_of s) a n w
    → HasBytesOwed (past_of s) a n (n + 1) n w → (mine : Bool) → nat_eq a x.served.agent ≡ mine
    → HasBytesOwed (past_of s) a (n + 1) (n + 1) n
    (committed w x.served.first mine x.served.request (x.hit || x.hitm) x.outcome)
replied-owed s n a x w h k c view owed true m =
    let shared = x.hit || x.hitm in
    let agent : c.grant.agent ≡ a = c.agent ∙ sym (eqb-true a x.served.agent m) in
    subst (λ o. HasBytesOwed (past_of s) a (n + 1) (n + 1) n
    (committed w x.served.first true x.served.request shared o))
    k.outcome
    (own-owed-then s a n x.served.first k.end w x.served.request shared h
    (replied-out s a n x.served.first k.end c.grant w h k.there c.unclaimed c.grants agent
    (subst (λ b. number_asked (past_of s) b n c.grant.line ≡ Some x.served.first) agent c.asked) view) owed)
replied-owed s n a x w h k c view owed false m =
    let shared = x.hit || x.hitm in
    let long = h.long in
    let replied : x.outcome ≡ Replied = sym k.outcome
    ∙ (replied-on s n k.end c.grant h k.there c.unclaimed c.grants).replied in
    owed-alike (past_of s) a (n + 1) (n + 1) n w (committed w x.served.first false x.served.request shared x.outcome)
    (replied-buffers w x.served.first x.served.request shared x.outcome replied)
    (unsettled-owed-after s a n w h.timely h.bounds (omega arith)
    (λ end e. ap (λ (y : SnoopEnd). y.claim) (one end k.end (sym e ∙ k.there)) ∙ c.unclaimed) owed)
  where
    one : (x y : SnoopEnd) → Some x ≡ Some y → x ≡ y
    one x y e = cc

snooped-owed : (s : Run) (n a : ℕ) (x : SnoopSettled) (w : AgentView) → Reaches s (n + 1) → a < 4
    → IsSnoopHeard s n x → IsViewBeforeSnoop (past_of s) a n w → HasBytesOwed (past_of s) a n (n + 1) n w
    → HasBytesOwed (past_of s) a (n + 1) (n + 1) n (fold agent_after w (snooped_event x a))
snooped-owed s n a x w h few k view owed = elim k.served [
  | inl c ↦ claimed-owed s n a x w h few k c view owed (nat_eq a x.served.agent) refl
  | inr c ↦ replied-owed s n a x w h k c view owed (nat_eq a x.served.agent) refl
]

-- an agent before the snoop end, with what it owes
record IsOwingBefore (s : Run) (n a : ℕ) (w : AgentView) : Type 0 where
  few : a < 4
  view : IsViewBeforeSnoop (past_of s) a n w
  owed : HasBytesOwed (past_of s) a n (n + 1) n w

-- after the snoop end
pub owed-snooped : (v : BenchView) (hold : Bool) (choice : Choice) → IsBenchOf v
    → AgentsAre (OwesAfter v hold choice) (step_snooped v hold).agents
owed-snooped v hold choice b =
    let s = step_run v hold choice in
    let p : Past = past_of s in
    let n = next_clock_of v in
    let entries = step_entries v hold in
    let k = step-with v hold choice b in
    let h = reaches-step v hold choice b in
    let long = h.long in
    let before = step_cancelled v hold in
    let views = views-cancelled v hold choice entries k h in
    let owing = owed-cancelled v hold choice b in
    let four = cancelled-few v hold b in
    elim (snoop-cases v hold choice entries k.grows k.bench.requests) [
      | inl c ↦
          let x = hears-snoop v hold choice entries k h c in
          subst (λ o. AgentsAre (OwesAfter v hold choice) (option_map_or (bus_snooped before) o before).agents)
          (sym x.decided)
          (told-each (λ a w. IsOwingBefore s n a w) (OwesAfter v hold choice) (snooped_event x.snooped) before.agents
          (λ a w y. snooped-owed s n a x.snooped w h y.few x.heard y.view y.owed)
          (λ a w at. record { few = four a w at; view = views a w at; owed = owing a w at }))
      | inr g ↦
          subst (λ o. AgentsAre (OwesAfter v hold choice) (option_map_or (bus_snooped before) o before).agents)
          (sym g.none)
          (λ a w at. unsettled-owed-after s a n w h.timely h.bounds (omega arith)
          (λ end e. absurd (none-some (snooped_at p n) end g.quiet e)) (owing a w at))
    ]
  where
    none-some : (o : Option SnoopEnd) (x : SnoopEnd) → o ≡ None → o ≡ Some x → ⊥
    none-some o x e f = cc

-- after the response
pub owed-answered : (v : BenchView) (hold : Bool) (choice : Choice) → IsBenchOf v
    → AgentsAre (OwesAfter v hold choice) (step_answered v hold).agents
owed-answered v hold choice b =
    subst (λ agents. AgentsAre (OwesAfter v hold choice) agents)
    (sym (answered-agents (step_snooped v hold) (next_clock_of v) (answered_by (step_snooped v hold) (step_drive v))))
    (owed-snooped v hold choice b)
