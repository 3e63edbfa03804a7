-- The agents of a bench after the snoop end of its clock are as its run says.
use Rattle.fsb_bench_run.proofs.Words
use Words.{ℕ, ◌+◌, ◌<◌, ◌≡◌, ◌||◌, Bool, true, false, Option, Some, None, List, fold, nat_eq, refl, sym, subst, ◌∙◌}
use Words.{arith, inl, inr, option_map_or, both_ways, eq-eqb, eqb-true, Done, number_asked, IsViewAfterSnoop}
use Words.{IsViewBeforeSnoop, other-claimed, other-replied, own-claimed, own-replied, quiet-view, agent_after}
use Words.{AgentView, committed, Choice, get-there, longer, Entry, Reaches, snooped_at, SnoopEnd, Run, past_of, Timely}
use Words.{Symmetric, SnoopSettled, step_answered, step_cancelled, step_decided, step_drive, step_snooped, answered_by}
use Words.{bus_answered, bus_snooped, snooped_event, BenchView, BusView, next_clock_of, IsBegunAt, IsBenchOf}
use Rattle.fsb_bench_run.proofs.BegunEvents.{AgentsAre, told-each, views-cancelled}
use Rattle.fsb_bench_run.proofs.RunWith.{run_with}
use Rattle.fsb_bench_run.proofs.SnoopCases.{snoop-cases}
use Rattle.fsb_bench_run.proofs.SnoopHeard.{IsClaimHeard, IsReplyHeard, IsSnoopHeard, hears-snoop}
use Rattle.fsb_bench_run.proofs.StepWith.{IsStepWith}

-- the caches of a bench have lines
pub some-lines : (v : BenchView) → IsBenchOf v → 0 < v.run.plan.cache
unfolding past_of
some-lines v b =
    let u = get-there v.bus.agents 0 (omega arith) in
    let k = b.agents.each 0 u.0 u.1 in
    grind arith

claimed-view : (s : Run) (n a : ℕ) (x : SnoopSettled) (w : AgentView) → Reaches s (n + 1) → 0 < s.plan.cache
    → (k : IsSnoopHeard s n x) → IsClaimHeard s n k.end x → IsViewBeforeSnoop (past_of s) a n w → (mine : Bool)
    → nat_eq a x.served.agent ≡ mine
    → IsViewAfterSnoop (past_of s) a n (committed w x.served.first mine x.served.request (x.hit || x.hitm) x.outcome)
claimed-view s n a x w h some k c view true m =
    let shared = x.hit || x.hitm in
    subst (λ q. IsViewAfterSnoop (past_of s) a n (committed w q true x.served.request shared x.outcome)) c.first
    (subst (λ o. IsViewAfterSnoop (past_of s) a n (committed w k.end.first true x.served.request shared o)) k.outcome
    (own-claimed s a n k.end c.claim x.served.request shared w h some k.there c.claims
    (c.agent ∙ sym (eqb-true a x.served.agent m)) (λ grant g. c.shared grant g) view))
claimed-view s n a x w h some k c view false m =
    let shared = x.hit || x.hitm in
    subst (λ o. IsViewAfterSnoop (past_of s) a n (committed w x.served.first false x.served.request shared o)) k.outcome
    (other-claimed s a n x.served.first k.end c.claim x.served.request shared w h k.there c.claims
    (λ own. both_ways (nat_eq a x.served.agent) m (eq-eqb a x.served.agent (sym own ∙ c.agent))) c.want view)

replied-view : (s : Run) (n a : ℕ) (x : SnoopSettled) (w : AgentView) → Reaches s (n + 1) → 0 < s.plan.cache
    → (k : IsSnoopHeard s n x) → IsReplyHeard s n k.end x → IsViewBeforeSnoop (past_of s) a n w → (mine : Bool)
    → nat_eq a x.served.agent ≡ mine
    → IsViewAfterSnoop (past_of s) a n (committed w x.served.first mine x.served.request (x.hit || x.hitm) x.outcome)
replied-view s n a x w h some k c view true m =
    let agent : c.grant.agent ≡ a = c.agent ∙ sym (eqb-true a x.served.agent m) in
    subst (λ b. IsViewAfterSnoop (past_of s) a n (committed w x.served.first true x.served.request b x.outcome))
    (sym c.shared)
    (subst (λ o. IsViewAfterSnoop (past_of s) a n (committed w x.served.first true x.served.request c.grant.shared o))
    k.outcome
    (own-replied s a n x.served.first k.end c.grant x.served.request w h some k.there c.unclaimed c.grants agent
    (subst (λ b. number_asked (past_of s) b n c.grant.line ≡ Some x.served.first) agent c.asked) view))
replied-view s n a x w h some k c view false m =
    let shared = x.hit || x.hitm in
    subst (λ o. IsViewAfterSnoop (past_of s) a n (committed w x.served.first false x.served.request shared o)) k.outcome
    (other-replied s a n x.served.first k.end c.grant x.served.request shared w h k.there c.unclaimed c.grants
    (λ own. both_ways (nat_eq a x.served.agent) m (eq-eqb a x.served.agent (sym own ∙ c.agent))) view)

-- the snoop end that is heard leads on
pub snooped-view : (s : Run) (n a : ℕ) (x : SnoopSettled) (w : AgentView) → Reaches s (n + 1) → 0 < s.plan.cache
    → IsSnoopHeard s n x → IsViewBeforeSnoop (past_of s) a n w
    → IsViewAfterSnoop (past_of s) a n (fold agent_after w (snooped_event x a))
snooped-view s n a x w h some k view = elim k.served [
  | inl c ↦ claimed-view s n a x w h some k c view (nat_eq a x.served.agent) refl
  | inr c ↦ replied-view s n a x w h some k c view (nat_eq a x.served.agent) refl
]

pub views-snooped : (v : BenchView) (hold : Bool) (choice : Choice) (entries : List Done)
    → IsStepWith v hold choice entries → Reaches (run_with v hold choice entries) (next_clock_of v + 1)
    → AgentsAre (λ a w. IsViewAfterSnoop (past_of (run_with v hold choice entries)) a (next_clock_of v) w)
    (step_snooped v hold).agents
views-snooped v hold choice entries k h =
    let s = run_with v hold choice entries in
    let n = next_clock_of v in
    let before = step_cancelled v hold in
    let some = some-lines v k.bench in
    let views = views-cancelled v hold choice entries k h in
    elim (snoop-cases v hold choice entries k.grows k.bench.requests) [
      | inl c ↦
          let x = hears-snoop v hold choice entries k h c in
          subst (λ o. AgentsAre (λ a w. IsViewAfterSnoop (past_of s) a n w)
          (option_map_or (bus_snooped before) o before).agents)
          (sym x.decided)
          (told-each (λ a w. IsViewBeforeSnoop (past_of s) a n w) (λ a w. IsViewAfterSnoop (past_of s) a n w)
          (snooped_event x.snooped) before.agents
          (λ a w view. snooped-view s n a x.snooped w h some x.heard view) views)
      | inr g ↦
          subst (λ o. AgentsAre (λ a w. IsViewAfterSnoop (past_of s) a n w)
          (option_map_or (bus_snooped before) o before).agents)
          (sym g.none)
          (λ a w at. quiet-view s a n w h (λ end e. absurd (none-some (snooped_at (past_of s) n) end g.quiet e))
          (views a w at))
    ]
  where
    none-some : (o : Option SnoopEnd) (x : SnoopEnd) → o ≡ None → o ≡ Some x → ⊥
    none-some o x e f = cc

pub answered-agents : (bus : BusView) (clock : ℕ) (o : Option Entry)
    → (option_map_or (bus_answered bus clock) o bus).agents ≡ bus.agents
answered-agents bus clock o = grind arith

-- the response changes none of them
pub views-answered : (v : BenchView) (hold : Bool) (choice : Choice) (entries : List Done)
    → IsStepWith v hold choice entries → Reaches (run_with v hold choice entries) (next_clock_of v + 1)
    → AgentsAre (λ a w. IsViewAfterSnoop (past_of (run_with v hold choice entries)) a (next_clock_of v) w)
    (step_answered v hold).agents
views-answered v hold choice entries k h =
    let s = run_with v hold choice entries in
    let n = next_clock_of v in
    subst (λ agents. AgentsAre (λ a w. IsViewAfterSnoop (past_of s) a n w) agents)
    (sym (answered-agents (step_snooped v hold) n (answered_by (step_snooped v hold) (step_drive v))))
    (views-snooped v hold choice entries k h)

-- the longer run reaches the clock after its last
pub reaches-now : (v : BenchView) (hold : Bool) (choice : Choice) (entries : List Done)
    → IsStepWith v hold choice entries → Timely (run_with v hold choice entries)
    → Reaches (run_with v hold choice entries) (next_clock_of v + 1)
reaches-now v hold choice entries k timely = grind (arith, longer)

-- what a request serves whose snoop end the clock is
pub snoop-begun : (v : BenchView) (hold : Bool) (choice : Choice) (entries : List Done) (x : SnoopSettled)
    → IsStepWith v hold choice entries → Reaches (run_with v hold choice entries) (next_clock_of v + 1)
    → (step_decided v hold).snooped ≡ Some x
    → IsBegunAt (run_with v hold choice entries) x.served.first (Symmetric x.served.agent) x.served.request
snoop-begun v hold choice entries x k h e =
    let s = run_with v hold choice entries in
    elim (snoop-cases v hold choice entries k.grows k.bench.requests) [
      | inl c ↦
          let d = hears-snoop v hold choice entries k h c in
          subst (λ (y : SnoopSettled). IsBegunAt s y.served.first (Symmetric y.served.agent) y.served.request)
          (one d.snooped x (sym d.decided ∙ e)) d.heard.begun
      | inr g ↦ absurd (none (step_decided v hold).snooped x g.none e)
    ]
  where
    one : (a b : SnoopSettled) → Some a ≡ Some b → a ≡ b
    one a b e = cc

    none : (o : Option SnoopSettled) (x : SnoopSettled) → o ≡ None → o ≡ Some x → ⊥
    none o x e f = cc
