-- The agents of a bench after a clock are those of the longer run: what ends for them there leads on.
use Rattle.fsb_bench_run.proofs.Words
use Words.{ℕ, ◌+◌, ◌<◌, ◌≡◌, ◌⊎◌, Bool, true, false, if◌then◌else◌, Option, List, [], ◌∷◌, fold, length, nat_eq, refl}
use Words.{sym, ap, subst, ◌∙◌, inl, inr, arith, option_map_or, both_ways, eq-eqb, eqb-true, HasBytesOwed, EndsFor}
use Words.{NothingEndsFor, may_see, IsViewAfterSnoop, IsViewOf, arrives-seen, given-up-seen, given-up-view, line-owed}
use Words.{line-view, quiet-end-view, upgrade-owed, upgrade-seen, upgrade-view, AgentEvent, Arrived, GivenUp}
use Words.{UpgradeEnded, agent_after, AgentView, given_up, line_arrived, upgrade_ended, IsSound, Choice, longer}
use Words.{Reaches, is_got, Past, Run, past_of, is_deferral, Outcome, Granted, Handed, Retried, Deferred, Written}
use Words.{Replied, Failed, Upgraded, Ending, Served, bench_stepped, step_answered, step_ended, step_entries, step_run}
use Words.{bus_ended, end_event, ended_event, BenchView, next_clock_of, HasAgentsOf, IsBenchOf}
use Rattle.fsb_bench_run.proofs.AgentsCounted.{answered-few, ended-four}
use Rattle.fsb_bench_run.proofs.AgentsOwing.{owed-answered}
use Rattle.fsb_bench_run.proofs.AgentsSound.{sound-answered, sound-seen}
use Rattle.fsb_bench_run.proofs.BegunEvents.{AgentsAre, told-each}
use Rattle.fsb_bench_run.proofs.EndCases.{end-cases}
use Rattle.fsb_bench_run.proofs.EndHeard.{IsEndHeard}
use Rattle.fsb_bench_run.proofs.LogsNow.{reaches-step}
use Rattle.fsb_bench_run.proofs.NextRun.{grows-to}
use Rattle.fsb_bench_run.proofs.OwingKept.{ends-kept}
use Rattle.fsb_bench_run.proofs.OwnCompletes.{made-by, never-failed, others-quiet, quiet-end, settled-or-replied}
use Rattle.fsb_bench_run.proofs.SnoopViews.{some-lines, views-answered}
use Rattle.fsb_bench_run.proofs.StepEntries.{step-with}

-- an agent before the end of a request
record IsBeforeEnd (s : Run) (n a : ℕ) (w : AgentView) : Type 0 where
  few : a < 4
  view : IsViewAfterSnoop (past_of s) a n w
  owed : HasBytesOwed (past_of s) a (n + 1) (n + 1) n w
  sound : IsSound w

-- and after it, as the next clock finds it
record IsAfterEnd (s : Run) (n a : ℕ) (w : AgentView) : Type 0 where
  view : IsViewOf (past_of s) a (n + 1) w
  owed : HasBytesOwed (past_of s) a (n + 1) (n + 1) (n + 1) w
  sound : IsSound w

-- nothing ends for the agent
nothing-ends : (s : Run) (n a : ℕ) (w : AgentView) → Reaches s (n + 1) → NothingEndsFor (past_of s) a n
    → IsBeforeEnd s n a w → IsAfterEnd s n a w
nothing-ends s n a w h nothing y =
    let view = quiet-end-view s a n w h y.few nothing y.view in
    record { view = view; owed = ends-kept s a n w w h refl y.view view y.owed; sound = y.sound }

-- its line comes
line-comes : (s : Run) (n a : ℕ) (served : Served) (settled : Option Outcome) (o : Outcome) (bytes : List ℕ)
    (w : AgentView) → Reaches s (n + 1) → 0 < s.plan.cache → (k : IsEndHeard s n served settled) → k.end.outcome ≡ o
    → (is_got o ≡ true) ⊎ (o ≡ Replied) → EndsFor (past_of s) a n served.first k.end → IsBeforeEnd s n a w
    → IsAfterEnd s n a (line_arrived w n served.first bytes)
unfolding may_see
line-comes s n a served settled o bytes w h some k e which ends y =
    let p : Past = past_of s in
    let long = h.long in
    let made = made-by s k.end o e which (settled-or-replied s a n served.first k.end h ends) in
    let view = line-view s a n served.first k.end made.0 bytes w h some y.few ends made.1 y.view in
    record {
      view = view;
      owed = line-owed s a n served.first bytes w h.timely h.bounds (omega arith)
          (record { fills = y.view.lines.fills }) (record { fills = view.lines.fills }) y.owed;
      sound = sound-seen w (Arrived n served.first bytes) y.sound
          (arrives-seen s a n served.first k.end made.0 w h ends made.1 y.sound y.view);
    }

-- its upgrade ends
upgrade-ends : (s : Run) (n a : ℕ) (served : Served) (settled : Option Outcome) (w : AgentView) → Reaches s (n + 1)
    → 0 < s.plan.cache → (k : IsEndHeard s n served settled) → k.end.outcome ≡ Upgraded
    → EndsFor (past_of s) a n served.first k.end → IsBeforeEnd s n a w
    → IsAfterEnd s n a (upgrade_ended w n served.first)
unfolding may_see
upgrade-ends s n a served settled w h some k e ends y =
    let long = h.long in
    let view = upgrade-view s a n served.first k.end w h some y.few ends e y.view in
    record {
      view = view;
      owed = upgrade-owed s a n served.first w h.timely h.bounds (omega arith)
          (record { fills = y.view.lines.fills }) (record { fills = view.lines.fills }) y.owed;
      sound = sound-seen w (UpgradeEnded n served.first) y.sound
          (upgrade-seen s a n served.first k.end w h ends e y.sound y.view);
    }

-- its request was retried, or a write-back has ended
gives-up : (s : Run) (n a : ℕ) (served : Served) (settled : Option Outcome) (w : AgentView) → Reaches s (n + 1)
    → (k : IsEndHeard s n served settled) → (k.end.outcome ≡ Retried) ⊎ (k.end.outcome ≡ Written)
    → EndsFor (past_of s) a n served.first k.end → IsBeforeEnd s n a w → IsAfterEnd s n a (given_up w served.first)
unfolding may_see
gives-up s n a served settled w h k which ends y =
    let view = given-up-view s a n served.first k.end w h y.few ends which y.view in
    record {
      view = view;
      owed = ends-kept s a n w (given_up w served.first) h refl y.view view y.owed;
      sound = sound-seen w (GivenUp served.first) y.sound
          (given-up-seen s a n served.first k.end w h ends which y.sound y.view);
    }

-- the agent whose request ends, by the outcome
own-led : (s : Run) (n : ℕ) (served : Served) (settled : Option Outcome) (bytes : List ℕ) (w : AgentView)
    → Reaches s (n + 1) → 0 < s.plan.cache → (k : IsEndHeard s n served settled) → IsBeforeEnd s n served.agent w
    → IsAfterEnd s n served.agent
    (option_map_or (agent_after w) (end_event n served.first bytes k.end.outcome) w)
unfolding is_deferral is_got
own-led s n served settled bytes w h some k y = by k.end.outcome refl
  where
    a : ℕ
    a = served.agent

    ends : (o : Outcome) → k.end.outcome ≡ o → is_deferral o ≡ false → EndsFor (past_of s) a n served.first k.end
    ends o e kept = record {
      first = k.first;
      ends = k.ends;
      snooped = k.snooped;
      left = k.left (ap is_deferral e ∙ kept);
    }

    by : (o : Outcome) → k.end.outcome ≡ o
        → IsAfterEnd s n a (option_map_or (agent_after w) (end_event n served.first bytes o) w)
    by Granted e = line-comes s n a served settled Granted bytes w h some k e (inl refl) (ends Granted e refl) y
    by Handed e = line-comes s n a served settled Handed bytes w h some k e (inl refl) (ends Handed e refl) y
    by Retried e = gives-up s n a served settled w h k (inl e) (ends Retried e refl) y
    by Deferred e =
        nothing-ends s n a w h (quiet-end s n a served settled h k (k.put_off (ap is_deferral e) a)) y
    by Written e = gives-up s n a served settled w h k (inr e) (ends Written e refl) y
    by Replied e = line-comes s n a served settled Replied bytes w h some k e (inr refl) (ends Replied e refl) y
    by Failed e =
        absurd (never-failed s k.end e (settled-or-replied s a n served.first k.end h (ends Failed e refl)))
    by Upgraded e = upgrade-ends s n a served settled w h some k e (ends Upgraded e refl) y

-- what the agents hear of an end, one by one
heard-own : (w : AgentView) (event : Option AgentEvent) (mine : Bool)
    → fold agent_after w (option_map_or (λ (x : AgentEvent). if mine then x ∷ [] else []) event [])
    ≡ (if mine then option_map_or (agent_after w) event w else w)
heard-own w event mine = grind arith

ended-led : (s : Run) (n a : ℕ) (served : Served) (settled : Option Outcome) (bytes : List ℕ) (w : AgentView)
    → Reaches s (n + 1) → 0 < s.plan.cache → (k : IsEndHeard s n served settled) → IsBeforeEnd s n a w
    → (mine : Bool) → nat_eq a served.agent ≡ mine
    → IsAfterEnd s n a
    (if mine then option_map_or (agent_after w) (end_event n served.first bytes k.end.outcome) w else w)
ended-led s n a served settled bytes w h some k y true m =
    let same : a ≡ served.agent = eqb-true a served.agent m in
    subst (λ b. IsAfterEnd s n b (option_map_or (agent_after w) (end_event n served.first bytes k.end.outcome) w))
    (sym same) (own-led s n served settled bytes w h some k (subst (λ b. IsBeforeEnd s n b w) same y))
ended-led s n a served settled bytes w h some k y false m =
    nothing-ends s n a w h (others-quiet s n a served settled h k
    (λ own. both_ways (nat_eq a served.agent) m (eq-eqb a served.agent own))) y

-- the agents before the end
before-end : (v : BenchView) (hold : Bool) (choice : Choice) → IsBenchOf v
    → AgentsAre (λ a w. IsBeforeEnd (step_run v hold choice) (next_clock_of v) a w) (step_answered v hold).agents
before-end v hold choice b =
    let views = views-answered v hold choice (step_entries v hold) (step-with v hold choice b)
    (reaches-step v hold choice b) in
    let few = answered-few v hold b in
    let owing = owed-answered v hold choice b in
    let sound = sound-answered v hold choice b in
    λ a w at. record { few = few a w at; view = views a w at; owed = owing a w at; sound = sound a w at }

-- and after it
after-end : (v : BenchView) (hold : Bool) (choice : Choice) → IsBenchOf v
    → AgentsAre (λ a w. IsAfterEnd (step_run v hold choice) (next_clock_of v) a w) (step_ended v hold).agents
after-end v hold choice b =
    let s = step_run v hold choice in
    let n = next_clock_of v in
    let bus = step_answered v hold in
    let h = reaches-step v hold choice b in
    let some = some-lines v b in
    let before = before-end v hold choice b in
    elim (end-cases v hold choice (step_entries v hold) (step-with v hold choice b) h) [
      | inl c ↦
          let ending : Ending = record { served = c.served; outcome = c.heard.end.outcome } in
          subst (λ o. AgentsAre (λ a w. IsAfterEnd s n a w) (option_map_or (bus_ended bus n) o bus).agents)
          (sym c.ending)
          (told-each (λ a w. IsBeforeEnd s n a w) (λ a w. IsAfterEnd s n a w) (ended_event n bus.moved ending)
          bus.agents
          (λ a w y.
          subst (λ x. IsAfterEnd s n a x)
          (sym (heard-own w (end_event n c.served.first bus.moved c.heard.end.outcome) (nat_eq a c.served.agent)))
          (ended-led s n a c.served c.entry.outcome bus.moved w h some c.heard y (nat_eq a c.served.agent) refl))
          before)
      | inr c ↦
          subst (λ o. AgentsAre (λ a w. IsAfterEnd s n a w) (option_map_or (bus_ended bus n) o bus).agents)
          (sym c.ending) (λ a w at. nothing-ends s n a w h (c.nothing a) (before a w at))
    ]

-- the agents of the longer run
pub agents-next : (v : BenchView) (hold : Bool) (choice : Choice) → IsBenchOf v
    → HasAgentsOf (bench_stepped v hold choice).bus.agents (step_run v hold choice)
agents-next v hold choice b =
    let s = step_run v hold choice in
    let n = next_clock_of v in
    let size : length s.trace ≡ n + 1 = longer v.run s (grows-to v hold choice b) in
    let after = after-end v hold choice b in
    record {
      four = ended-four v hold b;
      each = λ a w at. record {
        view = subst (λ m. IsViewOf (past_of s) a m w) (sym size) (after a w at).view;
        sound = (after a w at).sound;
        owed = subst (λ m. HasBytesOwed (past_of s) a m m m w) (sym size) (after a w at).owed;
      };
    }
