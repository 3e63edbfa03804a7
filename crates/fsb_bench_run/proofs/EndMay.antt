-- A bench may take the end that it hears: the agent may hear of it, and the line is one that the scripts name.
use Rattle.fsb_bench_run.proofs.Words
use Words.{ℕ, ◌+◌, ◌≡◌, ◌⊎◌, Bool, true, false, Option, Some, None, refl, sym, ap, subst, ◌∙◌, arith, inl, inr, EndsFor}
use Words.{IsViewAfterSnoop, arrives-seen, given-up-seen, upgrade-seen, AgentView, may_arrive, may_give_up, IsSound}
use Words.{Choice, ads_before_end, Reaches, winner-four, is_got, SnoopEnd, Run, past_of, is_deferral, Outcome, Granted}
use Words.{Handed, Retried, Deferred, Written, Replied, Failed, Upgraded, Symmetric, Ending, Served, step_answered}
use Words.{step_ending, step_entries, step_run, BenchView, next_clock_of, is_named_line, MayEnd, may_end_with}
use Words.{IsBegunAt, IsBenchOf}
use Rattle.fsb_bench_run.proofs.AgentsSound.{sound-answered}
use Rattle.fsb_bench_run.proofs.ArrivalsTold.{answered-four}
use Rattle.fsb_bench_run.proofs.EndCases.{end-cases, ending-heard}
use Rattle.fsb_bench_run.proofs.LogsNow.{reaches-step}
use Rattle.fsb_bench_run.proofs.OwnCompletes.{made-by, settled-or-replied}
use Rattle.fsb_bench_run.proofs.SnoopViews.{views-answered}
use Rattle.fsb_bench_run.proofs.StepEntries.{step-with}
use Rattle.fsb_bench_run.proofs.WantedNames.{begun-named}

-- what ends for an agent with this outcome
record IsHeardBy (s : Run) (a n number : ℕ) (outcome : Outcome) : Type 0 where
  end : SnoopEnd
  same : end.outcome ≡ outcome
  ends : EndsFor (past_of s) a n number end

-- the agent whose request ends may hear of the end
hear-may : (s : Run) (a n number : ℕ) (outcome : Outcome) (w : AgentView) → Reaches s (n + 1)
    → (is_deferral outcome ≡ false → IsHeardBy s a n number outcome) → IsSound w → IsViewAfterSnoop (past_of s) a n w
    → may_end_with number outcome w ≡ true
unfolding is_deferral is_got
hear-may s a n number outcome w h heard sound view = by outcome refl
  where
    arrives : is_deferral outcome ≡ false → (is_got outcome ≡ true) ⊎ (outcome ≡ Replied) → may_arrive w number ≡ true
    arrives kept which =
        let k = heard kept in
        let grant = made-by s k.end outcome k.same which (settled-or-replied s a n number k.end h k.ends) in
        arrives-seen s a n number k.end grant.0 w h k.ends grant.1 sound view

    given_up : is_deferral outcome ≡ false → (outcome ≡ Retried) ⊎ (outcome ≡ Written) → may_give_up w number ≡ true
    given_up kept (inl e) =
        let k = heard kept in given-up-seen s a n number k.end w h k.ends (inl (k.same ∙ e)) sound view
    given_up kept (inr e) =
        let k = heard kept in given-up-seen s a n number k.end w h k.ends (inr (k.same ∙ e)) sound view

    by : (o : Outcome) → outcome ≡ o → may_end_with number o w ≡ true
    by Granted e = arrives (ap is_deferral e) (inl (ap is_got e))
    by Handed e = arrives (ap is_deferral e) (inl (ap is_got e))
    by Retried e = given_up (ap is_deferral e) (inl e)
    by Deferred e = refl
    by Written e = given_up (ap is_deferral e) (inr e)
    by Replied e = arrives (ap is_deferral e) (inr e)
    by Failed e = refl
    by Upgraded e =
        let k = heard (ap is_deferral e) in upgrade-seen s a n number k.end w h k.ends (k.same ∙ e) sound view

-- what is served by the request that ends has begun
begun-ended : (v : BenchView) (hold : Bool) (choice : Choice) (x : Ending) → IsBenchOf v → step_ending v hold ≡ Some x
    → IsBegunAt v.run x.served.first (Symmetric x.served.agent) x.served.request
begun-ended v hold choice x b e =
    elim (end-cases v hold choice (step_entries v hold) (step-with v hold choice b) (reaches-step v hold choice b)) [
      | inl c ↦
          let same = one (record { served = c.served; outcome = c.heard.end.outcome }) x (sym c.ending ∙ e) in
          subst (λ (y : Served). IsBegunAt v.run y.first (Symmetric y.agent) y.request)
          (ap (λ (y : Ending). y.served) same) c.serves.begun
      | inr c ↦ absurd (none (step_ending v hold) x c.ending e)
    ]
  where
    one : (y z : Ending) → Some y ≡ Some z → y ≡ z
    one y z e = cc

    none : (o : Option Ending) (y : Ending) → o ≡ None → o ≡ Some y → ⊥
    none o y e f = cc

pub end-may : (v : BenchView) (hold : Bool) (choice : Choice) (x : Ending) → IsBenchOf v → step_ending v hold ≡ Some x
    → MayEnd (is_named_line v.run.plan.scripts) (step_answered v hold) x
end-may v hold choice x b e =
    let r = v.run in
    let s = step_run v hold choice in
    let n = next_clock_of v in
    let entries = step_entries v hold in
    let k = step-with v hold choice b in
    let h = reaches-step v hold choice b in
    let a : ℕ = x.served.agent in
    let four = answered-four v hold b in
    let sound = sound-answered v hold choice b in
    let views = views-answered v hold choice entries k h in
    let begun = begun-ended v hold choice x b e in
    let low = ads_before_end r.trace x.served.first begun.begins in
    record {
      known =
          let few = winner-four r.trace x.served.first a begun.winner in
          omega (arith, few, four);
      ends = λ w at.
          hear-may s a n x.served.first x.outcome w h
          (λ kept.
          let t = ending-heard v hold choice entries x k h e kept in
          record { end = t.0; same = t.1; ends = t.2 })
          (sound a w at) (views a w at);
      puts = λ takes. begun-named r x.served.first a x.served.request b.timely b.bounds low begun;
    }
