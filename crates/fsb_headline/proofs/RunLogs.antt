-- The printed log of a run is known from its text.
use Rattle.std.proofs.Common.{◌≡◌, ◌≤◌, ◌<◌, ◌∙◌, ℕ, zero, suc, Bool, true, false, ◌&&◌, List, [], ◌∷◌, Option, None, ap}
use Rattle.std.proofs.Common.{arith, inl, inr, length, nat_le, nat_lt, refl, subst, sym, take}
use Rattle.std.specs.List.{All}
use Rattle.std.specs.Prelude.{◌==◌, slice_get, unwrap_or}
use Rattle.std.proofs.lemmas.Bool.{and_parts, cases_lt, eq-eqb, ltb-true}
use Rattle.std.proofs.lemmas.List.Elements.{All-cons}
use Rattle.std.proofs.lemmas.Option.{slice_get_past}
use Rattle.fsb_access.specs.Replay.{Served}
use Rattle.fsb_access.specs.ScriptOrder.{InOrder, accesses_of, script_of, steps_of}
use Rattle.fsb_access.specs.declared.item.Item.{Item}
use Rattle.fsb_access.specs.declared.log.Done.{Done}
use Rattle.fsb_hazard.specs.Told.{Told}
use Rattle.fsb_top.specs.Printed.{run_log}
use Rattle.fsb_top.specs.RunOf.{IsRunOf}
use Rattle.fsb_plan_size.specs.AccessCount.{access_count}
use Rattle.fsb_report.specs.LogText.{end_line_text, log_text}
use Rattle.fsb_script.specs.Plans.{PlanView}
use Rattle.fsb_script_laws.specs.LawfulPlans.{IsLawfulPlan}
use Rattle.fsb_timely.specs.Completions.{is_in_time}
use Rattle.fsb_timely.specs.Runs.{Run}
use Rattle.fsb_headline.proofs.LogLines.{IsStamped, lines-alike}
use Rattle.fsb_headline.proofs.OrderedLogs.{served-same}

-- the entries of a run are of its clocks
clocks-below : (first end : ℕ) (log : List Done) → is_in_time first end log ≡ true
    → All (λ (done : Done). done.clock < end) log
unfolding is_in_time
clocks-below first end [] e = λ k d h. absurd (omega arith)
clocks-below first end (done ∷ log) e =
    let parts = and_parts (nat_le first done.clock) (nat_lt done.clock end && is_in_time done.clock end log) e in
    let rest = and_parts (nat_lt done.clock end) (is_in_time done.clock end log) parts.1 in
    All-cons (λ (d : Done). d.clock < end) done log (ltb-true done.clock end rest.0)
    (clocks-below done.clock end log rest.1)

-- and of its agents
take-none : (count : ℕ) → accesses_of (take count []) ≡ []
take-none zero = refl
take-none (suc count) = refl

agents-below : (agents : ℕ) (log : List Done) → ((agent : ℕ) → agents ≤ agent → steps_of agent log ≡ [])
    → All (λ (done : Done). done.agent < agents) log
agents-below agents [] none = λ k d h. absurd (omega arith)
agents-below agents (done ∷ log) none =
    All-cons (λ (d : Done). d.agent < agents) done log few (agents-below agents log rest)
  where
    few : done.agent < agents
    few = elim (cases_lt done.agent agents) [
      | inl below ↦ below
      | inr past ↦ absurd (let own : (done.agent == done.agent) ≡ true = eq-eqb done.agent done.agent refl in
          let there = rw own at (none done.agent past) in let no : ⊥ = cc in no)
    ]

    rest : (agent : ℕ) → agents ≤ agent → steps_of agent log ≡ []
    rest agent past = by (done.agent == agent) refl
      where
        by : (t : Bool) → (done.agent == agent) ≡ t → steps_of agent log ≡ []
        by true e = let there = rw e at (none agent past) in let no : ⊥ = cc in absurd no
        by false e = rw e at (none agent past)

nobody : (scripts : List (List Item)) (log : List Done) → InOrder scripts log → (agent : ℕ)
    → length scripts ≤ agent → steps_of agent log ≡ []
nobody scripts log p agent past =
    let f = p.follows agent in
    let none : slice_get scripts agent ≡ None = slice_get_past scripts agent past in
    let empty : script_of scripts agent ≡ [] = ap (λ (o : Option (List Item)). unwrap_or o []) none in
    f.same ∙ ap (λ (script : List Item). accesses_of (take f.items script)) empty ∙ take-none f.items

stamped : (told : List (Option Told)) (plan : PlanView) (r : Run) → IsLawfulPlan plan → IsRunOf told plan r
    → All IsStamped r.log
stamped told plan r lawful h = λ k d l.
    let few_clocks = lawful.few_clocks in
    let few_agents = lawful.few_agents in
    let clock : length r.trace ≡ plan.clocks = h.whole in
    let in_order = subst (λ (p : PlanView). InOrder p.scripts r.log) h.of_plan h.simulated.in_order in
    let at = clocks-below 0 (length r.trace) r.log h.simulated.timely.in_time k d l in
    let of = agents-below (length plan.scripts) r.log (nobody plan.scripts r.log in_order) k d l in
    record { clock = omega arith; agent = omega arith }

-- two runs of one lawful plan that print alike have one log
pub runs-same : (told also_told : List (Option Told)) (plan : PlanView) (r s : Run) → IsLawfulPlan plan
    → IsRunOf told plan r → IsRunOf also_told plan s → run_log r ≡ run_log s → r.log ≡ s.log
unfolding log_text end_line_text
runs-same told also_told plan r s lawful p q e =
    let in_r = subst (λ (t : PlanView). InOrder t.scripts r.log) p.of_plan p.simulated.in_order in
    let in_s = subst (λ (t : PlanView). InOrder t.scripts s.log) q.of_plan q.simulated.in_order in
    let served_r = subst (λ (t : PlanView). Served t.mem r.log) p.of_plan p.simulated.served in
    let served_s = subst (λ (t : PlanView). Served t.mem s.log) q.of_plan q.simulated.served in
    let text : log_text plan.clocks (access_count plan.scripts) r.log
    ≡ log_text plan.clocks (access_count plan.scripts) s.log =
    ap (λ (t : PlanView). log_text t.clocks (access_count t.scripts) r.log) (sym p.of_plan) ∙ e
    ∙ ap (λ (t : PlanView). log_text t.clocks (access_count t.scripts) s.log) q.of_plan in
    served-same plan.scripts plan.mem r.log s.log in_r in_s
    (lines-alike r.log s.log _ _ (stamped told plan r lawful p) (stamped also_told plan s lawful q) text)
    served_r served_s
