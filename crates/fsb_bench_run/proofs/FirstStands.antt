-- The first bench of a plan stands for its run, which is empty.
use Rattle.fsb_bench_run.proofs.Words
use Words.{ℕ, zero, suc, ◌<◌, ◌≡◌, true, List, [], Option, Some, refl, subst, arith, list_all, slice_get, get_or_past}
use Words.{script_of, Item, first-of, first-owed, AgentView, sound_first, list-first, all_where, count_where}
use Words.{last_where, all-at, is_cache, is_lawful_script, PlanView, is_in_time, turns_in, Run, moments_below, past_of}
use Words.{requests_below, items_of, Timely, in_flight, first_agent, first_agents, first_bench, IsAgentNext, IsBenchOf}
use Words.{keeps_into}
use Rattle.fsb_script.specs.View.{plan_view}
use Rattle.fsb_script.specs.declared.plan.Plan.{Plan}
use Rattle.fsb_bench_run.specs.BenchPlans.{IsBenchPlan}

-- the run of no clock
abbrev empty : PlanView → Run
empty plan = record { plan = plan; choices = []; holds = []; trace = []; log = [] }

empty-timely : (plan : PlanView) → Timely (empty plan)
unfolding requests_below count_where is_in_time
empty-timely plan = grind arith

-- each script is lawful, and so is the empty one of an agent that has none
lawful-script : (plan : PlanView) (a : ℕ) (o : Option (List Item))
    → list_all (is_lawful_script plan.cache) plan.scripts ≡ true → slice_get plan.scripts a ≡ o
    → is_lawful_script plan.cache (script_of plan.scripts a) ≡ true
unfolding is_lawful_script
lawful-script plan a o h1 h2 = grind (arith, all-at)

-- an agent before any event
first-next : (plan : PlanView) (a : ℕ) → IsBenchPlan plan → a < 4 → IsAgentNext (empty plan) a (first_agent plan a)
unfolding items_of past_of
first-next plan a k few = record {
  view = first-of (past_of (empty plan)) a;
  sound = sound_first a (script_of plan.scripts a) plan.cache plan.ahead plan.profile few k.some_lines
      (lawful-script plan a (slice_get plan.scripts a) k.bounds.lawful_scripts refl) k.some_ahead k.bounds.few_ahead
      k.profile;
  owed = first-owed (past_of (empty plan)) a;
}

-- the agents of a first bench, by their numbers
pub first-is : (plan : PlanView) (a : ℕ) (v : AgentView) → slice_get (first_agents plan) a ≡ Some v
    → (a < 4) × (first_agent plan a ≡ v)
first-is plan zero v e = (omega arith, cc)
first-is plan (suc zero) v e = (omega arith, cc)
first-is plan (suc (suc zero)) v e = (omega arith, cc)
first-is plan (suc (suc (suc zero))) v e = (omega arith, cc)
first-is plan (suc (suc (suc (suc a)))) v e = absurd (let no : ⊥ = cc in no)

first-each : (plan : PlanView) (a : ℕ) (v : AgentView) → IsBenchPlan plan → slice_get (first_agents plan) a ≡ Some v
    → IsAgentNext (empty plan) a v
first-each plan a v k e =
    let is = first-is plan a v e in
    subst (λ w. IsAgentNext (empty plan) a w) is.1 (first-next plan a k is.0)

none-first : {X : Type 0} (k : ℕ) (x : X) → slice_get [] k ≡ Some x → ⊥
none-first k x e = cc

pub first-stands : (plan : PlanView) → IsBenchPlan plan → IsBenchOf (first_bench plan)
unfolding in_flight all_where last_where keeps_into past_of moments_below turns_in
first-stands plan k = record {
  timely = empty-timely plan;
  bounds = k.bounds;
  agents = record { four = refl; each = λ a v e. first-each plan a v k e };
  flight = record {
    flight = record {
      clocks = refl;
      settled = λ j e at. absurd (none-first j e at);
      kept = λ i e. get_or_past [] i 0 (omega arith);
    };
    rising = record { rise = λ i j e f l at more. absurd (none-first i e at) };
  };
  requests = record {
    flight = record {
      clocks = refl;
      settled = λ j e at. absurd (none-first j e at);
      kept = λ i e. get_or_past [] i 0 (omega arith);
    };
    entries = record {
      chosen = λ j e at. absurd (none-first j e at);
      numbered = λ j e at. absurd (none-first j e at);
    };
  };
  entries = record { begun = λ j e at. absurd (none-first j e at) };
  bridge = record { window = refl; deferrals = list-first (empty plan) };
  latest = record { clock = refl; begun = λ last e. absurd (let no : ⊥ = cc in no) };
  started = record { clocks = refl; locked = λ j a start at. absurd (none-first j start at) };
  served = record { count = refl; each = λ j e s at. absurd (none-first j e at) };
  kept = refl;
}

-- what is read from a bench file keeps the bounds
some-lines : (n : ℕ) → is_cache n ≡ true → 0 < n
some-lines n h1 = grind arith

pub plan-keeps : (plan : Plan) → IsBenchPlan (plan_view plan)
plan-keeps plan = grind arith
