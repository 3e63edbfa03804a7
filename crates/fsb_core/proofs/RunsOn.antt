-- What a clock of a bench keeps: the bench stands for its run, which grows as objects answer.
use Rattle.std.proofs.Common.{◌≡◌, Bool, List, [], ◌∷◌, length, Option, Some, None, refl, sym, subst, ap, ◌∙◌}
use Rattle.std.proofs.Common.{if◌then◌else◌, is_some, slice_get}
use Rattle.std.proofs.Math.Logic.{∥∥₁_elim, ∥∥₁_map}
use Rattle.std.proofs.Props.{props}
use Rattle.std.proofs.lemmas.Option.{none-some, same_Some}
use Rattle.std.specs.Option.{option_map_or}
use Rattle.fsb_hazard.specs.Told.{Told}
use Rattle.fsb_hazard.specs.Choice.{quiet_choice}
use Rattle.fsb_hazard.specs.declared.choice.Choice.{Choice}
use Rattle.fsb_lawful.specs.Beginning.{KeepsBounds}
use Rattle.fsb_signal.specs.Samples.{has_line}
use Rattle.fsb_signal.specs.declared.lines.TheConstants.Lines.{ADS}
use Rattle.fsb_script.specs.Plans.{PlanView}
use Rattle.fsb_script.specs.View.{plan_view}
use Rattle.fsb_script.specs.declared.plan.Plan.{Plan}
use Rattle.fsb_signal.specs.Parity.{marks_in}
use Rattle.fsb_lawful.proofs.Interface.{accepted}
use Rattle.fsb_tied.proofs.Interface.{writes-back-alone}
use Rattle.fsb_timely.specs.Asked.{IsChosen}
use Rattle.fsb_timely.specs.Growth.{IsNext}
use Rattle.fsb_timely.specs.Carried.{Carried}
use Rattle.fsb_timely.specs.Kept.{Kept}
use Rattle.fsb_timely.specs.Runs.{Run}
use Rattle.fsb_timely.specs.Simulated.{Simulated}
use Rattle.fsb_timely.specs.Timely.{Timely}
use Rattle.fsb_trace.specs.Verdict.{verdict}
use Rattle.fsb_bench_view.specs.BenchSteps.{bench_stepped, step_decided, step_entries, step_performed}
use Rattle.fsb_bench_view.specs.BenchSteps.{step_run, step_sample}
use Rattle.fsb_bench_view.specs.BusViews.{BenchView, next_clock_of}
use Rattle.fsb_bench_view.specs.FirstBench.{first_bench}
use Rattle.fsb_bench_view.specs.declared.beginning.Starting.{Starting}
use Rattle.fsb_bench_values.specs.BenchOf.{IsBenchOf}
use Rattle.fsb_bench_values.specs.BytesOf.{HasBytesOf}
use Rattle.fsb_bench_values.specs.Lent.{bytes_lent, state_lent}
use Rattle.fsb_bench_values.proofs.Interface.{bytes-next, carried-next, first-bytes, first-carried, lines-kept}
use Rattle.fsb_bench_values.proofs.Interface.{log-in-order}
use Rattle.fsb_bench_values.proofs.Interface.{ads-driven, bench-goes-on, entries-now, first-stands, may-go, plan-keeps}
use Rattle.fsb_core.specs.Stepping.{IsAskedNext, IsStepped, MayGoOn}

-- the run with one more clock of a bench is its next one
next-of : (v : BenchView) (hold : Bool) (choice : Choice) → IsNext v.run (step_run v hold choice)
next-of v hold choice = record {
  sample = step_sample v hold;
  hold = hold;
  choices = option_map_or (λ (starting : Starting). choice ∷ []) (step_decided v hold).starting [];
  entries = step_entries v hold;
  same_plan = refl;
  more_trace = refl;
  more_holds = refl;
  more_choices = refl;
  more_log = refl;
  at_end = entries-now v hold;
}

-- the choice that is added is the one that was chosen
chosen-of :
    (told : List (Option Told)) (v : BenchView) (choice added : Choice) (o : Option Starting)
    → ((starting : Starting) → o ≡ Some starting → IsChosen told (length v.run.choices) choice)
    → slice_get (option_map_or (λ (starting : Starting). choice ∷ []) o []) 0 ≡ Some added
    → IsChosen told (length v.run.choices) added
chosen-of told v choice added None chosen e = absurd (none-some added e)
chosen-of told v choice added (Some starting) chosen e =
    subst (IsChosen told (length v.run.choices)) (same_Some _ _ e) (chosen starting refl)

-- one choice is added where a request begins, and none where none does
count-of : (choice : Choice) (o : Option Starting)
    → length (option_map_or (λ (starting : Starting). choice ∷ []) o []) ≡ (if is_some o then 1 else 0)
count-of choice None = refl
count-of choice (Some starting) = refl

-- the new sample has ADS# exactly where a request begins
one-choice : (v : BenchView) (hold : Bool) (choice : Choice)
    → length (option_map_or (λ (starting : Starting). choice ∷ []) (step_decided v hold).starting [])
    ≡ (if has_line (step_sample v hold) ADS then 1 else 0)
one-choice v hold choice =
    let decided = step_decided v hold in
    count-of choice decided.starting
    ∙ ap (λ (begins : Bool). if begins then 1 else 0)
    (sym (ads-driven (step_performed v) (next_clock_of v) v.run.plan.profile decided))

asked-of : (told : List (Option Told)) (v : BenchView) (new : BenchView) (s : IsStepped told v new)
    → IsAskedNext told v.run (step_run v s.hold s.choice)
unfolding next-of
asked-of told v new s = record {
  next = next-of v s.hold s.choice;
  one_choice = one-choice v s.hold s.choice;
  asked = record {
    chosen = λ added e. chosen-of told v s.choice added (step_decided v s.hold).starting s.chosen e;
    held = s.held;
  };
}

pub asked-next : (told : List (Option Told)) (v new : BenchView) → IsStepped told v new → IsAskedNext told v.run new.run
asked-next told v new s =
    subst (λ (w : BenchView). IsAskedNext told v.run w.run) (sym s.stepped) (asked-of told v new s)

pub stands-next : (told : List (Option Told)) (v new : BenchView) → ∥ IsBenchOf v ∥₁ → IsStepped told v new
    → ∥ IsBenchOf new ∥₁
stands-next told v new b s =
    ∥∥₁_map b (λ known. subst IsBenchOf (sym s.stepped) (bench-goes-on v s.hold s.choice known))

pub stands-first : (plan : Plan) (v : BenchView) → v ≡ first_bench (plan_view plan) → ∥ IsBenchOf v ∥₁
stands-first plan v e = subst (λ w. ∥ IsBenchOf w ∥₁) (sym e) ∣ first-stands (plan_view plan) (plan-keeps plan) ∣₁

may-prop : (v : BenchView) → IsProp (MayGoOn v)
may-prop v = hlevel props

pub may-step : (v : BenchView) → ∥ IsBenchOf v ∥₁ → MayGoOn v
may-step v b = ∥∥₁_elim b (may-prop v) (λ known hold. may-go v hold quiet_choice known)

timely-prop : (r : Run) → IsProp (Timely r)
timely-prop r = hlevel props

pub timely-now : (v : BenchView) → ∥ IsBenchOf v ∥₁ → Timely v.run
timely-now v b = ∥∥₁_elim b (timely-prop v.run) (λ known. known.timely)

bounds-prop : (plan : PlanView) → IsProp (KeepsBounds plan)
bounds-prop plan = hlevel props

pub bounds-now : (v : BenchView) → ∥ IsBenchOf v ∥₁ → KeepsBounds v.run.plan
bounds-now v b = ∥∥₁_elim b (bounds-prop v.run.plan) (λ known. known.bounds)

pub accepted-now : (v : BenchView) → ∥ IsBenchOf v ∥₁ → verdict (marks_in v.run.plan.profile) v.run.trace ≡ None
accepted-now v b =
    let timely = timely-now v b in
    let bounds = bounds-now v b in
    accepted v.run timely bounds (writes-back-alone v.run timely bounds)

bytes-prop : (v : BenchView) → IsProp (HasBytesOf v)
bytes-prop v = hlevel props

pub bytes-after : (told : List (Option Told)) (v new : BenchView) → ∥ IsBenchOf v ∥₁ → HasBytesOf v
    → IsStepped told v new
    → HasBytesOf new
bytes-after told v new b h s =
    subst HasBytesOf (sym s.stepped)
    (∥∥₁_elim b (bytes-prop (bench_stepped v s.hold s.choice)) (λ known. bytes-next v s.hold s.choice known h))

pub bytes-first : (plan : Plan) (v : BenchView) → v ≡ first_bench (plan_view plan) → HasBytesOf v
bytes-first plan v e = subst HasBytesOf (sym e) (first-bytes (plan_view plan))

carried-prop : (r : Run) → IsProp (Carried r)
carried-prop r = hlevel props

pub carried-after : (told : List (Option Told)) (v new : BenchView) → ∥ IsBenchOf v ∥₁ → HasBytesOf v → Carried v.run
    → IsStepped told v new → Carried new.run
carried-after told v new b h carried s =
    subst (λ (w : BenchView). Carried w.run) (sym s.stepped)
    (∥∥₁_elim b (carried-prop (step_run v s.hold s.choice)) (λ known. carried-next v s.hold s.choice known h carried))

pub carried-first : (plan : Plan) (v : BenchView) → v ≡ first_bench (plan_view plan) → Carried v.run
carried-first plan v e = subst (λ (w : BenchView). Carried w.run) (sym e) (first-carried (plan_view plan))

pub simulated-now : (v : BenchView) → ∥ IsBenchOf v ∥₁ → HasBytesOf v → Carried v.run → Simulated v.run
simulated-now v b h carried = record {
  timely = timely-now v b;
  carried = carried;
  in_order = log-in-order v.run (timely-now v b);
  served = h.served;
}

kept-prop : (v : BenchView) → IsProp (Kept v.run (state_lent v) (bytes_lent v) v.bus.memory)
kept-prop v = hlevel props

pub lines-now : (v : BenchView) → ∥ IsBenchOf v ∥₁ → HasBytesOf v
    → Kept v.run (state_lent v) (bytes_lent v) v.bus.memory
lines-now v b h = ∥∥₁_elim b (kept-prop v) (λ known. lines-kept v known h)
