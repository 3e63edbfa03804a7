-- What hazard objects were asked, with one clock more.
use Rattle.std.proofs.Common.{◌≡◌, ◌+◌, ℕ, Bool, arith, length-append, List, [], ◌∷◌, ◌++◌, Option, Some, None, length}
use Rattle.std.proofs.Common.{slice_get, refl, sym, ap, ◌∙◌, subst, inl, inr, append-nil}
use Rattle.std.proofs.lemmas.Option.{slice_get_within}
use Rattle.std.specs.Option.{option_map_or}
use Rattle.fsb_count.specs.Clocks.{count_where}
use Rattle.fsb_count.proofs.Interface.{slice_get-push}
use Rattle.fsb_hazard.specs.declared.choice.Choice.{Choice}
use Rattle.fsb_hazard.specs.Told.{Told}
use Rattle.fsb_timely.specs.Asked.{Asked, IsChosen, IsHold}
use Rattle.fsb_timely.specs.Runs.{Run, requests_below}
use Rattle.fsb_timely.specs.Timely.{Timely}
use Rattle.fsb_bench_view.specs.BenchSteps.{step_decided, step_sample}
use Rattle.fsb_bench_view.specs.BusViews.{BenchView}
use Rattle.fsb_core.specs.Stepping.{IsStepped}

-- what is said of each element by its place is said of one more at the end
said-more : {X : Type 0} (P : ℕ → X → Type 0) (xs : List X) (y : X)
    → ((k : ℕ) (x : X) → slice_get xs k ≡ Some x → P k x) → P (length xs) y
    → (k : ℕ) (x : X) → slice_get (xs ++ y ∷ []) k ≡ Some x → P k x
said-more P xs y before last k x e =
    elim (slice_get-push xs y k x e) [
      | inl old ↦ before k x old
      | inr new ↦ subst (λ n. P n x) (sym new.0) (subst (λ z. P (length xs) z) new.1 last)
    ]

-- one hold more, and one choice more where something begins
pub asked-more : {S : Type 0} (objects : List (Option Told)) (choices : List Choice) (holds : List Bool)
    (hold : Bool) (choice : Choice) (starting : Option S)
    → Asked objects choices holds → IsHold objects (length holds) hold
    → ((s : S) → starting ≡ Some s → IsChosen objects (length choices) choice)
    → Asked objects (choices ++ option_map_or (λ s. choice ∷ []) starting []) (holds ++ hold ∷ [])
asked-more objects choices holds hold choice None asked held chosen = record {
  chosen = λ k x e. asked.chosen k x (sym (ap (λ xs. slice_get xs k) (append-nil choices)) ∙ e);
  held = said-more (IsHold objects) holds hold asked.held held;
}
asked-more objects choices holds hold choice (Some s) asked held chosen = record {
  chosen = said-more (IsChosen objects) choices choice asked.chosen (chosen s refl);
  held = said-more (IsHold objects) holds hold asked.held held;
}

-- the run of a bench after a clock
pub asked-stepped : (objects : List (Option Told)) (old new : BenchView) → IsStepped objects old new
    → length old.run.holds ≡ length old.run.trace → Asked objects old.run.choices old.run.holds
    → Asked objects new.run.choices new.run.holds
asked-stepped objects old new step whole asked =
    subst (λ v. Asked objects v.run.choices v.run.holds) (sym step.stepped)
    (asked-more objects old.run.choices old.run.holds step.hold step.choice (step_decided old step.hold).starting asked
    (subst (λ n. IsHold objects n step.hold) (sym whole) step.held) step.chosen)

-- one clock more, asked of objects that tell what those before it told
pub asked-clock : (objects told : List (Option Told)) (old new : BenchView) → told ≡ objects
    → IsStepped told old new → Timely old.run → Asked objects old.run.choices old.run.holds
    → Asked objects new.run.choices new.run.holds
asked-clock objects told old new same step timely asked =
    asked-stepped objects old new (subst (λ t. IsStepped t old new) same step) timely.one_hold asked

-- before the first clock nothing was asked
pub asked-none : (objects : List (Option Told)) (r : Run) → Timely r → length r.trace ≡ 0
    → Asked objects r.choices r.holds
unfolding requests_below count_where
asked-none objects r timely e =
    let choices : length r.choices ≡ 0 = timely.one_choice ∙ ap (requests_below r.trace) e in
    let holds : length r.holds ≡ 0 = timely.one_hold ∙ e in
    record {
      chosen = λ k x at. absurd (let l = slice_get_within r.choices k x at in omega (arith, l, choices));
      held = λ k x at. absurd (let l = slice_get_within r.holds k x at in omega (arith, l, holds));
    }

-- a clock adds one sample, and the plan stays
pub one-sample : (objects : List (Option Told)) (old new : BenchView) → IsStepped objects old new
    → length new.run.trace ≡ length old.run.trace + 1
one-sample objects old new step =
    ap (λ v. length v.run.trace) step.stepped ∙ length-append old.run.trace (step_sample old step.hold ∷ [])

pub same-plan : (objects : List (Option Told)) (old new : BenchView) → IsStepped objects old new
    → new.run.plan ≡ old.run.plan
same-plan objects old new step = ap (λ v. v.run.plan) step.stepped
