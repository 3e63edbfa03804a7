-- An object that tells nothing and always answers Retry: it stands for 30 clocks, and then has gone.
use Rattle.std.proofs.Common.{◌≡◌, ◌<◌, ◌≤◌, ◌||◌, ℕ, zero, suc, refl, sym, subst, Bool, List, [], ◌∷◌, ◌++◌, Option}
use Rattle.std.proofs.Common.{Some, None, true, false, not, nat_eq, nat_lt, replicate, slice_get, take, if◌then◌else◌, arith}
use Rattle.std.proofs.Common.{inl, inr}
use Rattle.std.proofs.Math.Bool.{or-false}
use Rattle.std.proofs.lemmas.Bool.{cases_lt, eqb-true, le-ltb, lt-ltb, ltb-true}
use Rattle.fsb_access.proofs.Interface.{steps_of-nobody}
use Rattle.fsb_access.specs.ScriptOrder.{AreOfItems, script_of, steps_of}
use Rattle.fsb_access.specs.declared.log.Done.{Done}
use Rattle.fsb_count.specs.Clocks.{each_where}
use Rattle.fsb_count.proofs.Interface.{each_where-at}
use Rattle.fsb_hazard.specs.declared.choice.Choice.{Choice}
use Rattle.fsb_hazard.specs.declared.choice.Turn.TheVariants.{Retry}
use Rattle.fsb_hazard.specs.Choice.{quiet_choice}
use Rattle.fsb_hazard.specs.Told.{Told}
use Rattle.fsb_script.specs.Plans.{PlanView}
use Rattle.fsb_signal.specs.declared.lines.TheConstants.Lines.{ADS}
use Rattle.fsb_signal.specs.Samples.{line_at}
use Rattle.fsb_trace.specs.At.{Trace}
use Rattle.fsb_timely.specs.Runs.{Run, requests_below}
use Rattle.fsb_timely.specs.Timely.{keeps}
use Rattle.fsb_timely.specs.Simulated.{Simulated}
use Rattle.fsb_timely.specs.Asked.{IsChosen}
use Rattle.fsb_timely.specs.AskedSteps.{IsAskedAt, AskedInSteps}
use Rattle.rows_timely.proofs.LaidOut.{some_request, every_part}
use Rattle.rows_timely.proofs.Opened.{opened}
use Rattle.rows_timely.proofs.Tests.{simulated_if}
use Rattle.rows_timely.proofs.Words.{plain, ◌+◌, One, Load, on, pair, idle, idles, b0, ads, defer, rs, dbsy, drdy, entry}

abbrev pub plan : PlanView
plan = record plain { scripts = (One (Load 1 0x40) ∷ []) ∷ [] }

-- nine clocks of a request that is retried
abbrev retried : Trace
retried =
    on b0 ∷ on b0 ∷ pair (b0 + ads) 0x6 0x8 ∷ pair 0 0x2 0x2 ∷ idle ∷ idle ∷ on defer ∷ idle ∷ on (rs 1) ∷ []

-- four requests are retried, and the fifth is let through
abbrev pub trace : Trace
trace =
    retried ++ retried ++ retried ++ retried
    ++ on b0 ∷ on b0 ∷ pair (b0 + ads) 0x6 0x8 ∷ pair 0 0x2 0x2 ∷ idles 4 ++ on (rs 7 + dbsy + drdy)
    ∷ on (dbsy + drdy) ∷ on (dbsy + drdy) ∷ on drdy ∷ idles 12

abbrev pub log : List Done
log = entry 47 0 0 0 (Load 1 0x40) 0x0 ∷ []

-- the choice of the object for each request
abbrev pub retry : Choice
retry = record quiet_choice { turn = Retry }

abbrev pub run : Run
run = record {
  plan = plan;
  choices = replicate 4 retry ++ quiet_choice ∷ [];
  holds = replicate 60 false;
  trace = trace;
  log = log;
}

-- the object stands for all 60 clocks: seven requests begin, and nothing is loaded
abbrev pub wild_run : Run
wild_run = record {
  plan = plan;
  choices = replicate 7 retry;
  holds = replicate 60 false;
  trace = retried ++ retried ++ retried ++ retried ++ retried ++ retried ++ take 6 retried;
  log = [];
}

-- what the objects tell that stand at clock c: one that tells nothing stands below clock 30
abbrev pub standing : ℕ → List (Option Told)
standing c = if nat_lt c 30 then None ∷ [] else []

-- what is computed: both runs keep every part at each clock
pub computes : (keeps every_part run ≡ true) × (keeps every_part wild_run ≡ true)
unfolding opened
computes = (refl, refl)

follows : (agent : ℕ) → AreOfItems (script_of plan.scripts agent) (steps_of agent log)
follows zero = record { items = 1; same = refl }
follows (suc agent) = record { items = 0; same = steps_of-nobody 1 (suc agent) log refl (omega arith) }

pub is_simulated : Simulated run
unfolding opened
is_simulated = simulated_if run computes.0 refl refl refl refl (record { follows = follows; together = refl }) refl

follows_nothing : (agent : ℕ) → AreOfItems (script_of plan.scripts agent) (steps_of agent [])
follows_nothing agent = record { items = 0; same = refl }

pub wild_is_simulated : Simulated wild_run
unfolding opened
wild_is_simulated = simulated_if wild_run computes.1 refl refl refl refl
    (record { follows = follows_nothing; together = refl }) refl

-- of the requests that begin the first four begin below clock 30, and the fifth later
four_begin : each_where (λ c. not (nat_lt c 30)
    || (not (line_at ADS trace c) || nat_lt (requests_below trace c) 4)) 60 ≡ true
unfolding opened
four_begin = refl

fifth_begins : each_where (λ c. nat_lt c 30 || (not (line_at ADS trace c) || nat_eq (requests_below trace c) 4))
    60 ≡ true
unfolding opened
fifth_begins = refl

number_early : (c : ℕ) → c < 60 → c < 30 → line_at ADS trace c ≡ true → requests_below trace c < 4
number_early c l m t =
    let h = each_where-at
    (λ k. not (nat_lt k 30) || (not (line_at ADS trace k) || nat_lt (requests_below trace k) 4)) 60
    four_begin c l in
    ltb-true (requests_below trace c) 4 (let h' = rw (lt-ltb c 30 m, t) at h in h')

number_late : (c : ℕ) → c < 60 → 30 ≤ c → line_at ADS trace c ≡ true → requests_below trace c ≡ 4
number_late c l m t =
    let h = each_where-at (λ k. nat_lt k 30 || (not (line_at ADS trace k) || nat_eq (requests_below trace k) 4))
    60 fifth_begins c l in
    eqb-true (requests_below trace c) 4 (let h' = rw (le-ltb c 30 m, t) at h in h')

retry_chosen : (k : ℕ) → IsChosen (None ∷ []) k retry
retry_chosen k = record {
  request = some_request;
  together = retry;
  joined = record { answers = retry ∷ []; answered = (tt, tt); joined = refl };
  chosen = refl;
}

quiet_chosen : (k : ℕ) → IsChosen [] k quiet_choice
quiet_chosen k = record {
  request = some_request;
  together = quiet_choice;
  joined = record { answers = []; answered = tt; joined = refl };
  chosen = refl;
}

early_choice : (k : ℕ) (choice : Choice) → k < 4
    → slice_get (replicate 4 retry ++ quiet_choice ∷ []) k ≡ Some choice → retry ≡ choice
early_choice zero choice l e = cc
early_choice (suc zero) choice l e = cc
early_choice (suc (suc zero)) choice l e = cc
early_choice (suc (suc (suc zero))) choice l e = cc
early_choice (suc (suc (suc (suc k)))) choice l e = absurd (omega arith)

late_choice : (k : ℕ) (choice : Choice) → k ≡ 4
    → slice_get (replicate 4 retry ++ quiet_choice ∷ []) k ≡ Some choice → quiet_choice ≡ choice
late_choice k choice same e = let e' = rw same at e in cc

no_hold : (n c : ℕ) (hold : Bool) → slice_get (replicate n false) c ≡ Some hold → false ≡ hold
no_hold zero c hold e = absurd (let h : ⊥ = cc in h)
no_hold (suc n) zero hold e = cc
no_hold (suc n) (suc c) hold e = no_hold n c hold e

asked_early : (c : ℕ) → c < 60 → c < 30 → IsAskedAt (None ∷ []) run c
asked_early c l m = record {
  chosen = λ choice t e.
      subst (IsChosen (None ∷ []) (requests_below trace c))
      (early_choice (requests_below trace c) choice (number_early c l m t) e)
      (retry_chosen (requests_below trace c));
  held = λ hold e. record {
    answers = record quiet_choice { bnr = hold } ∷ [];
    answered = (tt, tt);
    asks = sym (or-false hold);
  };
}

asked_late : (c : ℕ) → c < 60 → 30 ≤ c → IsAskedAt [] run c
asked_late c l m = record {
  chosen = λ choice t e.
      subst (IsChosen [] (requests_below trace c))
      (late_choice (requests_below trace c) choice (number_late c l m t) e) (quiet_chosen (requests_below trace c));
  held = λ hold e. record { answers = []; answered = tt; asks = sym (no_hold 60 c hold e) };
}

pub is_asked_in_steps : AskedInSteps standing run
is_asked_in_steps = record {
  at = λ c l. elim (cases_lt c 30) [
    | inl m ↦ subst (λ objects. IsAskedAt objects run c) (sym (stands c m)) (asked_early c l m)
    | inr m ↦ subst (λ objects. IsAskedAt objects run c) (sym (has_gone c m)) (asked_late c l m)
  ];
}
  where
    stands : (c : ℕ) → c < 30 → standing c ≡ None ∷ []
    stands c m = rw (lt-ltb c 30 m) refl

    has_gone : (c : ℕ) → 30 ≤ c → standing c ≡ []
    has_gone c m = rw (le-ltb c 30 m) refl
