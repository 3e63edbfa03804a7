-- What a clock leaves of the request that began last, and of those that have begun.
use Rattle.fsb_bench_run.proofs.Words
use Words.{ℕ, ◌≡◌, Bool, Option, Some, List, [], ◌∷◌, ◌++◌, refl, ap, ◌∙◌, arith, option_map_or, Choice, Entry, Latest}
use Words.{Started, Starting, Ending, SnoopSettled, bench_stepped, step_decided, step_ended, step_performed}
use Words.{step_started, bus_answered, bus_ended, bus_snooped, bus_started, BenchView, BusView, next_clock_of}

-- the request that began last, after this one began, if one did
abbrev pub latest_after : ℕ → Option Starting → Option Latest → Option Latest
latest_after clock starting latest =
    option_map_or (λ (s : Starting). Some (record { clock = clock; who = s.who; request = s.request })) starting latest

-- those that have begun, with this one, if one did
abbrev pub started_after : ℕ → Option Starting → List Started → List Started
started_after clock starting started =
    option_map_or (λ (s : Starting). started ++ record { clock = clock; locked = s.locked } ∷ []) starting started

-- two buses with the same requests begun, and the same locks
pub record HasSameBegun (a b : BusView) : Type 0 where
  pub latest : a.latest ≡ b.latest
  pub started : a.started ≡ b.started
  pub kept : a.kept ≡ b.kept
  pub queue : a.queue ≡ b.queue

same : (a : BusView) → HasSameBegun a a
same a = record { latest = refl; started = refl; kept = refl; queue = refl }

snooped-same : (bus : BusView) (o : Option SnoopSettled) → HasSameBegun (option_map_or (bus_snooped bus) o bus) bus
snooped-same bus o = grind arith

answered-same : (bus : BusView) (clock : ℕ) (o : Option Entry)
    → HasSameBegun (option_map_or (bus_answered bus clock) o bus) bus
answered-same bus clock o = grind arith

ended-same : (bus : BusView) (clock : ℕ) (o : Option Ending)
    → HasSameBegun (option_map_or (bus_ended bus clock) o bus) bus
ended-same bus clock o = grind arith

-- the hits change nothing of it
pub performed-begun : (v : BenchView) → HasSameBegun (step_performed v) v.bus
performed-begun v = grind arith

-- nor does what comes after the request that begins
pub ended-begun : (v : BenchView) (hold : Bool) → HasSameBegun (step_ended v hold) (step_started v hold)
ended-begun v hold = grind (arith, ended-same, answered-same)

started-latest : (bus : BusView) (clock : ℕ) (o : Option Starting)
    → (option_map_or (bus_started bus clock) o bus).latest ≡ latest_after clock o bus.latest
started-latest bus clock o = grind arith

started-started : (bus : BusView) (clock : ℕ) (o : Option Starting)
    → (option_map_or (bus_started bus clock) o bus).started ≡ started_after clock o bus.started
started-started bus clock o = grind arith

started-kept : (bus : BusView) (clock : ℕ) (o : Option Starting)
    → (option_map_or (bus_started bus clock) o bus).kept ≡ bus.kept
started-kept bus clock o = grind arith

-- the request that began last, after the clock
pub latest-stepped : (v : BenchView) (hold : Bool) (choice : Choice)
    → (bench_stepped v hold choice).bus.latest ≡ latest_after (next_clock_of v) (step_decided v hold).starting
    v.bus.latest
latest-stepped v hold choice =
    (ended-begun v hold).latest
    ∙ started-latest (step_performed v) (next_clock_of v) (step_decided v hold).starting
    ∙ ap (latest_after (next_clock_of v) (step_decided v hold).starting) (performed-begun v).latest

-- those that have begun, after the clock
pub started-ended : (v : BenchView) (hold : Bool)
    → (step_ended v hold).started ≡ started_after (next_clock_of v) (step_decided v hold).starting v.bus.started
started-ended v hold =
    (ended-begun v hold).started
    ∙ started-started (step_performed v) (next_clock_of v) (step_decided v hold).starting
    ∙ ap (started_after (next_clock_of v) (step_decided v hold).starting) (performed-begun v).started

pub started-stepped : (v : BenchView) (hold : Bool) (choice : Choice)
    → (bench_stepped v hold choice).bus.started ≡ started_after (next_clock_of v) (step_decided v hold).starting
    v.bus.started
started-stepped v hold choice = started-ended v hold

-- the locks, before they take the clock
pub kept-ended : (v : BenchView) (hold : Bool) → (step_ended v hold).kept ≡ v.bus.kept
kept-ended v hold =
    (ended-begun v hold).kept ∙ started-kept (step_performed v) (next_clock_of v) (step_decided v hold).starting
    ∙ (performed-begun v).kept
