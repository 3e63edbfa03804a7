-- One more event of those that were shown.
use Rattle.std.proofs.Common.{◌≡◌, ◌∙◌, ◌≤◌, inl, inr, ℕ, zero, suc, ◌+◌, Bool, true, false, List, [], ◌∷◌, ◌++◌, length, append-nil, length-append, arith, ap, sym, refl, subst}
use Rattle.std.specs.Prelude.{◌==◌, if◌then◌else◌, slice_get, Option, Some, None, Result, Ok, Err, IfOk, IfErr, IfSome}
use Rattle.std.proofs.lemmas.Bool.{eqb-true, eqb-false}
use Rattle.vcd_way.specs.Events.{DumpEvent, Sampled, Hole, Resumed}
use Rattle.vcd_way.specs.Pieces.{Stamp, time_at}
use Rattle.vcd_course.specs.declared.event.Told.{Told}
use Rattle.vcd_course.specs.declared.event.Told.TheVariants as told
use Rattle.vcd_course.specs.Told.{told_with}
use Rattle.fsb_signal.specs.declared.sample.Sample.{Sample}
use Rattle.scope_clock.specs.declared.timer.Timer.{Timer}
use Rattle.vcd_way.specs.Declarations.{Declaration}
use Rattle.vcd_way.specs.Ways.{Way}
use Rattle.scope_way.specs.Wired.{wired_way}
use Rattle.scope_wiring.specs.declared.wiring.Choice.{Choice}
use Rattle.scope_wiring.specs.declared.wiring.Wiring.{Wiring}
use Rattle.scope_watch.specs.declared.header.Header.{Header}
use Rattle.scope_watch.specs.declared.stop.ScopeStop.{ScopeStop}
use Rattle.scope_watch.specs.declared.stop.ScopeStop.TheVariants as stops
use Rattle.scope_watch.specs.declared.values.Ended.{Ended}
use Rattle.scope_watch.specs.declared.values.Sampling.{Sampling}
use Rattle.scope_watch.specs.Checking.{IsWiredBy}
use Rattle.scope_watch.specs.Heading.{IsHeaded}
use Rattle.scope_watch.specs.Watching.{IsWatched, rules_for}
use Rattle.scope_clock.specs.Times.{HasNoTime, HasTimed, IsClockTime, IsTimedBy, IsUntimed, edge_times, most_timed}

-- the times of events, and of one more
pub edge_times-append : (es : List DumpEvent) (e : DumpEvent) → edge_times (es ++ e ∷ []) ≡ edge_times es ++ edge_times (e ∷ [])
edge_times-append [] e = refl
edge_times-append (Sampled sample stamp ∷ es) e = ap (λ x. time_at stamp ∷ x) (edge_times-append es e)
edge_times-append (Hole stamp ∷ es) e = edge_times-append es e
edge_times-append (Resumed stamp ∷ es) e = edge_times-append es e

-- an event that is no clock
pub timed-none : (t : Timer) (clock : ℕ) (es : List DumpEvent) (e : DumpEvent) → HasTimed t clock es → edge_times (e ∷ []) ≡ []
    → HasTimed t clock (es ++ e ∷ [])
timed-none t clock es e h none =
    let same : edge_times (es ++ e ∷ []) ≡ edge_times es =
    edge_times-append es e ∙ ap (λ x. edge_times es ++ x) none ∙ append-nil (edge_times es) in
    record {
      clock_is = h.clock_is;
      count = h.count ∙ ap length (sym same);
      time = h.time ∙ ap (λ x. slice_get x clock) (sym same);
    }

-- what is read of a list with one more element, at its place and elsewhere
get-end : (xs : List ℕ) (x k : ℕ) → length xs ≡ k → slice_get (xs ++ x ∷ []) k ≡ Some x
get-end [] x zero e = refl
get-end [] x (suc k) e = absurd (omega (arith, e))
get-end (y ∷ xs) x zero e = absurd (omega (arith, e))
get-end (y ∷ xs) x (suc k) e = get-end xs x k (omega (arith, e))

get-other : (xs : List ℕ) (x k : ℕ) → (length xs ≡ k → ⊥) → slice_get (xs ++ x ∷ []) k ≡ slice_get xs k
get-other [] x zero h = absurd (h refl)
get-other [] x (suc k) h = refl
get-other (y ∷ xs) x zero h = refl
get-other (y ∷ xs) x (suc k) h = get-other xs x k (λ e. h (omega (arith, e)))

get-one : (xs : List ℕ) (x k : ℕ) → slice_get (xs ++ x ∷ []) k ≡ (if length xs == k then Some x else slice_get xs k)
get-one xs x k = by (length xs == k) refl
  where
    by : (t : Bool) → (length xs == k) ≡ t → slice_get (xs ++ x ∷ []) k ≡ (if t then Some x else slice_get xs k)
    by true e = get-end xs x k (eqb-true (length xs) k e)
    by false e = get-other xs x k (eqb-false (length xs) k e)

-- a clock
pub timed-one : (t new : Timer) (clock : ℕ) (es : List DumpEvent) (e : DumpEvent) (x : ℕ) → HasTimed t clock es
    → edge_times (e ∷ []) ≡ x ∷ [] → new.clock ≡ t.clock → new.count ≡ t.count + 1
    → new.time ≡ (if t.count == t.clock then Some x else t.time) → HasTimed new clock (es ++ e ∷ [])
timed-one t new clock es e x h one same more kept =
    let all : edge_times (es ++ e ∷ []) ≡ edge_times es ++ x ∷ [] =
    edge_times-append es e ∙ ap (λ y. edge_times es ++ y) one in
    record {
      clock_is = same ∙ h.clock_is;
      count = rw all (let size = length-append (edge_times es) (x ∷ []) in omega (arith, more, h.count, size));
      time = kept
          ∙ rw (h.count, h.clock_is, h.time) (sym (ap (λ y. slice_get y clock) all ∙ get-one (edge_times es) x clock));
    }

-- what an event tells
pub told-one : (a : Told) (s : Sample) (t : Option Stamp) → a ≡ told.Sampled s → edge_times (told_with a t ∷ []) ≡ time_at t ∷ []
told-one a s t e = ap (λ x. edge_times (told_with x t ∷ [])) e

pub told-hole : (a : Told) (t : Option Stamp) → a ≡ told.Hole → edge_times (told_with a t ∷ []) ≡ []
told-hole a t e = ap (λ x. edge_times (told_with x t ∷ [])) e

pub told-resumed : (a : Told) (t : Option Stamp) → a ≡ told.Resumed → edge_times (told_with a t ∷ []) ≡ []
told-resumed a t e = ap (λ x. edge_times (told_with x t ∷ [])) e

-- no more clocks than events
pub times-few : (es : List DumpEvent) → length (edge_times es) ≤ length es
times-few [] = omega arith
times-few (Sampled sample stamp ∷ es) = let h = times-few es in omega (arith, h)
times-few (Hole stamp ∷ es) = let h = times-few es in omega (arith, h)
times-few (Resumed stamp ∷ es) = let h = times-few es in omega (arith, h)

-- ---- the text

-- a watcher that stops
abbrev pub watched : ScopeStop → Result Ended ScopeStop
watched stop = Err stop

pub timed-stop : (stop : ScopeStop) (seen : List DumpEvent → Type 0) (way : Way (List Declaration)) (clock : ℕ)
    (text : List ℕ) → (watched stop ≡ watched stops.WriteFault → ⊥) → IsWatched (Err stop) seen most_timed way text
    → IsTimedBy (Err stop) way clock text
timed-stop (stops.Bad fault) seen way clock text never h = h
timed-stop stops.ReadFault seen way clock text never h = tt
timed-stop stops.NoHeader seen way clock text never h = h
timed-stop stops.TooLong seen way clock text never h = h
timed-stop stops.TooMany seen way clock text never h = h
timed-stop stops.WriteFault seen way clock text never h = never refl
timed-stop stops.Memory seen way clock text never h = tt

pub timed-header : (stop : ScopeStop) (choice : Choice) (s : Sampling) (text left : List ℕ) → IsHeaded (Err stop) text left
    → IsUntimed stop choice s text
timed-header (stops.Bad fault) choice s text left h = inl h
timed-header stops.ReadFault choice s text left h = tt
timed-header stops.NoHeader choice s text left h = h
timed-header stops.TooLong choice s text left h = h
timed-header stops.TooMany choice s text left h = absurd h
timed-header stops.WriteFault choice s text left h = h
timed-header stops.Memory choice s text left h = tt

-- the same by the way of the wires
pub timed-way : (r : Result (Option ℕ) ScopeStop) (way wired : Way (List Declaration)) (clock : ℕ) (text : List ℕ)
    → way ≡ wired → IsTimedBy r wired clock text → IsTimedBy r way clock text
timed-way r way wired clock text same h = subst (λ x. IsTimedBy r x clock text) (sym same) h

pub timed-by : (r : Result (Option ℕ) ScopeStop) (choice : Choice) (s : Sampling) (h : Header) (w : Wiring)
    (text : List ℕ) (clock : ℕ) → IsWiredBy choice s h w text
    → IsTimedBy r (wired_way w.wires.items (rules_for s)) clock text
    → IfOk r (λ time. IfSome time (IsClockTime choice s text clock))
timed-by (Err stop) choice s h w text clock wired e = tt
timed-by (Ok None) choice s h w text clock wired e = tt
timed-by (Ok (Some time)) choice s h w text clock wired e =
    record { header = h; wiring = w; wired = wired; time_is = sym e }

pub lacks-by : (r : Result (Option ℕ) ScopeStop) (choice : Choice) (s : Sampling) (h : Header) (w : Wiring)
    (text : List ℕ) (clock : ℕ) → IsWiredBy choice s h w text
    → IsTimedBy r (wired_way w.wires.items (rules_for s)) clock text → r ≡ Ok None → HasNoTime choice s text clock
lacks-by (Err stop) choice s h w text clock wired e is = absurd (let no : ⊥ = cc in no)
lacks-by (Ok None) choice s h w text clock wired e is =
    inr (record { header = h; wiring = w; wired = wired; none = sym e })
lacks-by (Ok (Some time)) choice s h w text clock wired e is = absurd (let no : ⊥ = cc in no)

pub untimed-by : (r : Result (Option ℕ) ScopeStop) (choice : Choice) (s : Sampling) (h : Header) (w : Wiring)
    (text : List ℕ) (clock : ℕ) → IsWiredBy choice s h w text
    → IsTimedBy r (wired_way w.wires.items (rules_for s)) clock text → IfErr r (λ stop. IsUntimed stop choice s text)
untimed-by (Ok time) choice s h w text clock wired e = tt
untimed-by (Err (stops.Bad fault)) choice s h w text clock wired e =
    inr (record { header = h; wiring = w; wired = wired; fault_is = e })
untimed-by (Err stops.ReadFault) choice s h w text clock wired e = tt
untimed-by (Err stops.NoHeader) choice s h w text clock wired e = absurd e
untimed-by (Err stops.TooLong) choice s h w text clock wired e = (e, wired.declares.is_dump)
untimed-by (Err stops.TooMany) choice s h w text clock wired e =
    record { header = h; wiring = w; wired = wired; many = e }
untimed-by (Err stops.WriteFault) choice s h w text clock wired e = e
untimed-by (Err stops.Memory) choice s h w text clock wired e = tt
