-- The bridge after a bench's clock is that of its longer run.
use Rattle.fsb_bench_run.proofs.Words
use Words.{ℕ, ◌≡◌, Bool, true, Option, length, is_some, sym, ap, subst, ◌∙◌, arith, option_map_or, Bridged}
use Words.{after_cancellation, after_clock, after_reply, after_response, after_snoop_end, reply_begun, HasDeferrals}
use Words.{leaves-list, list-grown, Choice, longer, Entry, Starting, Ending, SnoopSettled, bench_stepped, step_answered}
use Words.{step_cancelled, step_decided, step_drive, step_ended, step_ending, step_entries, step_performed, step_run}
use Words.{step_snooped, step_started, answered_by, bus_answered, bus_cancelled, bus_ended, bus_snooped, bus_started}
use Words.{BenchView, BusView, next_clock_of, HasBridgeOf, IsBenchOf}
use Rattle.fsb_bench_run.proofs.BegunEvents.{cancelled-entry, cancelled-now}
use Rattle.fsb_bench_run.proofs.LogsNow.{reaches-step}
use Rattle.fsb_bench_run.proofs.NextRun.{grows-to}
use Rattle.fsb_bench_run.proofs.SameBus.{same-performed}
use Rattle.fsb_bench_run.proofs.StartingNow.{starting-begins}
use Rattle.fsb_bench_run.proofs.StepEntries.{step-with}
use Rattle.fsb_bench_run.proofs.StepWith.{begins-with}
use Rattle.fsb_bench_run.proofs.WaitingAnswered.{waiting-answered}
use Rattle.fsb_bench_run.proofs.WaitingBegun.{waiting-begun, waiting-cancelled}
use Rattle.fsb_bench_run.proofs.WaitingSnooped.{waiting-snooped}

-- the window stays
started-window : (bus : BusView) (clock : ℕ) (o : Option Starting)
    → (option_map_or (bus_started bus clock) o bus).bridge.window ≡ bus.bridge.window
started-window bus clock o = grind arith

cancelled-window : (bus : BusView) (o : Option Entry)
    → (option_map_or (bus_cancelled bus) o bus).bridge.window ≡ bus.bridge.window
cancelled-window bus o = grind arith

snooped-window : (bus : BusView) (o : Option SnoopSettled)
    → (option_map_or (bus_snooped bus) o bus).bridge.window ≡ bus.bridge.window
snooped-window bus o = grind arith

answered-window : (bus : BusView) (clock : ℕ) (o : Option Entry)
    → (option_map_or (bus_answered bus clock) o bus).bridge.window ≡ bus.bridge.window
answered-window bus clock o = grind arith

-- an end changes nothing of the bridge
ended-bridge : (bus : BusView) (clock : ℕ) (o : Option Ending)
    → (option_map_or (bus_ended bus clock) o bus).bridge ≡ bus.bridge
ended-bridge bus clock o = grind arith

bridge-ended : (v : BenchView) (hold : Bool) → (step_ended v hold).bridge ≡ (step_answered v hold).bridge
bridge-ended v hold = ended-bridge (step_answered v hold) (next_clock_of v) (step_ending v hold)

window-ended : (v : BenchView) (hold : Bool) → (step_ended v hold).bridge.window ≡ v.bus.bridge.window
window-ended v hold =
    ap (λ (x : Bridged). x.window) (bridge-ended v hold)
    ∙ answered-window (step_snooped v hold) (next_clock_of v) (answered_by (step_snooped v hold) (step_drive v))
    ∙ snooped-window (step_cancelled v hold) (step_decided v hold).snooped
    ∙ cancelled-window (step_started v hold) (step_decided v hold).cancelled
    ∙ started-window (step_performed v) (next_clock_of v) (step_decided v hold).starting
    ∙ ap (λ (x : Bridged). x.window) (same-performed v).bridge

-- the deferrals after the clock are what the clock of the run makes of those before
waiting-ended : (v : BenchView) (hold : Bool) (choice : Choice) → IsBenchOf v
    → (step_ended v hold).bridge.waiting
    ≡ after_clock (step_run v hold choice) (next_clock_of v) v.bus.bridge.waiting
unfolding after_clock
waiting-ended v hold choice b =
    let s = step_run v hold choice in
    let n = next_clock_of v in
    let entries = step_entries v hold in
    let k = step-with v hold choice b in
    let h = reaches-step v hold choice b in
    let long = h.long in
    let ads = begins-with v hold choice entries in
    let first = ap (λ (x : Bridged). x.waiting) (same-performed v).bridge in
    let begun = waiting-begun s n (step_performed v) (step_decided v hold).starting (omega arith)
    (λ none. ads ∙ ap (λ o. is_some o) none) (λ x is. starting-begins v hold choice entries x k is) in
    let cancelled = waiting-cancelled s n (step_started v hold) (step_decided v hold).cancelled h
    (cancelled-now v hold choice entries k) (λ e is. cancelled-entry v hold choice entries e k is) in
    ap (λ (x : Bridged). x.waiting) (bridge-ended v hold)
    ∙ waiting-answered v hold choice b
    ∙ ap (after_response s n) (waiting-snooped v hold choice entries k h
    ∙ ap (after_snoop_end s n) (cancelled
    ∙ ap (after_cancellation s n) (begun ∙ ap (after_reply (reply_begun s n) true) first)))

-- the bridge of the longer run
pub bridge-next : (v : BenchView) (hold : Bool) (choice : Choice) → IsBenchOf v
    → HasBridgeOf (bench_stepped v hold choice).bus.bridge (step_run v hold choice)
bridge-next v hold choice b =
    let r = v.run in
    let s = step_run v hold choice in
    let n = next_clock_of v in
    let grows = grows-to v hold choice b in
    let has = leaves-list s n v.bus.bridge.waiting (reaches-step v hold choice b)
    (list-grown r s v.bus.bridge.waiting grows b.bridge.deferrals) in
    record {
      window = window-ended v hold ∙ b.bridge.window;
      deferrals = subst (λ list. HasDeferrals list s (length s.trace)) (sym (waiting-ended v hold choice b))
          (subst (λ m. HasDeferrals (after_clock s n v.bus.bridge.waiting) s m) (sym (longer r s grows)) has);
    }
