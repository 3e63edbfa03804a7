-- What a bench has before the snoop end of its clock: what was served, and as many deferrals as before.
use Rattle.fsb_bench_run.proofs.Words
use Words.{ℕ, ◌≡◌, Bool, Option, length, ap, ◌∙◌, arith, option_map_or, length-map, Bridged, Entry, Starting}
use Words.{step_cancelled, step_decided, step_performed, step_started, bus_cancelled, bus_started, BenchView, BusView}
use Words.{next_clock_of}
use Rattle.fsb_bench_run.proofs.SameBus.{same-performed}

pub served-cancelled : (v : BenchView) (hold : Bool) → (step_cancelled v hold).served ≡ v.bus.served
served-cancelled v hold = grind (arith, same-performed)

waiting-started : (bus : BusView) (clock : ℕ) (o : Option Starting)
    → length (option_map_or (bus_started bus clock) o bus).bridge.waiting ≡ length bus.bridge.waiting
waiting-started bus clock o = grind (arith, length-map)

waiting-then : (bus : BusView) (o : Option Entry)
    → length (option_map_or (bus_cancelled bus) o bus).bridge.waiting ≡ length bus.bridge.waiting
waiting-then bus o = grind (arith, length-map)

pub waiting-cancelled : (v : BenchView) (hold : Bool)
    → length (step_cancelled v hold).bridge.waiting ≡ length v.bus.bridge.waiting
waiting-cancelled v hold =
    waiting-then (step_started v hold) (step_decided v hold).cancelled
    ∙ waiting-started (step_performed v) (next_clock_of v) (step_decided v hold).starting
    ∙ ap (λ (b : Bridged). length b.waiting) (same-performed v).bridge
