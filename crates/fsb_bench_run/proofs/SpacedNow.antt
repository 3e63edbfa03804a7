-- Whether a request may begin at a bench's clock: the distance, the room in the queue, and BNR# two clocks before.
use Rattle.fsb_bench_run.proofs.Words
use Words.{ℕ, ◌+◌, ◌-◌, ◌<◌, ◌≤◌, ◌≡◌, ◌&&◌, Bool, true, false, not, List, Option, length, nat_le, nat_lt, sym, ap, ◌∙◌}
use Words.{arith, option_map, option_map_or, and_parts, leb-true, length-map, Done, last_where, Choice, in_flight-now}
use Words.{one_more, agree-back, Lines, ADS, BNR, line_at, GrowsTo, Run, past_of, past_to, run_to, drives_aerr}
use Words.{drives_bnr, drives_defer, drives_hazards, drives_stalls, is_bnr_chosen, keeps_snoop_lines, has_room}
use Words.{is_spaced, Timely, holds_at, holds_in, last_where-found, run_to-agrees, Trace, line_back, in_flight}
use Words.{line_at-agree, Latest, step_performed, step_sample, was_held_at, is_spaced_by, BenchView, next_clock_of}
use Rattle.std.proofs.Common.{slice_get}
use Rattle.fsb_lawful.proofs.Interface as lawful
use Rattle.fsb_bench_run.proofs.QueueNext.{orderly-run}
use Rattle.fsb_bench_run.proofs.RunWith.{run_with}
use Rattle.fsb_bench_run.proofs.SameBus.{same-performed}
use Rattle.fsb_bench_run.proofs.SampleSpaced.{not-soon}
use Rattle.fsb_bench_run.proofs.StepWith.{IsStepWith}

and-when : (b x y : Bool) → (b ≡ true → x ≡ y) → (b && x) ≡ (b && y)
and-when b x y h1 = grind arith

-- a line some clocks before the next one is that of the run
pub back-old : (line : Lines) (r s : Run) (d : ℕ) → GrowsTo r s → 0 < d
    → line_back line s.trace (length r.trace) d ≡ line_back line r.trace (length r.trace) d
unfolding line_back
back-old line r s d grows some = grind (arith, line_at-agree, agree-back)

spaced-by : (w : Trace) (o : Option Latest)
    → option_map (λ (last : Latest). last.clock) o ≡ last_where (line_at ADS w) (length w)
    → (not (line_back ADS w (length w) 1) && not (line_back ADS w (length w) 2)) ≡ is_spaced_by o (length w)
unfolding line_back
spaced-by w o e = grind (arith, not-soon, last_where-found)

-- the distance, by the request that began last
pub spaced-told : (v : BenchView) (hold : Bool) (choice : Choice) (entries : List Done)
    → IsStepWith v hold choice entries
    → is_spaced (run_with v hold choice entries) (next_clock_of v)
    ≡ is_spaced_by (step_performed v).latest (next_clock_of v)
unfolding is_spaced
spaced-told v hold choice entries b =
    let r = v.run in
    let s = run_with v hold choice entries in
    let one = back-old ADS r s 1 b.grows (omega arith) in
    let two = back-old ADS r s 2 b.grows (omega arith) in
    grind (arith, spaced-by)

-- the room in the queue: what is in flight at the clock shows below it
pub room-told : (v : BenchView) (hold : Bool) (choice : Choice) (entries : List Done) → IsStepWith v hold choice entries
    → has_room (run_with v hold choice entries) (next_clock_of v) ≡ nat_lt (length (step_performed v).queue) 8
unfolding has_room
room-told v hold choice entries b =
    let r = v.run in
    let s = run_with v hold choice entries in
    let n = next_clock_of v in
    let more = one_more r.trace (step_sample v hold) in
    let now = in_flight-now r.trace (step_sample v hold) s.trace more (orderly-run r b.bench.timely) in
    let size : length (in_flight s.trace n) ≡ length v.bus.queue = grind (arith, length-map) in
    ap (λ k. nat_lt k 8) (size ∙ sym (ap length (same-performed v).queue))

chosen-held : (r : Run) (c : ℕ) → Timely r → c < length r.trace
    → line_at BNR r.trace c ≡ option_map_or (λ (hold : Bool). hold) (slice_get r.holds c) false
unfolding holds_at holds_in drives_hazards drives_bnr is_bnr_chosen run_to
chosen-held r c h l =
    let u = run_to r c in
    let p = past_to (past_of r) c in
    let e = h.hazard_lines.at c l in
    let four = and_parts (drives_bnr u c && drives_aerr u c && drives_stalls u c && drives_defer u p c)
    (keeps_snoop_lines u c) e in
    let three = and_parts (drives_bnr u c && drives_aerr u c && drives_stalls u c) (drives_defer u p c) four.0 in
    let two = and_parts (drives_bnr u c && drives_aerr u c) (drives_stalls u c) three.0 in
    let one = and_parts (drives_bnr u c) (drives_aerr u c) two.0 in
    line_at-agree BNR (c + 1) r.trace u.trace c (run_to-agrees r c l) (omega arith)
    ∙ lawful.same-beq (line_at BNR u.trace c) (is_bnr_chosen u c) one.0
    ∙ ap (λ o. option_map_or (λ (hold : Bool). hold) o false) (lawful.slice_get-take (c + 1) r.holds c (omega arith))

-- BNR# two clocks before, by the holds
pub held-told : (v : BenchView) (hold : Bool) (choice : Choice) (entries : List Done) → IsStepWith v hold choice entries
    → line_back BNR (run_with v hold choice entries).trace (next_clock_of v) 2
    ≡ was_held_at v.run.holds (next_clock_of v)
unfolding line_back
held-told v hold choice entries b =
    let r = v.run in
    let n = next_clock_of v in
    back-old BNR r (run_with v hold choice entries) 2 b.grows (omega arith)
    ∙ and-when (nat_le 2 n) (line_at BNR r.trace (n - 2))
    (option_map_or (λ (hold : Bool). hold) (slice_get r.holds (n - 2)) false) (λ e.
    let low : 2 ≤ n = leb-true 2 n e in chosen-held r (n - 2) b.bench.timely (omega arith))
