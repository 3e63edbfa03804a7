-- What a run keeps that grows by one clock: its samples, its choices and its snoop ends.
use Rattle.fsb_phase_run.proofs.Words
use Words.{ℕ, ◌+◌, ◌-◌, ◌<◌, ◌≡◌, true, Some, length, sym, ap, ◌∙◌, arith, subst, option_map_or, length-append}
use Words.{count_where, count_where-above, count_where-same, nth_where-found, quiet_choice, ADS, line_at, AgreeTo}
use Words.{is_live, live_clock_of, snoop_end_of, AgreeTo-sym, line_at-agree, live_clock_of-stays, snoop_end_of-clock}
use Words.{is_live-ads, one_more, snooped_at, GrowsTo, choice_at, Run, past_of, requests_below, run_to, live_choice}
use Words.{past-before, run_to-agrees, snooped-to}
use Rattle.std.proofs.Common.{slice_get}
use Rattle.fsb_signal.proofs.Interface.{slice_get-before}

pub agree-grown : (r s : Run) → GrowsTo r s → AgreeTo (length r.trace) r.trace s.trace
agree-grown r s grows =
    subst (λ w. AgreeTo (length r.trace) r.trace w) (sym grows.next.more_trace)
    (one_more r.trace grows.next.sample).agree

pub agree-back : (r s : Run) → GrowsTo r s → AgreeTo (length r.trace) s.trace r.trace
agree-back r s grows = AgreeTo-sym (length r.trace) r.trace s.trace (agree-grown r s grows)

pub agree-cut : (r : Run) (t : ℕ) → t < length r.trace → AgreeTo (t + 1) (run_to r t).trace r.trace
agree-cut r t l = AgreeTo-sym (t + 1) r.trace (run_to r t).trace (run_to-agrees r t l)

pub longer : (r s : Run) → GrowsTo r s → length s.trace ≡ length r.trace + 1
longer r s grows = ap length grows.next.more_trace ∙ length-append r.trace _

-- the choice for the request that begins at q
pub choice-same : (r s : Run) (q : ℕ) → GrowsTo r s → q < length r.trace → line_at ADS r.trace q ≡ true
    → choice_at r.choices r.trace q ≡ choice_at s.choices s.trace q
unfolding choice_at requests_below
choice-same r s q grows l t =
    let agree = agree-grown r s grows in
    let n = length r.trace in
    let one = grows.timely.one_choice in
    let more = count_where-above (line_at ADS r.trace) q n l t in
    let k : ℕ = count_where (line_at ADS r.trace) q in
    let same : k ≡ count_where (line_at ADS s.trace) q =
    count_where-same (line_at ADS r.trace) (line_at ADS s.trace) q
    (record { same = λ d m. line_at-agree ADS n r.trace s.trace d agree (omega arith) }) in
    let there = slice_get-before r.choices grows.next.choices k (omega arith) in
    ap (λ o. option_map_or (λ choice. choice) o quiet_choice)
    (sym there ∙ ap (λ xs. slice_get xs k) (sym grows.next.more_choices) ∙ ap (slice_get s.choices) same)

-- the choice for a live request that is known to be live
pub choice-grown : (r s : Run) (i q : ℕ) → GrowsTo r s → q + 3 < length r.trace → live_clock_of r.trace i ≡ Some q
    → live_choice r i ≡ live_choice s i
unfolding live_choice live_clock_of
choice-grown r s i q grows l e =
    let there = live_clock_of-stays (length r.trace) r.trace s.trace i q (agree-grown r s grows) l e in
    let p = nth_where-found (is_live r.trace) i (length r.trace) q e in
    ap (λ o. option_map_or (choice_at r.choices r.trace) o quiet_choice) e
    ∙ choice-same r s q grows p.0 (is_live-ads r.trace q p.1)
    ∙ sym (ap (λ o. option_map_or (choice_at s.choices s.trace) o quiet_choice) there)

-- the choice for a live request whose snoop end is reached
pub live-same : (r s : Run) (i t : ℕ) → GrowsTo r s → snoop_end_of r.trace i ≡ Some t
    → live_choice r i ≡ live_choice s i
live-same r s i t grows e =
    let c = snoop_end_of-clock r.trace i t e in
    let within = c.within in
    let above = c.above in
    choice-grown r s i c.clock grows (omega arith) c.is_clock

-- the snoop end that a moment has
pub snooped-same : (r s : Run) (t : ℕ) → GrowsTo r s → t < length r.trace
    → snooped_at (past_of r) t ≡ snooped_at (past_of s) t
snooped-same r s t grows l =
    let m : ℕ = length r.trace - 1 in
    let last : m + 1 ≡ length r.trace = omega arith in
    ap (λ p. snooped_at p t) (sym (past-before r s m grows last)) ∙ snooped-to (past_of s) m t (omega arith)
