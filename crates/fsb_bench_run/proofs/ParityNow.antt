-- The parity lines of the clock are as they must.
use Rattle.fsb_bench_run.proofs.Words
use Words.{ℕ, ◌+◌, ◌/◌, ◌%◌, ◌^◌, ◌≡◌, Bool, true, false, not, nat_eq, Some, List, is_some, if◌then◌else◌, refl, arith}
use Words.{count_ones, mod-eq_of_lt, is_some_and, Pair, Choice, one_more, ADS, AP0, AP1, RP, Sample, has_line, Run}
use Words.{past_of, holds_at, step_decided, step_performed, step_sample, parity_bits, BenchView, next_clock_of, Done}
use Rattle.std.proofs.Common.{slice_get}
use Rattle.fsb_signal.specs.Parity.{has_no_parity, is_even}
use Rattle.fsb_timely.specs.ParityLines.{drives_parity, is_even_sample}
use Rattle.fsb_bench_run.proofs.DrivenLines.{ads-driven, ap0-driven, ap1-driven, rp-driven}
use Rattle.fsb_bench_run.proofs.PairNow.{pair-due-now}
use Rattle.fsb_bench_run.proofs.PairWords.{step_pair}
use Rattle.fsb_bench_run.proofs.SampleBits.{bit_in}
use Rattle.fsb_bench_run.proofs.ThisClock.{holds-now}
use Rattle.fsb_bench_run.proofs.RunWith.{run_with}
use Rattle.fsb_bench_run.proofs.StepWith.{IsStepWith}

evens-two : (j k : ℕ) (b : Bool) → b ≡ not (is_even (j + k)) → is_even ((if b then 1 else 0) + j + k) ≡ true
evens-two j k b e = grind arith

-- in profile 2
even-by : (x : Sample) (pair : Pair) (ads : Bool) → x.addr.bits ≡ pair.addr → x.req.bits ≡ pair.req
    → has_line x ADS ≡ ads
    → has_line x AP0 ≡ not (is_even (count_ones (pair.addr % 2 ^ 21)))
    → has_line x AP1 ≡ not (is_even (count_ones (pair.addr / 2 ^ 21)))
    → has_line x RP ≡ not (is_even ((if ads then 1 else 0) + count_ones pair.req)) → is_even_sample x ≡ true
unfolding is_even_sample
even-by x pair ads a q s low high req = grind (arith, evens-two)

parity-by : (x : Sample) (pair : Pair) (ads : Bool) (profile : ℕ) → x.addr.bits ≡ pair.addr → x.req.bits ≡ pair.req
    → has_line x ADS ≡ ads → has_line x AP0 ≡ bit_in (parity_bits profile pair ads) 0
    → has_line x AP1 ≡ bit_in (parity_bits profile pair ads) 1 → has_line x RP ≡ bit_in (parity_bits profile pair ads) 2
    → (if nat_eq profile 2 then is_even_sample else has_no_parity) x ≡ true
parity-by x pair ads profile a q s low high req = by (nat_eq profile 2) refl low high req
  where
    by : (b : Bool) → nat_eq profile 2 ≡ b → has_line x AP0 ≡ bit_in (parity_bits profile pair ads) 0
        → has_line x AP1 ≡ bit_in (parity_bits profile pair ads) 1
        → has_line x RP ≡ bit_in (parity_bits profile pair ads) 2
        → (if nat_eq profile 2 then is_even_sample else has_no_parity) x ≡ true
    by true e low high req =
        let l = rw e at low in
        let h = rw e at high in
        let r = rw e at req in
        rw e (even-by x pair ads a q s l h r)
    by false e low high req = grind arith

parity-shown : (s : Run) (n : ℕ) (x : Sample) → slice_get s.trace n ≡ Some x
    → (if nat_eq s.plan.profile 2 then is_even_sample else has_no_parity) x ≡ true
    → drives_parity s (past_of s) n ≡ true
unfolding drives_parity is_some_and
parity-shown s n x at e = rw (at, is_some_and) e

-- the parity lines are as they must
pub parity-now : (v : BenchView) (hold : Bool) (choice : Choice) (entries : List Done)
    → IsStepWith v hold choice entries
    → holds_at drives_parity (run_with v hold choice entries) (next_clock_of v) ≡ true
parity-now v hold choice entries b =
    let s = run_with v hold choice entries in
    let n = next_clock_of v in
    let x = step_sample v hold in
    let d = step_decided v hold in
    let bus = step_performed v in
    let profile = v.run.plan.profile in
    let pair = step_pair v hold in
    let fits = (pair-due-now v hold choice entries b).fits in
    holds-now drives_parity v.run s b.grows
    (parity-shown s n x (one_more v.run.trace x).last
    (parity-by x pair (is_some d.starting) profile (mod-eq_of_lt fits.addr) (mod-eq_of_lt fits.req)
    (ads-driven bus n profile d) (ap0-driven bus n profile d) (ap1-driven bus n profile d) (rp-driven bus n profile d)))
