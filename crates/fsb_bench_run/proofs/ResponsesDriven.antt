-- Responses and data of a clock are as they are due.
use Rattle.fsb_bench_run.proofs.Words
use Words.{ℕ, ◌<◌, ◌≡◌, ◌&&◌, ◌||◌, Bool, true, Option, List, [], ◌∷◌, ◌++◌, is_some, nat_eq, refl, sym, ap, ◌∙◌, arith}
use Words.{beq, option_map_or, find, eq-eqb, any_where, Done, Choice, one_more, response_code_at-new, has_response}
use Words.{drive_of, settled_code, Drive, Entry, DBSY, DRDY, TRDY, Sample, data_at, known_word, line_at, response_of}
use Words.{Trace, response_code_at, response_code_of, live_count, GrowsTo, past_of, code_due, drives_code}
use Words.{drives_data_busy, drives_data_ready, drives_ready, drives_responses, has_data_at, is_busy_at, is_ready_due}
use Words.{keeps_data_quiet, HoldsRequests, busy-drive, chunk-drive, code-drive, code-shown, ready-drive, step_decided}
use Words.{step_drive, step_performed, step_sample, BenchView, BusView, next_clock_of, data_driven}
use Rattle.fsb_bench_run.proofs.RunWith.{run_with}
use Rattle.fsb_bench_run.proofs.DrivenLines.{code-driven, dbsy-driven, drdy-driven, line-with, trdy-driven}
use Rattle.fsb_bench_run.proofs.ThisClock.{holds-now}

pub beq-from : (a b : Bool) → a ≡ b → beq a b ≡ true
beq-from a b h1 = grind arith

pub all5 : (a b c d e : Bool) → a ≡ true → b ≡ true → c ≡ true → d ≡ true → e ≡ true
    → (a && b && c && d && e) ≡ true
all5 a b c d e p q r s t = rw (p, q, r, s, t) refl

entry-code : (o : Option Entry) → option_map_or settled_code o 0 < 8
unfolding settled_code response_code_of
entry-code o = grind arith

-- a code has three bits
pub code-small : (h : Trace) (queue : List Entry) → (drive_of h queue).rs < 8
unfolding drive_of
code-small h queue = entry-code (find (has_response h) queue)

-- the sample shows the code that is driven
pub code-now : (v : BenchView) (hold : Bool) → response_of (step_sample v hold) ≡ (step_drive v).rs
code-now v hold =
    code-driven (step_performed v) (next_clock_of v) v.run.plan.profile (step_decided v hold)
    (code-small v.run.trace v.bus.queue)

pub sample-grown : (v : BenchView) (hold : Bool) (choice : Choice) (entries : List Done)
    (grows : GrowsTo v.run (run_with v hold choice entries)) → grows.next.sample ≡ step_sample v hold
sample-grown v hold choice entries grows =
    let e = grows.next.more_trace in last v.run.trace _ _ (sym e)
  where
    last : (h : Trace) (x y : Sample) → h ++ x ∷ [] ≡ h ++ y ∷ [] → x ≡ y
    last [] x y e = cc
    last (z ∷ h) x y e = last h x y (let same : h ++ x ∷ [] ≡ h ++ y ∷ [] = cc in same)

quiet-by : (drive : Drive) (o : Option (ℕ × ℕ)) (bus : BusView) → drive.chunk ≡ o
    → (is_some o || nat_eq (data_driven bus drive) 0) ≡ true
quiet-by drive o bus h1 = grind arith

abbrev quiet_now : BenchView → Bool → Choice → List Done → Type 0
quiet_now v hold choice entries = keeps_data_quiet (run_with v hold choice entries) (next_clock_of v) ≡ true

data-new : (v : BenchView) (hold : Bool) (choice : Choice) (entries : List Done)
    → (data_at (run_with v hold choice entries).trace (next_clock_of v)).bits
    ≡ data_driven (step_performed v) (step_drive v)
data-new v hold choice entries =
    let more = one_more v.run.trace (step_sample v hold) in
    ap (λ o. (option_map_or (λ (s : Sample). s.dbus) o (known_word 0)).bits) more.last

quiet-now : (v : BenchView) (hold : Bool) (choice : Choice) (entries : List Done) → quiet_now v hold choice entries
unfolding keeps_data_quiet
quiet-now v hold choice entries =
    let n = next_clock_of v in
    let line = line-with v hold choice entries DRDY
    ∙ drdy-driven (step_performed v) n v.run.plan.profile (step_decided v hold) in
    let word = data-new v hold choice entries in
    grind arith

pub responses-now : (v : BenchView) (hold : Bool) (choice : Choice) (entries : List Done)
    (grows : GrowsTo v.run (run_with v hold choice entries)) → HoldsRequests v.bus.queue v.run
    → drives_responses (run_with v hold choice entries) (past_of (run_with v hold choice entries))
    (next_clock_of v) ≡ true
unfolding drives_responses drives_ready drives_code drives_data_ready drives_data_busy
responses-now v hold choice entries grows f =
    let r = v.run in
    let s = run_with v hold choice entries in
    let n = next_clock_of v in
    let queue = v.bus.queue in
    let d = step_decided v hold in
    let bus = step_performed v in
    let profile = r.plan.profile in
    let shown = ap response_of (sample-grown v hold choice entries grows) ∙ code-now v hold in
    let code = code-shown r s queue grows f shown in
    let trdy = line-with v hold choice entries TRDY ∙ trdy-driven bus n profile d ∙ ready-drive r s queue grows f in
    let rs = response_code_at-new r.trace (step_sample v hold) s.trace (one_more r.trace (step_sample v hold))
    ∙ code-now v hold ∙ code-drive r s queue grows f in
    let drdy = line-with v hold choice entries DRDY ∙ drdy-driven bus n profile d
    ∙ chunk-drive r s queue grows f code in
    let dbsy = line-with v hold choice entries DBSY ∙ dbsy-driven bus n profile d ∙ busy-drive r s queue grows f code in
    all5 (beq (line_at TRDY s.trace n) (any_where (is_ready_due s n) (live_count s.trace)))
    (nat_eq (response_code_at s.trace n) (code_due s (past_of s) n))
    (beq (line_at DRDY s.trace n) (any_where (has_data_at s (past_of s) n) (live_count s.trace)))
    (beq (line_at DBSY s.trace n) (any_where (is_busy_at s (past_of s) n) (live_count s.trace)))
    (keeps_data_quiet s n)
    (beq-from _ _ trdy) (eq-eqb _ _ rs) (beq-from _ _ drdy) (beq-from _ _ dbsy) (quiet-now v hold choice entries)

-- responses and data at the clock
pub drives-responses : (v : BenchView) (hold : Bool) (choice : Choice) (entries : List Done)
    (grows : GrowsTo v.run (run_with v hold choice entries)) → HoldsRequests v.bus.queue v.run
    → Rattle.fsb_timely.specs.Timely.holds_at drives_responses (run_with v hold choice entries) (next_clock_of v) ≡ true
drives-responses v hold choice entries grows f =
    holds-now drives_responses v.run (run_with v hold choice entries) grows
    (responses-now v hold choice entries grows f)
