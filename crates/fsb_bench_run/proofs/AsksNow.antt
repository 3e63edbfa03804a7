-- The request lines of the clock are as they must.
use Rattle.fsb_bench_run.proofs.Words
use Words.{ℕ, zero, suc, ◌+◌, ◌-◌, ◌<◌, ◌≤◌, ◌≡◌, ◌&&◌, ◌==◌, Bool, true, false, not, is_some, Option, Some, None, List}
use Words.{length, refl, sym, ap, ◌∙◌, arith, option_map, and_from, eqb-false, eqb-true, false_from_ne_true, Done, Want}
use Words.{Deferral, IsThatOf, each_where, last_where, is_some_and, each_where-all, ShowsBegun, Request, KeepsBounds}
use Words.{want-own, Choice, ADS, BPRI, BREQ0, BREQ1, BREQ2, BREQ3, line_at, GrowsTo, Run, past_of, past_to, holds_at}
use Words.{asks_for_bus, asks_for_priority, began_before, drives_request_lines, due_number, reply_before, reply_to}
use Words.{would_begin, want_of, Trace, line_back, request_at, is_reply, is_reply_kind, begins_at, bus_request_of}
use Words.{is_agent, is_same_agent, winner_at, Who, Symmetric, Priority, Latest, step_decided, step_performed, began_by}
use Words.{is_asking, is_bridge_asking, is_same_who, want_in, BenchView, next_clock_of, IsBegunAt, IsLatestOf}
use Rattle.fsb_bench_run.proofs.AdsGrown.{ads-old}
use Rattle.fsb_bench_run.proofs.AskedNow.{due-told, shows-now, wants-told}
use Rattle.fsb_bench_run.proofs.BegunStays.{begun-request, begun-stays}
use Rattle.fsb_bench_run.proofs.DrivenLines.{bpri-driven, breq0-driven, breq1-driven, breq2-driven, breq3-driven}
use Rattle.fsb_bench_run.proofs.DrivenLines.{line-with}
use Rattle.fsb_bench_run.proofs.LockNow.{same-beq}
use Rattle.fsb_bench_run.proofs.PairWords.{last-at}
use Rattle.fsb_bench_run.proofs.RunWith.{run_with}
use Rattle.fsb_bench_run.proofs.StepFields.{performed-begun}
use Rattle.fsb_bench_run.proofs.ThisClock.{holds-now}
use Rattle.fsb_bench_run.proofs.StepWith.{IsStepWith}

before-off : (s : Run) (n : ℕ) (who : Who) → ((1 ≤ n) → line_at ADS s.trace (n - 1) ≡ true → ⊥)
    → began_before s n who ≡ false
unfolding began_before begins_at
before-off s n who off = grind arith

before-on : (s : Run) (n q : ℕ) (last who : Who) → q + 1 ≡ n → line_at ADS s.trace q ≡ true
    → winner_at s.trace q ≡ Some last
    → began_before s n who ≡ is_same_who last who
unfolding began_before begins_at is_agent is_some_and is_same_agent
before-on s n q last who e ads won = grind arith

began-latest : (r s : Run) (o : Option Latest) (who : Who) → GrowsTo r s → IsLatestOf o r
    → began_by o (length r.trace) who ≡ began_before s (length r.trace) who
unfolding is_some_and
began-latest r s None who grows k =
    let n = length r.trace in
    sym (before-off s n who (λ low ads.
    let old = sym (ads-old r s grows (n - 1) (omega arith)) ∙ ads in
    let there = last-at (line_at ADS r.trace) (n - 1) old in
    let size : suc (n - 1) ≡ n = omega arith in
    let found = k.clock ∙ sym (ap (last_where (line_at ADS r.trace)) size) ∙ there in
    let bad : ⊥ = cc in bad))
began-latest r s (Some l) who grows k = by (l.clock + 1 == length r.trace) refl
  where
    by : (b : Bool) → (l.clock + 1 == length r.trace) ≡ b
        → ((l.clock + 1 == length r.trace) && is_same_who l.who who) ≡ began_before s (length r.trace) who
    by true e =
        let n = length r.trace in
        let before : l.clock + 1 ≡ n = eqb-true (l.clock + 1) n e in
        let b = begun-stays r s l.clock l.who l.request grows (omega arith) (k.begun l refl) in
        rw e (sym (before-on s n l.clock l.who who before b.begins b.winner))
    by false e =
        let n = length r.trace in
        let apart = eqb-false (l.clock + 1) n e in
        rw e (sym (before-off s n who (λ low ads.
        let old = sym (ads-old r s grows (n - 1) (omega arith)) ∙ ads in
        let there = last-at (line_at ADS r.trace) (n - 1) old in
        let size : suc (n - 1) ≡ n = omega arith in
        let found : Some l.clock ≡ Some (n - 1) = k.clock ∙ sym (ap (last_where (line_at ADS r.trace)) size) ∙ there in
        let same : l.clock ≡ n - 1 = cc in
        apart (omega arith))))

some-mapped : (o : Option Want) → is_some o ≡ is_some (option_map (λ (want : Want). want.request) o)
some-mapped o = grind arith

-- an agent asks for the bus as it must
pub asking-now : (v : BenchView) (hold : Bool) (choice : Choice) (entries : List Done) (a : ℕ)
    → IsStepWith v hold choice entries → a < 4
    → is_asking (step_performed v) (next_clock_of v) (step_decided v hold) a
    ≡ (is_some (want_of (past_of (run_with v hold choice entries)) a (next_clock_of v))
    && not (began_before (run_with v hold choice entries) (next_clock_of v) (Symmetric a)))
asking-now v hold choice entries a b few =
    let s = run_with v hold choice entries in
    let n = next_clock_of v in
    let want = some-mapped (want_in (step_decided v hold).asked a)
    ∙ ap (λ o. is_some o) (wants-told v hold choice entries a b few) in
    let latest = ap (λ o. began_by o n (Symmetric a)) (performed-begun v).latest
    ∙ began-latest v.run s v.bus.latest (Symmetric a) b.grows b.bench.latest in
    λ i. want i && not (latest i)

bus-line : (v : BenchView) (hold : Bool) (choice : Choice) (entries : List Done) (a : ℕ) → a < 4
    → line_at (bus_request_of a) (run_with v hold choice entries).trace (next_clock_of v)
    ≡ is_asking (step_performed v) (next_clock_of v) (step_decided v hold) a
unfolding bus_request_of
bus-line v hold choice entries zero few =
    line-with v hold choice entries BREQ0
    ∙ breq0-driven (step_performed v) (next_clock_of v) v.run.plan.profile (step_decided v hold)
bus-line v hold choice entries (suc zero) few =
    line-with v hold choice entries BREQ1
    ∙ breq1-driven (step_performed v) (next_clock_of v) v.run.plan.profile (step_decided v hold)
bus-line v hold choice entries (suc (suc zero)) few =
    line-with v hold choice entries BREQ2
    ∙ breq2-driven (step_performed v) (next_clock_of v) v.run.plan.profile (step_decided v hold)
bus-line v hold choice entries (suc (suc (suc zero))) few =
    line-with v hold choice entries BREQ3
    ∙ breq3-driven (step_performed v) (next_clock_of v) v.run.plan.profile (step_decided v hold)
bus-line v hold choice entries (suc (suc (suc (suc a)))) few = absurd (omega arith)

-- so BREQ# of each agent is as it must
pub asks-now : (v : BenchView) (hold : Bool) (choice : Choice) (entries : List Done) (a : ℕ)
    → IsStepWith v hold choice entries → a < 4
    → asks_for_bus (run_with v hold choice entries) (past_of (run_with v hold choice entries)) (next_clock_of v)
    a ≡ true
unfolding asks_for_bus
asks-now v hold choice entries a b few =
    same-beq _ _ (bus-line v hold choice entries a few ∙ asking-now v hold choice entries a b few)

-- whether a reply is what an agent begins
reply-of : (r : Run) (q : ℕ) (who : Who) (request : Request) → r.plan.ahead ≤ 4 → IsBegunAt r q who request
    → is_reply_kind request.kind ≡ is_same_who who Priority
unfolding would_begin reply_to is_reply_kind past_to past_of
reply-of r q who request h1 h2 = grind (arith, want-own)

back-before : (s : Run) (n : ℕ) → reply_before s n ≡ true → (1 ≤ n) × (line_at ADS s.trace (n - 1) ≡ true)
unfolding reply_before line_back
back-before s n e = grind arith

reply-off : (s : Run) (n : ℕ) → ((1 ≤ n) → line_at ADS s.trace (n - 1) ≡ true → ⊥) → reply_before s n ≡ false
reply-off s n off = false_from_ne_true (reply_before s n) (λ t. let p = back-before s n t in off p.0 p.1)

reply-on : (s : Run) (n q : ℕ) (request : Request) → q + 1 ≡ n → line_at ADS s.trace q ≡ true
    → request_at s.trace q ≡ Some request
    → reply_before s n ≡ is_reply_kind request.kind
unfolding reply_before line_back is_reply is_some_and
reply-on s n q request e ads shown = grind arith

reply-latest : (r s : Run) (o : Option Latest) → KeepsBounds r.plan → GrowsTo r s → ShowsBegun r s → IsLatestOf o r
    → began_by o (length r.trace) Priority ≡ reply_before s (length r.trace)
unfolding is_some_and
reply-latest r s None bounds grows shows k =
    let n = length r.trace in
    sym (reply-off s n (λ low ads.
    let old = sym (ads-old r s grows (n - 1) (omega arith)) ∙ ads in
    let there = last-at (line_at ADS r.trace) (n - 1) old in
    let size : suc (n - 1) ≡ n = omega arith in
    let found = k.clock ∙ sym (ap (last_where (line_at ADS r.trace)) size) ∙ there in
    let bad : ⊥ = cc in bad))
reply-latest r s (Some l) bounds grows shows k = by (l.clock + 1 == length r.trace) refl
  where
    by : (b : Bool) → (l.clock + 1 == length r.trace) ≡ b
        → ((l.clock + 1 == length r.trace) && is_same_who l.who Priority) ≡ reply_before s (length r.trace)
    by true e =
        let n = length r.trace in
        let before : l.clock + 1 ≡ n = eqb-true (l.clock + 1) n e in
        let old = k.begun l refl in
        let b = begun-stays r s l.clock l.who l.request grows (omega arith) old in
        let shown = shows.shown l.clock before old.begins ∙ begun-request r l.clock l.who l.request (omega arith) old in
        rw e (sym (reply-on s n l.clock l.request before b.begins shown
        ∙ reply-of r l.clock l.who l.request bounds.few_ahead old))
    by false e =
        let n = length r.trace in
        let apart = eqb-false (l.clock + 1) n e in
        rw e (sym (reply-off s n (λ low ads.
        let old = sym (ads-old r s grows (n - 1) (omega arith)) ∙ ads in
        let there = last-at (line_at ADS r.trace) (n - 1) old in
        let size : suc (n - 1) ≡ n = omega arith in
        let found : Some l.clock ≡ Some (n - 1) = k.clock ∙ sym (ap (last_where (line_at ADS r.trace)) size) ∙ there in
        let same : l.clock ≡ n - 1 = cc in
        apart (omega arith))))

pub due-some : (w : Trace) (o : Option Deferral) (request : Option ℕ) → IsThatOf w o request
    → is_some o ≡ is_some request
due-some w o request h1 = grind arith

-- the bridge asks for the bus as it must
pub asks-priority-now : (v : BenchView) (hold : Bool) (choice : Choice) (entries : List Done)
    → IsStepWith v hold choice entries
    → asks_for_priority (run_with v hold choice entries) (past_of (run_with v hold choice entries))
    (next_clock_of v) ≡ true
unfolding asks_for_priority
asks-priority-now v hold choice entries b =
    let s = run_with v hold choice entries in
    let n = next_clock_of v in
    let due = due-some s.trace (step_decided v hold).asked.due (due_number s (past_of s) n)
    (due-told v hold choice entries b) in
    let latest = ap (λ o. began_by o n Priority) (performed-begun v).latest
    ∙ reply-latest v.run s v.bus.latest b.bench.bounds b.grows (shows-now v hold choice entries b) b.bench.latest in
    let asking : is_bridge_asking (step_performed v) n (step_decided v hold)
    ≡ (is_some (due_number s (past_of s) n) && not (reply_before s n)) = (λ i. due i && not (latest i)) in
    same-beq _ _ (line-with v hold choice entries BPRI
    ∙ bpri-driven (step_performed v) n v.run.plan.profile (step_decided v hold) ∙ asking)

-- the request lines are as they must
pub request-lines-now : (v : BenchView) (hold : Bool) (choice : Choice) (entries : List Done)
    → IsStepWith v hold choice entries
    → holds_at drives_request_lines (run_with v hold choice entries) (next_clock_of v) ≡ true
unfolding drives_request_lines
request-lines-now v hold choice entries b =
    let s = run_with v hold choice entries in
    holds-now drives_request_lines v.run s b.grows
    (and_from (each_where (asks_for_bus s (past_of s) (next_clock_of v)) 4)
    (asks_for_priority s (past_of s) (next_clock_of v))
    (each_where-all (asks_for_bus s (past_of s) (next_clock_of v)) 4 (λ a few. asks-now v hold choice entries a b few))
    (asks-priority-now v hold choice entries b))
