-- The words that are due at a clock, and those that a bench shows there.
use Rattle.fsb_bench_run.proofs.Words
use Words.{ℕ, suc, ◌+◌, ◌-◌, ◌%◌, ◌^◌, ◌<◌, ◌≤◌, ◌≡◌, ◌==◌, Bool, true, false, Option, Some, None, List, is_some}
use Words.{length, if◌then◌else◌, refl, sym, ap, ◌∙◌, arith, option_and_then, option_map, eqb-false, eqb-true}
use Words.{false_from_ne_true, mod-eq_of_lt, last_where, are_lawful_fields, clocks, den_bit, high_bit}
use Words.{is_lawful_request, pairs_of, row_of, Pair, Request, KeepsBounds, Choice, one_more, longer, ADS, Sample}
use Words.{line_at, GrowsTo, Run, past_of, past_to, run_to, no_pair, pair_due, request_begun, request_begun_before}
use Words.{run-ends, known_pair, known_pair_at, line_back, Latest, Starting, step_decided, step_performed, step_sample}
use Words.{pair_driven, BenchView, next_clock_of, IsBegunAt, IsLatestOf, Done}
use Rattle.fsb_bench_run.proofs.BegunStays.{begun-lawful, begun-request, begun-stays}
use Rattle.fsb_bench_run.proofs.AdsGrown.{ads-old}
use Rattle.fsb_bench_run.proofs.ThisClock.{past-now}
use Rattle.fsb_bench_run.proofs.RunWith.{run_with}

-- the words have their bits
pub record FitsWords (pair : Pair) : Type 0 where
  pub addr : pair.addr < 2 ^ 33
  pub req : pair.req < 2 ^ 5

-- those of a lawful request do
pub lawful-fits : (q : Request) → is_lawful_request q ≡ true → FitsWords (pairs_of q).0 × FitsWords (pairs_of q).1
unfolding is_lawful_request pairs_of row_of clocks are_lawful_fields high_bit den_bit
lawful-fits q e = grind arith

none-fits : FitsWords no_pair
unfolding no_pair
none-fits = record { addr = omega arith; req = omega arith }

-- the request that the winner at the last clock would begin
begun-now : (r s : Run) (q : Request) → GrowsTo r s
    → request_begun (run_to s (length r.trace)) (past_to (past_of s) (length r.trace)) (length r.trace) ≡ Some q
    → request_begun s (past_of s) (length r.trace) ≡ Some q
begun-now r s q grows e = grind (arith, run-ends, past-now)

-- the words that are due, and that they have their bits
pub record IsPairDue (s : Run) (n : ℕ) (pair : Pair) : Type 0 where
  pub due : pair_due s (past_of s) n ≡ Some pair
  pub fits : FitsWords pair

due-first : (s : Run) (n : ℕ) (q : Request) → line_at ADS s.trace n ≡ true → request_begun s (past_of s) n ≡ Some q
    → pair_due s (past_of s) n ≡ Some (pairs_of q).0
unfolding pair_due
due-first s n q e f = rw (e, pair_due) (ap (option_map (λ (request : Request). (pairs_of request).0)) f)

due-second : (s : Run) (n : ℕ) (q : Request) → line_at ADS s.trace n ≡ false → line_back ADS s.trace n 1 ≡ true
    → request_begun_before s (past_of s) n ≡ Some q → pair_due s (past_of s) n ≡ Some (pairs_of q).1
unfolding pair_due
due-second s n q e g f = rw (e, g, pair_due) (ap (option_map (λ (request : Request). (pairs_of request).1)) f)

due-none : (s : Run) (n : ℕ) → line_at ADS s.trace n ≡ false → line_back ADS s.trace n 1 ≡ false
    → pair_due s (past_of s) n ≡ Some no_pair
unfolding pair_due
due-none s n e g = rw (e, g, pair_due) refl

-- a request began at the clock before, where the last one did
back-true : (s : Run) (n q : ℕ) → q + 1 ≡ n → line_at ADS s.trace q ≡ true → line_back ADS s.trace n 1 ≡ true
unfolding line_back
back-true s n q e f = grind arith

back-parts : (s : Run) (n : ℕ) → line_back ADS s.trace n 1 ≡ true → (1 ≤ n) × (line_at ADS s.trace (n - 1) ≡ true)
unfolding line_back
back-parts s n e = grind arith

pub begun-before : (s : Run) (n q : ℕ) (request : Request) → q + 1 ≡ n
    → request_begun (run_to s q) (past_to (past_of s) q) q ≡ Some request
    → request_begun_before s (past_of s) n ≡ Some request
unfolding request_begun_before
begun-before s n q request e f = grind arith

-- the last clock of a test, where a later one passes
pub last-at : (p : ℕ → Bool) (n : ℕ) → p n ≡ true → last_where p (suc n) ≡ Some n
unfolding last_where
last-at p n e = rw (e, last_where) refl

-- where nothing begins: the second words of the one that began at the clock before, or none
due-latest : (r s : Run) (o : Option Latest) → KeepsBounds s.plan → GrowsTo r s → IsLatestOf o r
    → line_at ADS s.trace (length r.trace) ≡ false → IsPairDue s (length r.trace) (pair_driven o (length r.trace) None)
due-latest r s None bounds grows k off =
    let n = length r.trace in
    let back : line_back ADS s.trace n 1 ≡ false =
    false_from_ne_true _ (λ t.
    let parts = back-parts s n t in
    let low = parts.0 in
    let old = sym (ads-old r s grows (n - 1) (omega arith)) ∙ parts.1 in
    let there = last-at (line_at ADS r.trace) (n - 1) old in
    let size : suc (n - 1) ≡ n = omega arith in
    let found = k.clock ∙ sym (ap (last_where (line_at ADS r.trace)) size) ∙ there in
    let no : ⊥ = cc in no) in
    record { due = due-none s n off back; fits = none-fits }
due-latest r s (Some l) bounds grows k off = by (l.clock + 1 == length r.trace) refl
  where
    by : (b : Bool) → (l.clock + 1 == length r.trace) ≡ b
        → IsPairDue s (length r.trace) (if l.clock + 1 == length r.trace then (pairs_of l.request).1 else no_pair)
    by true e =
        let n = length r.trace in
        let before : l.clock + 1 ≡ n = eqb-true (l.clock + 1) n e in
        let size = longer r s grows in
        let b = begun-stays r s l.clock l.who l.request grows (omega arith) (k.begun l refl) in
        let begun = begun-request s l.clock l.who l.request (omega arith) b in
        let lawful = begun-lawful s l.clock l.who l.request bounds (omega arith) b in
        rw e (record {
          due = due-second s n l.request off (back-true s n l.clock before b.begins)
              (begun-before s n l.clock l.request before begun);
          fits = (lawful-fits l.request lawful).1;
        })
    by false e =
        let n = length r.trace in
        let apart = eqb-false (l.clock + 1) n e in
        let back : line_back ADS s.trace n 1 ≡ false =
        false_from_ne_true _ (λ t.
        let parts = back-parts s n t in
        let low = parts.0 in
        let old = sym (ads-old r s grows (n - 1) (omega arith)) ∙ parts.1 in
        let there = last-at (line_at ADS r.trace) (n - 1) old in
        let size : suc (n - 1) ≡ n = omega arith in
        let found : Some l.clock ≡ Some (n - 1) = k.clock ∙ sym (ap (last_where (line_at ADS r.trace)) size) ∙ there in
        let same : l.clock ≡ n - 1 = cc in
        apart (omega arith)) in
        rw e (record { due = due-none s n off back; fits = none-fits })

-- the words that the bench drives are due
pub pair-due-by : (r s : Run) (latest : Option Latest) (o : Option Starting) → KeepsBounds s.plan → GrowsTo r s
    → IsLatestOf latest r
    → line_at ADS s.trace (length r.trace) ≡ is_some o
    → ((starting : Starting) → o ≡ Some starting → IsBegunAt s (length r.trace) starting.who starting.request)
    → IsPairDue s (length r.trace) (pair_driven latest (length r.trace) o)
pair-due-by r s latest None bounds grows k ads begins = due-latest r s latest bounds grows k ads
pair-due-by r s latest (Some x) bounds grows k ads begins =
    let n = length r.trace in
    let size = longer r s grows in
    let b = begins x refl in
    let begun = begun-now r s x.request grows (begun-request s n x.who x.request (omega arith) b) in
    let lawful = begun-lawful s n x.who x.request bounds (omega arith) b in
    record { due = due-first s n x.request ads begun; fits = (lawful-fits x.request lawful).0 }

-- the words of a clock of a bench
abbrev pub step_pair : BenchView → Bool → Pair
step_pair v hold = pair_driven (step_performed v).latest (next_clock_of v) (step_decided v hold).starting

-- the words that the sample shows
shown-pair : (x : Sample) (pair : Pair) → x.addr.bits ≡ pair.addr → x.req.bits ≡ pair.req → x.addr.unknown ≡ 0
    → x.req.unknown ≡ 0
    → known_pair x ≡ Some pair
unfolding known_pair
shown-pair x pair a q u w = grind arith

pub pair-shown : (v : BenchView) (hold : Bool) (choice : Choice) (entries : List Done) (pair : Pair)
    → FitsWords pair → step_pair v hold ≡ pair
    → known_pair_at (run_with v hold choice entries).trace (next_clock_of v) ≡ Some pair
unfolding known_pair_at
pair-shown v hold choice entries pair fits e =
    let x = step_sample v hold in
    let more = one_more v.run.trace x in
    let addr : x.addr.bits ≡ pair.addr = ap (λ (p : Pair). p.addr % 2 ^ 33) e ∙ mod-eq_of_lt fits.addr in
    let req : x.req.bits ≡ pair.req = ap (λ (p : Pair). p.req % 2 ^ 5) e ∙ mod-eq_of_lt fits.req in
    ap (option_and_then known_pair) more.last ∙ shown-pair x pair addr req refl refl
