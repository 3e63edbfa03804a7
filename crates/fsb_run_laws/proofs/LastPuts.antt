-- The last request that put a line into memory, one clock further.
use Rattle.fsb_run_laws.proofs.Words
use Words.{ℕ, ◌+◌, ◌≡◌, true, false, Some, arith, and_parts, false_from_ne_true, is_before, is_before-from}
use Words.{is_before-parts, end_of, live_below_count, past_of, Run, ended-before, number-put, number-stays}
use Words.{orderly-whole, takes_line, Reaches}
use Rattle.fsb_tied.specs.RunBytes.{is_put_below, number_put_below}
use Rattle.fsb_run_laws.proofs.LastClocks.{has-end}

put-takes : (r : Run) (line n i : ℕ) → is_put_below r (past_of r) line (n + 1) i ≡ true → takes_line r line i ≡ true
unfolding is_put_below
put-takes r line n i put = (and_parts (takes_line r line i) (is_before (end_of r.trace i) (n + 1)) put).0

pub put-stays : (r : Run) (line n : ℕ)
    → ((i : ℕ) → end_of r.trace i ≡ Some n → is_put_below r (past_of r) line (n + 1) i ≡ false)
    → number_put_below r line (n + 1) ≡ number_put_below r line n
unfolding is_put_below
put-stays r line n none = grind (arith, number-stays, is_before-from)

pub put-new : (r : Run) (line n i : ℕ) → Reaches r (n + 1) → end_of r.trace i ≡ Some n
    → is_put_below r (past_of r) line (n + 1) i ≡ true → number_put_below r line (n + 1) ≡ Some i
put-new r line n i h e put =
    let w = r.trace in
    let long = h.long in
    let o = orderly-whole r n h.timely (omega arith) in
    let k = has-end w i n o e in
    number-put r line (n + 1) i (live_below_count w i k.clock k.is_clock) (put-takes r line n i put)
    (is_before-from (end_of w i) n (n + 1) e (omega arith))
    (λ j more. false_from_ne_true (is_before (end_of w j) (n + 1)) (λ t.
    let x = is_before-parts (end_of w j) (n + 1) t in
    let below = x.2 in
    let m = has-end w j x.0 o x.1 in
    let upto = m.upto in
    let b = ended-before w i j m.response o more m.is_response in
    let end = b.1 in
    let early = b.2 in
    let same : b.0 ≡ n = cc in
    omega arith))
