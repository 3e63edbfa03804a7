-- The transfer that is on the way, one sample on.
use Rattle.std.proofs.Common.{ℕ, zero, suc, ◌+◌, ◌<◌, ◌≤◌, ◌≡◌, Bool, true, false, cond, ◌&&◌, nat_le, nat_lt, Option}
use Rattle.std.proofs.Common.{Some, None, length, refl, sym, ap, ◌∙◌, arith}
use Rattle.std.proofs.lemmas.Bool.{and_left, le-leb, lt-leb, ltb-false, le-ltb}
use Rattle.fsb_count.specs.Options.{is_some_and}
use Rattle.fsb_count.specs.Clocks.{count_where, from_clock}
use Rattle.fsb_count.proofs.Interface.{count_where-more, count_where-same}
use Rattle.fsb_signal.specs.declared.lines.TheConstants.Lines.{DRDY}
use Rattle.fsb_signal.specs.declared.sample.Sample.{Sample}
use Rattle.fsb_signal.specs.Samples.{has_line, line_at, response_of}
use Rattle.fsb_trace.specs.At.{Trace}
use Rattle.fsb_trace.specs.Outcome.{response_clock_of, told_by, moves_data, does_move}
use Rattle.fsb_laws.specs.OneMore.{OneMore, responds}
use Rattle.fsb_laws.specs.Orderly.{Orderly}
use Rattle.fsb_laws.specs.Progress.{SnoopsTo, response_count, chunks_of, transfer_after, transfer_of, chunk_step}
use Rattle.fsb_laws.proofs.Clocks.{count_where-none}
use Rattle.fsb_laws.proofs.OneMoreFacts.{line_at-old, line_at-new}
use Rattle.fsb_laws.proofs.ResponseSteps.{response_there, response_count-more, response_clock_of-old}
use Rattle.fsb_laws.proofs.ResponseSteps.{response_clock_of-new, moves_data-old, outcome_of-new}
use Rattle.fsb_laws.proofs.EndFacts.{transferring_form}

-- the chunks of the old trace, and the new one
chunks_more : (h : Trace) (x : Sample) (v : Trace) (r : ℕ) → OneMore h x v → r ≤ length h
    → count_where (from_clock r (line_at DRDY v)) (length v)
    ≡ count_where (from_clock r (line_at DRDY h)) (length h) + cond (has_line x DRDY) 1 0
unfolding from_clock
chunks_more h x v r m l =
    rw m.size (count_where-more (from_clock r (line_at DRDY v)) (length h)
    ∙ ap (λ b. count_where (from_clock r (line_at DRDY v)) (length h) + cond b 1 0)
    (rw (le-leb r (length h) l) (line_at-new DRDY h x v m))
    ∙ ap (λ k. k + cond (has_line x DRDY) 1 0)
    (count_where-same (from_clock r (line_at DRDY v)) (from_clock r (line_at DRDY h)) (length h)
    (record { same = λ c k. ap (λ b. nat_le r c && b) (line_at-old DRDY h x v c m k) })))

-- a transfer by whether data move and how many chunks came
abbrev pub transfer_by : Bool → ℕ → Option ℕ
transfer_by moves k = cond (moves && nat_lt k 4) (Some k) None

step_on : (comes : Bool) (k : ℕ) (b : Bool) → nat_lt k 4 ≡ b
    → cond (nat_lt (k + cond comes 1 0) 4) (Some (k + cond comes 1 0)) None ≡ chunk_step comes (cond b (Some k) None)
unfolding chunk_step
step_on comes k true e = refl
step_on comes k false e =
    let l : 4 ≤ k = ltb-false k 4 e in
    rw (le-ltb (k + cond comes 1 0) 4 (omega arith)) refl

transfer_by-step : (moves comes : Bool) (k : ℕ)
    → transfer_by moves (k + cond comes 1 0) ≡ chunk_step comes (transfer_by moves k)
unfolding chunk_step
transfer_by-step false comes k = refl
transfer_by-step true comes k = step_on comes k (nat_lt k 4) refl

pub transfer_after-form : (w : Trace) (i r : ℕ) → response_clock_of w i ≡ Some r
    → transfer_after w (suc i) ≡ transfer_by (moves_data w i) (count_where (from_clock r (line_at DRDY w)) (length w))
unfolding transfer_after chunks_of
transfer_after-form w i r e = rw (transferring_form w (length w) i r e, e) refl

goes_on : (h : Trace) (x : Sample) (v : Trace) (n : ℕ) → OneMore h x v → Orderly h → response_count h ≡ n
    → transfer_after v n ≡ chunk_step (has_line x DRDY) (transfer_after h n)
unfolding transfer_after chunk_step
goes_on h x v zero m o e = refl
goes_on h x v (suc i) m o e =
    let p = response_there h i (omega arith) in
    let same : response_clock_of v i ≡ Some p.0 = response_clock_of-old h x v i m (omega arith) ∙ p.1 in
    transfer_after-form v i p.0 same
    ∙ ap (λ b. transfer_by b (count_where (from_clock p.0 (line_at DRDY v)) (length v)))
    (moves_data-old h x v i m o (omega arith))
    ∙ ap (transfer_by (moves_data h i)) (chunks_more h x v p.0 m (omega (arith, p.2)))
    ∙ transfer_by-step (moves_data h i) (has_line x DRDY) _
    ∙ ap (chunk_step (has_line x DRDY)) (sym (transfer_after-form h i p.0 p.1))

-- whether data move with the response that the sample is
pub moves_new : (h : Trace) (x : Sample) (v : Trace) (s : ℕ) → OneMore h x v → SnoopsTo h s
    → response_count h < s → responds x ≡ true
    → moves_data v (response_count h) ≡ does_move (told_by h (response_count h) (response_of x))
unfolding moves_data is_some_and
moves_new h x v s m to l t = rw (outcome_of-new h x v s m to l t) refl

first_chunk : (moves comes : Bool) → transfer_by moves (cond comes 1 0) ≡ chunk_step comes (cond moves (Some 0) None)
unfolding chunk_step
first_chunk false comes = refl
first_chunk true true = refl
first_chunk true false = refl

none_before : (h : Trace) (b : ℕ) → count_where (from_clock (length h) (line_at DRDY h)) (length h) + b ≡ b
unfolding from_clock
none_before h b =
    ap (λ k. k + b) (count_where-none (from_clock (length h) (line_at DRDY h)) (length h)
    (λ k l. and_left _ _ (lt-leb (length h) k l)))
    ∙ (omega arith)

begins : (h : Trace) (x : Sample) (v : Trace) (s : ℕ) → OneMore h x v → SnoopsTo h s → response_count h < s
    → responds x ≡ true → transfer_after v (suc (response_count h))
    ≡ chunk_step (has_line x DRDY) (cond (does_move (told_by h (response_count h) (response_of x))) (Some 0) None)
begins h x v s m to l t =
    transfer_after-form v (response_count h) (length h) (response_clock_of-new h x v m t)
    ∙ ap (λ b. transfer_by b (count_where (from_clock (length h) (line_at DRDY v)) (length v)))
    (moves_new h x v s m to l t)
    ∙ ap (transfer_by (does_move (told_by h (response_count h) (response_of x))))
    (chunks_more h x v (length h) m (omega arith) ∙ none_before h (cond (has_line x DRDY) 1 0))
    ∙ first_chunk (does_move (told_by h (response_count h) (response_of x))) (has_line x DRDY)

-- the next transfer, where the sample is no response
pub transfer_of-kept : (h : Trace) (x : Sample) (v : Trace) → OneMore h x v → Orderly h → responds x ≡ false
    → transfer_of v ≡ chunk_step (has_line x DRDY) (transfer_of h)
unfolding transfer_of
transfer_of-kept h x v m o f =
    ap (transfer_after v) (response_count-more h x v m ∙ ap (λ b. response_count h + cond b 1 0) f ∙ (omega arith))
    ∙ goes_on h x v (response_count h) m o refl

-- and where it is the response of a request whose snoop end is there
pub transfer_of-begun : (h : Trace) (x : Sample) (v : Trace) (s : ℕ) → OneMore h x v → SnoopsTo h s
    → response_count h < s → responds x ≡ true
    → transfer_of v ≡ chunk_step (has_line x DRDY)
    (cond (does_move (told_by h (response_count h) (response_of x))) (Some 0) None)
unfolding transfer_of
transfer_of-begun h x v s m to l t =
    ap (transfer_after v) (response_count-more h x v m ∙ ap (λ b. response_count h + cond b 1 0) t ∙ (omega arith))
    ∙ begins h x v s m to l t
