-- The told outcome and the end of a live request, by its snoop end, its words and its response.
use Rattle.std.proofs.Common.{ℕ, ◌<◌, ◌≡◌, true, false, Option, Some, None, length, refl, sym, ap, ◌∙◌, arith}
use Rattle.std.specs.Option.{option_and_then}
use Rattle.std.proofs.lemmas.Bool.{lt-ltb}
use Rattle.fsb_count.specs.Options.{is_some_and}
use Rattle.fsb_count.specs.Clocks.{nth_where, from_clock}
use Rattle.fsb_signal.specs.declared.lines.TheConstants.Lines.{DRDY}
use Rattle.fsb_signal.specs.Samples.{line_at}
use Rattle.fsb_encode.specs.declared.request.Request.{Request}
use Rattle.fsb_trace.specs.declared.outcome.Outcome.{Outcome}
use Rattle.fsb_trace.specs.At.{Trace, response_code_at}
use Rattle.fsb_trace.specs.Requests.{live_clock_of, live_count, live_request_of}
use Rattle.fsb_trace.specs.Snoop.{snoop_end_of, line_at_snoop_end}
use Rattle.fsb_trace.specs.Outcome.{does_move, live_response_of, moves_data, outcome_of, response_clock_of, told_by}
use Rattle.fsb_trace.specs.Outcome.{told_with}
use Rattle.fsb_trace.specs.Response.{data_clock_of, end_of}
use Rattle.fsb_trace.proofs.Interface.{live_below_count}
use Rattle.fsb_table.specs.Going.{fourth_from, is_handed_by}

-- a live request has its response where so many responses are
pub live_response-is : (w : Trace) (i q : ℕ) → live_clock_of w i ≡ Some q → live_response_of w i ≡ response_clock_of w i
unfolding live_response_of
live_response-is w i q e = rw (lt-ltb i (live_count w) (live_below_count w i q e)) refl

told-by : (w : Trace) (i code : ℕ)
    → told_by w i code ≡ told_with (is_handed_by w (snoop_end_of w i)) (live_request_of w i) code
unfolding told_by line_at_snoop_end
told-by w i code = refl

-- the outcome that the response tells
pub outcome-told : (w : Trace) (i q r : ℕ) (snoop : Option ℕ) (request : Option Request)
    → live_clock_of w i ≡ Some q → snoop ≡ snoop_end_of w i → request ≡ live_request_of w i
    → response_clock_of w i ≡ Some r
    → outcome_of w i ≡ Some (told_with (is_handed_by w snoop) request (response_code_at w r))
unfolding outcome_of
outcome-told w i q r snoop request live e f g =
    rw (live_response-is w i q live, g, e, f) (ap (λ o. Some o) (told-by w i (response_code_at w r)))

-- without a response none is told
pub outcome-none : (w : Trace) (i q : ℕ) → live_clock_of w i ≡ Some q → response_clock_of w i ≡ None
    → outcome_of w i ≡ None
unfolding outcome_of
outcome-none w i q live g = rw (live_response-is w i q live, g) refl

data-by : (w : Trace) (i k : ℕ) → k < 4 → moves_data w i ≡ true
    → data_clock_of w i k ≡ option_and_then (λ r. nth_where (from_clock r (line_at DRDY w)) k (length w))
    (response_clock_of w i)
unfolding data_clock_of
data-by w i k l t = rw (lt-ltb k 4 l, t) refl

moving : (w : Trace) (i : ℕ) (outcome : Option Outcome) → outcome ≡ outcome_of w i
    → is_some_and outcome does_move ≡ moves_data w i
unfolding moves_data
moving w i outcome e = ap (λ o. is_some_and o does_move) e

-- the end where data move
pub end-moving : (w : Trace) (i : ℕ) (outcome : Option Outcome) → outcome ≡ outcome_of w i
    → is_some_and outcome does_move ≡ true
    → end_of w i ≡ option_and_then (λ r. fourth_from w r) (response_clock_of w i)
unfolding end_of fourth_from
end-moving w i outcome e m =
    let t : moves_data w i ≡ true = sym (moving w i outcome e) ∙ m in
    rw t (data-by w i 3 (omega arith) t)

-- the end where they do not
pub end-still : (w : Trace) (i q : ℕ) (outcome : Option Outcome) → live_clock_of w i ≡ Some q
    → outcome ≡ outcome_of w i → is_some_and outcome does_move ≡ false → end_of w i ≡ response_clock_of w i
unfolding end_of
end-still w i q outcome live e m =
    let t : moves_data w i ≡ false = sym (moving w i outcome e) ∙ m in
    rw t (live_response-is w i q live)
