-- Where a request begins in a timely run, its winner has something to begin: a want, or a due reply.
use Rattle.std.proofs.Common.{ℕ, ◌+◌, ◌<◌, ◌≡◌, true, Some, length, sym, ◌∙◌, arith}
use Rattle.fsb_count.specs.Options.{is_some_and}
use Rattle.fsb_encode.specs.declared.request.Request.{Request}
use Rattle.fsb_signal.specs.declared.lines.TheConstants.Lines.{ADS}
use Rattle.fsb_signal.specs.Samples.{line_at}
use Rattle.fsb_trace.specs.declared.who.Who.{Who}
use Rattle.fsb_trace.specs.Winner.{winner_at}
use Rattle.fsb_trace.proofs.Interface.{line_at-agree}
use Rattle.fsb_timely.specs.Runs.{Run, run_to, past_of, past_to}
use Rattle.fsb_timely.specs.Starts.{would_begin, request_begun, pair_due, drives_pair, starts_requests}
use Rattle.fsb_timely.specs.Timely.{holds_at, holds_in, Timely}
use Rattle.fsb_timely.proofs.Moments.{run_to-agrees}

pub winner-wants : (r : Run) (c : ℕ) → Timely r → c < length r.trace → line_at ADS r.trace c ≡ true
    → (who : Who) × (winner_at (run_to r c).trace c ≡ Some who) × (request : Request)
    × (would_begin (run_to r c) (past_to (past_of r) c) c who ≡ Some request)
unfolding holds_at holds_in starts_requests request_begun drives_pair pair_due is_some_and
winner-wants r c h l t =
    let w = (run_to r c).trace in
    let here : line_at ADS w c ≡ true =
    sym (line_at-agree ADS (c + 1) r.trace w c (run_to-agrees r c l) (omega arith)) ∙ t in
    grind arith
