-- The lemmas of this crate that others draw on; no other name of its proofs is used outside.

-- Which agents began requests, one clock on.
pub use Rattle.fsb_trace.proofs.RequesterSteps.{requesters_before-begun, requesters_before-kept}
pub use Rattle.fsb_trace.proofs.RequesterSteps.{requesters_before-start}
-- The winner, by the lines that decide.
pub use Rattle.fsb_trace.proofs.WinnerSteps.{winner_after-high, winner_after-low, winner_by-locked, winner_by-priority}
pub use Rattle.fsb_trace.proofs.WinnerSteps.{winner_by-symmetric}
-- Live requests: their clocks, numbers and words, and what their snoop ends tell.
pub use Rattle.fsb_trace.proofs.LiveRequests.{is_reply-some, live_below_count, live_clock_of-number, live_request_of-at}
pub use Rattle.fsb_trace.proofs.LiveRequests.{settled_outcome_of-ended}
-- The phase rules by their numbers.
pub use Rattle.fsb_trace.proofs.RuleSteps.{breaks-1, breaks-10, breaks-11, breaks-12, breaks-13, breaks-14, breaks-15}
pub use Rattle.fsb_trace.proofs.RuleSteps.{breaks-16, breaks-17, breaks-18, breaks-19, breaks-2, breaks-20, breaks-3}
pub use Rattle.fsb_trace.proofs.RuleSteps.{breaks-4, breaks-5, breaks-6, breaks-7, breaks-8, breaks-9, breaks-none}
-- Traces that agree have the same at a clock.
pub use Rattle.fsb_trace.proofs.AgreeAt.{AgreeTo-less, AgreeTo-sym, is_cancelled-agree, is_live-agree, line_at-agree}
pub use Rattle.fsb_trace.proofs.AgreeAt.{take-agree}
pub use Rattle.fsb_trace.proofs.AgreeAt.{request_at-agree, requesters_before-agree, response_code_at-agree}
pub use Rattle.fsb_trace.proofs.AgreeAt.{responds_at-agree, stalls_at-agree, winner_after-agree, winner_at-agree}
-- A number that is reached stays as it is in every trace that agrees up to it.
pub use Rattle.fsb_trace.proofs.Stay.{live_clock_of-stays, response_clock_of-stays, snoop_end_from-found}
pub use Rattle.fsb_trace.proofs.Stay.{snoop_end_of-before, snoop_end_of-clock, snoop_end_of-stays}
-- Outcomes and ends stay, where the snoop end is there.
pub use Rattle.fsb_trace.proofs.StayEnds.{end_of-answered, end_of-moving, end_of-response, end_of-stays, end_of-still}
pub use Rattle.fsb_trace.proofs.StayEnds.{is_deferred-stays, line_at_snoop_end-stays, live_request_of-stays}
pub use Rattle.fsb_trace.proofs.StayEnds.{live_response_of-is, live_response_of-there, outcome_of-stays}
pub use Rattle.fsb_trace.proofs.StayEnds.{ready_clock_of-stays}
-- How the numbers of a trace lie to one another.
pub use Rattle.fsb_trace.proofs.Order.{live_clock_of-rises, snoop_clock-start, snoop_end_of-rises, snoop_start_of-after}
-- What a verdict says, and that it rests on the samples up to its clock.
pub use Rattle.fsb_trace.proofs.VerdictLaws.{breaks_a_rule-agree, verdict-least, verdict-none, verdict-stays}
-- Clocks as rows are laid out.
pub use Rattle.fsb_trace.proofs.LaidOut.{clock, idle}
-- Worked waveforms.
pub use Rattle.fsb_trace.proofs.Rows.{cancelled_by_address_error, deferred_and_replied, locked_increments}
pub use Rattle.fsb_trace.proofs.Rows.{stalled_snoop, store_handed_over_before_arrival, two_agents_overlap}
pub use Rattle.fsb_trace.proofs.Rows.{write_back_held_off}
