-- The lemmas of this crate that others draw on; no other name of its proofs is used outside.

-- What a trace with one sample more has at its clocks.
pub use Rattle.fsb_laws.proofs.OneMoreFacts.{line_at-new, line_at-old, one_more, response_code_at-new}
-- Live requests, one sample on. Whether a request is live shows three clocks after its first clock.
pub use Rattle.fsb_laws.proofs.LiveSteps.{is_cancelled-late, is_live-ads, is_live-more, live_clock_of-less}
pub use Rattle.fsb_laws.proofs.LiveSteps.{live_clock_of-more, live_clock_of-new, live_number_of-more}
-- Snoop clocks and snoop ends, one sample on.
pub use Rattle.fsb_laws.proofs.SnoopSteps.{first_where-next, snoop_end_of-above, snoop_end_of-more, snoop_end_of-old}
pub use Rattle.fsb_laws.proofs.SnoopSteps.{snoops_to-ended, snoops_to-kept, start_clock}
-- Whether the new clock is a snoop clock, and of which request.
pub use Rattle.fsb_laws.proofs.SnoopClockSteps.{ended_where, is_snoop_clock-more}
-- Responses and outcomes, one sample on.
pub use Rattle.fsb_laws.proofs.ResponseSteps.{HasAnswer, has_answer, may_answer-from, is_deferred-old, moves_data-old}
pub use Rattle.fsb_laws.proofs.ResponseSteps.{next_response-new, outcome_of-new, responds_at-new, response_clock_of-new}
pub use Rattle.fsb_laws.proofs.ResponseSteps.{response_clock_of-old, response_count-empty, response_count-kept}
pub use Rattle.fsb_laws.proofs.ResponseSteps.{response_count-more, response_counted, response_past, response_there}
-- Which live requests have their ends in an orderly trace.
pub use Rattle.fsb_laws.proofs.EndFacts.{chunks_of-form, clear_parts, end_of-kept, end_of-old, end_past, ends_to-moving}
pub use Rattle.fsb_laws.proofs.EndFacts.{ends_to-still, transfer_parts, transferring_form}
-- The transfer that is on the way, one sample on.
pub use Rattle.fsb_laws.proofs.TransferSteps.{moves_new, transfer_of-begun, transfer_of-kept}
-- Which data are on the way: those of the request that responded last.
pub use Rattle.fsb_laws.proofs.OnTheWay.{is_transferring-last, is_transferring-none, last_is_live}
-- Whether the next response may come at the new clock, and whether its target is ready.
pub use Rattle.fsb_laws.proofs.AnswerSteps.{answered_below, may_answer-new, may_answer_next-parts}
-- The ready clock of the next request to respond, one sample on.
pub use Rattle.fsb_laws.proofs.ReadySteps.{after_answer, answer_later, has_ready, ready_clock_of-after}
pub use Rattle.fsb_laws.proofs.ReadySteps.{ready_clock_of-next, ready_clock_of-old}
-- An orderly trace goes on orderly where its next sample keeps the distance and responds in time.
pub use Rattle.fsb_laws.proofs.OrderlySteps.{ads_before_end, may_answer-stays, orderly-empty, orderly-more, spaced-more}
-- Words over a test of a clock: all clocks that pass, and how many.
pub use Rattle.fsb_laws.proofs.Clocks.{all_where-more, count_where-none}
-- Requests in flight, one sample on.
pub use Rattle.fsb_laws.proofs.FlightSteps.{ended_known, in_flight-count, in_flight-live, in_flight-more, in_flight-now}
pub use Rattle.fsb_laws.proofs.FlightSteps.{is_in_flight-end}
-- Replies to deferred requests, one sample on.
pub use Rattle.fsb_laws.proofs.ReplySteps.{live_request_of-old, reply_clock_of-more, request_at-last, request_at-old}
-- Outstanding requests, one sample on.
pub use Rattle.fsb_laws.proofs.OutstandingSteps.{IsNewlyDeferred, deferred_response, deferred_still, end_after_clock}
pub use Rattle.fsb_laws.proofs.OutstandingSteps.{ends_by, ends_dead, finished-deferred, finished-plain}
pub use Rattle.fsb_laws.proofs.OutstandingSteps.{is_outstanding-end, last_clock_of-deferred, last_clock_of-plain}
pub use Rattle.fsb_laws.proofs.OutstandingSteps.{live_of_reply, newly_deferred, reply_end_of-none}
-- What is outstanding where a request begins: it shows in the samples before.
pub use Rattle.fsb_laws.proofs.BeginSteps.{BeginsAfter, same_answered, same_deferred, same_live_request}
pub use Rattle.fsb_laws.proofs.BeginSteps.{same_outstanding}
