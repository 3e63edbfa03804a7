-- The lemmas of this crate that others draw on; no other name of its proofs is used outside.

-- A timely run whose plan keeps the bounds is accepted: no rule is broken at any of its clocks.
pub use Rattle.fsb_lawful.proofs.Accepted.{accepted, each-clock}
-- The request that begins in a timely run is the one that its winner would begin.
pub use Rattle.fsb_lawful.proofs.Begun.{begun-decoded, begun_of}
-- A run that is cut at a clock is a run, and its past is the past up to that clock.
pub use Rattle.fsb_lawful.proofs.CutRuns.{cuts-agree, length-cut, live-ads, live_choice-same, past-cut}
-- A past that is cut at a clock has the same up to that clock.
pub use Rattle.fsb_lawful.proofs.Cuts.{run_to-agrees, slice_get-take, snooped-to}
-- What an agent is granted, and what is brought to it, is for one of its outstanding requests.
pub use Rattle.fsb_lawful.proofs.GrantsOwed.{grants-are-owed}
-- Rule 7: a request is identified by its winner.
pub use Rattle.fsb_lawful.proofs.Identity.{begun-winner}
-- How a trace keeps a rule: at each clock, over the samples up to it.
pub use Rattle.fsb_lawful.proofs.Keeping.{and-fails, and4, and5, not-true, same-beq}
-- The lines that an agent gets, the IDs that it uses, and so all requests of a run whose plan keeps the bounds.
pub use Rattle.fsb_lawful.proofs.LawfulBeginnings.{wants-lawfully}
-- What is listed: of the clocks that pass a test, what each of them gives.
pub use Rattle.fsb_lawful.proofs.Listed.{IsListed, any-from, any-kept, any-listed}
-- A timely run keeps the distance of requests and the order of responses: its trace is orderly at each clock.
pub use Rattle.fsb_lawful.proofs.OrderlyRuns.{orderly-at}
-- Where a symmetric agent's request begins, its ID is not taken, and few of its requests are outstanding.
pub use Rattle.fsb_lawful.proofs.OutstandingIds.{IsWanted, begins-after, get-there, id-free, wanted-by}
-- Where an agent begins no request, its outstanding requests of the next clock are some of those of this one.
pub use Rattle.fsb_lawful.proofs.OwesLess.{map-some, outstanding-of, owes-less, owing-then}
-- What an agent wants has an ID of its own, and is no reply.
pub use Rattle.fsb_lawful.proofs.OwnIds.{want-few, want-own}
-- Replies are begun by the priority agent, and by no other agent.
pub use Rattle.fsb_lawful.proofs.RepliesBegun.{reply-before, reply-is}
-- Rule 14: each response of a timely run has the code of its settled outcome, which is what is told of it.
pub use Rattle.fsb_lawful.proofs.ResponseCodes.{told-as-settled}
-- A grant, as the whole trace shows it: the live request whose snoop end makes it, and the one that it serves.
pub use Rattle.fsb_lawful.proofs.Served.{IsGrantedBy, Serves, ServesOther, and-then, granted-by, some-and}
-- The turn of a live request of a timely run: what is settled by it, DEFER#, and that the request may have it.
pub use Rattle.fsb_lawful.proofs.Turns.{TurnFits, turned-at}
-- What begins in a run whose plan keeps the bounds of a bench file is a lawful request.
pub use Rattle.fsb_lawful.proofs.LawfulWants.{all-at}
-- The clocks of answers and responses.
pub use Rattle.fsb_lawful.proofs.AnswerClocks.{answered-before, response-before, takes-stays}
-- The chunks of a line.
pub use Rattle.fsb_lawful.proofs.Chunks.{chunk-bounds, chunks-few, is_chunk}
-- Which data move last.
pub use Rattle.fsb_lawful.proofs.DataMoves.{LastMoves, keeps-16, last-moves}
-- A clock has one answer at most.
pub use Rattle.fsb_lawful.proofs.OneAnswer.{answered-next, one_answer, ready-then}
-- When a response and TRDY# are due.
pub use Rattle.fsb_lawful.proofs.Responding.{IsReadyDue, Responding, one-ready, one-response, ready-answer, ready-now}
pub use Rattle.fsb_lawful.proofs.Responding.{ready-stays, responding-answer, responding-now, responding-stays}
