-- The lemmas of this crate that others draw on; no other name of its proofs is used outside.

-- Snoop ends, responses and ends of a past that come in the order of its live requests; and those of a timely run do.
pub use Rattle.fsb_tied.proofs.AnswersInOrder.{AnswersInOrder, answers-in-order}
-- The end that is awaited after a snoop end is known by its request.
pub use Rattle.fsb_tied.proofs.Awaiting.{awaited-there, awaits-grant, is-found, none-before}
-- What the moments of a timely run have of responses and ends is what its whole trace says.
pub use Rattle.fsb_tied.proofs.Bridge.{Ends, Responds, ended-number, number-ended, number-responded, one-at-end}
pub use Rattle.fsb_tied.proofs.Bridge.{one-listed, responded-from, responded-number, responded-parts}
-- In a timely run the link of a snoop end carries data exactly where the end that is awaited after it brings data.
pub use Rattle.fsb_tied.proofs.CarryingRuns.{carries-awaited, granted-await, written-await}
-- The links of a line that are left, from that of one snoop end on.
pub use Rattle.fsb_tied.proofs.Chains.{at-there, link_of, links_at}
-- A symmetric winner is one of four agents.
pub use Rattle.fsb_tied.proofs.FewAgents.{winner-four}
-- Each clock of a timely run has the facts on which the tie of a line rests.
pub use Rattle.fsb_tied.proofs.ClocksOfRuns.{clock-facts}
-- The memory has of a line, at each clock, the bytes that were put there last; at the end copies and memory are kept.
pub use Rattle.fsb_tied.proofs.KeptLines.{bytes-at-end, memory-below-run, memory-kept}
-- In a timely run responses and ends come in the order of the links of each line.
pub use Rattle.fsb_tied.proofs.LinkOrder.{first-link, listed-alone, oldest-ends}
-- A reply answers one request alone: while a Deferred request awaits its reply no other one begins with its ID.
pub use Rattle.fsb_tied.proofs.OneReply.{deferred-held, held-plain, told-deferred}
-- The last live request that put a line into memory, one clock on.
pub use Rattle.fsb_tied.proofs.PutLines.{number-put, number-stays, takes_line}
-- A reply that is seen in the samples up to a clock is the reply of the whole run.
pub use Rattle.fsb_tied.proofs.RepliesSeen.{has-reply, live-request, reply-stays, same-both}
-- A reply grants the line of the request that it answers.
pub use Rattle.fsb_tied.proofs.ReplyGrants.{reply-grants}
-- The machine's line in a timely run whose log is served and follows its scripts: its bytes, and those of the copies.
pub use Rattle.fsb_tied.proofs.RunValues.{now-below-run, source-below-run}
-- The request whose snoop end this is.
pub use Rattle.fsb_tied.proofs.SnoopClaims.{IsSnooped, asked-at, claimed-at, snooped-by}
-- How a request of a symmetric agent is settled: its outcome fits its kind, and its grant is the one that both make.
pub use Rattle.fsb_tied.proofs.SnoopOutcomes.{outcome-shown}
-- What HIT# and HITM# tell at a snoop end, in the words of the run's past.
pub use Rattle.fsb_tied.proofs.SnoopTold.{told-again}
-- Where memory takes the data of a request for a line, its end is awaited on the line, and its link has a giver.
pub use Rattle.fsb_tied.proofs.TakingSnoops.{uncontested, ungiven}
-- The whole trace of a timely run is orderly: its live requests respond and end one after the other.
pub use Rattle.fsb_tied.proofs.WholeOrder.{answered, ended-before, one-ends, orderly-whole}
-- At the snoop end of a write-back of a timely run no other agent holds its line.
pub use Rattle.fsb_tied.proofs.WrittenAlone.{writes-back-alone}
-- The request that begins at a clock, and the one that is cancelled there, come in order.
pub use Rattle.fsb_tied.proofs.BeginFacts.{uncancelled-below, unsnooped-below}
-- What begins in a timely run is what its agent wants.
pub use Rattle.fsb_tied.proofs.Beginnings.{begun-shown, begun-want, claimed}
-- The ends of live requests, in the moments of a run and in its cut traces; what has ended has its snoop end behind it.
pub use Rattle.fsb_tied.proofs.Ended.{end-below, ended-snooped}
-- Data that move on a line, and the ends that are awaited there: what it says that they do.
pub use Rattle.fsb_tied.proofs.Moving.{IsMoved, any-in, any-of, end-on, ends-on, moved-from, moved-parts, moves-from}
pub use Rattle.fsb_tied.proofs.Moving.{moves-parts}
-- A request that has begun, and is neither cancelled nor ended, is one that its agent owes.
pub use Rattle.fsb_tied.proofs.Owing.{cancelled-at, cancelled-below, claim-no-reply, own-owed, owing-gives}
-- What the snoop end of a reply that grants a line answers: a request that was Deferred on the line, the last one.
pub use Rattle.fsb_tied.proofs.ReplyEnds.{reply-end-at}
-- The accesses of a clock of a timely run are served: those of hits, and those that come with the end of another line.
pub use Rattle.fsb_tied.proofs.ServedAccesses.{grant-first, granted-parts}
-- An agent has at most one line of a cache set, held or asked for.
pub use Rattle.fsb_tied.proofs.Slots.{Slot, asked-unevicted, begun-apart, one-slot}
-- At the snoop end of a symmetric agent's request that request is open, and no open one is older.
pub use Rattle.fsb_tied.proofs.SnoopOpen.{cancels, live-at}
-- Lines of one cache set, and the victim among them.
pub use Rattle.fsb_tied.proofs.Victims.{a-victim, dirty-held, no-victim, rival-other, rival-set, rival-sym, same-set}
pub use Rattle.fsb_tied.proofs.Victims.{same-set-sym}
-- A request that is put off: its snoop end, and its claim; and its turn, as the moments below a clock have it.
pub use Rattle.fsb_tied.proofs.PendingLines.{IsPutOff, turn-so-far}
-- The machine's line after the events below a clock, and before the clock's snoop end.
pub use Rattle.fsb_tied.proofs.TiedRuns.{events-may-happen, tied-through}
-- One agent at most is dirty on a line.
pub use Rattle.fsb_tied.proofs.OneOwner.{one-dirty}
-- An access that comes with an end awaited on a line is its agent's, and a load where the oldest link does not own.
pub use Rattle.fsb_tied.proofs.AwaitedAccesses.{awaiting-loads, one-end}
-- The request whose end at a clock is awaited on a line: its snoop end, its claim, and whether memory takes its
-- data.
pub use Rattle.fsb_tied.proofs.EndingLines.{EndsLine, ends-line, taking-at}
-- What follows for a request of a past whose answers come in order: where its snoop end, its response and its end
-- lie.
pub use Rattle.fsb_tied.proofs.InTurn.{ended-later, ended-parts, not-so, snooped-before-end, unended-at-end}
pub use Rattle.fsb_tied.proofs.InTurn.{unended-at-response}
-- The bytes of a line in the replay of a log: what the stores on it make of them.
pub use Rattle.fsb_tied.proofs.LineBytes.{is_placed, replay-line, stores_into}
-- The memory has of a line the bytes that were put there last.
pub use Rattle.fsb_tied.proofs.MemoryBytes.{end-memory, ending_link, line_before_end, no-end-memory, puts-line}
-- The data of a line that are on the bus are, up to their end, those that their response put there.
pub use Rattle.fsb_tied.proofs.MovedBytes.{moved-below-run}
-- Who has a line for itself in a timely run.
pub use Rattle.fsb_tied.proofs.OwnedRuns.{alone-in-run}
-- In a timely run the link of a grant that owns its line owns it.
pub use Rattle.fsb_tied.proofs.OwningLinks.{granted-owns}
-- The accesses of a log that follows lawful scripts lie within one line each.
pub use Rattle.fsb_tied.proofs.PlacedLogs.{log-placed}
-- Which events of a clock leave the data that are on the bus and the memory of a line as they are.
pub use Rattle.fsb_tied.proofs.StillEvents.{between-data, no-response}
-- An agent that has a line ready awaits no link of it.
pub use Rattle.fsb_tied.proofs.Unlinked.{arrived-ready, unlinked}
