-- Worked runs with hazards in profile 1: each is a simulation, and is none with one thing changed.
use Rattle.std.proofs.Common.{refl, take, drop, set, [], ◌∷◌, ◌++◌}
use Rattle.rows_timely.proofs.Opened.{opened}
use Rattle.rows_timely.proofs.Words.{◌+◌, Load, on, pair, chunk, idle, b0, b1, b3, bpri, bnr, ads, aerr, hit, hitm}
use Rattle.rows_timely.proofs.Words.{defer, rs, dbsy, drdy, entry}
use Rattle.rows_timely.proofs.Worked.{Computed, at, logged, entered, Chunks, Completions, Hazards, RequestLines}
use Rattle.rows_timely.proofs.Worked.{Responses, SnoopResults, Starts}
use Rattle.rows_timely.proofs.StalledSnoop
use Rattle.rows_timely.proofs.BlockNextRequest
use Rattle.rows_timely.proofs.RetriedLoad
use Rattle.rows_timely.proofs.SharedLineRetried
use Rattle.rows_timely.proofs.ModifiedOverridesRetry
use Rattle.rows_timely.proofs.CancelledByAddressError
use Rattle.rows_timely.proofs.VictimOfErrors
use Rattle.rows_timely.proofs.KeptWithoutBridge
use Rattle.rows_timely.proofs.DeferredAndReplied
use Rattle.rows_timely.proofs.DeferredWithHit
use Rattle.rows_timely.proofs.OutsideTheWindow
use Rattle.rows_timely.proofs.ReplyPastHeldBack
use Rattle.rows_timely.proofs.ThreeRepliesDue

-- A snoop is stalled twice.
pub stalled_snoop : Computed StalledSnoop.run (
    -- the second stall is left out
    at Hazards 8 idle
    -- there is a third stall
    ∷ at Hazards 10 (on (hit + hitm))
    -- the response comes a clock early
    ∷ at Responses 11 (on (rs 7 + dbsy + drdy))
    -- nobody holds the line, and HIT# is asserted
    ∷ at SnoopResults 10 (on hit)
    -- DEFER# is asserted with a stall
    ∷ at Hazards 6 (on (hit + hitm + defer))
    -- HITM# is asserted though nobody has the line modified
    ∷ at SnoopResults 10 (on hitm)
    ∷ [])
unfolding opened
stalled_snoop = (refl, (refl, refl, refl, refl, refl), refl)

-- BNR# holds back a request.
pub block_next_request : Computed BlockNextRequest.run (
    -- BNR# is released a clock early
    at Hazards 9 (on b0)
    -- the request begins a clock early
    ∷ at Starts 11 (pair (b0 + ads) 0x6 0x8)
    -- BREQ0# is not kept up
    ∷ at RequestLines 5 (on bnr)
    ∷ [])
unfolding opened
block_next_request = (refl, (refl, refl, refl, refl, refl), refl)

-- A load is retried once.
pub retried_load : Computed RetriedLoad.run (
    -- DEFER# is not asserted
    at Hazards 6 idle
    -- the retried request responds with data
    ∷ at Responses 8 (on (rs 7 + dbsy + drdy))
    -- BREQ0# comes again a clock early
    ∷ at RequestLines 8 (on (b0 + rs 1))
    -- the load is logged at the retry
    ∷ entered 8 0 (entry 8 0 0 0 (Load 1 0x40) 0x0)
    -- a hard failure comes in place of the Retry
    ∷ at Responses 8 (on (rs 4))
    ∷ [])
unfolding opened
retried_load = (refl, (refl, refl, refl, refl, refl), refl)

-- A line is shared, and the request to own it is retried: its agent holds it all the while.
pub shared_line_retried : Computed SharedLineRetried.run (
    -- it does not show that it holds the line after the retry
    at SnoopResults 25 (on b0)
    ∷ [])
unfolding opened
shared_line_retried = (refl, (refl, refl, refl, refl, refl), refl)

-- The second request is to be retried, and the line that is handed over overrides it.
pub modified_overrides_retry : Computed ModifiedOverridesRetry.run (
    -- DEFER# is not asserted
    at Hazards 9 (on (hitm + dbsy + drdy))
    -- HITM# is not asserted
    ∷ at SnoopResults 9 (on (defer + dbsy + drdy))
    -- the response is Retry
    ∷ at Responses 14 (on (rs 1))
    ∷ [])
unfolding opened
modified_overrides_retry = (refl, (refl, refl, refl, refl, refl), refl)

-- A request is cancelled by an address error, and begins again.
pub cancelled_by_address_error : Computed CancelledByAddressError.run (
    -- AERR# is not asserted
    at Hazards 5 idle
    -- BREQ0# comes again a clock early
    ∷ at RequestLines 5 (on (b0 + aerr))
    -- the request begins again a clock early
    ∷ at Starts 7 (pair (b0 + ads) 0x6 0x8)
    ∷ [])
unfolding opened
cancelled_by_address_error = (refl, (refl, refl, refl, refl, refl), refl)

-- Clean lines are dropped for requests that are then cancelled, or retried.
pub victim_of_errors : Computed VictimOfErrors.run (
    -- the agent of the cancelled request shows that it still holds its line
    at SnoopResults 19 (on (b0 + hit))
    -- the agent of the retried request shows that it still holds its line
    ∷ at SnoopResults 36 (pair (b1 + ads + hit) 0x6 0xc)
    ∷ [])
unfolding opened
victim_of_errors = (refl, (refl, refl, refl, refl, refl), refl)

-- A request is to be deferred, and there is no bridge.
pub kept_without_bridge : Computed KeptWithoutBridge.run (
    -- it is deferred
    at Hazards 6 (on defer)
    ∷ [])
unfolding opened
kept_without_bridge = (refl, (refl, refl, refl, refl, refl), refl)

-- A load is deferred and replied to, and another agent's store waits for it.
pub deferred_and_replied : Computed DeferredAndReplied.run (
    -- the pending line is granted to the second agent
    at Hazards 9 idle
    -- the reply is asked for a clock early
    ∷ at RequestLines 18 (on (bpri + defer))
    -- the reply has another ID
    ∷ at Starts 21 (pair (b1 + bpri + ads) 0x0 0x20000)
    -- the holder by reply does not show that it holds the line
    ∷ at SnoopResults 28 (on (dbsy + drdy))
    -- the load is logged at its deferral
    ∷ entered 8 0 (entry 8 0 0 0 (Load 1 0x1000) 0x0)
    ∷ [])
unfolding opened
deferred_and_replied = (refl, (refl, refl, refl, refl, refl), refl)

-- A load of a line that is held is deferred, and then one of a line that nobody holds, whose reply is stalled.
pub deferred_with_hit : Computed DeferredWithHit.run (
    -- the reply does not repeat HIT#
    at SnoopResults 27 (pair 0 0x2 0x2)
    -- the reply brings the chunks in ascending order
    ∷ at Chunks 29 (on (rs 7 + dbsy + drdy))
    -- the reply of the second load has HIT#
    ∷ at SnoopResults 50 (on hit)
    -- the reply of the second load has HITM#
    ∷ at SnoopResults 50 (on hitm)
    -- the load of the shared line is no hit
    ∷ logged Completions 20 (λ log. take 1 log ++ drop 2 log)
    ∷ [])
unfolding opened
deferred_with_hit = (refl, (refl, refl, refl, refl, refl), refl)

-- Deferrals at the edges of the bridge's window; two replies are due at once.
pub outside_the_window : Computed OutsideTheWindow.run (
    -- the line below the window is deferred
    at Hazards 6 (pair defer 0x2 0x20002)
    -- the line above the window is deferred
    ∷ at Hazards 9 (on (defer + dbsy + drdy))
    -- the first line of the window is not deferred
    ∷ at Hazards 18 (pair (b1 + ads) 0x6 0x204)
    -- the last line of the window is not deferred
    ∷ at Hazards 22 idle
    -- the second reply is asked for while the first begins
    ∷ at RequestLines 28 (on bpri)
    -- HITM# is asserted for the first reply
    ∷ at SnoopResults 31 (pair (bpri + ads + hitm) 0x0 0x20000)
    -- the reply brings the line that was asked for before
    ∷ at Chunks 33 (chunk (rs 7 + dbsy + drdy) 0x11)
    ∷ [])
unfolding opened
outside_the_window = (refl, (refl, refl, refl, refl, refl), refl)

-- A reply and a load begin while the first agent's write-back is held back.
pub reply_past_held_back : Computed ReplyPastHeldBack.run (
    -- the reply is held back too
    at Starts 15 (on (b0 + b3 + bpri))
    -- the load is held back too
    ∷ at Starts 18 (on (b0 + b3 + hit + hitm))
    -- the write-back begins
    ∷ at Starts 15 (pair (b0 + b3 + bpri + ads) 0x5 0x8)
    -- the fourth agent does not show that it holds the line
    ∷ at SnoopResults 38 (on (dbsy + drdy))
    ∷ [])
unfolding opened
reply_past_held_back = (refl, (refl, refl, refl, refl, refl), refl)

-- Three replies are due together: BPRI# goes for the clock after each reply begins.
pub three_replies_due : Computed ThreeRepliesDue.run (
    -- BPRI# comes before a reply is due
    at RequestLines 21 (on bpri)
    -- the reply is not asked for though it is due
    ∷ at RequestLines 22 idle
    -- the first reply is to the later of the two that are due
    ∷ at Starts 24 (pair (bpri + ads) 0x0 0x40000)
    -- BPRI# stays though a reply began at the clock before, and two more are due
    ∷ at RequestLines 25 (on bpri)
    -- BPRI# does not come again a clock later
    ∷ at RequestLines 26 idle
    -- the second reply begins a clock early
    ∷ at Starts 27 (on (bpri + ads))
    -- BPRI# stays behind the second reply, for the third
    ∷ at RequestLines 29 (on bpri)
    -- BPRI# stays behind the last reply
    ∷ at RequestLines 33 (on (bpri + drdy))
    -- the first data are those of the first load
    ∷ logged Completions 33 (λ log. set (set log 0 (entry 33 0 0 0 (Load 1 0x1000) 0x0)) 1 (entry 37 1 0 0 (Load 1 0x1020) 0x0))
    ∷ [])
unfolding opened
three_replies_due = (refl, (refl, refl, refl, refl, refl), refl)
