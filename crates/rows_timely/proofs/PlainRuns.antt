-- Worked runs of loads and stores that nobody disturbs: each is a simulation, and is none with one thing changed.
use Rattle.std.proofs.Common.{refl, take, drop, set, [], ◌∷◌, ◌++◌}
use Rattle.rows_timely.proofs.Opened.{opened}
use Rattle.rows_timely.proofs.Words.{◌+◌, Load, Store, Literal, LastPlus, on, pair, chunk, full, idle, b0, b1, b2, b3}
use Rattle.rows_timely.proofs.Words.{lock, bnr, ads, aerr, rs, trdy, dbsy, drdy, entry}
use Rattle.rows_timely.proofs.Worked.{Computed, at, logged, entered, Chunks, Completions, Hazards, RequestLines}
use Rattle.rows_timely.proofs.Worked.{Responses, SnoopResults, Starts, Times}
use Rattle.rows_timely.proofs.LoadThenStoreHit
use Rattle.rows_timely.proofs.EmptyRun
use Rattle.rows_timely.proofs.IdleFirst
use Rattle.rows_timely.proofs.TwoAgentsOverlap
use Rattle.rows_timely.proofs.BurstOrderOfChunkThree
use Rattle.rows_timely.proofs.RunCutBeforeArrival10
use Rattle.rows_timely.proofs.RunCutBeforeArrival12
use Rattle.rows_timely.proofs.FourOutstanding
use Rattle.rows_timely.proofs.LookAheadTwo
use Rattle.rows_timely.proofs.SecondStoreWaits
use Rattle.rows_timely.proofs.EarlierSets
use Rattle.rows_timely.proofs.WindowEnds
use Rattle.rows_timely.proofs.WaitsAndGaps
use Rattle.rows_timely.proofs.QueueFull
use Rattle.rows_timely.proofs.SameClock

-- One agent loads a byte and stores into the next one: one request, and a hit.
pub load_then_store_hit : Computed LoadThenStoreHit.run (
    -- BREQ0# kept up while the request begins
    at RequestLines 3 (pair b0 0x2 0x2)
    -- the first chunk is another one
    ∷ at Chunks 8 (chunk (rs 7 + dbsy + drdy) 0x6)
    -- the store is logged a clock late
    ∷ entered 12 1 (entry 13 0 1 0 (Store 1 0x41 (Literal 0x5)) 0x5)
    -- the store stores another number
    ∷ entered 12 1 (entry 12 0 1 0 (Store 1 0x41 (Literal 0x6)) 0x6)
    -- the words of a request stand in a clock without one
    ∷ at Starts 5 (pair 0 0x6 0x8)
    -- BNR# is asserted though nobody asks for it
    ∷ at Hazards 5 (on bnr)
    -- AERR# comes three clocks behind a request for which it is not chosen
    ∷ at Hazards 5 (on aerr)
    -- an agent that the plan has not asks for the bus
    ∷ at RequestLines 20 (on b3)
    -- DBSY# is not kept up between the data
    ∷ at Responses 9 (on drdy)
    -- the response does not come, and no data with it
    ∷ at Responses 8 idle
    ∷ [])
unfolding opened
load_then_store_hit = (refl, (refl, refl, refl, refl, refl), refl)

-- No clock at all: nothing is logged.
pub empty_run : Computed EmptyRun.run (
    -- the first load is logged past the end
    logged Times 0 (λ log. entry 11 0 0 0 (Load 1 0x40) 0x7 ∷ [])
    -- both accesses are logged past the end
    ∷ logged Times 0 (λ log. entry 11 0 0 0 (Load 1 0x40) 0x7 ∷ entry 12 0 1 0 (Store 1 0x41 (Literal 0x5)) 0x5 ∷ [])
    -- the first load is logged at clock 0
    ∷ logged Times 0 (λ log. entry 0 0 0 0 (Load 1 0x40) 0x7 ∷ [])
    ∷ [])
unfolding opened
empty_run = (refl, (refl, refl, refl, refl, refl), refl)

-- A load that waits for five idle clocks.
pub idle_first : Computed IdleFirst.run (
    -- BREQ0# comes a clock early
    at RequestLines 4 (on b0)
    -- the request begins a clock early
    ∷ at Starts 6 (pair (b0 + ads) 0x6 0x8)
    -- the load is logged a clock late
    ∷ entered 16 0 (entry 17 0 1 0 (Load 1 0x40) 0x0)
    ∷ [])
unfolding opened
idle_first = (refl, (refl, refl, refl, refl, refl), refl)

-- Two agents load different lines, and the requests overlap.
pub two_agents_overlap : Computed TwoAgentsOverlap.run (
    -- the second request begins a clock early
    at Starts 4 (pair (b1 + ads) 0x6 0x10)
    -- the second response comes a clock early
    ∷ at Responses 11 (on (rs 7 + dbsy + drdy))
    -- the second load is logged a clock late
    ∷ entered 15 1 (entry 16 1 0 0 (Load 1 0x80) 0x0)
    -- DBSY# is kept up with the last data
    ∷ at Responses 15 (on (dbsy + drdy))
    -- the two entries are logged in the other order
    ∷ logged Times 0 (λ log. set (set log 0 (entry 15 1 0 0 (Load 1 0x80) 0x0)) 1 (entry 11 0 0 0 (Load 1 0x40) 0x0))
    ∷ [])
unfolding opened
two_agents_overlap = (refl, (refl, refl, refl, refl, refl), refl)

-- A load of chunk three: the chunks come in the order 3, 2, 1, 0.
pub burst_order_of_chunk_three : Computed BurstOrderOfChunkThree.run (
    -- the chunks come in ascending order
    at Chunks 8 (on (rs 7 + dbsy + drdy))
    -- chunk three comes with the last data
    ∷ at Chunks 11 (chunk drdy 0x807060504030201)
    -- the request has chunk 0
    ∷ at Starts 2 (pair (b0 + ads) 0x6 0x8)
    ∷ [])
unfolding opened
burst_order_of_chunk_three = (refl, (refl, refl, refl, refl, refl), refl)

-- The same, cut off after ten clocks: nothing is completed.
pub run_cut_before_arrival_10 : Computed RunCutBeforeArrival10.run (
    -- the first store is logged before its bytes have come
    logged Completions 9 (λ log. entry 9 0 0 0 (Store 1 0x40 (Literal 0x1)) 0x1 ∷ [])
    -- the owner without bytes stays silent
    ∷ at SnoopResults 9 (on (dbsy + drdy))
    -- the second request names another line
    ∷ at Starts 5 (pair (b1 + ads) 0x2 0x10)
    -- the first store is logged past the end
    ∷ logged Times 0 (λ log. entry 11 0 0 0 (Store 1 0x40 (Literal 0x1)) 0x1 ∷ [])
    ∷ [])
unfolding opened
run_cut_before_arrival_10 = (refl, (refl, refl, refl, refl, refl), refl)

-- The same, cut off after twelve clocks: one store is completed.
pub run_cut_before_arrival_12 : Computed RunCutBeforeArrival12.run (
    -- the first store is not logged
    logged Completions 11 (λ log. take 0 log)
    -- the first store is logged for the second agent
    ∷ entered 11 0 (entry 11 1 0 0 (Store 1 0x40 (Literal 0x1)) 0x1)
    -- BREQ0# comes again
    ∷ at RequestLines 11 (on (b0 + drdy))
    ∷ [])
unfolding opened
run_cut_before_arrival_12 = (refl, (refl, refl, refl, refl, refl), refl)

-- One agent has four requests outstanding.
pub four_outstanding : Computed FourOutstanding.run (
    -- the fourth load is not asked for ahead
    at RequestLines 12 (on (rs 7 + dbsy + drdy))
    -- the third request takes the first ID
    ∷ at Starts 11 (pair drdy 0x2 0x2)
    -- the fourth response comes a clock early
    ∷ at Responses 19 (on (rs 7 + dbsy + drdy))
    -- the fourth load is logged with the third
    ∷ entered 19 3 (entry 19 0 3 0 (Load 1 0x100) 0x0)
    ∷ [])
unfolding opened
four_outstanding = (refl, (refl, refl, refl, refl, refl), refl)

-- One agent has two requests outstanding.
pub look_ahead_two : Computed LookAheadTwo.run (
    -- BREQ0# is kept up while the first request begins
    at RequestLines 3 (pair b0 0x2 0x2)
    -- both requests have one ID
    ∷ at Starts 7 (pair 0 0x2 0x2)
    -- the second load is not asked for ahead
    ∷ at RequestLines 4 idle
    -- the second load is logged with the first
    ∷ entered 11 1 (entry 11 0 1 0 (Load 1 0x80) 0x0)
    ∷ [])
unfolding opened
look_ahead_two = (refl, (refl, refl, refl, refl, refl), refl)

-- With a look-ahead of two, a second store to one line asks for nothing.
pub second_store_waits : Computed SecondStoreWaits.run (
    -- the second store asks for the line too
    at RequestLines 4 (on b0)
    -- both stores are logged at the arrival
    ∷ entered 11 1 (entry 11 0 1 0 (Store 1 0x40 (Literal 0x2)) 0x2)
    -- the second store is logged a clock late
    ∷ entered 12 1 (entry 13 0 1 0 (Store 1 0x40 (Literal 0x2)) 0x2)
    ∷ [])
unfolding opened
second_store_waits = (refl, (refl, refl, refl, refl, refl), refl)

-- With a look-ahead of three, a line is not asked for while an earlier item needs its cache set.
pub earlier_sets : Computed EarlierSets.run (
    -- it is asked for in the clock of the earlier item's hit
    at RequestLines 16 (on b0)
    -- the line is lost with the write-back of another one
    ∷ logged Completions 56 (λ log. take 8 log)
    ∷ [])
unfolding opened
earlier_sets = (refl, (refl, refl, refl, refl, refl), refl)

-- A window of three items ends at an idle item, and at a locked one.
pub window_ends : Computed WindowEnds.run (
    -- the load behind the idle item is asked for ahead
    at RequestLines 12 (on b0)
    -- the load behind the locked item is asked for ahead
    ∷ at RequestLines 46 (on (b0 + lock + rs 7 + dbsy + drdy))
    -- the store adds two
    ∷ entered 49 4 (entry 49 0 6 1 (Store 1 0xa8 (LastPlus 0x2)) 0x1)
    -- the store stores a literal
    ∷ entered 49 4 (entry 49 0 6 1 (Store 1 0xa8 (Literal 0x1)) 0x1)
    -- the load loads one byte
    ∷ entered 33 2 (entry 33 0 5 0 (Load 1 0x60) 0x0)
    -- the load loads the next byte
    ∷ entered 17 1 (entry 17 0 3 0 (Load 1 0x49) 0x0)
    -- both loads are logged as the same part
    ∷ entered 49 5 (entry 49 0 6 0 (Load 1 0x90) 0x0)
    -- the load is logged as the item before
    ∷ entered 33 2 (entry 33 0 4 0 (Load 2 0x60) 0x0)
    ∷ [])
unfolding opened
window_ends = (refl, (refl, refl, refl, refl, refl), refl)

-- Waits and gaps of loads, of a write-back and of bursts that begin with each chunk.
pub waits_and_gaps : Computed WaitsAndGaps.run (
    -- DRDY# is not asserted with the second data, which are 0
    at Responses 10 (on dbsy)
    -- data stand between the first and the second
    ∷ at Responses 9 (chunk dbsy 0x1)
    -- TRDY# is asserted for a request that takes nothing, after its wait
    ∷ at Responses 18 (full (trdy + dbsy + drdy) 0x2 0x2 0xa)
    -- TRDY# for the write-back comes a clock early
    ∷ at Responses 34 (on trdy)
    -- the write-back responds as a load
    ∷ at Responses 38 (chunk (rs 7 + dbsy + drdy) 0x9)
    -- the second data carry the chunk after next
    ∷ at Chunks 10 (chunk (dbsy + drdy) 0x4)
    -- DRDY# is asserted in the gap between the first and the second data
    ∷ at Responses 9 (on (dbsy + drdy))
    ∷ [])
unfolding opened
waits_and_gaps = (refl, (refl, refl, refl, refl, refl), refl)

-- Eight requests are in flight, and four agents want a ninth.
pub queue_full : Computed QueueFull.run (
    -- a ninth request begins
    at Starts 26 (pair (b0 + b1 + b2 + b3 + ads + drdy) 0x6 0x10)
    -- the second agent's BREQ1# is not asserted
    ∷ at RequestLines 26 (on (b0 + b2 + b3 + drdy))
    -- the third agent's BREQ2# is not asserted
    ∷ at RequestLines 26 (on (b0 + b1 + b3 + drdy))
    -- the fourth agent's BREQ3# is not asserted
    ∷ at RequestLines 26 (on (b0 + b1 + b2 + drdy))
    ∷ [])
unfolding opened
queue_full = (refl, (refl, refl, refl, refl, refl), refl)

-- In one clock two agents hit and a third one's bytes arrive.
pub same_clock : Computed SameClock.run (
    -- the arrival is logged first
    logged Completions 23 (λ log. set (set (set log 3 (entry 23 0 1 0 (Load 1 0x40) 0x0)) 4 (entry 23 1 2 0 (Load 1 0x61) 0x0)) 5 (entry 23 2 2 0 (Load 1 0xa1) 0x0))
    -- the hits are logged in the other order
    ∷ logged Completions 23 (λ log. set (set log 3 (entry 23 2 2 0 (Load 1 0xa1) 0x0)) 4 (entry 23 1 2 0 (Load 1 0x61) 0x0))
    -- the third agent's hit is not logged
    ∷ logged Completions 23 (λ log. take 4 log ++ drop 5 log)
    ∷ [])
unfolding opened
same_clock = (refl, (refl, refl, refl, refl, refl), refl)
