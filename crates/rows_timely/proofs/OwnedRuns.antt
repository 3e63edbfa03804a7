-- Worked runs in which lines are shared, handed on, dropped and written back: each is a simulation, and is none with
-- one thing changed.
use Rattle.std.proofs.Common.{refl, take, set, [], ◌∷◌}
use Rattle.rows_timely.proofs.Opened.{opened}
use Rattle.rows_timely.proofs.Words.{◌+◌, Load, Store, Literal, LastPlus, on, pair, chunk, idle, b0, b1, b2, b3, lock}
use Rattle.rows_timely.proofs.Words.{ads, hit, hitm, rs, trdy, dbsy, drdy, entry}
use Rattle.rows_timely.proofs.Worked.{Computed, at, logged, entered, BusLock, Chunks, Completions, Hazards}
use Rattle.rows_timely.proofs.Worked.{RequestLines, Responses, SnoopResults, Starts}
use Rattle.rows_timely.proofs.StoreHandedOverBeforeArrival
use Rattle.rows_timely.proofs.ThreeStoresChained
use Rattle.rows_timely.proofs.FourOwners
use Rattle.rows_timely.proofs.SharedLineInvalidated
use Rattle.rows_timely.proofs.LoadAfterLoss
use Rattle.rows_timely.proofs.DirtyVictimWrittenBack
use Rattle.rows_timely.proofs.WriteBackHeldOff
use Rattle.rows_timely.proofs.WriteBackBehindRead
use Rattle.rows_timely.proofs.CleanVictimSeen
use Rattle.rows_timely.proofs.StoreAtSnoopEnd
use Rattle.rows_timely.proofs.DropAtSnoopEnd
use Rattle.rows_timely.proofs.HitAtSnoopEnd

-- Two agents store to one line; the first hands it on before its bytes have come.
pub store_handed_over_before_arrival : Computed StoreHandedOverBeforeArrival.run (
    -- the owner without bytes stays silent
    at SnoopResults 9 (on (dbsy + drdy))
    -- TRDY# comes a clock early
    ∷ at Responses 11 (on (trdy + drdy))
    -- the first store is logged a clock late
    ∷ entered 11 0 (entry 12 0 0 0 (Store 1 0x40 (Literal 0x1)) 0x1)
    -- the line is handed over without the first store
    ∷ at Chunks 14 (on (rs 6 + dbsy + drdy))
    -- TRDY# does not come for the line that is handed over
    ∷ at Responses 12 idle
    ∷ [])
unfolding opened
store_handed_over_before_arrival = (refl, (refl, refl, refl, refl, refl), refl)

-- Three agents store to one line, and each hands it on to the next.
pub three_stores_chained : Computed ThreeStoresChained.run (
    -- the second owner without bytes stays silent
    at SnoopResults 12 (on trdy)
    -- the line is handed over without the second store
    ∷ at Chunks 20 (chunk (rs 6 + dbsy + drdy) 0x1)
    -- the third store is logged a clock late
    ∷ entered 23 2 (entry 24 2 0 0 (Store 1 0x40 (Literal 0x3)) 0x3)
    -- the third request names another line
    ∷ at Starts 8 (pair (b2 + ads + rs 7 + dbsy + drdy) 0x2 0x10)
    ∷ [])
unfolding opened
three_stores_chained = (refl, (refl, refl, refl, refl, refl), refl)

-- Four agents hand two lines on, and the fourth locks the bus.
pub four_owners : Computed FourOwners.run (
    -- the fourth agent does not show that its line is modified
    at SnoopResults 18 (pair b3 0x2 0x2)
    -- the third agent, which shares the line, does not show that it holds it
    ∷ at SnoopResults 21 (pair (lock + dbsy + drdy) 0x2 0x60000)
    -- LOCK# of the fourth agent is not asserted
    ∷ at BusLock 24 idle
    -- the locked item of the fourth agent is not logged
    ∷ logged Completions 36 (λ log. take 5 log)
    ∷ [])
unfolding opened
four_owners = (refl, (refl, refl, refl, refl, refl), refl)

-- Two agents share a line, and the first stores into it: it needs the bus.
pub shared_line_invalidated : Computed SharedLineInvalidated.run (
    -- the first agent does not show that it holds the line
    at SnoopResults 9 (on (dbsy + drdy))
    -- the store into the shared line is a hit
    ∷ entered 16 2 (entry 16 0 1 0 (Store 1 0x40 (Literal 0x1)) 0x1)
    -- the second agent does not show that it holds the line
    ∷ at SnoopResults 18 idle
    -- the store asks for nothing
    ∷ at RequestLines 12 (on (rs 7 + dbsy + drdy))
    ∷ [])
unfolding opened
shared_line_invalidated = (refl, (refl, refl, refl, refl, refl), refl)

-- A line is taken away in the clock before its holder's next load.
pub load_after_loss : Computed LoadAfterLoss.run (
    -- the load is a hit
    logged Completions 17 (λ log. set (set log 1 (entry 17 0 2 0 (Load 1 0x41) 0x0)) 2 (entry 21 1 1 0 (Store 1 0x40 (Literal 0x8)) 0x8))
    ∷ [])
unfolding opened
load_after_loss = (refl, (refl, refl, refl, refl, refl), refl)

-- With a cache of one line a stored line is written back, and read again.
pub dirty_victim_written_back : Computed DirtyVictimWrittenBack.run (
    -- the next line is read with no write-back
    at Starts 14 (pair (b0 + ads) 0x6 0x10)
    -- TRDY# for the write-back comes a clock early
    ∷ at Responses 19 (on trdy)
    -- the write-back carries the line without the store
    ∷ at Chunks 22 (on (rs 5 + dbsy + drdy))
    -- the line is read again without the store
    ∷ at Chunks 46 (on (rs 7 + dbsy + drdy))
    -- HIT# is asserted for a write-back, though no other agent holds its line
    ∷ at SnoopResults 18 (on hit)
    ∷ [])
unfolding opened
dirty_victim_written_back = (refl, (refl, refl, refl, refl, refl), refl)

-- A write-back is held back while another agent asks for its line, and is then not needed.
pub write_back_held_off : Computed WriteBackHeldOff.run (
    -- the write-back begins at the first clock at which it could
    at Starts 16 (pair (b0 + ads) 0x5 0x8)
    -- the owner does not show that its line is modified
    ∷ at SnoopResults 17 (on b0)
    -- BREQ0# is not kept up while the write-back is held back
    ∷ at RequestLines 15 idle
    -- the owner answers HIT#
    ∷ at SnoopResults 17 (on (b0 + hit))
    ∷ [])
unfolding opened
write_back_held_off = (refl, (refl, refl, refl, refl, refl), refl)

-- A write-back begins three clocks after another agent's load of another line, and its line is read at once.
pub write_back_behind_read : Computed WriteBackBehindRead.run (
    -- the write-back is held back
    at Starts 14 (on b1)
    -- its agent shows that it still holds the line
    ∷ at SnoopResults 27 (on (b1 + hit))
    ∷ [])
unfolding opened
write_back_behind_read = (refl, (refl, refl, refl, refl, refl), refl)

-- A clean line is dropped for another one in the clock of another agent's snoop end, and then one in the clock before.
pub clean_victim_seen : Computed CleanVictimSeen.run (
    -- its agent does not show in the same clock that it holds the line
    at SnoopResults 14 (pair (b0 + ads) 0x6 0xc)
    -- its agent shows a clock later that it still holds the line
    ∷ at SnoopResults 27 (pair hit 0x2 0x2)
    ∷ [])
unfolding opened
clean_victim_seen = (refl, (refl, refl, refl, refl, refl), refl)

-- A store at the clock of a snoop end counts there: the line is shown as Modified.
pub store_at_snoop_end : Computed StoreAtSnoopEnd.run []
unfolding opened
store_at_snoop_end = (refl, (refl, refl, refl, refl, refl), refl)

-- A line that its agent drops at the clock of a snoop end is still shown there.
pub drop_at_snoop_end : Computed DropAtSnoopEnd.run []
unfolding opened
drop_at_snoop_end = (refl, (refl, refl, refl, refl, refl), refl)

-- A store hits in the very clock of another agent's snoop end.
pub hit_at_snoop_end : Computed HitAtSnoopEnd.run (
    -- the owner shows that it holds the line, not that it is modified
    at SnoopResults 16 (on hit)
    -- HIT# is asserted in a clock that is no snoop clock
    ∷ at Hazards 17 (on hit)
    -- HITM# is asserted in a clock that is no snoop clock
    ∷ at Hazards 17 (on hitm)
    -- the store adds to the last load
    ∷ entered 16 1 (entry 16 0 2 0 (Store 1 0x41 (LastPlus 0x5)) 0x5)
    -- the store stores two bytes
    ∷ entered 16 1 (entry 16 0 2 0 (Store 2 0x41 (Literal 0x5)) 0x5)
    -- the store stores into the next byte
    ∷ entered 16 1 (entry 16 0 2 0 (Store 1 0x42 (Literal 0x5)) 0x5)
    -- a load is logged in place of the store
    ∷ entered 16 1 (entry 16 0 2 0 (Load 1 0x41) 0x5)
    -- a store is logged in place of the load
    ∷ entered 11 0 (entry 11 0 0 0 (Store 1 0x40 (Literal 0x0)) 0x0)
    ∷ [])
unfolding opened
hit_at_snoop_end = (refl, (refl, refl, refl, refl, refl), refl)
