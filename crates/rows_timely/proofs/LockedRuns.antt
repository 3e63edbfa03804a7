-- Worked runs with locked items: each is a simulation, and is none with one thing changed.
use Rattle.std.proofs.Common.{refl, set, [], ◌∷◌}
use Rattle.rows_timely.proofs.Opened.{opened}
use Rattle.rows_timely.proofs.Words.{◌+◌, Store, Literal, LastPlus, on, pair, chunk, b0, b1, b2, lock, trdy, dbsy, drdy}
use Rattle.rows_timely.proofs.Words.{entry}
use Rattle.rows_timely.proofs.Worked.{Computed, at, logged, entered, BusLock, Chunks, Completions, Hazards}
use Rattle.rows_timely.proofs.Worked.{Responses, Starts}
use Rattle.rows_timely.proofs.LockedIncrements
use Rattle.rows_timely.proofs.LockedItemRetried
use Rattle.rows_timely.proofs.LockedTwice
use Rattle.rows_timely.proofs.SharedLineOfLock
use Rattle.rows_timely.proofs.ErrorsUnderLock
use Rattle.rows_timely.proofs.UpgradeInALockedItem

-- Two agents increment a byte in locked items.
pub locked_increments : Computed LockedIncrements.run (
    -- LOCK# is kept up after the completion
    at BusLock 12 (on (b1 + lock))
    -- LOCK# is dropped before the response
    ∷ at BusLock 20 (on trdy)
    -- the store is logged a clock after its load
    ∷ entered 11 1 (entry 12 0 0 1 (Store 1 0x40 (LastPlus 0x1)) 0x1)
    -- the request of a locked item has DEN#
    ∷ at Starts 3 (pair (b1 + lock) 0x2 0x2)
    ∷ [])
unfolding opened
locked_increments = (refl, (refl, refl, refl, refl, refl), refl)

-- A locked item of two lines, of which the second is retried.
pub locked_item_retried : Computed LockedItemRetried.run (
    -- LOCK# is kept up after the retry
    at BusLock 21 (on (b0 + lock))
    -- the first store is logged by itself
    ∷ entered 11 0 (entry 11 0 0 0 (Store 1 0x40 (Literal 0x1)) 0x1)
    -- DEFER# is not asserted
    ∷ at Hazards 18 (on lock)
    -- LOCK# is released between the two requests
    ∷ at BusLock 13 (on b0)
    ∷ [])
unfolding opened
locked_item_retried = (refl, (refl, refl, refl, refl, refl), refl)

-- Two locked items of one agent, while others are retried, and complete a locked item without the bus.
pub locked_twice : Computed LockedTwice.run (
    -- LOCK# is dropped after the other agent's retry
    at BusLock 19 (on b2)
    -- LOCK# is dropped after the other agent's locked item
    ∷ at BusLock 22 (on (b2 + dbsy + drdy))
    -- LOCK# is not asserted for the second locked item
    ∷ at BusLock 31 (pair 0 0x2 0x0)
    -- the last data have the store that they bring
    ∷ at Chunks 24 (chunk (b2 + lock + drdy) 0x11)
    ∷ [])
unfolding opened
locked_twice = (refl, (refl, refl, refl, refl, refl), refl)

-- A locked item of two lines, of which one is shared and its request is retried.
pub shared_line_of_lock : Computed SharedLineOfLock.run (
    -- the item is completed when the other line arrives
    logged Completions 32 (λ log. set (set log 2 (entry 32 0 2 1 (Store 1 0x60 (Literal 0x2)) 0x2)) 3 (entry 32 0 2 0 (Store 1 0x40 (Literal 0x1)) 0x1))
    ∷ [])
unfolding opened
shared_line_of_lock = (refl, (refl, refl, refl, refl, refl), refl)

-- A locked request and a write-back within the locked item are cancelled.
pub errors_under_lock : Computed ErrorsUnderLock.run (
    -- LOCK# is kept up after the locked request's error
    at BusLock 18 (on (b0 + lock))
    -- LOCK# is dropped after the write-back's error
    ∷ at BusLock 38 (on b0)
    -- the fifth request has the waits of the fourth
    ∷ at Responses 46 (on (lock + trdy))
    ∷ [])
unfolding opened
errors_under_lock = (refl, (refl, refl, refl, refl, refl), refl)

-- A locked item gets the ownership of its lines by upgrades, under the bus lock.
pub upgrade_in_a_locked_item : Computed UpgradeInALockedItem.run []
unfolding opened
upgrade_in_a_locked_item = (refl, (refl, refl, refl, refl, refl), refl)
