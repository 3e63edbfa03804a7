-- Random benches, the second half: each run is a simulation, and is none with one thing changed.
use Rattle.std.proofs.Common.{refl, [], ◌∷◌}
use Rattle.rows_timely.proofs.Opened.{opened}
use Rattle.rows_timely.proofs.ParityByDigits.{opened_by_digits}
use Rattle.rows_timely.proofs.Words.{◌+◌, on, pair, chunk, full, b0, b1, b2, b3, lock, ads, aerr, hit, hitm, defer, rs}
use Rattle.rows_timely.proofs.Words.{trdy, dbsy, drdy, ap0, ap1, rp}
use Rattle.rows_timely.proofs.Worked.{Computed, ComputedByDigits, at, BusLock, Chunks, Hazards, ParityLines}
use Rattle.rows_timely.proofs.Worked.{Responses, SnoopResults}
use Rattle.rows_timely.proofs.Mixed14
use Rattle.rows_timely.proofs.Mixed15
use Rattle.rows_timely.proofs.Mixed16
use Rattle.rows_timely.proofs.Mixed17
use Rattle.rows_timely.proofs.Mixed18
use Rattle.rows_timely.proofs.Mixed19
use Rattle.rows_timely.proofs.Mixed20
use Rattle.rows_timely.proofs.Mixed21
use Rattle.rows_timely.proofs.Mixed22
use Rattle.rows_timely.proofs.Mixed23
use Rattle.rows_timely.proofs.Mixed24
use Rattle.rows_timely.proofs.Mixed25
use Rattle.rows_timely.proofs.Mixed26
use Rattle.rows_timely.proofs.Mixed27

-- A random bench in profile 2: 2 agents, ahead 3, 4 cache sets, 31 hazards, locked items.
pub mixed_14 : ComputedByDigits Mixed14.run (
    -- AERR# does not come
    at Hazards 5 (on b0)
    -- LOCK# stays a clock longer
    ∷ at BusLock 30 (on (b0 + lock + dbsy + drdy))
    -- AP1# is asserted where nothing is on its lines
    ∷ at ParityLines 4 (on (b0 + ap1))
    ∷ [])
unfolding opened_by_digits
mixed_14 = (refl, (refl, refl, refl, refl, refl), refl, refl)

-- A random bench in profile 2: 2 agents, ahead 2, 4 cache sets, 8 hazards, a bridge, locked items.
pub mixed_15 : Computed Mixed15.run (
    -- a byte of the data is another one
    at Chunks 10 (chunk (lock + dbsy + drdy) 0x100)
    -- LOCK# comes a clock early
    ∷ at BusLock 7 (on (b0 + lock))
    -- LOCK# stays a clock longer
    ∷ at BusLock 18 (on (b0 + b1 + lock))
    -- RP# is missing
    ∷ at ParityLines 20 (pair (b0 + b1 + ads + ap0) 0x6 0x16)
    -- the first data are missing
    ∷ at Responses 8 (pair (b0 + lock + ads + rs 7 + dbsy + ap0) 0x2 0x2c)
    ∷ [])
unfolding opened
mixed_15 = (refl, (refl, refl, refl, refl, refl), refl)

-- A random bench in profile 2: 4 agents, ahead 4, 2 cache sets, 3 hazards, a bridge, locked items.
pub mixed_16 : ComputedByDigits Mixed16.run (
    -- a byte of the data is another one
    at Chunks 10 (chunk (b0 + b1 + b3 + dbsy + drdy) 0x100)
    -- AP1# is asserted where nothing is on its lines
    ∷ at ParityLines 4 (on (b0 + b1 + b2 + b3 + ap1))
    -- TRDY# comes a clock early
    ∷ at Responses 11 (pair (b0 + b1 + b3 + ads + trdy + drdy + ap0) 0xe 0x1ffffff00)
    -- the owner does not show that it has the line modified
    ∷ at SnoopResults 9 (pair (b0 + b1 + b3 + defer + dbsy + drdy + rp) 0x2 0x40002)
    ∷ [])
unfolding opened_by_digits
mixed_16 = (refl, (refl, refl, refl, refl, refl), refl, refl)

-- A random bench in profile 2: 2 agents, ahead 2, 16 cache sets, 8 hazards, locked items.
pub mixed_17 : Computed Mixed17.run (
    -- AERR# does not come
    at Hazards 5 (pair (b1 + ads + rp) 0x6 0x9)
    -- RP# is missing
    ∷ at ParityLines 5 (pair (b1 + ads + aerr) 0x6 0x9)
    ∷ [])
unfolding opened
mixed_17 = (refl, (refl, refl, refl, refl, refl), refl)

-- A random bench in profile 2: 1 agent, ahead 4, 2 cache sets, 9 hazards, a bridge, locked items.
pub mixed_18 : ComputedByDigits Mixed18.run (
    -- the data are those before the store or the setting
    at Chunks 10 (on (b0 + dbsy + drdy))
    -- RP# is missing
    ∷ at ParityLines 7 (pair 0 0x2 0x2002)
    ∷ [])
unfolding opened_by_digits
mixed_18 = (refl, (refl, refl, refl, refl, refl), refl, refl)

-- A random bench in profile 1: 2 agents, ahead 3, 1 cache set, 8 hazards, locked items.
pub mixed_19 : Computed Mixed19.run (
    -- the data are those before the store or the setting
    at Chunks 10 (on (dbsy + drdy))
    ∷ [])
unfolding opened
mixed_19 = (refl, (refl, refl, refl, refl, refl), refl)

-- A random bench in profile 2: 2 agents, ahead 2, 2 cache sets, 3 hazards.
pub mixed_20 : Computed Mixed20.run []
unfolding opened
mixed_20 = (refl, (refl, refl, refl, refl, refl), refl)

-- A random bench in profile 1: 3 agents, ahead 1, 4 cache sets, 10 hazards, a bridge, locked items.
pub mixed_21 : Computed Mixed21.run (
    -- the data are those before the store or the setting
    at Chunks 9 (pair (hitm + dbsy + drdy) 0x2 0x40002)
    -- LOCK# comes a clock early
    ∷ at BusLock 23 (on (b2 + lock))
    -- TRDY# comes a clock early
    ∷ at Responses 11 (on (trdy + drdy))
    -- the owner does not show that it has the line modified
    ∷ at SnoopResults 9 (full (dbsy + drdy) 0x2 0x40002 0x45000000000000)
    ∷ [])
unfolding opened
mixed_21 = (refl, (refl, refl, refl, refl, refl), refl)

-- A random bench in profile 2: 2 agents, ahead 3, 16 cache sets, 0 hazards, a bridge, locked items.
pub mixed_22 : ComputedByDigits Mixed22.run (
    -- the data are those before the store or the setting
    at Chunks 9 (pair (b1 + hit + dbsy + drdy + rp) 0x2 0x2002)
    -- LOCK# comes a clock early
    ∷ at BusLock 30 (chunk (b0 + lock + dbsy + drdy) 0x71000000000000)
    -- RP# is missing
    ∷ at ParityLines 5 (pair (b0 + b1 + ads) 0x6 0xc0)
    -- HIT# does not come
    ∷ at SnoopResults 9 (full (b1 + dbsy + drdy + rp) 0x2 0x2002 0x71000000000000)
    ∷ [])
unfolding opened_by_digits
mixed_22 = (refl, (refl, refl, refl, refl, refl), refl, refl)

-- A random bench in profile 2: 1 agent, ahead 3, 4 cache sets, 27 hazards, a bridge, locked items.
pub mixed_23 : ComputedByDigits Mixed23.run (
    -- LOCK# comes a clock late
    at BusLock 24 (pair (b0 + ads + ap0) 0x2 0x1ffffffc)
    -- RP# is missing
    ∷ at ParityLines 13 (pair ap0 0x2 0x2)
    ∷ [])
unfolding opened_by_digits
mixed_23 = (refl, (refl, refl, refl, refl, refl), refl, refl)

-- A random bench in profile 1: 4 agents, ahead 1, 1 cache set, 10 hazards, a bridge, locked items.
pub mixed_24 : Computed Mixed24.run (
    -- TRDY# comes a clock early
    at Responses 11 (full (b3 + ads + trdy + drdy) 0xe 0x1ffffff00 0x3d000000000000)
    -- the owner does not show that it has the line modified
    ∷ at SnoopResults 9 (pair (b3 + dbsy + drdy) 0x2 0x40002)
    ∷ [])
unfolding opened
mixed_24 = (refl, (refl, refl, refl, refl, refl), refl)

-- A random bench in profile 1: 4 agents, ahead 4, 2 cache sets, 17 hazards, a bridge, locked items.
pub mixed_25 : Computed Mixed25.run (
    -- TRDY# comes a clock early
    at Responses 11 (pair (b1 + ads + trdy + drdy) 0xa 0x1ffffff00)
    -- HIT# does not come
    ∷ at SnoopResults 12 (pair (b0 + trdy) 0x2 0x20002)
    ∷ [])
unfolding opened
mixed_25 = (refl, (refl, refl, refl, refl, refl), refl)

-- A random bench in profile 2: 2 agents, ahead 4, 1 cache set, 9 hazards.
pub mixed_26 : ComputedByDigits Mixed26.run (
    -- the data are those before the store or the setting
    at Chunks 8 (on (rs 7 + dbsy + drdy))
    -- the snoop does not stall
    ∷ at Hazards 18 (chunk drdy 0x7dc8000000010000)
    -- RP# is missing
    ∷ at ParityLines 14 (pair (b0 + ads) 0x6 0x113)
    -- TRDY# comes a clock early
    ∷ at Responses 12 (on (b0 + trdy))
    -- the owner does not show that it has the line modified
    ∷ at SnoopResults 9 (chunk (dbsy + drdy) 0xe500000000)
    ∷ [])
unfolding opened_by_digits
mixed_26 = (refl, (refl, refl, refl, refl, refl), refl, refl)

-- A random bench in profile 1: 1 agent, ahead 1, 1 cache set, 36 hazards, a bridge.
pub mixed_27 : Computed Mixed27.run (
    -- the data are those before the store or the setting
    at Chunks 9 (on (rs 7 + dbsy + drdy))
    ∷ [])
unfolding opened
mixed_27 = (refl, (refl, refl, refl, refl, refl), refl)
