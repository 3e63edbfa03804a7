-- Random benches, the first half: each run is a simulation, and is none with one thing changed.
use Rattle.std.proofs.Common.{refl, [], ◌∷◌}
use Rattle.rows_timely.proofs.Opened.{opened}
use Rattle.rows_timely.proofs.ParityByDigits.{opened_by_digits}
use Rattle.rows_timely.proofs.Words.{◌+◌, on, pair, chunk, full, idle, b0, b1, b2, b3, bpri, lock, ads, aerr, hit}
use Rattle.rows_timely.proofs.Words.{defer, rs, trdy, dbsy, drdy, ap0, ap1, rp}
use Rattle.rows_timely.proofs.Worked.{Computed, ComputedByDigits, at, BusLock, Chunks, Hazards, ParityLines}
use Rattle.rows_timely.proofs.Worked.{RequestLines, Responses, SnoopResults, Starts}
use Rattle.rows_timely.proofs.Mixed00
use Rattle.rows_timely.proofs.Mixed01
use Rattle.rows_timely.proofs.Mixed02
use Rattle.rows_timely.proofs.Mixed03
use Rattle.rows_timely.proofs.Mixed04
use Rattle.rows_timely.proofs.Mixed05
use Rattle.rows_timely.proofs.Mixed06
use Rattle.rows_timely.proofs.Mixed07
use Rattle.rows_timely.proofs.Mixed08
use Rattle.rows_timely.proofs.Mixed09
use Rattle.rows_timely.proofs.Mixed10
use Rattle.rows_timely.proofs.Mixed11
use Rattle.rows_timely.proofs.Mixed12
use Rattle.rows_timely.proofs.Mixed13

-- A random bench in profile 2: 3 agents, ahead 2, 1 cache set, 17 hazards, locked items.
pub mixed_00 : ComputedByDigits Mixed00.run (
    -- DEFER# does not come
    at Hazards 6 (pair (b2 + rp) 0x2 0x20002)
    -- LOCK# stays a clock longer
    ∷ at BusLock 32 (on (b0 + b2 + lock))
    -- AP1# is asserted where nothing is on its lines
    ∷ at ParityLines 4 (on (b1 + b2 + ap1))
    -- the second response does not come
    ∷ at Responses 11 (full (b0 + ads + dbsy + drdy + ap0) 0xe 0x1ffffff00 0xc3)
    -- HIT# does not come
    ∷ at SnoopResults 17 (pair (b1 + ads + defer + trdy + rp) 0xa 0x1ffffff08)
    -- the second request does not begin
    ∷ at Starts 5 (pair (b1 + b2 + ap0 + rp) 0xa 0x1ffffff00)
    ∷ [])
unfolding opened_by_digits
mixed_00 = (refl, (refl, refl, refl, refl, refl), refl, refl)

-- A random bench in profile 1: 2 agents, ahead 4, 16 cache sets, 16 hazards, a bridge, locked items.
pub mixed_01 : Computed Mixed01.run (
    -- BPRI# comes a clock late
    at RequestLines 14 (pair (lock + drdy) 0x2 0x24000)
    -- HIT# is asserted at no snoop clock
    ∷ at Hazards 7 (on (b1 + lock + hit))
    -- LOCK# comes a clock late
    ∷ at BusLock 5 (pair (b1 + ads) 0x2 0xc8)
    -- LOCK# stays a clock longer
    ∷ at BusLock 21 (on (b1 + bpri + lock))
    -- the second response does not come
    ∷ at Responses 11 (on (b1 + lock + dbsy + drdy))
    -- the first request names another line
    ∷ at Starts 2 (pair (b0 + b1 + ads) 0x2 0xcb)
    ∷ [])
unfolding opened
mixed_01 = (refl, (refl, refl, refl, refl, refl), refl)

-- A random bench in profile 1: 4 agents, ahead 4, 8 cache sets, 5 hazards, a bridge.
pub mixed_02 : Computed Mixed02.run (
    -- BREQ1# is missing
    at RequestLines 0 (on (b0 + b2 + b3))
    -- BPRI# comes a clock late
    ∷ at RequestLines 46 (on (b3 + hit + defer))
    -- a byte of the data is another one
    ∷ at Chunks 10 (chunk (b1 + b3 + dbsy + drdy) 0x100)
    -- HIT# is asserted at no snoop clock
    ∷ at Hazards 7 (on (b1 + b2 + b3 + hit))
    -- the first data are missing
    ∷ at Responses 8 (pair (b1 + b2 + b3 + ads + rs 7 + dbsy) 0xe 0x1ffffff02)
    -- HIT# does not come
    ∷ at SnoopResults 15 (pair (b3 + drdy) 0x2 0x22002)
    -- the first request has another ID
    ∷ at Starts 3 (pair (b1 + b2 + b3) 0x2 0x10002)
    ∷ [])
unfolding opened
mixed_02 = (refl, (refl, refl, refl, refl, refl), refl)

-- A random bench in profile 2: 4 agents, ahead 1, 2 cache sets, 18 hazards, locked items.
pub mixed_03 : ComputedByDigits Mixed03.run (
    -- BREQ1# is missing
    at RequestLines 0 (on (b0 + b2 + b3))
    -- a byte of the data is another one
    ∷ at Chunks 10 (chunk (b3 + dbsy + drdy) 0x100)
    -- LOCK# comes a clock late
    ∷ at BusLock 44 (pair (b0 + b3 + ads + trdy + ap0) 0x2 0x8)
    -- AP1# is asserted where nothing is on its lines
    ∷ at ParityLines 4 (on (b1 + b2 + b3 + ap1))
    -- the first data are missing
    ∷ at Responses 8 (pair (b2 + b3 + ads + rs 7 + dbsy + rp) 0x6 0xc)
    -- HIT# comes though no other agent holds the line
    ∷ at SnoopResults 6 (pair (b2 + b3 + hit + rp) 0x2 0x20002)
    -- the second request does not begin
    ∷ at Starts 5 (pair (b1 + b2 + b3) 0x2 0x18)
    ∷ [])
unfolding opened_by_digits
mixed_03 = (refl, (refl, refl, refl, refl, refl), refl, refl)

-- A random bench in profile 1: 2 agents, ahead 2, 1 cache set, 10 hazards, a bridge, locked items.
pub mixed_04 : Computed Mixed04.run (
    -- BREQ1# is missing
    at RequestLines 0 (on b0)
    -- the snoop does not stall
    ∷ at Hazards 6 (pair 0 0x2 0x20002)
    -- the first request names another line
    ∷ at Starts 2 (pair (b0 + b1 + ads) 0xe 0x2000000e)
    ∷ [])
unfolding opened
mixed_04 = (refl, (refl, refl, refl, refl, refl), refl)

-- A random bench in profile 2: 3 agents, ahead 3, 2 cache sets, 2 hazards.
pub mixed_05 : ComputedByDigits Mixed05.run (
    -- a byte of the data is another one
    at Chunks 10 (chunk (b0 + b1 + dbsy + drdy) 0x100)
    -- AP1# is asserted where nothing is on its lines
    ∷ at ParityLines 4 (on (b0 + b1 + b2 + ap1))
    -- the first data are missing
    ∷ at Responses 8 (pair (b0 + b1 + b2 + ads + rs 7 + dbsy + ap1) 0x2 0x1f75a4b7)
    -- the first request has another ID
    ∷ at Starts 3 (pair (b1 + b2 + ap0 + rp) 0x2 0x10002)
    ∷ [])
unfolding opened_by_digits
mixed_05 = (refl, (refl, refl, refl, refl, refl), refl, refl)

-- A random bench in profile 1: 2 agents, ahead 3, 1 cache set, 9 hazards, locked items.
pub mixed_06 : Computed Mixed06.run (
    -- AERR# does not come
    at Hazards 5 (pair (b1 + lock + ads) 0x2 0x127d12d5)
    -- LOCK# stays a clock longer
    ∷ at BusLock 15 (on (b0 + b1 + lock))
    -- the second request does not begin
    ∷ at Starts 5 (pair (b1 + lock + aerr) 0x2 0x127d12d5)
    ∷ [])
unfolding opened
mixed_06 = (refl, (refl, refl, refl, refl, refl), refl)

-- A random bench in profile 2: 2 agents, ahead 3, 8 cache sets, 16 hazards, a bridge.
pub mixed_07 : ComputedByDigits Mixed07.run (
    -- BNR# does not come
    at Hazards 10 (on b1)
    -- AP1# is asserted where nothing is on its lines
    ∷ at ParityLines 4 (on (b1 + ap1))
    -- the first request names another line
    ∷ at Starts 2 (pair (b0 + b1 + ads + ap1 + rp) 0xa 0x8128b6b0)
    ∷ [])
unfolding opened_by_digits
mixed_07 = (refl, (refl, refl, refl, refl, refl), refl, refl)

-- A random bench in profile 1: 1 agent, ahead 4, 8 cache sets, 31 hazards, a bridge, locked items.
pub mixed_08 : Computed Mixed08.run (
    -- BPRI# comes a clock late
    at RequestLines 15 idle
    -- DEFER# does not come
    ∷ at Hazards 6 idle
    -- LOCK# comes a clock early
    ∷ at BusLock 41 (on (b0 + lock))
    -- HIT# comes though no other agent holds the line
    ∷ at SnoopResults 6 (on (hit + defer))
    -- the first request has another ID
    ∷ at Starts 3 (pair 0 0x2 0x10002)
    ∷ [])
unfolding opened
mixed_08 = (refl, (refl, refl, refl, refl, refl), refl)

-- A random bench in profile 2: 1 agent, ahead 4, 2 cache sets, 2 hazards, a bridge, locked items.
pub mixed_09 : ComputedByDigits Mixed09.run (
    -- a byte of the data is another one
    at Chunks 10 (chunk (dbsy + drdy) 0x100)
    -- LOCK# comes a clock late
    ∷ at BusLock 19 (pair (b0 + ads + ap0) 0x2 0xd3)
    -- RP# is missing
    ∷ at ParityLines 7 (pair 0 0x2 0x2002)
    -- the second response does not come
    ∷ at Responses 12 (on (dbsy + drdy))
    -- HIT# comes though no other agent holds the line
    ∷ at SnoopResults 6 (pair (b0 + ads + hit + ap0) 0x2 0xe6)
    ∷ [])
unfolding opened_by_digits
mixed_09 = (refl, (refl, refl, refl, refl, refl), refl, refl)

-- A random bench in profile 1: 3 agents, ahead 4, 1 cache set, 20 hazards, a bridge, locked items.
pub mixed_10 : Computed Mixed10.run (
    -- a byte of the data is another one
    at Chunks 10 (chunk (dbsy + drdy) 0x100)
    -- the snoop does not stall
    ∷ at Hazards 21 (pair 0 0x2 0x0)
    -- the first data are missing
    ∷ at Responses 8 (pair (b2 + ads + rs 7 + dbsy) 0x2 0x1ffffffa)
    -- HIT# comes though no other agent holds the line
    ∷ at SnoopResults 6 (pair (b2 + hit) 0x2 0x20002)
    -- the second request does not begin
    ∷ at Starts 5 (pair (b1 + b2) 0x6 0x1ffffff9)
    ∷ [])
unfolding opened
mixed_10 = (refl, (refl, refl, refl, refl, refl), refl)

-- A random bench in profile 2: 3 agents, ahead 1, 2 cache sets, 3 hazards, locked items.
pub mixed_11 : ComputedByDigits Mixed11.run (
    -- BREQ1# is missing
    at RequestLines 0 (on b0)
    -- the data are those before the store or the setting
    ∷ at Chunks 8 (on (rs 7 + dbsy + drdy))
    -- BNR# does not come
    ∷ at Hazards 24 (full (b2 + ads + rs 5 + dbsy + drdy) 0xe 0xa9769057 0x7100fb094bce)
    -- LOCK# comes a clock late
    ∷ at BusLock 34 (full (b1 + ads + hit + dbsy + drdy + rp) 0xa 0xa976904f 0x630000f70000)
    -- AP1# is asserted where nothing is on its lines
    ∷ at ParityLines 4 (on (b1 + ap1))
    -- the second response does not come
    ∷ at Responses 12 (pair (b2 + ads + dbsy + drdy) 0xe 0xa976904c)
    ∷ [])
unfolding opened_by_digits
mixed_11 = (refl, (refl, refl, refl, refl, refl), refl, refl)

-- A random bench in profile 1: 1 agent, ahead 2, 1 cache set, 22 hazards, a bridge.
pub mixed_12 : Computed Mixed12.run (
    -- BNR# does not come
    at Hazards 13 idle
    ∷ [])
unfolding opened
mixed_12 = (refl, (refl, refl, refl, refl, refl), refl)

-- A random bench in profile 1: 1 agent, ahead 4, 4 cache sets, 36 hazards, a bridge, locked items.
pub mixed_13 : Computed Mixed13.run (
    -- BPRI# comes a clock late
    at RequestLines 21 idle
    -- DEFER# does not come
    ∷ at Hazards 6 (pair (b0 + ads) 0xe 0x1ffffff78)
    ∷ [])
unfolding opened
mixed_13 = (refl, (refl, refl, refl, refl, refl), refl)
