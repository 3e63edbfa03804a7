-- Worked runs of profile 2, with upgrades and parity lines: each is a simulation, and is none with one thing changed.
use Rattle.std.proofs.Common.{refl, [], ◌∷◌}
use Rattle.rows_timely.proofs.Opened.{opened}
use Rattle.rows_timely.proofs.Words.{◌+◌, Store, Literal, on, pair, idle, b0, ads, hit, rs, dbsy, drdy, ap0, ap1, rp}
use Rattle.rows_timely.proofs.Words.{entry}
use Rattle.rows_timely.proofs.Worked.{Computed, at, entered, planned, ParityLines, RequestLines, Responses}
use Rattle.rows_timely.proofs.Worked.{SnoopResults, Starts}
use Rattle.rows_timely.proofs.ParityOfALoad
use Rattle.rows_timely.proofs.UpgradeOfASharedLine
use Rattle.rows_timely.proofs.UpgradeLostAndHanded
use Rattle.rows_timely.proofs.UpgradeLostAndMadeAgain
use Rattle.rows_timely.proofs.UpgradeRetried
use Rattle.rows_timely.proofs.UpgradeCancelled
use Rattle.rows_timely.proofs.DeferredWithUpgrades

-- In profile 2 the parity lines go with the address and the request.
pub parity_of_a_load : Computed ParityOfALoad.run (
    -- the parity comes a clock late: it is not there at the first clock
    at ParityLines 2 (pair (b0 + ads) 0x6 0x8)
    -- and it is there at the clock after the second
    ∷ at ParityLines 4 (on (ap0 + rp))
    -- the low address parity alone is left out
    ∷ at ParityLines 3 (pair rp 0x2 0x2)
    -- the request parity alone is left out
    ∷ at ParityLines 3 (pair ap0 0x2 0x2)
    -- the high address parity stands where its count is even
    ∷ at ParityLines 3 (pair (ap0 + ap1 + rp) 0x2 0x2)
    -- the parity lines are driven in profile 1
    ∷ planned ParityLines 2 (λ plan. record plan { profile = 1 })
    -- the low address parity alone is asserted where nothing is on its lines
    ∷ at ParityLines 4 (on ap0)
    -- the request parity alone is asserted where nothing is on its lines
    ∷ at ParityLines 4 (on rp)
    ∷ [])
unfolding opened
parity_of_a_load = (refl, (refl, refl, refl, refl, refl), refl)

-- A store into a shared line asks for its ownership alone: the upgrade moves no data.
pub upgrade_of_a_shared_line : Computed UpgradeOfASharedLine.run (
    -- the upgrade answers with data
    at Responses 20 (on (rs 7))
    -- the line that is held is asked for anew, by a read and invalidate
    ∷ at Starts 15 (pair rp 0x2 0x2)
    -- the upgrade is asked for in profile 1
    ∷ planned Starts 15 (λ plan. record plan { profile = 1 })
    -- the holder of the line stays silent
    ∷ at SnoopResults 18 idle
    -- the store waits for a clock after the answer
    ∷ entered 20 2 (entry 21 0 1 0 (Store 1 0x40 (Literal 0x1)) 0x1)
    ∷ [])
unfolding opened
upgrade_of_a_shared_line = (refl, (refl, refl, refl, refl, refl), refl)

-- Two agents ask for the ownership of one line: the second has lost, and is handed the line by the first.
pub upgrade_lost_and_handed : Computed UpgradeLostAndHanded.run (
    -- the first upgrade gives nothing: its agent shows no Modified line
    at SnoopResults 22 idle
    -- the lost upgrade is granted: its store is logged at its answer
    ∷ entered 26 3 (entry 26 1 1 0 (Store 1 0x40 (Literal 0x2)) 0x2)
    -- the lost upgrade is answered without data
    ∷ at Responses 26 (on (rs 5))
    ∷ [])
unfolding opened
upgrade_lost_and_handed = (refl, (refl, refl, refl, refl, refl), refl)

-- A lost upgrade that nobody can hand the line to gives nothing, and its agent asks anew.
pub upgrade_lost_and_made_again : Computed UpgradeLostAndMadeAgain.run (
    -- the lost upgrade is granted: its agent stores at the answer
    entered 33 4 (entry 33 1 1 0 (Store 1 0x40 (Literal 0x2)) 0x2)
    -- the lost upgrade is granted: its agent asks for nothing more
    ∷ at RequestLines 34 idle
    -- an upgrade is asked for a line that is not held
    ∷ at Starts 37 (pair ap0 0x0 0x20000)
    -- the line is shown as held though the lost upgrade took it away
    ∷ at SnoopResults 40 (on hit)
    -- the lost upgrade moves data
    ∷ at Responses 33 (on (rs 7 + dbsy + drdy))
    ∷ [])
unfolding opened
upgrade_lost_and_made_again = (refl, (refl, refl, refl, refl, refl), refl)

-- An upgrade is retried, and asked for again.
pub upgrade_retried : Computed UpgradeRetried.run []
unfolding opened
upgrade_retried = (refl, (refl, refl, refl, refl, refl), refl)

-- An upgrade that an address error cancels is asked for again.
pub upgrade_cancelled : Computed UpgradeCancelled.run []
unfolding opened
upgrade_cancelled = (refl, (refl, refl, refl, refl, refl), refl)

-- A load is deferred in profile 2: upgrades of its line are retried until the reply.
pub deferred_with_upgrades : Computed DeferredWithUpgrades.run []
unfolding opened
deferred_with_upgrades = (refl, (refl, refl, refl, refl, refl), refl)
