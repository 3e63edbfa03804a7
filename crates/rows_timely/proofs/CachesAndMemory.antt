-- What caches and memory are to hold in the middle and at the end of five runs: the states, the bytes by the log, and
-- the bytes that were put into memory.
use Rattle.std.proofs.Common.{◌≡◌, true, false, refl, take, slice_index}
use Rattle.fsb_line.specs.declared.state.Mesi.TheVariants.{Invalid, Shared, Exclusive, Modified}
use Rattle.fsb_timely.specs.Runs.{Run, past_of}
use Rattle.fsb_timely.specs.Hits.{line_state_of}
use Rattle.fsb_timely.specs.Kept.{is_named, bytes_now, bytes_put}
use Rattle.rows_timely.proofs.Opened.{opened}
use Rattle.rows_timely.proofs.LaidOut.{run_of}
use Rattle.rows_timely.proofs.LoadThenStoreHit.{run as hit_run}
use Rattle.rows_timely.proofs.DirtyVictimWrittenBack.{run as victim_run}
use Rattle.rows_timely.proofs.ThreeStoresChained.{run as chain_run}
use Rattle.rows_timely.proofs.FourOwners.{run as owners_run}
use Rattle.rows_timely.proofs.WindowEnds.{run as window_run}

-- a load and a store that hits, after the load
abbrev pub loaded : Run
loaded = run_of hit_run.plan (take 12 hit_run.trace) (take 1 hit_run.log)

-- a store, and the write-back of its line, before the write-back begins
abbrev pub stored : Run
stored = run_of victim_run.plan (take 14 victim_run.trace) (take 1 victim_run.log)

-- a line that is handed on twice, before its last bytes have come
abbrev pub handing : Run
handing = run_of chain_run.plan (take 22 chain_run.trace) (take 2 chain_run.log)

pub load_then_store_hit-keeps :
    (line_state_of (past_of loaded) 0 2 12 ≡ Exclusive)
    × (take 2 (bytes_now loaded 2) ≡ take 2 (bytes_put loaded 2))
    × (slice_index (bytes_now loaded 2) 0 ≡ 7)
    × (slice_index (bytes_now loaded 2) 1 ≡ 0)
    × (line_state_of (past_of hit_run) 0 2 60 ≡ Modified)
    × (slice_index (bytes_now hit_run 2) 0 ≡ 7)
    × (slice_index (bytes_now hit_run 2) 1 ≡ 5)
    × (slice_index (bytes_put hit_run 2) 0 ≡ 7)
    × (slice_index (bytes_put hit_run 2) 1 ≡ 0)
unfolding opened
load_then_store_hit-keeps = (refl, refl, refl, refl, refl, refl, refl, refl, refl)

pub dirty_victim_written_back-keeps :
    (line_state_of (past_of stored) 0 2 14 ≡ Modified)
    × (slice_index (bytes_now stored 2) 0 ≡ 1)
    × (slice_index (bytes_put stored 2) 0 ≡ 0)
    × (line_state_of (past_of victim_run) 0 2 60 ≡ Exclusive)
    × (line_state_of (past_of victim_run) 0 4 60 ≡ Invalid)
    × (slice_index (bytes_now victim_run 2) 0 ≡ 1)
    × (slice_index (bytes_put victim_run 2) 0 ≡ 1)
unfolding opened
dirty_victim_written_back-keeps = (refl, refl, refl, refl, refl, refl, refl)

pub three_stores_chained-keeps :
    (line_state_of (past_of handing) 1 2 22 ≡ Invalid)
    × (line_state_of (past_of handing) 2 2 22 ≡ Modified)
    × (slice_index (bytes_now handing 2) 0 ≡ 2)
    × (slice_index (bytes_put handing 2) 0 ≡ 1)
    × (slice_index (bytes_now chain_run 2) 0 ≡ 3)
    × (slice_index (bytes_put chain_run 2) 0 ≡ 2)
unfolding opened
three_stores_chained-keeps = (refl, refl, refl, refl, refl, refl)

pub four_owners-keeps :
    (line_state_of (past_of owners_run) 0 2 44 ≡ Shared)
    × (line_state_of (past_of owners_run) 1 2 44 ≡ Invalid)
    × (line_state_of (past_of owners_run) 3 2 44 ≡ Shared)
    × (line_state_of (past_of owners_run) 1 4 44 ≡ Modified)
    × (line_state_of (past_of owners_run) 2 4 44 ≡ Invalid)
    × (slice_index (bytes_put owners_run 2) 0 ≡ 2)
    × (slice_index (bytes_now owners_run 4) 0 ≡ 3)
    × (slice_index (bytes_put owners_run 4) 0 ≡ 1)
    × (is_named owners_run 6 ≡ true)
    × (is_named owners_run 5 ≡ false)
unfolding opened
four_owners-keeps = (refl, refl, refl, refl, refl, refl, refl, refl, refl, refl)

-- a line that was loaded stays clean though the agent stores into others
pub window_ends-keeps :
    (line_state_of (past_of window_run) 0 2 64 ≡ Exclusive)
    × (line_state_of (past_of window_run) 0 5 64 ≡ Modified)
unfolding opened
window_ends-keeps = (refl, refl)
