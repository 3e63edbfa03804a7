-- The lemmas of this crate that others draw on; no other name of its proofs is used outside.

-- Clocks and entries as rows are laid out.
pub use Rattle.rows_timely.proofs.LaidOut.{clock, entry, idle}
-- A run, opened for computing.
unfoldable pub use Rattle.rows_timely.proofs.Opened.{opened}
-- Runs.
pub use Rattle.rows_timely.proofs.CancelledByAddressError.{run as cancelled_by_address_error}
pub use Rattle.rows_timely.proofs.DeferredAndReplied.{run as deferred_and_replied}
pub use Rattle.rows_timely.proofs.DirtyVictimWrittenBack.{run as dirty_victim_written_back}
pub use Rattle.rows_timely.proofs.DropAtSnoopEnd.{run as drop_at_snoop_end}
pub use Rattle.rows_timely.proofs.LoadThenStoreHit.{run as load_then_store_hit}
pub use Rattle.rows_timely.proofs.LockedIncrements.{run as locked_increments}
pub use Rattle.rows_timely.proofs.ModifiedOverridesRetry.{run as modified_overrides_retry}
pub use Rattle.rows_timely.proofs.SharedLineInvalidated.{run as shared_line_invalidated}
pub use Rattle.rows_timely.proofs.StalledSnoop.{run as stalled_snoop}
pub use Rattle.rows_timely.proofs.StoreAtSnoopEnd.{run as store_at_snoop_end}
pub use Rattle.rows_timely.proofs.StoreHandedOverBeforeArrival.{run as store_handed_over_before_arrival}
pub use Rattle.rows_timely.proofs.ThreeStoresChained.{run as three_stores_chained}
pub use Rattle.rows_timely.proofs.UpgradeLostAndHanded.{run as upgrade_lost_and_handed}
pub use Rattle.rows_timely.proofs.UpgradeLostAndMadeAgain.{run as upgrade_lost_and_made_again}
pub use Rattle.rows_timely.proofs.UpgradeOfASharedLine.{run as upgrade_of_a_shared_line}
pub use Rattle.rows_timely.proofs.UpgradeRetried.{run as upgrade_retried}
pub use Rattle.rows_timely.proofs.WriteBackHeldOff.{run as write_back_held_off}
