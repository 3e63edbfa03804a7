-- The lemmas of this crate that others draw on; no other name of its proofs is used outside.

-- An agent stays sound: by its hit, by the request that it begins, by a snoop end, and by what comes for it or ends.
pub use Rattle.fsb_agent.proofs.SoundPerforming.{sound_performed}
pub use Rattle.fsb_agent.proofs.SoundSending.{sound_sent}
pub use Rattle.fsb_agent.proofs.SoundSnooping.{sound_committed}
pub use Rattle.fsb_agent.proofs.SoundArriving.{sound_arrived, sound_ended}
