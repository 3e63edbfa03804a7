-- What other crates draw on.
pub use Rattle.fsb_agent_view.proofs.Parts.{both, both_left, both_right, length-without, length-without-found}
pub use Rattle.fsb_agent_view.proofs.Parts.{list_all-found, list_all-from, list_all-from_two, list_all-without}
pub use Rattle.fsb_agent_view.proofs.Parts.{without_first-cons}
pub use Rattle.fsb_agent_view.proofs.Slots.{length-with_slot, lent-with_slot, slot_of-other, slot_of-same}
pub use Rattle.fsb_agent_view.proofs.Sounding.{apart-without, granted-without, sound_given_up, sound_handed}
pub use Rattle.fsb_agent_view.proofs.Beginning.{busy_from, sound_first}
