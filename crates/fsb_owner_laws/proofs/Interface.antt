-- The lemmas of this crate that others draw on; no other name of its proofs is used outside.

-- What is possible rests on the past.
pub use Rattle.fsb_owner_laws.proofs.AgreePossible.{possible-agree}
pub use Rattle.fsb_owner_laws.proofs.AgreeWords.{Alike}
-- A line of which nothing is shown keeps its joint states, and an untouched one those that it began with.
pub use Rattle.fsb_owner_laws.proofs.Quiet.{clock_quiet, unseen_quiet}
pub use Rattle.fsb_owner_laws.proofs.Untouched.{every_settled, unheld_settled, untouched}
-- The verdict, one sample on.
pub use Rattle.fsb_owner_laws.proofs.OneMore.{verdict-more}
