use Rattle.fsb_owner_laws.proofs.Sound.{sound_defers, sound_orderly}
use Rattle.fsb_owner_laws.proofs.laws.sound_traces_are_orderly.Goals as goal

pub returns : goal.returns
returns c = record { orderly = sound_orderly; defers = λ m v i h d. sound_defers m v i h d }
