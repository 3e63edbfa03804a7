use Rattle.fsb_cohere.proofs.SoundSamples.{keeps_order}
use Rattle.fsb_cohere.proofs.laws.sound_samples_keep_order.Goals as goal

pub returns : goal.returns
returns c = keeps_order
