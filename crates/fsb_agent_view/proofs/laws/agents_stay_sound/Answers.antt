use Rattle.fsb_agent_view.proofs.Beginning.{sound_first}
use Rattle.fsb_agent_view.proofs.Sounding.{sound_given_up, sound_handed}
use Rattle.fsb_agent_view.proofs.laws.agents_stay_sound.Goals as goal

pub returns-clause-first : goal.returns-clause-first
returns-clause-first c number items lines ahead profile = sound_first number items lines ahead profile

pub returns-clause-handed : goal.returns-clause-handed
returns-clause-handed c v number = sound_handed v number

pub returns-clause-given_up : goal.returns-clause-given_up
returns-clause-given_up c v number = sound_given_up v number
