use Rattle.fsb_agent_run.proofs.SoundEvents.{clock-seen, sound-clock}
use Rattle.fsb_agent_run.proofs.calls.clocks_keep_agents_sound.Goals as goal

pub returns-clause-seen : goal.returns-clause-seen
returns-clause-seen c =
    λ r a d bytes v h some few sound view owed. clock-seen r a d bytes v h some few sound view owed

pub returns-clause-sound : goal.returns-clause-sound
returns-clause-sound c =
    λ r a d bytes v h some few sound view owed. sound-clock r a d bytes v h some few sound view owed
