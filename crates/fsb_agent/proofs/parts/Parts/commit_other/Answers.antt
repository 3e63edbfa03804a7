use Rattle.std.proofs.Common.{rules}
use Rattle.fsb_agent.specs.Parts.{parts_view}
use Rattle.fsb_agent.proofs.SoundWinning.{unpromised}
use Rattle.fsb_agent.proofs.parts.Parts.commit_other.Goals as goal

pub give-requires-clause-free : goal.give-requires-clause-free
give-requires-clause-free c = unpromised (parts_view c.args.self.now) c.args.request.now.line c.requires.sound
    (search rules)
