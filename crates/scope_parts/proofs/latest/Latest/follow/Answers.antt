use Rattle.std.proofs.Common.{refl}
use Rattle.scope_parts.proofs.Remembering.{remembers_more}
use Rattle.scope_parts.proofs.latest.Latest.follow.Goals as goal

pub returns : goal.returns
returns c p m es e r found =
    remembers_more c.args.self.now (record { found = c.args.found; before = c.args.self.now.found }) p m es e r found refl
