use Rattle.std.proofs.Common.{sym, ◌∙◌}
use Rattle.fsb_agent.specs.Parts.{parts_view}
use Rattle.fsb_agent.proofs.Requests.{found_own}
use Rattle.fsb_agent.proofs.SoundArriving.{kept_granted}
use Rattle.fsb_agent.proofs.parts.Parts.end_upgrade.Goals as goal

pub land-requires-clause-found : goal.land-requires-clause-found
land-requires-clause-found c = found_own c.args.number c.args.self.now.outs.items c.in-Some.out
    (sym c.numbered.ensures ∙ c.in-Some.is)

pub land-requires-clause-granted : goal.land-requires-clause-granted
land-requires-clause-granted c =
    kept_granted (parts_view c.args.self.now) c.in-Some.out c.in-Some-kept.bytes c.requires.sound
    (found_own c.args.number c.args.self.now.outs.items c.in-Some.out (sym c.numbered.ensures ∙ c.in-Some.is))
    c.in-Some-kept.is
