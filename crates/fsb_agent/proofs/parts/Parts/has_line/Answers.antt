use Rattle.std.proofs.Common.{sym, ◌∙◌}
use Rattle.fsb_agent.proofs.Unseen.{resident_found, resident_missed}
use Rattle.fsb_agent.proofs.parts.Parts.has_line.Goals as goal

pub returns-in-Some : goal.returns-in-Some
returns-in-Some c =
    resident_found c.args.self.now.hand.cache c.args.line c.in-Some.other (sym c.in-Some.is ∙ c.resident.ensures.sets)

pub returns-in-None : goal.returns-in-None
returns-in-None c =
    resident_missed c.args.self.now.hand.cache c.args.line (sym c.in-None.is ∙ c.resident.ensures.sets)
