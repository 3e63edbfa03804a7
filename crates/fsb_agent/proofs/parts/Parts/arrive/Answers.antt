use Rattle.std.proofs.Common.{sym, ◌∙◌}
use Rattle.fsb_agent.proofs.Requests.{found_own}
use Rattle.fsb_agent.proofs.parts.Parts.arrive.Goals as goal

pub land-requires-clause-found : goal.land-requires-clause-found
land-requires-clause-found c = found_own c.args.number c.args.self.now.outs.items c.in-Some.out
    (sym c.numbered.ensures ∙ c.in-Some.is)
