use Rattle.std.proofs.Common.{◌∙◌}
use Rattle.fsb_arbiter.proofs.History.{winner-some, winner-none}
use Rattle.fsb_arbiter.proofs.arbiter.Arbiter.winner.Goals as goal

pub returns-in-Some : goal.returns-in-Some
returns-in-Some c = λ h s.
    c.winner_among.ensures ∙ winner-some c.args.self.now h c.in-Some.lines s c.in-Some.is

pub returns-in-None : goal.returns-in-None
returns-in-None c = λ h s. winner-none c.args.self.now h s c.in-None.is
