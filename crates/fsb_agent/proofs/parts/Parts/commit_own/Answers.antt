use Rattle.std.proofs.Common.{sym, ◌∙◌}
use Rattle.fsb_agent.specs.Parts.{parts_view}
use Rattle.fsb_agent.proofs.SoundWinning.{grantable-own}
use Rattle.fsb_agent.proofs.parts.Parts.commit_own.Goals as goal

pub granted-requires : goal.granted-requires
granted-requires c = grantable-own (parts_view c.args.self.now) c.args.number c.args.outcome c.in-Some.out
    c.requires.sound c.requires.may (sym c.numbered.ensures ∙ c.in-Some.is)

pub granted-requires-in-Handed : goal.granted-requires-in-Handed
granted-requires-in-Handed c = grantable-own (parts_view c.args.self.now) c.args.number c.args.outcome
    c.in-Some.out c.requires.sound c.requires.may (sym c.numbered.ensures ∙ c.in-Some.is)

pub upgrade-requires : goal.upgrade-requires
upgrade-requires c = grantable-own (parts_view c.args.self.now) c.args.number c.args.outcome c.in-Some.out
    c.requires.sound c.requires.may (sym c.numbered.ensures ∙ c.in-Some.is)
