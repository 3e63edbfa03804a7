use Rattle.std.proofs.Common.{sym, ◌∙◌}
use Rattle.fsb_agent.specs.Parts.{need_after, parts_view}
use Rattle.fsb_agent.proofs.Wants.{want_for-line, want_for-victim}
use Rattle.fsb_agent.proofs.parts.Parts.want_for.Goals as goal

pub returns-in-Some : goal.returns-in-Some
returns-in-Some c = λ earlier. want_for-victim (parts_view c.args.self.now) (need_after earlier c.args.need.now)
    c.in-Some.line c.free_id-did.result (sym c.victim.ensures ∙ c.in-Some.is) c.free_id-did.ensures

pub returns-in-None : goal.returns-in-None
returns-in-None c = λ earlier.
    want_for-line (parts_view c.args.self.now) (need_after earlier c.args.need.now) c.kind_for-kind.result
    c.free_id-did.result c.may_be_deferred.result
    (sym c.victim.ensures ∙ c.in-None.is) (c.kind_for-kind.ensures earlier) c.free_id-did.ensures
    c.may_be_deferred.ensures
