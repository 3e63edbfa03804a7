use Rattle.std.proofs.Common.{rules, ◌≡◌, ◌∙◌}
use Rattle.fsb_audit.proofs.Asked.{begun_by, begun_from}
use Rattle.fsb_audit.proofs.audit.Audit.begun.Goals as goal

pub returns-in_err-second : goal.returns-in_err-second
unfolding begun_from
returns-in_err-second c h e =
    let is : c.from_residual.result ≡ begun_from c.args.self.now.first c.args.sample.now = search rules in
    is ∙ begun_by h c.args.sample.now c.args.self.now.first e

pub returns-in_err-self : goal.returns-in_err-self
unfolding begun_from
returns-in_err-self c h e =
    let is : c.from_residual-in_err-self.result ≡ begun_from c.args.self.now.first c.args.sample.now = search rules in
    is ∙ begun_by h c.args.sample.now c.args.self.now.first e

pub returns : goal.returns
unfolding begun_from
returns c h e =
    let is : c.ok.result ≡ begun_from c.args.self.now.first c.args.sample.now = search rules in
    is ∙ begun_by h c.args.sample.now c.args.self.now.first e
