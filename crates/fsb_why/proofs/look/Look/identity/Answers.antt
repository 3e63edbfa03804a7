use Rattle.std.proofs.Common.{sym, ◌∙◌}
use Rattle.fsb_why.proofs.Beginning.{owned-alone, owned-none}
use Rattle.fsb_reasons.proofs.Interface.{back_parts}
use Rattle.fsb_signal.specs.declared.lines.TheConstants.Lines.{ADS}
use Rattle.fsb_why.proofs.look.Look.identity.Goals as goal

pub returns-in-Some : goal.returns-in-Some
returns-in-Some c = λ m v s.
    let t = sym (c.one_back.ensures m v s) ∙ c.if-one_back.true in
    let l = (back_parts ADS v c.args.self.now.clock 1 t).0 in
    c.other_id.ensures m v s t (sym (c.in-Some.ensures m v s l))

pub returns-in-None : goal.returns-in-None
returns-in-None c = λ m v s.
    let t = sym (c.one_back.ensures m v s) ∙ c.if-one_back.true in
    let l = (back_parts ADS v c.args.self.now.clock 1 t).0 in
    owned-none m v c.args.self.now.clock t (sym (c.in-None.ensures m v s l))

pub returns-else-one_back : goal.returns-else-one_back
returns-else-one_back c = λ m v s. owned-alone m v c.args.self.now.clock (sym (c.one_back.ensures m v s) ∙ c.if-one_back.false)
