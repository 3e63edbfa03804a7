use Rattle.std.proofs.Common.{sym, ◌∙◌}
use Rattle.fsb_why.proofs.Beginning.{unwon-parts, unwon-not}
use Rattle.fsb_why.proofs.look.Look.arbitration.Goals as goal

pub returns-then-is_unwon : goal.returns-then-is_unwon
returns-then-is_unwon c = λ m v s.
    let p = unwon-parts v c.args.self.now.clock (sym (c.is_unwon.ensures m v s) ∙ c.if-is_unwon.true) in
    c.unwon.ensures m v s p.0 p.1

pub returns-else-is_unwon : goal.returns-else-is_unwon
returns-else-is_unwon c = λ m v s. unwon-not m v c.args.self.now.clock (sym (c.is_unwon.ensures m v s) ∙ c.if-is_unwon.false)
