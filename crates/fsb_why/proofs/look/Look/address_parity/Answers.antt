use Rattle.std.proofs.Common.{sym, ◌∙◌}
use Rattle.fsb_why.proofs.Alone.{address-odd, address-not}
use Rattle.fsb_why.proofs.look.Look.address_parity.Goals as goal

pub returns-then-is_address_wrong : goal.returns-then-is_address_wrong
returns-then-is_address_wrong c = λ m v s.
    address-odd m v c.args.self.now.clock c.args.self.now.sample _ _ s.here c.is_low_even.ensures c.is_high_even.ensures
    (sym (c.is_address_wrong.ensures m v s) ∙ c.if-is_address_wrong.true)

pub returns-else-is_address_wrong : goal.returns-else-is_address_wrong
returns-else-is_address_wrong c = λ m v s. address-not m v c.args.self.now.clock (sym (c.is_address_wrong.ensures m v s) ∙ c.if-is_address_wrong.false)
