use Rattle.fsb_show.proofs.Addresses.{address_of_line}
use Rattle.fsb_show.proofs.laws.addresses_are_those_of_lines.Goals as goal

pub returns : goal.returns
returns c r e = address_of_line c.args.w.now c.args.clock r e
