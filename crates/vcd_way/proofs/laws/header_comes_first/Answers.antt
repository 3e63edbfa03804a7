use Rattle.vcd_way.proofs.Headings.{header-known, header-known-at-end, header-first, header-longer, header-ended, header-whole}
use Rattle.vcd_way.proofs.laws.header_comes_first.Goals as goal

pub returns-clause-over : goal.returns-clause-over
returns-clause-over g c = header-known

pub returns-clause-over_at_end : goal.returns-clause-over_at_end
returns-clause-over_at_end g c = header-known-at-end

pub returns-clause-at_end : goal.returns-clause-at_end
returns-clause-at_end g c = header-ended

pub returns-clause-none : goal.returns-clause-none
returns-clause-none g c = header-first

pub returns-clause-stay : goal.returns-clause-stay
returns-clause-stay g c = header-longer

pub returns-clause-whole : goal.returns-clause-whole
returns-clause-whole g c = header-whole
