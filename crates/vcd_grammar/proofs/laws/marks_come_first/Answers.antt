use Rattle.vcd_grammar.proofs.MarkFacts.{marks-first, marks-longer, marks-whole, marks-ended}
use Rattle.vcd_grammar.proofs.HeadingFacts.{marks-are-known, marks-at-end-known}
use Rattle.vcd_grammar.proofs.laws.marks_come_first.Goals as goal

pub returns-clause-over : goal.returns-clause-over
returns-clause-over c = marks-are-known

pub returns-clause-none : goal.returns-clause-none
returns-clause-none c = marks-first

pub returns-clause-stay : goal.returns-clause-stay
returns-clause-stay c = marks-longer

pub returns-clause-whole : goal.returns-clause-whole
returns-clause-whole c = marks-whole

pub returns-clause-over_at_end : goal.returns-clause-over_at_end
returns-clause-over_at_end c = marks-at-end-known

pub returns-clause-at_end : goal.returns-clause-at_end
returns-clause-at_end c = marks-ended
