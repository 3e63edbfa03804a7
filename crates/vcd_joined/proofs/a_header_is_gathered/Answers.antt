use Rattle.vcd_joined.proofs.Header.{known-open, quiet-open, known-at-end, unknown-at-end, begins-at-end}
use Rattle.vcd_joined.proofs.a_header_is_gathered.Goals as goal

pub returns-clause-known : goal.returns-clause-known
returns-clause-known c = known-open

pub returns-clause-quiet : goal.returns-clause-quiet
returns-clause-quiet c = quiet-open

pub returns-clause-at_end : goal.returns-clause-at_end
returns-clause-at_end c = known-at-end

pub returns-clause-unknown : goal.returns-clause-unknown
returns-clause-unknown c = unknown-at-end

pub returns-clause-begins : goal.returns-clause-begins
returns-clause-begins c = begins-at-end
