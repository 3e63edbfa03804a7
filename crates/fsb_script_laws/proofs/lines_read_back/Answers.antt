use Rattle.fsb_script_laws.proofs.EachLine.{memory_line_back, profile_line_back, window_line_back, load_line_back}
use Rattle.fsb_script_laws.proofs.EachLine.{store_line_back, idle_line_back, transaction_line_back, block_line_back}
use Rattle.fsb_script_laws.proofs.lines_read_back.Goals as goal

pub returns-clause-memory : goal.returns-clause-memory
returns-clause-memory c = memory_line_back

pub returns-clause-profile : goal.returns-clause-profile
returns-clause-profile c = profile_line_back

pub returns-clause-bridge : goal.returns-clause-bridge
returns-clause-bridge c = window_line_back

pub returns-clause-loads : goal.returns-clause-loads
returns-clause-loads c = load_line_back

pub returns-clause-stores : goal.returns-clause-stores
returns-clause-stores c = store_line_back

pub returns-clause-idle_clocks : goal.returns-clause-idle_clocks
returns-clause-idle_clocks c = idle_line_back

pub returns-clause-transactions : goal.returns-clause-transactions
returns-clause-transactions c = transaction_line_back

pub returns-clause-blocks : goal.returns-clause-blocks
returns-clause-blocks c = block_line_back
