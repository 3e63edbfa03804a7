use Rattle.fsb_timely_laws.proofs.DataParts.{data-said}
use Rattle.fsb_timely_laws.proofs.LogParts.{completions-said, lock-said, parity-said}
use Rattle.fsb_timely_laws.proofs.SnoopParts.{hazards-said, results-said}
use Rattle.fsb_timely_laws.proofs.StartParts.{lines-said, starts-said}
use Rattle.fsb_timely_laws.proofs.TransferParts.{responses-said}
use Rattle.fsb_timely_laws.proofs.parts_ask_for_little_order.Goals as goal

pub returns-clause-parity : goal.returns-clause-parity
returns-clause-parity c = parity-said

pub returns-clause-bus_lock : goal.returns-clause-bus_lock
returns-clause-bus_lock c = lock-said

pub returns-clause-hazard_lines : goal.returns-clause-hazard_lines
returns-clause-hazard_lines c = hazards-said

pub returns-clause-completions : goal.returns-clause-completions
returns-clause-completions c = completions-said

pub returns-clause-snoop_results : goal.returns-clause-snoop_results
returns-clause-snoop_results c = results-said

pub returns-clause-responses_and_data : goal.returns-clause-responses_and_data
returns-clause-responses_and_data c = responses-said

pub returns-clause-carried_data : goal.returns-clause-carried_data
returns-clause-carried_data c = data-said

pub returns-clause-request_starts : goal.returns-clause-request_starts
returns-clause-request_starts c = starts-said

pub returns-clause-request_lines : goal.returns-clause-request_lines
returns-clause-request_lines c = lines-said
