use Rattle.fsb_wave.proofs.EqualWaves.{lines, number, asserted, unknown}
use Rattle.fsb_wave.proofs.EqualWords.{asked, address, request, data_shown}
use Rattle.fsb_wave.proofs.laws.equal_waves_show_equal_lines.Goals as goal

pub returns-clause-lines : goal.returns-clause-lines
returns-clause-lines c = lines

pub returns-clause-number : goal.returns-clause-number
returns-clause-number c = number

pub returns-clause-asserted : goal.returns-clause-asserted
returns-clause-asserted c = λ v w from to e c low high k named at. asserted v w from to c k named e low high at

pub returns-clause-unknown : goal.returns-clause-unknown
returns-clause-unknown c = λ v w from to e c low high k named at. unknown v w from to c k named e low high at

pub returns-clause-asked : goal.returns-clause-asked
returns-clause-asked c = asked

pub returns-clause-address : goal.returns-clause-address
returns-clause-address c = address

pub returns-clause-request : goal.returns-clause-request
returns-clause-request c = request

pub returns-clause-data : goal.returns-clause-data
returns-clause-data c = data_shown
