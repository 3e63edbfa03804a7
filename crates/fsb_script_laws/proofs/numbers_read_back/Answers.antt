use Rattle.fsb_script_laws.proofs.Numbers.{decimal_back, hex_back, byte_back}
use Rattle.fsb_script_laws.proofs.numbers_read_back.Goals as goal

pub returns-clause-decimals : goal.returns-clause-decimals
returns-clause-decimals c = decimal_back

pub returns-clause-hexadecimals : goal.returns-clause-hexadecimals
returns-clause-hexadecimals c = hex_back

pub returns-clause-bytes : goal.returns-clause-bytes
returns-clause-bytes c = byte_back
