use Rattle.fsb_access.proofs.ByteLaws.{value_at-put_value, bytes_at-beside, value_at-fits, place-within_line}
use Rattle.fsb_access.proofs.laws.stores_are_loaded.Goals as goal

pub returns-clause-stored : goal.returns-clause-stored
returns-clause-stored c = value_at-put_value

pub returns-clause-beside : goal.returns-clause-beside
returns-clause-beside c = bytes_at-beside

pub returns-clause-fits : goal.returns-clause-fits
returns-clause-fits c = value_at-fits

pub returns-clause-line : goal.returns-clause-line
returns-clause-line c = place-within_line
