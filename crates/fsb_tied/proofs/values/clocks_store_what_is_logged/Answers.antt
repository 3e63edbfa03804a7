use Rattle.fsb_tied.proofs.KeptStores.{stores-kept}
use Rattle.fsb_tied.proofs.values.clocks_store_what_is_logged.Goals as goal

pub returns : goal.returns
returns c = λ r line n x bytes h bounds l tied. stores-kept r line n h bounds l x bytes tied
