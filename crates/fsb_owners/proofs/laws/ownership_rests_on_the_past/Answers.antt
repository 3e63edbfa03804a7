use Rattle.fsb_owners.proofs.VerdictLaws.{broken-agree, verdict-stays}
use Rattle.fsb_owners.proofs.laws.ownership_rests_on_the_past.Goals as goal

pub returns : goal.returns
returns c = record { broken = broken-agree; stays = verdict-stays }
