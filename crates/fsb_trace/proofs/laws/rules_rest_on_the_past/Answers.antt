use Rattle.fsb_trace.proofs.VerdictLaws.{is_broken-agree, verdict-stays}
use Rattle.fsb_trace.proofs.laws.rules_rest_on_the_past.Goals as goal

pub returns : goal.returns
returns c = record { broken = is_broken-agree; stays = verdict-stays }
