use Rattle.fsb_owner_rows.proofs.QuietRows.{not_begun, not_coming, not_snooped, not_upgrading}
use Rattle.fsb_owner_rows.proofs.lines.unnamed_lines_are_quiet.Goals as goal

pub returns : goal.returns
returns c = record { coming = not_coming; upgrading = not_upgrading; begun = not_begun; snooped = not_snooped }
