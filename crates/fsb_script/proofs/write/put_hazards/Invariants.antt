-- The text so far and that of what is left are the whole.
use Rattle.std.proofs.Common.{◌≡◌, ◌++◌, drop}
use Rattle.fsb_script.specs.Text.{hazards_text}
use Rattle.fsb_script.proofs.write.put_hazards.Given as goal

abbrev pub invariant-loop-hazard : goal.invariant-loop-hazard
invariant-loop-hazard l = l.text.items ++ hazards_text
    (drop l.hazard-index l.hazards) ≡ l.initial.text.items ++ hazards_text l.hazards
