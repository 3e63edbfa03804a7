-- The text so far and that of what is left are the whole.
use Rattle.std.proofs.Common.{◌≡◌, ◌++◌, drop}
use Rattle.fsb_script.specs.Text.{scripts_text}
use Rattle.fsb_script.proofs.write.put_scripts.Given as goal

abbrev pub invariant-loop-number : goal.invariant-loop-number
invariant-loop-number l = l.text.items ++ scripts_text l.number
    (drop l.number l.scripts) ≡ l.initial.text.items ++ scripts_text 0 l.scripts
