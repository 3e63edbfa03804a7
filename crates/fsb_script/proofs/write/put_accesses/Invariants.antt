-- The text so far and that of what is left are the whole.
use Rattle.std.proofs.Common.{◌≡◌, ◌++◌, drop}
use Rattle.fsb_script.specs.Text.{accesses_text}
use Rattle.fsb_script.proofs.write.put_accesses.Given as goal

abbrev pub invariant-loop-access : goal.invariant-loop-access
invariant-loop-access l = l.text.items ++ accesses_text
    (drop l.access-index l.accesses) ≡ l.initial.text.items ++ accesses_text l.accesses
