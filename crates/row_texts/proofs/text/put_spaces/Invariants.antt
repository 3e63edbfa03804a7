use Rattle.std.proofs.Common.{◌≡◌, ◌≤◌, ◌-◌, ◌++◌, replicate}
use Rattle.row_texts.proofs.text.put_spaces.Given as goal

abbrev pub invariant-loop-put : goal.invariant-loop-put
invariant-loop-put l = (l.put ≤ l.count) × (l.text.items ≡ l.initial.text.items ++ replicate l.put 32)

abbrev pub decreases-loop-put : goal.decreases-loop-put
decreases-loop-put l = l.count - l.put
