-- The text so far and that of what is left are the whole.
use Rattle.std.proofs.Common.{◌≡◌, ◌++◌, drop}
use Rattle.fsb_script.specs.Text.{items_text}
use Rattle.fsb_script.proofs.write.put_items.Given as goal

abbrev pub invariant-loop-item : goal.invariant-loop-item
invariant-loop-item l = l.text.items ++ items_text
    (drop l.item-index l.items) ≡ l.initial.text.items ++ items_text l.items
