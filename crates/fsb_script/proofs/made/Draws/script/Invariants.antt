-- So far as many items were drawn as the loop has run.
use Rattle.std.proofs.Common.{◌≡◌}
use Rattle.fsb_script.specs.Made.{drawn_items, state_behind_items}
use Rattle.fsb_script.proofs.made.Draws.script.Given as goal

abbrev pub invariant-loop : goal.invariant-loop
invariant-loop l = record {
  items : l.script ≡ drawn_items l.counter l.initial.self.state;
  state : l.self.state ≡ state_behind_items l.counter l.initial.self.state;
}
