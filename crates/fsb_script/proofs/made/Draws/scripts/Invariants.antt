-- So far as many scripts were drawn as the loop has run.
use Rattle.std.proofs.Common.{◌≡◌}
use Rattle.fsb_script.specs.Made.{drawn_scripts, state_behind_scripts}
use Rattle.fsb_script.proofs.made.Draws.scripts.Given as goal

abbrev pub invariant-loop : goal.invariant-loop
invariant-loop l = record {
  scripts : l.scripts ≡ drawn_scripts l.items l.counter l.initial.self.state;
  state : l.self.state ≡ state_behind_scripts l.items l.counter l.initial.self.state;
}
