-- The wires so far are those of the options that are passed.
use Rattle.std.proofs.Common.{◌≡◌, take}
use Rattle.std.specs.List.{flat_map}
use Rattle.scope_wiring.specs.Wirings.{wires_named}
use Rattle.scope_wiring.proofs.wire.option_wires.Given as goal

abbrev pub invariant-loop-option : goal.invariant-loop-option
invariant-loop-option l = l.wires.items ≡ flat_map (wires_named l.variables l.home) (take l.option-index l.options)
