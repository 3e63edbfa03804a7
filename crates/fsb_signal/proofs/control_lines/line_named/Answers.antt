use Rattle.std.proofs.Common.{◌≡◌, ℕ, Option, Some, None, option_map, ap}
use Rattle.fsb_signal.specs.declared.lines.Lines.{Lines}
use Rattle.fsb_signal.specs.ControlLines.{line_named, line_with}
use Rattle.fsb_signal.proofs.control_lines.line_named.Goals as goal

-- a line by its bits
line_is : (r : Option Lines) (bits : Option ℕ) → option_map (λ lines. lines.0) r ≡ bits → r ≡ option_map line_with bits
line_is None bits e = ap (option_map line_with) e
line_is (Some line) bits e = ap (option_map line_with) e

pub returns : goal.returns
unfolding line_named
returns c = line_is c.from_name.result _ (c.from_name.ensures tt)
