use Rattle.std.proofs.Common.{◌≡◌, ◌≤◌, ◌-◌, ℕ, length, take}
use Rattle.std.specs.Prelude.{replicate}
use Rattle.std.specs.List.{list_any}
use Rattle.fsb_memory.specs.Controller.{line_in, is_mapped, is_in_line, set_bytes}
use Rattle.fsb_memory.proofs.controller.Controller.of_settings.Given as goal

-- the lines of the settings so far
abbrev pub invariant-loop-done : goal.invariant-loop-done
invariant-loop-done l = record {
  within : l.done ≤ length l.sets;
  bytes : (line : ℕ) → line_in l.controller line ≡ set_bytes line (replicate 32 0) (take l.done l.sets);
  named : (line : ℕ) → is_mapped l.controller line ≡ list_any (is_in_line line) (take l.done l.sets);
}

abbrev pub decreases-loop-done : goal.decreases-loop-done
decreases-loop-done l = length l.sets - l.done
