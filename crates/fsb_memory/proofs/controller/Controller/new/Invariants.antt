use Rattle.std.proofs.Common.{◌≡◌, ◌||◌, ℕ, take}
use Rattle.std.specs.Prelude.{◌==◌}
use Rattle.std.specs.List.{list_any}
use Rattle.fsb_memory.specs.Controller.{line_in, is_mapped, is_in_line, start_bytes}
use Rattle.fsb_memory.proofs.controller.Controller.new.Given as goal

-- the lines so far are named, and no byte has changed
abbrev pub invariant-loop-line : goal.invariant-loop-line
invariant-loop-line l = record {
  bytes : (line : ℕ) → line_in l.controller line ≡ start_bytes l.sets line;
  named : (line : ℕ) → is_mapped l.controller line
      ≡ (list_any (is_in_line line) l.sets || list_any (λ other. other == line) (take l.line-index l.lines));
}
