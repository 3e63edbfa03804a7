-- The lines so far are copied, and those that were the same still are.
use Rattle.std.proofs.Common.{◌≡◌, ℕ, take, true}
use Rattle.vcd_course.specs.Lines.{row_at, is_listed}
use Rattle.vcd_course.proofs.lines.Rows.copy_lines.Given as goal

abbrev pub invariant-loop-line : goal.invariant-loop-line
invariant-loop-line l = record {
  copied : (line : ℕ) → is_listed (take l.line-index l.lines) line ≡ true
      → row_at l.self.rows line ≡ row_at l.from.rows line;
  kept : (line : ℕ) → row_at l.initial.self.rows line ≡ row_at l.from.rows line
      → row_at l.self.rows line ≡ row_at l.from.rows line;
}
