-- So far no byte is white space.
use Rattle.std.proofs.Common.{◌≡◌, take, true}
use Rattle.std.specs.List.{list_all}
use Rattle.vcd_cut.specs.Cutting.{is_dark}
use Rattle.vcd_cut.proofs.white.short_word.Given as goal

abbrev pub invariant-loop-i : goal.invariant-loop-i
invariant-loop-i l = list_all is_dark (take l.i l.bytes) ≡ true
