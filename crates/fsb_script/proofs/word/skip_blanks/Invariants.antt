-- What is left begins as the whole line does, once its blanks are skipped.
use Rattle.std.proofs.Common.{◌≡◌, drop}
use Rattle.fsb_script.specs.TextWords.{skip_blanks}
use Rattle.fsb_script.proofs.word.skip_blanks.Given as goal

abbrev pub invariant-loop-i : goal.invariant-loop-i
invariant-loop-i l = skip_blanks (drop l.i l.line) ≡ skip_blanks l.line
