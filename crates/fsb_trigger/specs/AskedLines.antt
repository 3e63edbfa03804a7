-- The lines that tests ask to be asserted.
use Rattle.std.specs.Prelude.{ℕ, List}
use Rattle.std.specs.Int.RustNames.{bit_or}
use Rattle.std.specs.List.{fold}
use Rattle.fsb_trigger.specs.declared.test.Test.{Test}
use Rattle.fsb_trigger.specs.declared.test.Test.TheVariants.{Asserted, NotAsserted, Request, Address, Data}

-- the lines that a test asks to be asserted
abbrev pub asked_line : Test → ℕ
asked_line (Asserted line) = line.0
asked_line (NotAsserted line) = 0
asked_line (Request bits) = 0
asked_line (Address bits) = 0
asked_line (Data bits) = 0

-- the lines that some test of these asks to be asserted
abbrev pub asked_lines : List Test → ℕ
asked_lines tests = fold (λ lines test. bit_or lines (asked_line test)) 0 tests
