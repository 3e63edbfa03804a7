-- Where the values of a dump begin.
use Rattle.std.specs.Prelude.{false, [], None}
use Rattle.vcd_way.specs.Steps.{AtValues, DumpState}
use Rattle.vcd_scan.specs.Wired.{Wiring}

-- what is known at the end of a header
abbrev pub begun : Wiring → DumpState Wiring
begun w = record { fault = None; spot = AtValues; path = []; header = w; time = None; is_off = false; remarks = [] }
