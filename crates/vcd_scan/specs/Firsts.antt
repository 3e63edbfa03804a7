-- First ones of a list.
use Rattle.std.specs.Prelude.{◌≡◌, List, ◌++◌}
use Rattle.vcd_way.specs.Events.{DumpEvent}

-- these events are the first ones of those
pub record IsFirstOf (first all : List DumpEvent) : Type 0 where
  pub rest : List DumpEvent
  pub whole : all ≡ first ++ rest
