-- When the printed text of a log determines it.
use Rattle.std.specs.Prelude.{◌<◌, ◌^◌, All, List}
use Rattle.fsb_access.specs.ScriptOrder.{InOrder}
use Rattle.fsb_access.specs.declared.item.Item.{Item}
use Rattle.fsb_access.specs.declared.log.Done.{Done}

-- the clock, the agent and the value of an entry have at most 64 bits, as those that a program keeps
pub record FitsInWords (done : Done) : Type 0 where
  pub clock : done.clock < 2 ^ 64
  pub agent : done.agent < 2 ^ 64
  pub value : done.value < 2 ^ 64

-- the log has the accesses of these scripts in order, and its numbers fit in words
pub record IsLogOf (scripts : List (List Item)) (log : List Done) : Type 0 where
  pub in_order : InOrder scripts log
  pub fits : All FitsInWords log
