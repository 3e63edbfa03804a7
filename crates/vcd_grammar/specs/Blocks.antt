-- What the tokens behind the header do, and the blocks that they make: a block is all changes at one time.
use Rattle.std.specs.Prelude.{ℕ, ◌-◌, List, [], ◌∷◌, ◌++◌, length, take}

-- the lines of these numbers get these digits
pub record Change : Type 0 where
  pub lines : List ℕ
  pub digits : List ℕ

-- what happens to the lines: a greater time comes, which ends the block; or a change
pub data BlockEvent : Type 0 where
  Later : BlockEvent
  Changed : Change → BlockEvent

-- all changes at one time
abbrev pub Block : Type 0
Block = List Change

-- the blocks of events, behind the changes of a block that stands open; the last one stands open behind them
abbrev pub blocks_from : Block → List BlockEvent → List Block
blocks_from block [] = block ∷ []
blocks_from block (Later ∷ events) = block ∷ blocks_from [] events
blocks_from block (Changed change ∷ events) = blocks_from (block ++ change ∷ []) events

-- the blocks of events; those before the first time make a block of their own
abbrev pub blocks_of : List BlockEvent → List Block
blocks_of events = blocks_from [] events

-- the blocks that a greater time has ended: all but the last one
abbrev pub ended : List Block → List Block
ended blocks = take (length blocks - 1) blocks
