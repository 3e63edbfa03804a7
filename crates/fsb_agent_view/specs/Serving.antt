-- How the accesses of an item are performed on the lines of a cache.
use Rattle.std.specs.Prelude.{ℕ, ◌/◌, List, [], ◌∷◌, fold}
use Rattle.fsb_access.specs.declared.access.Access.{Access}
use Rattle.fsb_access.specs.declared.access.Access.TheVariants.{Load, Store}
use Rattle.fsb_access.specs.declared.log.Done.{Done}
use Rattle.fsb_access.specs.Replay.{put_of}
use Rattle.fsb_access.specs.ScriptOrder.{Step}
use Rattle.fsb_cache.specs.LineValues.{value_in_line}
use Rattle.fsb_cache.specs.Sets.{CacheSets, copies, sets_stored}

-- what accesses work on: the lines of a cache, and the value that the agent loaded last
pub record AtHand : Type 0 where
  pub lines : CacheSets
  pub last : ℕ

-- the value of an access: what a load finds in its line, or what a store puts
abbrev pub value_at_hand : AtHand → Access → ℕ
value_at_hand hand (Load size addr) = value_in_line (copies hand.lines (addr / 32)) addr size
value_at_hand hand (Store size addr value) = put_of size hand.last value

-- what is at hand after an access: a load's value is the last one, and a store has changed its line, which is Modified
abbrev pub hand_after : AtHand → Access → AtHand
hand_after hand (Load size addr) = record hand { last = value_at_hand hand (Load size addr) }
hand_after hand (Store size addr value) = record hand { lines = sets_stored hand.lines addr size (put_of size hand.last value) }

-- what is at hand after the accesses of these steps, in order
abbrev pub hand_after_steps : AtHand → List Step → AtHand
hand_after_steps hand steps = fold (λ hand step. hand_after hand step.access) hand steps

-- the entry of an access that an agent performs at a clock
abbrev pub entry_at_hand : ℕ → ℕ → AtHand → Step → Done
entry_at_hand agent clock hand step = record {
  clock = clock;
  agent = agent;
  item = step.item;
  part = step.part;
  access = step.access;
  value = value_at_hand hand step.access;
}

-- the entries of these steps, performed in order
abbrev pub entries_at_hand : ℕ → ℕ → AtHand → List Step → List Done
entries_at_hand agent clock hand [] = []
entries_at_hand agent clock hand (step ∷ steps) =
    entry_at_hand agent clock hand step ∷ entries_at_hand agent clock (hand_after hand step.access) steps
