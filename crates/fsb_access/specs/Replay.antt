-- The replay of a log on one byte memory.
use Rattle.std.specs.Prelude.{◌≡◌, ℕ, ◌+◌, ◌*◌, ◌%◌, ◌^◌, ◌==◌, if◌then◌else◌, List, [], ◌∷◌, map}
use Rattle.fsb_access.specs.ByteMemory.{ByteMemory, start_memory, value_at, put_value}
use Rattle.fsb_access.specs.declared.access.Access.{Access}
use Rattle.fsb_access.specs.declared.access.Access.TheVariants.{Load, Store}
use Rattle.fsb_access.specs.declared.access.Operand.{Operand}
use Rattle.fsb_access.specs.declared.access.Operand.TheVariants.{Literal, LastPlus}
use Rattle.fsb_access.specs.declared.access.Setting.{Setting}
use Rattle.fsb_access.specs.declared.log.Done.{Done}

-- what a replay keeps: one byte memory, and the value that each agent loaded last
pub record ReplayState : Type 0 where
  pub memory : ByteMemory
  pub last : ℕ → ℕ

-- before any access: the memory of the settings, and 0 for each agent
abbrev pub start_of : List Setting → ReplayState
start_of settings = record { memory = start_memory settings; last = λ _. 0 }

-- what a store of so many bytes puts: the literal, or the sum of the last loaded value and a number, that sum cut to those
-- bytes
abbrev pub put_of : ℕ → ℕ → Operand → ℕ
put_of size last (Literal number) = number
put_of size last (LastPlus number) = (last + number) % 2 ^ (8 * size)

-- the value of an access: the bytes that a load finds, lowest first, or the number that a store puts
abbrev pub served_value : ReplayState → ℕ → Access → ℕ
served_value state agent (Load size addr) = value_at state.memory addr size
served_value state agent (Store size addr value) = put_of size (state.last agent) value

-- the state with a value as the last one that an agent loaded
abbrev pub with_last : ReplayState → ℕ → ℕ → ReplayState
with_last state agent value =
    record state { last = λ other. if other == agent then value else state.last other }

-- the state after an access: a load's value is its agent's last one, and a store's bytes stand in the memory
abbrev pub served_state : ReplayState → ℕ → Access → ReplayState
served_state state agent (Load size addr) = with_last state agent (value_at state.memory addr size)
served_state state agent (Store size addr value) =
    record state { memory = put_value state.memory addr size (put_of size (state.last agent) value) }

-- the state after entries are served one after the other
abbrev pub replay : ReplayState → List Done → ReplayState
replay state [] = state
replay state (done ∷ log) = replay (served_state state done.agent done.access) log

-- the values that entries have when they are served one after the other
abbrev pub replayed_values : ReplayState → List Done → List ℕ
replayed_values state [] = []
replayed_values state (done ∷ log) =
    served_value state done.agent done.access ∷ replayed_values (served_state state done.agent done.access) log

-- the log replays on one byte memory that begins with the settings: each entry has the value that the replay gives
abbrev pub Served : List Setting → List Done → Type 0
Served settings log = map (λ done. done.value) log ≡ replayed_values (start_of settings) log
