-- A cache as its sets, and as the map from lines to states and bytes that the sets make.
use Rattle.std.specs.Prelude.{◌≡◌, ◌==◌, ◌<◌, ◌/◌, ◌%◌, ℕ, Bool, if◌then◌else◌, List, [], Option, Some, None, IfSome, IsTrue, is_some, length, slice_index_or, slice_set}
use Rattle.std.specs.Int.{is_power_of_two}
use Rattle.std.specs.Option.{option_map}
use Rattle.fsb_line.specs.declared.state.Mesi.{Mesi}
use Rattle.fsb_line.specs.declared.state.Mesi.TheVariants.{Invalid, Modified, Shared}
use Rattle.fsb_line.specs.States.{is_held}
use Rattle.fsb_cache.specs.declared.held.Held.{Held}
use Rattle.fsb_cache.specs.LineValues.{line_with_value}

-- a cache: the line that each of its sets has, if it has one. A line's set is its number modulo the number of sets
abbrev pub CacheSets : Type 0
CacheSets = List (Option Held)

-- what the line's set has
abbrev pub slot_of : CacheSets → ℕ → Option Held
slot_of sets line = slice_index_or sets (line % length sets) None

-- the line that the line's set has
abbrev pub resident_of : CacheSets → ℕ → Option ℕ
resident_of sets line = option_map (λ held. held.line) (slot_of sets line)

-- what a set has, where it is this line
abbrev pub only_line : ℕ → Option Held → Option Held
only_line line None = None
only_line line (Some held) = if held.line == line then Some held else None

-- what a cache has of a line
unfoldable pub held_at : CacheSets → ℕ → Option Held
held_at sets line = only_line line (slot_of sets line)

-- the state of a line: Invalid where the cache doesn't have it
abbrev pub state_of_held : Option Held → Mesi
state_of_held None = Invalid
state_of_held (Some held) = held.state

-- the bytes of a line: none where the cache doesn't have it
abbrev pub bytes_of_held : Option Held → List ℕ
bytes_of_held None = []
bytes_of_held (Some held) = held.bytes

-- the state of each line
unfoldable pub states : CacheSets → ℕ → Mesi
states sets line = state_of_held (held_at sets line)

-- the bytes of each line
unfoldable pub copies : CacheSets → ℕ → List ℕ
copies sets line = bytes_of_held (held_at sets line)

-- the sets, where the line's set has this
abbrev pub with_slot : CacheSets → ℕ → Option Held → CacheSets
with_slot sets line slot = slice_set sets (line % length sets) slot

-- the sets with the line in this state, with these bytes
abbrev pub sets_filled : CacheSets → ℕ → Mesi → List ℕ → CacheSets
sets_filled sets line state bytes = with_slot sets line (Some record { line = line; state = state; bytes = bytes })

-- the sets without the line
abbrev pub sets_without : CacheSets → ℕ → CacheSets
sets_without sets line = if is_some (held_at sets line) then with_slot sets line None else sets

-- a line Shared
abbrev pub held_shared : Held → Held
held_shared held = record held { state = Shared }

-- the sets with the line Shared
abbrev pub sets_shared : CacheSets → ℕ → CacheSets
sets_shared sets line = with_slot sets line (option_map held_shared (slot_of sets line))

-- a line Modified, after a store of so many bytes at an address
abbrev pub held_stored : ℕ → ℕ → ℕ → Held → Held
held_stored addr size value held =
    record held { state = Modified; bytes = line_with_value held.bytes addr size value }

-- the sets after a store of so many bytes at an address
abbrev pub sets_stored : CacheSets → ℕ → ℕ → ℕ → CacheSets
sets_stored sets addr size value =
    with_slot sets (addr / 32) (option_map (held_stored addr size value) (slot_of sets (addr / 32)))

-- the two lines have one set
abbrev pub InOneSet : CacheSets → ℕ → ℕ → Type 0
InOneSet sets line other = line % length sets ≡ other % length sets

-- whether the two lines have one set
abbrev pub is_one_set : CacheSets → ℕ → ℕ → Bool
is_one_set sets line other = (line % length sets) == (other % length sets)

-- the cache has the line
abbrev pub Has : CacheSets → ℕ → Type 0
Has sets line = IsTrue (is_held (states sets line))

-- the line's set is empty or has this line
abbrev pub HasRoomFor : CacheSets → ℕ → Type 0
HasRoomFor sets line = (other : ℕ) → InOneSet sets line other → Has sets other → other ≡ line

-- the number of sets is a power of two, and what a set has is a line of this set, which is held
pub record InTheirSets (sets : CacheSets) : Type 0 where
  pub power : IsTrue (is_power_of_two (length sets))
  pub own : (place : ℕ) → place < length sets
      → IfSome (slice_index_or sets place None)
      (λ held. (held.line % length sets ≡ place) × IsTrue (is_held held.state))
