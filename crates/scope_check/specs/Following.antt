-- What is kept of the requests of a part.
use Rattle.std.specs.Prelude.{◌≡◌, ◌<◌, ℕ, Bool, true, false, not, List, Option, Some, None, slice_index_or, slice_set, length}
use Rattle.fsb_trace.specs.At.{Trace}
use Rattle.scope_check.specs.declared.replies.Replies.{Replies}
use Rattle.scope_check.specs.Replies.{answers_before, asks_for, last_behind}

-- an ID is marked
abbrev pub is_marked : List Bool → ℕ → Bool
is_marked asked id = slice_index_or asked id false

-- the IDs that are marked, where this one is too, if there is one
abbrev pub marked : List Bool → Option ℕ → List Bool
marked asked None = asked
marked asked (Some id) = slice_set asked id true

-- there is such an ID, and it is not marked
abbrev pub is_unmarked : List Bool → Option ℕ → Bool
is_unmarked asked None = false
is_unmarked asked (Some id) = not (is_marked asked id)

-- these are the last clock of the part, the IDs of its requests, and whether its last clocks answer a request of before
pub record Follows (r : Replies) (part : Trace) : Type 0 where
  pub last : r.last ≡ last_behind None part
  pub asked : (id : ℕ) → id < 256 → is_marked r.asked id ≡ asks_for id part
  pub size : length r.asked ≡ 256
  pub answers : r.answers_before ≡ answers_before part
