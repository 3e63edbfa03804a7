-- The state of a line at an agent, before the hits of a clock and behind them, and what events make of it.
use Rattle.std.specs.Prelude.{ℕ, ◌&&◌, Bool, nat_eq, if◌then◌else◌}
use Rattle.std.specs.List.{list_any}
use Rattle.fsb_count.specs.Options.{is_some_and}
use Rattle.fsb_line.specs.declared.state.Mesi.{Mesi}
use Rattle.fsb_line.specs.declared.state.Mesi.TheVariants.{Invalid, Shared, Exclusive, Modified}
use Rattle.fsb_timely.specs.Past.{Grant, Past}
use Rattle.fsb_timely.specs.Grants.{holds_line, is_ended, is_exclusive, latest_grant}
use Rattle.fsb_timely.specs.Hits.{is_store_on}
use Rattle.fsb_coherent.specs.Relation.{is_dirty_below, is_dirty_through}

-- the state of a line, by whether its agent holds it, has it for itself, and is dirty on it
unfoldable pub state_of_tests : Bool → Bool → Bool → Mesi
state_of_tests held own dirty = if held then (if own then (if dirty then Modified else Exclusive) else Shared) else Invalid

-- the state of the line at agent a at n, before the hits of n
unfoldable pub state_below : Past → ℕ → ℕ → ℕ → Mesi
state_below p a line n = state_of_tests (holds_line p a line n) (is_exclusive p a line n) (is_dirty_below p a line n)

-- the state of the line at agent a at n, with all stores of n counted and nothing else of it
unfoldable pub state_through : Past → ℕ → ℕ → ℕ → Mesi
state_through p a line n = state_of_tests (holds_line p a line n) (is_exclusive p a line n) (is_dirty_through p a line n)

-- a store of agent a on the line is logged at n, above the end of the latest grant of the line to a
unfoldable pub stores_at : Past → ℕ → ℕ → ℕ → Bool
stores_at p a line n =
    is_some_and (latest_grant p a line n) (λ grant.
    list_any (λ done. is_store_on a line done && is_ended p done.clock grant.first && nat_eq done.clock n) p.log)

-- the state that a store leaves: who has the line for itself is dirty on it
unfoldable pub state_stored : Mesi → Mesi
state_stored Invalid = Invalid
state_stored Shared = Shared
state_stored Exclusive = Modified
state_stored Modified = Modified

-- the state that the snoop end of another agent's read leaves: who has the line shares it
unfoldable pub state_read : Mesi → Mesi
state_read Invalid = Invalid
state_read Shared = Shared
state_read Exclusive = Shared
state_read Modified = Shared

-- the state that a grant gives: Modified by a read and invalidate or an upgrade; by a read Shared with HIT# or HITM#,
-- and Exclusive without
unfoldable pub state_granted : Grant → Mesi
state_granted grant = if grant.owns then Modified else (if grant.shared then Shared else Exclusive)
