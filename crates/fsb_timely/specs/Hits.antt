-- What an agent completes without the bus, which of its lines it has stored into, and the states of its lines.
use Rattle.std.specs.Prelude.{ℕ, ◌&&◌, ◌||◌, Bool, true, false, not, nat_eq, nat_lt}
use Rattle.std.specs.List.{list_any, list_all}
use Rattle.fsb_count.specs.Options.{is_some_and}
use Rattle.fsb_access.specs.declared.log.Done.{Done}
use Rattle.fsb_access.specs.Access.{accessed_line}
use Rattle.fsb_line.specs.declared.state.Mesi.{Mesi}
use Rattle.fsb_line.specs.declared.state.Mesi.TheVariants.{Invalid, Shared, Exclusive, Modified}
use Rattle.fsb_timely.specs.Past.{Past}
use Rattle.fsb_timely.specs.Grants.{holds_line, is_ended, is_exclusive, is_ready, latest_grant}
use Rattle.fsb_timely.specs.Scripts.{Need, is_load, is_idling, next_item, needs_of}

-- agent a has at c what is needed: it holds the line, and has it for itself where the need is such
unfoldable pub is_met : Past → ℕ → ℕ → Need → Bool
is_met p a c need = holds_line p a need.line c && (not need.alone || is_exclusive p a need.line c)

-- agent a's needed line serves it at c: it has what is needed, and the line is ready
unfoldable pub is_served : Past → ℕ → ℕ → Need → Bool
is_served p a c need = is_met p a c need && is_ready p a need.line c

-- agent a has a hit at c: it does not idle, and each line of its next item serves it
unfoldable pub is_hit : Past → ℕ → ℕ → Bool
is_hit p a c = not (is_idling p a c) && is_some_and (next_item p a c) (λ item. list_all (is_served p a c) (needs_of item))

-- the entry is a store of agent a on the line
unfoldable pub is_store_on : ℕ → ℕ → Done → Bool
is_store_on a line done = nat_eq done.agent a && not (is_load done.access) && nat_eq (accessed_line done.access) line

-- the entry's clock is below c, or it is c and agent a's completion there is a hit
unfoldable pub is_counted : Past → ℕ → ℕ → Done → Bool
is_counted p a c done = nat_lt done.clock c || (nat_eq done.clock c && is_hit p a c)

-- a store of agent a on the line is logged above the end of the request that begins at q, and counts at c
unfoldable pub is_stored_since : Past → ℕ → ℕ → ℕ → ℕ → Bool
is_stored_since p a line c q =
    list_any (λ done. is_store_on a line done && is_ended p done.clock q && is_counted p a c done) p.log

-- agent a has the line for itself at c, and memory need not have its bytes: its latest grant is a read and invalidate or an upgrade,
-- or a store of a on the line was logged above that grant's end
unfoldable pub is_dirty : Past → ℕ → ℕ → ℕ → Bool
is_dirty p a line c =
    is_exclusive p a line c
    && is_some_and (latest_grant p a line c) (λ grant. grant.owns || is_stored_since p a line c grant.first)

-- the state of the line at agent a at c
unfoldable pub line_state_of : Past → ℕ → ℕ → ℕ → Mesi
line_state_of p a line c =
    elim (holds_line p a line c) [
      | false ↦ Invalid
      | true ↦ elim (is_exclusive p a line c) [
        | false ↦ Shared
        | true ↦ elim (is_dirty p a line c) [ true ↦ Modified | false ↦ Exclusive ]
      ]
    ]
