-- What an agent wants of the bus, and what it is after it has sent that.
use Rattle.std.specs.Prelude.{ℕ, ◌+◌, ◌==◌, ◌&&◌, ◌||◌, Bool, true, false, not, is_none, is_some, nat_le, List, [], ◌∷◌, ◌++◌, drop, length, Option, Some, None, slice_get, if◌then◌else◌}
use Rattle.std.specs.List.{find, list_any}
use Rattle.std.specs.Option.{option_map, option_map_or}
use Rattle.fsb_access.specs.declared.item.Item.{Item}
use Rattle.fsb_cache.specs.declared.held.Held.{Held}
use Rattle.fsb_cache.specs.Sets.{CacheSets, is_one_set, sets_without, slot_of}
use Rattle.fsb_count.specs.Clocks.{first_where}
use Rattle.fsb_encode.specs.declared.request.Kind.{Kind}
use Rattle.fsb_encode.specs.declared.request.Kind.TheVariants.{Invalidate, Read, Upgrade}
use Rattle.fsb_line.specs.States.{is_held, is_modified}
use Rattle.fsb_timely.specs.Scripts.{Need, needs_from, window_from}
use Rattle.fsb_timely.specs.Wants.{id_of, request_of_kind, write_back_of}
use Rattle.fsb_agent_view.specs.declared.want.Want.{Want}
use Rattle.fsb_agent_view.specs.OwnRequests.{new_request, request_numbered}
use Rattle.fsb_agent_view.specs.AgentViews.{AgentView, is_idle_by, is_met_by, number_by, line_state_by}

-- the window of a script that begins with item n
abbrev pub window_beginning : ℕ → List Item → ℕ → List Item
window_beginning ahead items n = option_map_or (λ item. window_from ahead item (drop (n + 1) items)) (slice_get items n) []

-- the agent's window at a clock
abbrev pub window_by : AgentView → ℕ → List Item
window_by v clock = window_beginning v.ahead v.items (number_by v clock)

-- the agent has a request outstanding for the line
abbrev pub is_asked_by : AgentView → ℕ → Bool
is_asked_by v line = list_any (λ out. out.request.line == line) v.outs

-- the line's set is that of an outstanding request, or of one of these lines
abbrev pub is_taken_by : AgentView → List ℕ → ℕ → Bool
is_taken_by v lines line =
    list_any (λ out. is_one_set v.lines line out.request.line) v.outs || list_any (is_one_set v.lines line) lines

-- the agent may ask for the needed line: it has not what is needed, has not asked for it yet, and the line's set is
-- neither that of an outstanding request nor that of a line of an earlier item of the window
abbrev pub is_missing_by : AgentView → Need → Bool
is_missing_by v need =
    not (is_met_by v need) && not (is_asked_by v need.line) && not (is_taken_by v need.earlier need.line)

-- what a set has, where that is another line than this one, and Modified
abbrev pub dirty_other : ℕ → Option Held → Option ℕ
dirty_other line None = None
dirty_other line (Some held) = if not (held.line == line) && is_modified held.state then Some held.line else None

-- the line that has to be written back before this one is asked for
abbrev pub victim_by : AgentView → ℕ → Option ℕ
victim_by v line = dirty_other line (slot_of v.lines line)

-- an outstanding request has the ID
abbrev pub is_id_used_by : AgentView → ℕ → Bool
is_id_used_by v did = list_any (λ out. out.request.did == did) v.outs

-- the agent's ID with the least number that no outstanding request has
abbrev pub free_id_by : AgentView → ℕ
free_id_by v =
    option_map_or (id_of v.number) (first_where (λ n. not (is_id_used_by v (id_of v.number n))) (length v.outs + 1)) 0

-- the kind of request for a needed line: a read where it is not needed alone; otherwise an upgrade in profile 2, where
-- the agent holds the line; else a read and invalidate
abbrev pub kind_by : AgentView → Need → Kind
kind_by v need =
    if not need.alone then Read
    else (if (v.profile == 2) && is_held (line_state_by v need.line) then Upgrade else Invalidate)

-- what the agent wants for a need: the line, or first the write-back of its victim
abbrev pub want_for_by : AgentView → Need → Want
want_for_by v need =
    elim (victim_by v need.line) [
      | Some victim ↦ record { request = write_back_of victim (free_id_by v); locked = false }
      | None ↦ record { request = request_of_kind (kind_by v need) need (free_id_by v); locked = need.locked }
    ]

-- the agent may ask for nothing at a clock: it idles, or has as many requests outstanding as it may
abbrev pub is_silent_by : AgentView → ℕ → Bool
is_silent_by v clock = is_idle_by v clock || nat_le v.ahead (length v.outs)

-- the first need of the window that the agent may ask for
abbrev pub missing_by : AgentView → ℕ → Option Need
missing_by v clock = find (is_missing_by v) (needs_from [] (window_by v clock))

-- what the agent wants at a clock
abbrev pub want_by : AgentView → ℕ → Option Want
want_by v clock = elim (is_silent_by v clock) [ true ↦ None | false ↦ option_map (want_for_by v) (missing_by v clock) ]

-- the sets without what the line's set has, where that is another line
abbrev pub sets_cleared_for : CacheSets → ℕ → CacheSets
sets_cleared_for sets line =
    elim (slot_of sets line) [ None ↦ sets | Some held ↦ if held.line == line then sets else sets_without sets held.line ]

-- the agent after its want began with this number: a line that has to make room, and was not written back, is dropped
abbrev pub sent : AgentView → ℕ → ℕ → AgentView
sent v clock number =
    elim (want_by v clock) [
      | None ↦ v
      | Some want ↦ record v {
        lines = sets_cleared_for v.lines want.request.line;
        outs = v.outs ++ new_request number want.request ∷ [];
      }
    ]

-- the agent may send its want with this number: it has one, and no outstanding request has the number
abbrev pub may_send : AgentView → ℕ → ℕ → Bool
may_send v clock number = is_some (want_by v clock) && is_none (request_numbered number v.outs)
