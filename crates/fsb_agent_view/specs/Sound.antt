-- What each agent keeps of itself.
use Rattle.std.specs.Prelude.{◌≡◌, ◌<◌, ◌≤◌, ◌+◌, ◌==◌, ◌%◌, ℕ, Bool, true, false, is_none, is_some, not, ◌&&◌, ◌||◌, if◌then◌else◌, length, List, [], ◌∷◌, Option}
use Rattle.std.specs.Bool.{beq}
use Rattle.std.specs.List.{list_all}
use Rattle.std.specs.Option.{option_map_or}
use Rattle.fsb_access.specs.declared.item.Item.{Item}
use Rattle.fsb_cache.specs.declared.held.Held.{Held}
use Rattle.fsb_cache.specs.Sets.{CacheSets, slot_of, states}
use Rattle.fsb_line.specs.States.{is_sole}
use Rattle.fsb_linebuf.specs.declared.entry.Fill.{Fill}
use Rattle.fsb_linebuf.specs.Buffers.{fill_on}
use Rattle.fsb_script.specs.Bounds.{is_lawful_script, is_profile}
use Rattle.fsb_agent_view.specs.declared.want.Finished.{Finished}
use Rattle.fsb_agent_view.specs.declared.want.OwnRequest.{OwnRequest}
use Rattle.fsb_agent_view.specs.Idling.{is_idle_item}
use Rattle.fsb_agent_view.specs.Snooping.{owed_count}
use Rattle.fsb_agent_view.specs.AgentViews.{AgentView}

-- what a set has is this line, if it has one
abbrev pub is_only : ℕ → Option Held → Bool
is_only line slot = option_map_or (λ held. held.line == line) slot true

-- what a line's set has is a line of that set, where there are so many sets
abbrev pub is_in_set : ℕ → ℕ → Option Held → Bool
is_in_set sets line slot = option_map_or (λ held. (held.line % sets) == (line % sets)) slot true

-- two requests have different numbers, and lines of different sets, where there are so many sets
abbrev pub is_apart_from : ℕ → OwnRequest → OwnRequest → Bool
is_apart_from sets out later =
    not (out.number == later.number) && not ((out.request.line % sets) == (later.request.line % sets))

-- each two of the requests are apart
abbrev pub are_requests_apart : ℕ → List OwnRequest → Bool
are_requests_apart sets [] = true
are_requests_apart sets (out ∷ outs) = list_all (is_apart_from sets out) outs && are_requests_apart sets outs

-- how many of the requests are granted
abbrev pub granted_count : List OwnRequest → ℕ
granted_count [] = 0
granted_count (out ∷ outs) = (if out.granted then 1 else 0) + granted_count outs

-- a request's line has its set for itself, and a fill exactly where the request was granted; bytes are kept only for a
-- request that was granted
abbrev pub is_sound_request : CacheSets → List Fill → OwnRequest → Bool
is_sound_request lines fills out =
    is_only out.request.line (slot_of lines out.request.line) && beq (is_some (fill_on out.request.line fills)) out.granted
    && (out.granted || is_none out.kept)

-- no two fills are of one line
abbrev pub are_fills_apart : List Fill → Bool
are_fills_apart [] = true
are_fills_apart (fill ∷ fills) = list_all (λ later. not (later.line == fill.line)) fills && are_fills_apart fills

-- where the bytes of the fill are promised to another, the agent has not its line alone
abbrev pub is_lent : CacheSets → Fill → Bool
is_lent lines fill = is_none fill.promise || not (is_sole (states lines fill.line))

-- the next item of a script, and the one that was completed last, are no idle ones
pub record IsPlaced (items : List Item) (place : ℕ) (finished : Option Finished) : Type 0 where
  pub next : is_idle_item items place ≡ false
  pub before : option_map_or (λ last. is_idle_item items last.item) finished false ≡ false

-- an agent keeps its bounds; its requests are sound, and apart from each other; there are as many fills as granted
-- requests, at most one a line; and a line whose bytes are promised is not the agent's alone
pub record IsSound (v : AgentView) : Type 0 where
  pub number : v.number < 4
  pub some_lines : 0 < length v.lines
  pub in_sets : (line : ℕ) → is_in_set (length v.lines) line (slot_of v.lines line) ≡ true
  pub script : is_lawful_script (length v.lines) v.items ≡ true
  pub some_ahead : 1 ≤ v.ahead
  pub few_ahead : v.ahead ≤ 4
  pub profile : is_profile v.profile ≡ true
  pub placed : IsPlaced v.items v.place v.finished
  pub few_outs : length v.outs ≤ v.ahead
  pub apart : are_requests_apart (length v.lines) v.outs ≡ true
  pub requests : list_all (is_sound_request v.lines v.buffers.fills) v.outs ≡ true
  pub fills : length v.buffers.fills ≡ granted_count v.outs
  pub one_a_line : are_fills_apart v.buffers.fills ≡ true
  pub lent : list_all (is_lent v.lines) v.buffers.fills ≡ true
  pub few_owed : owed_count v.buffers ≤ 8
