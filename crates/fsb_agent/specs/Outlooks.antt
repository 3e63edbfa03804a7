-- What an agent looks ahead to.
use Rattle.std.specs.Prelude.{◌≡◌, ℕ, Bool, true, false, [], Option, None, IfSome, length, nat_le}
use Rattle.std.specs.List.{find, list_all}
use Rattle.std.specs.Option.{option_map, option_map_or}
use Rattle.fsb_timely.specs.Scripts.{needs_from, needs_of}
use Rattle.fsb_agent_view.specs.declared.want.Want.{Want}
use Rattle.fsb_agent_view.specs.AgentViews.{AgentView, is_served_by, next_item_by}
use Rattle.fsb_agent_view.specs.Wanting.{is_missing_by, want_for_by, window_beginning}
use Rattle.fsb_agent.specs.declared.outlook.Outlook.{Outlook}

-- what the agent wants for the window that begins with item n
abbrev pub looked_ahead : AgentView → ℕ → Option Want
looked_ahead v n =
    option_map (want_for_by v) (find (is_missing_by v) (needs_from [] (window_beginning v.ahead v.items n)))

-- what the agent wants at a clock at which it does not idle and no item is completed
abbrev pub next_want : AgentView → Option Want
next_want v = elim (nat_le v.ahead (length v.outs)) [ true ↦ None | false ↦ looked_ahead v v.place ]

-- the agent has a next item, and each of the item's lines serves
abbrev pub is_next_served : AgentView → Bool
is_next_served v = option_map_or (λ item. list_all (is_served_by v) (needs_of item)) (next_item_by v) false

-- the outlook is the agent's
pub record IsOutlookOf (v : AgentView) (outlook : Outlook) : Type 0 where
  pub ready : outlook.ready ≡ is_next_served v
  pub want : outlook.want ≡ next_want v

-- what is known of the agent's outlook, if anything is
abbrev pub IsKnown : AgentView → Option Outlook → Type 0
IsKnown v outlook = IfSome outlook (IsOutlookOf v)
