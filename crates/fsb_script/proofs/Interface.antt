-- What other crates draw from the proofs: whatever holds at each place of a reading holds at every place.
use Rattle.fsb_script.specs.declared.place.Place.TheVariants as places
use Rattle.fsb_script.specs.Places.{ReadingPlace, at_first, at_agents, at_clocks, at_cache, at_ahead, at_profile}
use Rattle.fsb_script.specs.Places.{at_bridge, at_memory, at_agent, at_items, at_locked, at_hazards}

-- what holds at each place
pub record AtEach (P : ReadingPlace → Type 0) : Type 0 where
  pub first : P at_first
  pub agents : P at_agents
  pub clocks : P at_clocks
  pub cache : P at_cache
  pub ahead : P at_ahead
  pub profile : P at_profile
  pub bridge : P at_bridge
  pub memory : P at_memory
  pub agent : P at_agent
  pub items : P at_items
  pub locked : P at_locked
  pub hazards : P at_hazards

pub at_every : (P : ReadingPlace → Type 0) → AtEach P → (place : ReadingPlace) → P place
at_every P each places.First = each.first
at_every P each places.Agents = each.agents
at_every P each places.Clocks = each.clocks
at_every P each places.Cache = each.cache
at_every P each places.Ahead = each.ahead
at_every P each places.Profile = each.profile
at_every P each places.Bridge = each.bridge
at_every P each places.Memory = each.memory
at_every P each places.Agent = each.agent
at_every P each places.Items = each.items
at_every P each places.Locked = each.locked
at_every P each places.Hazards = each.hazards
