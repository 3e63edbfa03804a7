-- The places of a reading, by names that other crates can use.
use Rattle.fsb_script.specs.declared.place.Place.{Place}
use Rattle.fsb_script.specs.declared.place.Place.TheVariants as places

-- which lines may stand next
abbrev pub ReadingPlace : Type 0
ReadingPlace = Place

-- the heading
abbrev pub at_first : ReadingPlace
at_first = places.First

-- the number of agents
abbrev pub at_agents : ReadingPlace
at_agents = places.Agents

-- the number of clocks
abbrev pub at_clocks : ReadingPlace
at_clocks = places.Clocks

-- the size of the caches
abbrev pub at_cache : ReadingPlace
at_cache = places.Cache

-- how many requests an agent may have outstanding
abbrev pub at_ahead : ReadingPlace
at_ahead = places.Ahead

-- the profile, the bridge, memory, or the first script
abbrev pub at_profile : ReadingPlace
at_profile = places.Profile

-- the bridge, memory, or the first script
abbrev pub at_bridge : ReadingPlace
at_bridge = places.Bridge

-- memory, or the first script
abbrev pub at_memory : ReadingPlace
at_memory = places.Memory

-- the next script
abbrev pub at_agent : ReadingPlace
at_agent = places.Agent

-- items of a script, or its end
abbrev pub at_items : ReadingPlace
at_items = places.Items

-- accesses of a locked item, or its end
abbrev pub at_locked : ReadingPlace
at_locked = places.Locked

-- hazards
abbrev pub at_hazards : ReadingPlace
at_hazards = places.Hazards
