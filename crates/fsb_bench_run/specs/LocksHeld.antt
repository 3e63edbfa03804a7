-- Which agents keep the bus locked into a clock, before anything begins there.
use Rattle.std.specs.Prelude.{ℕ, zero, suc, ◌&&◌, Bool, false, not, List, [], ◌∷◌}
use Rattle.fsb_timely.specs.BusLock.{is_release, keeps_lock}
use Rattle.fsb_timely.specs.Past.{Past}

-- agent a keeps the bus locked into c: it did at the clock before, and made no release there
unfoldable pub keeps_into : Past → ℕ → ℕ → Bool
keeps_into p zero a = false
keeps_into p (suc c) a = keeps_lock p c a && not (is_release p a c)

-- of each agent, 0 to 3, whether it keeps the bus locked into c
abbrev pub kept_into : Past → ℕ → List Bool
kept_into p c = keeps_into p c 0 ∷ (keeps_into p c 1 ∷ (keeps_into p c 2 ∷ (keeps_into p c 3 ∷ [])))
