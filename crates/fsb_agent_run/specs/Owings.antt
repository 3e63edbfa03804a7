-- Requests of an agent that are apart.
use Rattle.std.specs.Prelude.{◌&&◌, Bool, true, not, nat_eq, List, [], ◌∷◌}
use Rattle.std.specs.List.{list_all}
use Rattle.fsb_timely.specs.Past.{Owing, Past}
use Rattle.fsb_timely.specs.Wants.{is_same_set}

-- two requests of an agent have different first clocks and different IDs, and lines of different sets
unfoldable pub is_owing_apart : Past → Owing → Owing → Bool
is_owing_apart p x y =
    not (nat_eq x.claim.first y.claim.first) && not (nat_eq x.did y.did)
    && not (is_same_set p x.claim.line y.claim.line)

-- each two of these requests are apart
unfoldable pub are_owings_apart : Past → List Owing → Bool
are_owings_apart p [] = true
are_owings_apart p (owing ∷ owings) = list_all (is_owing_apart p owing) owings && are_owings_apart p owings
