-- What an agent wants of the bus.
use Rattle.std.specs.Prelude.{zero, suc, ℕ, ◌+◌, ◌*◌, ◌&&◌, ◌||◌, Bool, true, false, not, nat_eq, nat_le, List, [], ◌∷◌, length, Option, Some, None, slice_get, min, if◌then◌else◌}
use Rattle.std.specs.List.{list_any, filter, find}
use Rattle.std.specs.Option.{option_map, option_map_or}
use Rattle.fsb_count.specs.Clocks.{first_where}
use Rattle.fsb_count.specs.Options.{is_some_and}
use Rattle.fsb_encode.specs.declared.request.Kind.{Kind}
use Rattle.fsb_encode.specs.declared.request.Kind.TheVariants.{Invalidate, Read, WriteBack, Upgrade}
use Rattle.fsb_encode.specs.declared.request.Request.{Request}
use Rattle.fsb_trace.specs.Requests.{is_write_back_kind, is_upgrade_kind}
use Rattle.fsb_timely.specs.Past.{Owing, Past, Claim}
use Rattle.fsb_timely.specs.Grants.{set_of, is_rival, is_claim_of_other, lines_granted, holds_line}
use Rattle.fsb_timely.specs.Scripts.{Need, is_idling, window, needs_from}
use Rattle.fsb_timely.specs.Hits.{is_met, is_dirty}

-- the requests of symmetric agents that are outstanding at c, as the clock before left them
unfoldable pub outstanding_at : Past → ℕ → List Owing
outstanding_at p zero = []
outstanding_at p (suc c) = option_map_or (λ moment. moment.outstanding) (slice_get p.moments c) []

-- the requests of symmetric agents that are in flight at c and have no snoop end below it, as the clock before left them
unfoldable pub unsnooped_at : Past → ℕ → List Claim
unsnooped_at p zero = []
unsnooped_at p (suc c) = option_map_or (λ moment. moment.unsnooped) (slice_get p.moments c) []

-- the outstanding requests of agent a at c
unfoldable pub owed : Past → ℕ → ℕ → List Owing
owed p a c = filter (λ owing. nat_eq owing.claim.agent a) (outstanding_at p c)

-- one of these requests is for the line
unfoldable pub is_asked_for : List Owing → ℕ → Bool
is_asked_for owings line = list_any (λ owing. nat_eq owing.claim.line line) owings

-- the two lines have one cache set
unfoldable pub is_same_set : Past → ℕ → ℕ → Bool
is_same_set p line other = nat_eq (set_of p line) (set_of p other)

-- the line's cache set is that of a line of one of these requests, or of one of these lines
unfoldable pub is_set_taken : Past → List Owing → List ℕ → ℕ → Bool
is_set_taken p owings lines line =
    list_any (λ owing. is_same_set p line owing.claim.line) owings || list_any (is_same_set p line) lines

-- agent a, with these outstanding requests, may ask for the needed line at c: it lacks it, has not asked for it yet, and
-- the line's set is neither that of an outstanding request nor that of a line of an earlier item of the window
unfoldable pub is_missing : Past → ℕ → ℕ → List Owing → Need → Bool
is_missing p a c owings need =
    not (is_met p a c need) && not (is_asked_for owings need.line) && not (is_set_taken p owings need.earlier need.line)

-- the least of some numbers
unfoldable pub least_of : List ℕ → Option ℕ
least_of [] = None
least_of (n ∷ ns) = elim (least_of ns) [ None ↦ Some n | Some m ↦ Some (min n m) ]

-- the line that agent a has to write back at c before it asks for this one: the least other line of its set on which it is
-- dirty
unfoldable pub victim_of : Past → ℕ → ℕ → ℕ → Option ℕ
victim_of p a c line = least_of (filter (λ other. is_rival p other line && is_dirty p a other c) (lines_granted p a c))

-- the ID with agent a's number and the number n
unfoldable pub id_of : ℕ → ℕ → ℕ
id_of a n = a * 16 + n

-- one of these requests has the ID
unfoldable pub is_id_used : List Owing → ℕ → Bool
is_id_used owings did = list_any (λ owing. nat_eq owing.did did) owings

-- agent a's ID with the least number that none of these requests has
unfoldable pub free_id : ℕ → List Owing → ℕ
free_id a owings =
    option_map_or (id_of a) (first_where (λ n. not (is_id_used owings (id_of a n))) (length owings + 1)) 0

-- agent a may make an upgrade of the line at c: the profile is 2, and a holds the line
unfoldable pub may_upgrade : Past → ℕ → ℕ → ℕ → Bool
may_upgrade p a c line = nat_eq p.plan.profile 2 && holds_line p a line c

-- the kind of agent a's request at c for a needed line: a read where it is not needed for itself, otherwise an upgrade
-- where that may be made, and else a read and invalidate
unfoldable pub kind_needed : Past → ℕ → ℕ → Need → Kind
kind_needed p a c need =
    if not need.alone then Read else (if may_upgrade p a c need.line then Upgrade else Invalidate)

-- the request of this kind for a needed line, with an ID; DEN# says that it is neither for a locked item nor an upgrade
unfoldable pub request_of_kind : Kind → Need → ℕ → Request
request_of_kind kind need did = record {
  kind = kind;
  line = need.line;
  chunk = need.chunk;
  did = did;
  den = not (need.locked || is_upgrade_kind kind);
}

-- the write-back of a line, with an ID
unfoldable pub write_back_of : ℕ → ℕ → Request
write_back_of line did = record { kind = WriteBack; line = line; chunk = 0; did = did; den = false }

-- what agent a, with these outstanding requests, wants at c for a need: the line, or first the write-back of its victim
unfoldable pub want_for : Past → ℕ → ℕ → List Owing → Need → Request
want_for p a c owings need =
    elim (victim_of p a c need.line) [
      | Some victim ↦ write_back_of victim (free_id a owings)
      | None ↦ request_of_kind (kind_needed p a c need) need (free_id a owings)
    ]

-- what agent a wants at c: nothing while it idles or has `ahead` requests outstanding; otherwise for the first need of
-- its window that is missing
unfoldable pub want_of : Past → ℕ → ℕ → Option Request
want_of p a c =
    let owings = owed p a c in
    elim (is_idling p a c || nat_le p.plan.ahead (length owings)) [
      | true ↦ None
      | false ↦ option_map (want_for p a c owings) (find (is_missing p a c owings) (needs_from [] (window p a c)))
    ]

-- a request of an agent other than a that names the line is in flight at c and has no snoop end below c
unfoldable pub is_open_to_other : Past → ℕ → ℕ → ℕ → Bool
is_open_to_other p a c line = list_any (is_claim_of_other a line) (unsnooped_at p c)

-- agent a is held back at c: its want is a write-back, and another agent's open request names the line
unfoldable pub is_held_back : Past → ℕ → ℕ → Bool
is_held_back p a c =
    is_some_and (want_of p a c) (λ request. is_write_back_kind request.kind && is_open_to_other p a c request.line)
