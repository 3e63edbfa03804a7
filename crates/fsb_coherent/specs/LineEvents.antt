-- The events of a line of memory in a run, clock by clock.
use Rattle.std.specs.Prelude.{ℕ, zero, suc, ◌%◌, ◌&&◌, Bool, not, nat_eq, is_some, if◌then◌else◌, List, [], ◌∷◌, ◌++◌, map, fold, slice_index, Some, None}
use Rattle.std.specs.List.{filter, list_any}
use Rattle.std.specs.Option.{option_map_or, option_and_then}
use Rattle.fsb_count.specs.Options.{is_some_and}
use Rattle.fsb_access.specs.declared.log.Done.{Done}
use Rattle.fsb_access.specs.Access.{accessed_line, addr_of, size_of}
use Rattle.fsb_access.specs.ByteMemory.{bytes_at, put_value}
use Rattle.fsb_line.specs.declared.purpose.Purpose.{Purpose}
use Rattle.fsb_line.specs.Events.{Event}
use Rattle.fsb_line.specs.Events.Event.{Begins, Drops, Ends, IsCancelled, IsDeferred, IsGranted, IsHanded, IsLost, IsReplied, IsRetried, IsUpgraded, IsWritten, Loads, Responds, Stores}
use Rattle.fsb_line.specs.Line.{Bytes}
use Rattle.fsb_trace.specs.declared.outcome.Outcome.TheVariants as outcomes
use Rattle.fsb_timely.specs.Past.{Claim, SnoopEnd, Past}
use Rattle.fsb_timely.specs.Grants.{begun_at, ended_requests, is_rival, snooped_at}
use Rattle.fsb_timely.specs.Scripts.{is_load}
use Rattle.fsb_timely.specs.Hits.{is_hit}
use Rattle.fsb_timely.specs.Runs.{past_to}
use Rattle.fsb_timely.specs.Snoops.{is_held_elsewhere}
use Rattle.fsb_coherent.specs.Awaits.{Awaited, awaited_at, cancelled_in, owner_at, purpose_of, purpose_wanted, responded_in}

-- what a logged store makes of the bytes of its line
unfoldable pub change_of : Done → Bytes → Bytes
change_of done bytes =
    bytes_at (put_value (slice_index bytes) (addr_of done.access % 32) (size_of done.access) done.value) 0 32

-- what logged stores make of them, one after the other
unfoldable pub changes_of : List Done → Bytes → Bytes
changes_of stores bytes = fold (λ before done. change_of done before) bytes stores

-- an entry of the log, as an event of its line
unfoldable pub access_event : Done → Event
access_event done = if is_load done.access then Loads done.agent else Stores done.agent (change_of done)

-- the entries of c on the line, in order
unfoldable pub entries_on : Past → ℕ → ℕ → List Done
entries_on p line c = filter (λ done. nat_eq done.clock c && nat_eq (accessed_line done.access) line) p.log

-- the end is awaited on the line, and data move
unfoldable pub moves_on : ℕ → Awaited → Bool
moves_on line awaited = nat_eq awaited.line line && awaited.carries

-- the end is awaited on the line, by agent a
unfoldable pub is_awaited_for : ℕ → ℕ → Awaited → Bool
is_awaited_for a line awaited = nat_eq awaited.line line && nat_eq awaited.agent a

-- the response of c puts data of the line on the bus
unfoldable pub responds_on : Past → ℕ → ℕ → List Event
responds_on p line c =
    if is_some_and (option_and_then (awaited_at p c) (responded_in p c)) (moves_on line) then Responds ∷ [] else []

-- the accesses to the line that are hits at c
unfoldable pub hits_on : Past → ℕ → ℕ → List Event
hits_on p line c = map access_event (filter (λ done. is_hit p done.agent c) (entries_on p line c))

-- what the request with this claim, which begins at c, is for the line: it begins there; or its agent drops the line,
-- since it is for another line of the cache set
unfoldable pub begin_events : Past → ℕ → ℕ → Claim → List Event
begin_events p line c claim =
    if nat_eq claim.line line
    then option_map_or (λ kind. Begins claim.agent kind c ∷ []) (purpose_wanted p claim.agent c) []
    else (if is_rival p claim.line line then Drops claim.agent ∷ [] else [])

-- the request that begins at c
unfoldable pub begins_on : Past → ℕ → ℕ → List Event
begins_on p line c = option_map_or (begin_events p line c) (begun_at p c) []

-- the cancellation of a request with this claim, where it is on the line
unfoldable pub cancel_events : ℕ → Claim → List Event
cancel_events line claim = if nat_eq claim.line line then IsCancelled claim.agent ∷ [] else []

-- the request on the line that is cancelled at c
unfoldable pub cancels_on : Past → ℕ → ℕ → List Event
cancels_on p line c =
    option_map_or (cancel_events line) (option_and_then (begun_at p) (cancelled_in p c)) []

-- the snoop end of agent a's request of this kind, which is settled so
unfoldable pub settled_events : Past → ℕ → ℕ → SnoopEnd → ℕ → Purpose → List Event
settled_events p line c s a kind = elim s.outcome [
  | outcomes.Granted ↦ IsGranted a kind (is_held_elsewhere p a line c) ∷ []
  | outcomes.Handed ↦ option_map_or (λ owner. IsHanded a kind owner ∷ []) (owner_at p a line c) []
  | outcomes.Retried ↦ IsRetried a kind ∷ []
  | outcomes.Deferred ↦ IsDeferred a kind (is_held_elsewhere p a line c) ∷ []
  | outcomes.Written ↦ IsWritten a ∷ []
  | outcomes.Replied ↦ []
  | outcomes.Failed ↦ []
  | outcomes.Upgraded ↦ (if is_some s.grant then IsUpgraded a else IsLost a) ∷ []
]

-- the snoop end of a request with this claim, where it is on the line
unfoldable pub claimed_events : Past → ℕ → ℕ → SnoopEnd → Claim → List Event
claimed_events p line c s claim =
    if nat_eq claim.line line
    then option_map_or (settled_events p line c s claim.agent) (option_and_then purpose_of s.kind) []
    else []

-- a snoop end, where it is on the line: without a claim it is that of a reply
unfoldable pub snoop_events : Past → ℕ → ℕ → SnoopEnd → List Event
snoop_events p line c s = elim s.claim [
  | Some claim ↦ claimed_events p line c s claim
  | None ↦ if is_some_and s.grant (λ grant. nat_eq grant.line line) then IsReplied ∷ [] else []
]

-- the snoop end of c
unfoldable pub snoops_on : Past → ℕ → ℕ → List Event
snoops_on p line c = option_map_or (snoop_events p line c) (snooped_at p c) []

-- the stores of agent a into the line at c that awaited an end: a has no hit there
unfoldable pub awaiting_stores : Past → ℕ → ℕ → ℕ → List Done
awaiting_stores p line c a =
    filter (λ done. nat_eq done.agent a && not (is_hit p a c) && not (is_load done.access)) (entries_on p line c)

-- this end at c, where it was awaited on the line, with the stores that awaited it
unfoldable pub awaited_events : Past → ℕ → ℕ → Awaited → List Event
awaited_events p line c awaited =
    if nat_eq awaited.line line then Ends (changes_of (awaiting_stores p line c awaited.agent)) ∷ [] else []

-- the end at c of the live request that begins at q, where it was awaited on the line
unfoldable pub end_events : Past → ℕ → ℕ → ℕ → List Event
end_events p line c q =
    option_map_or (awaited_events p line c) (awaited_at p c q) []

-- the ends of these live requests at c
unfoldable pub events_of_ends : Past → ℕ → ℕ → List ℕ → List Event
events_of_ends p line c [] = []
events_of_ends p line c (q ∷ qs) = end_events p line c q ++ events_of_ends p line c qs

-- the ends of c
unfoldable pub ends_on : Past → ℕ → ℕ → List Event
ends_on p line c = events_of_ends p line c (ended_requests p c)

-- an end at c was awaited on the line by agent a
unfoldable pub is_brought_to : Past → ℕ → ℕ → ℕ → Bool
is_brought_to p line c a = list_any (λ q. is_some_and (awaited_at p c q) (is_awaited_for a line)) (ended_requests p c)

-- the entry is neither one of a hit nor of a line that its agent gets at c: it is one of another line of a locked item
unfoldable pub is_of_other_line : Past → ℕ → ℕ → Done → Bool
is_of_other_line p line c done = not (is_hit p done.agent c) && not (is_brought_to p line c done.agent)

-- the accesses to the line that come with the end of another line
unfoldable pub others_on : Past → ℕ → ℕ → List Event
others_on p line c = map access_event (filter (is_of_other_line p line c) (entries_on p line c))

-- all events of the line at c, in order, where the past ends with c
unfoldable pub events_of_clock : Past → ℕ → ℕ → List Event
events_of_clock p line c =
    responds_on p line c ++ hits_on p line c ++ begins_on p line c ++ cancels_on p line c ++ snoops_on p line c
    ++ ends_on p line c ++ others_on p line c

-- the events of the line at c: the response, the hits, the request that begins and the one that is cancelled, the snoop
-- end, the end, and the other lines of what arrives. Hits come before the snoop end: that one sees what they stored
unfoldable pub events_at : Past → ℕ → ℕ → List Event
events_at p line c = events_of_clock (past_to p c) line c

-- the events of the line below clock n
unfoldable pub events_below : Past → ℕ → ℕ → List Event
events_below p line zero = []
events_below p line (suc c) = events_below p line c ++ events_at p line c
