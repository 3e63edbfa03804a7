-- What a line of the pure machine has to do with a run, after the events below a clock.
use Rattle.std.specs.Prelude.{◌≡◌, ◌<◌, ℕ, zero, suc, ◌+◌, ◌&&◌, ◌||◌, Bool, false, not, nat_eq, nat_lt, if◌then◌else◌, is_none, is_some, List, [], ◌∷◌, ◌++◌, Option, Some, None}
use Rattle.std.specs.List.{list_any}
use Rattle.std.specs.Option.{option_map_or, option_and_then}
use Rattle.fsb_count.specs.Clocks.{any_where, from_clock, last_where}
use Rattle.fsb_count.specs.Options.{is_at, is_some_and}
use Rattle.fsb_line.specs.declared.link.Link.{Link}
use Rattle.fsb_line.specs.declared.purpose.Purpose.{Purpose}
use Rattle.fsb_line.specs.declared.purpose.Purpose.TheVariants.{Own, Read}
use Rattle.fsb_line.specs.Line.{LineDeferral, MemoryLine, OpenRequest}
use Rattle.fsb_line.specs.States.{is_held, is_modified, is_sole}
use Rattle.fsb_trace.specs.declared.outcome.Outcome.TheVariants as outcomes
use Rattle.fsb_trace.specs.Outcome.{is_deferral}
use Rattle.fsb_timely.specs.Past.{Grant, SnoopEnd, Past}
use Rattle.fsb_timely.specs.Grants.{begun_at, holds_line, is_ended, is_exclusive, is_sole_grant, latest_grant, snooped_at}
use Rattle.fsb_timely.specs.Hits.{is_store_on}
use Rattle.fsb_timely.specs.Moments.{is_snoop_of}
use Rattle.fsb_timely.specs.Runs.{past_to}
use Rattle.fsb_timely.specs.Snoops.{is_held_elsewhere}
use Rattle.fsb_coherent.specs.Awaits.{Awaited, awaited_by, cancelled_in, owner_at, purpose_of, purpose_wanted, responded_in}
use Rattle.fsb_coherent.specs.LineEvents.{moves_on}

-- a store of agent a on the line is logged below n, above the end of the request that begins at q
unfoldable pub is_stored_below : Past → ℕ → ℕ → ℕ → ℕ → Bool
is_stored_below p a line n q =
    list_any (λ done. is_store_on a line done && is_ended p done.clock q && nat_lt done.clock n) p.log

-- agent a is dirty on the line at n, the hits of n left out
unfoldable pub is_dirty_below : Past → ℕ → ℕ → ℕ → Bool
is_dirty_below p a line n =
    is_exclusive p a line n
    && is_some_and (latest_grant p a line n) (λ grant. grant.owns || is_stored_below p a line n grant.first)

-- agent a is dirty on the line at n, all stores of n counted
unfoldable pub is_dirty_through : Past → ℕ → ℕ → ℕ → Bool
is_dirty_through p a line n =
    is_exclusive p a line n
    && is_some_and (latest_grant p a line n) (λ grant. grant.owns || is_stored_below p a line (n + 1) grant.first)

-- this grant of the line to agent a makes it dirty there at n: it is a sole one, and it owns, or a store above its end
-- is logged below n
unfoldable pub is_dirtying : Past → ℕ → ℕ → ℕ → Grant → Bool
is_dirtying p a line n grant = is_sole_grant grant && (grant.owns || is_stored_below p a line n grant.first)

-- the request that begins at q is cancelled below n
unfoldable pub is_cancelled_below : Past → ℕ → ℕ → Bool
is_cancelled_below p n q = any_where (λ t. is_at (cancelled_in p t) q) n

-- the request that begins at q has its snoop end below n
unfoldable pub is_snooped_below : Past → ℕ → ℕ → Bool
is_snooped_below p n q = any_where (λ t. is_some_and (snooped_at p t) (is_snoop_of q)) n

-- the request that begins at q has its response below n
unfoldable pub is_responded_below : Past → ℕ → ℕ → Bool
is_responded_below p n q = any_where (λ t. is_at (responded_in p t) q) n

-- agent a's request on the line is open at n: it began below n as what a wanted there, and was neither cancelled nor
-- snooped below n
pub record IsOpen (p : Past) (a line n : ℕ) (request : OpenRequest) : Type 0 where
  pub before : request.number < n
  pub begun : begun_at p request.number ≡ Some (record { first = request.number; agent = a; line = line })
  pub wanted : purpose_wanted (past_to p request.number) a request.number ≡ Some request.kind
  pub uncancelled : is_cancelled_below p n request.number ≡ false
  pub unsnooped : is_snooped_below p n request.number ≡ false

-- what is asked of a line by a reply with this grant
unfoldable pub purpose_granted : Option Grant → Purpose
purpose_granted grant = if is_some_and grant (λ g. g.owns) then Own else Read

-- what is asked of a line by the request whose snoop end this is
unfoldable pub purpose_at : SnoopEnd → Purpose
purpose_at s = option_map_or (λ kind. kind) (option_and_then purpose_of s.kind) (purpose_granted s.grant)

-- the agent that gives the bytes of a line that agent a awaits after this snoop end at t: the one that hands it over,
-- and for a write-back a itself; otherwise none
unfoldable pub giver_at : Past → ℕ → ℕ → ℕ → SnoopEnd → Option ℕ
giver_at p line t a s = elim s.outcome [
  | outcomes.Granted ↦ None
  | outcomes.Handed ↦ owner_at (past_to p t) a line t
  | outcomes.Retried ↦ None
  | outcomes.Deferred ↦ None
  | outcomes.Written ↦ Some a
  | outcomes.Replied ↦ None
  | outcomes.Failed ↦ None
  | outcomes.Upgraded ↦ None
]

-- the link that a snoop end at t makes on the line, where this end is awaited after it
unfoldable pub link_for : Past → ℕ → ℕ → SnoopEnd → Awaited → List Link
link_for p line t s awaited =
    if nat_eq awaited.line line
    then record { agent = awaited.agent; kind = purpose_at s; giver = giver_at p line t awaited.agent s } ∷ []
    else []

-- the link of this snoop end at t, as long as its end is not below n
unfoldable pub link_left : Past → ℕ → ℕ → ℕ → SnoopEnd → List Link
link_left p line n t s = if is_ended p n s.first then [] else option_map_or (link_for p line t s) (awaited_by s) []

-- the links of the snoop ends below t whose ends are not below n
unfoldable pub links_left : Past → ℕ → ℕ → ℕ → List Link
links_left p line n zero = []
links_left p line n (suc t) = links_left p line n t ++ option_map_or (link_left p line n t) (snooped_at p t) []

-- the links of the line at n, oldest first
unfoldable pub chain_below : Past → ℕ → ℕ → List Link
chain_below p line n = links_left p line n n

-- t is the snoop end of a request on the line that is Deferred
unfoldable pub defers_line : Past → ℕ → ℕ → Bool
defers_line p line t =
    is_some_and (snooped_at p t) (λ s. is_deferral s.outcome && is_some_and s.claim (λ claim. nat_eq claim.line line))

-- t is the snoop end of a reply that grants the line
unfoldable pub replies_line : Past → ℕ → ℕ → Bool
replies_line p line t =
    is_some_and (snooped_at p t) (λ s. is_none s.claim && is_some_and s.grant (λ grant. nat_eq grant.line line))

-- what is deferred for this agent by this snoop end at t
unfoldable pub deferred_to : Past → ℕ → ℕ → SnoopEnd → ℕ → LineDeferral
deferred_to p line t s agent = record {
  agent = agent;
  kind = purpose_at s;
  shared = is_held_elsewhere (past_to p t) agent line t;
}

-- what is deferred by the snoop end at t
unfoldable pub deferral_at : Past → ℕ → ℕ → Option LineDeferral
deferral_at p line t =
    option_and_then (λ s. option_map_or (λ claim. Some (deferred_to p line t s claim.agent)) s.claim None) (snooped_at p t)

-- the deferral that the line awaits a reply to at n: the last one below n, if no reply granted the line since
unfoldable pub deferral_below : Past → ℕ → ℕ → Option LineDeferral
deferral_below p line n = elim (last_where (defers_line p line) n) [
  | None ↦ None
  | Some t ↦ if any_where (from_clock (t + 1) (replies_line p line)) n then None else deferral_at p line t
]

-- the data that are awaited on the line after this snoop end are on the bus at n: its response is below n, and its end
-- is not
unfoldable pub is_moved_for : Past → ℕ → ℕ → SnoopEnd → Bool
is_moved_for p line n s =
    is_some_and (awaited_by s) (moves_on line) && is_responded_below p n s.first && not (is_ended p n s.first)

-- data of the line are on the bus at n
unfoldable pub is_moved_below : Past → ℕ → ℕ → Bool
is_moved_below p line n = any_where (λ t. is_some_and (snooped_at p t) (is_moved_for p line n)) n

-- the line of the machine is that of the run at clock n, the events of n left out. Its states are held, exclusive and
-- dirty as they are told by the run; its open requests, links and deferral are those of the run; and data are on the
-- bus where they are there
pub record Tied (p : Past) (line n : ℕ) (x : MemoryLine) : Type 0 where
  pub held : (a : ℕ) → is_held (x.state a) ≡ holds_line p a line n
  pub sole : (a : ℕ) → is_sole (x.state a) ≡ is_exclusive p a line n
  pub modified : (a : ℕ) → is_modified (x.state a) ≡ is_dirty_below p a line n
  pub asked : (a : ℕ) (request : OpenRequest) → x.ask a ≡ Some request → IsOpen p a line n request
  pub opened : (a : ℕ) (request : OpenRequest) → IsOpen p a line n request → x.ask a ≡ Some request
  pub chain : x.chain ≡ chain_below p line n
  pub deferral : x.deferral ≡ deferral_below p line n
  pub moved : is_some x.moved ≡ is_moved_below p line n
