-- What has to be known of a clock of a run so that the clock keeps the tie of a line. Nothing here names a line of
-- the machine, only links, open requests and deferrals as it has them.
use Rattle.std.specs.Prelude.{◌≡◌, ◌≢◌, ◌≤◌, ◌+◌, ◌&&◌, ◌||◌, ℕ, Bool, true, false, not, nat_eq, IsTrue, Some, None, List, [], ◌∷◌}
use Rattle.std.specs.List.{list_all, list_any}
use Rattle.std.specs.Option.{option_and_then}
use Rattle.fsb_count.specs.Options.{is_at, is_some_and}
use Rattle.fsb_access.specs.declared.log.Done.{Done}
use Rattle.fsb_line.specs.declared.link.Link.{Link}
use Rattle.fsb_line.specs.declared.purpose.Purpose.{Purpose}
use Rattle.fsb_line.specs.declared.purpose.Purpose.TheVariants as purposes
use Rattle.fsb_line.specs.Line.{LineDeferral, OpenRequest}
use Rattle.fsb_line.specs.Links.{carries, is_linked}
use Rattle.fsb_line.specs.States.{kind_owns}
use Rattle.fsb_trace.specs.declared.outcome.Outcome.TheVariants.{Granted, Handed, Deferred, Replied, Upgraded}
use Rattle.fsb_timely.specs.Growth.{GoesOn}
use Rattle.fsb_timely.specs.Past.{Claim, Grant, Past, SnoopEnd}
use Rattle.fsb_timely.specs.Grants.{begun_at, ended_requests, has_arrived, holds_line, is_ended, is_evicted, is_exclusive, is_ready, is_rival, snooped_at}
use Rattle.fsb_timely.specs.Hits.{is_dirty, is_hit}
use Rattle.fsb_timely.specs.Runs.{past_to}
use Rattle.fsb_timely.specs.Scripts.{is_load}
use Rattle.fsb_timely.specs.Snoops.{is_held_elsewhere}
use Rattle.fsb_coherent.specs.Awaits.{Awaited, awaited_at, cancelled_in, purpose_of, purpose_wanted, responded_in}
use Rattle.fsb_coherent.specs.Fitting.{IsSnoopOn}
use Rattle.fsb_coherent.specs.LineEvents.{entries_on, is_of_other_line, moves_on}
use Rattle.fsb_coherent.specs.Relation.{IsOpen, chain_below, deferral_below, is_cancelled_below, is_moved_below, is_snooped_below, links_left}

-- data of the line are put on the bus at n
unfoldable pub does_respond_on : Past → ℕ → ℕ → Bool
does_respond_on p line n = is_some_and (option_and_then (awaited_at p n) (responded_in p n)) (moves_on line)

-- an end at n is awaited on the line
unfoldable pub does_end_on : Past → ℕ → ℕ → Bool
does_end_on p line n =
    list_any (λ q. is_some_and (awaited_at p n q) (λ awaited. nat_eq awaited.line line)) (ended_requests p n)

-- the entry, where it is that of a hit, is served: its agent holds the line ready, and for itself where it is a store
unfoldable pub is_served_hit : Past → ℕ → ℕ → Done → Bool
is_served_hit p line n done =
    not (is_hit p done.agent n)
    || (holds_line p done.agent line n && is_ready p done.agent line n
    && (is_load done.access || is_exclusive p done.agent line n))

-- the entry, where it comes with the end of another line, is served: its agent holds the line behind the snoop end, with
-- its latest grant ended before, and for itself where it is a store
unfoldable pub is_served_other : Past → ℕ → ℕ → Done → Bool
is_served_other p line n done =
    not (is_of_other_line p line n done)
    || (holds_line p done.agent line (n + 1) && has_arrived p done.agent line (n + 1) n
    && (is_load done.access || is_exclusive p done.agent line (n + 1)))

-- the response of n, where it puts data of the line on the bus: it is that of the oldest link, which carries, and its
-- data were not there before
pub record RespondsAsOldest (p : Past) (line n : ℕ) : Type 0 where
  pub oldest : does_respond_on p line n ≡ true → (link : Link) × (links : List Link)
      × (chain_below p line n ≡ link ∷ links) × (carries link ≡ true)
  pub unmoved : does_respond_on p line n ≡ true → is_moved_below p line n ≡ false

-- the ends of n: there is one request at most that ends; where its end is awaited on the line it is the oldest link, whose
-- data are there if it carries; and with it, or without one, the other links are left
pub record EndsInOrder (p : Past) (line n : ℕ) : Type 0 where
  pub few : (q r : ℕ) (qs : List ℕ) → ended_requests p n ≡ q ∷ r ∷ qs → ⊥
  pub oldest : (q : ℕ) (awaited : Awaited) → ended_requests p n ≡ q ∷ [] → awaited_at p n q ≡ Some awaited
      → awaited.line ≡ line → (link : Link) × (chain_below p line n ≡ link ∷ links_left p line (n + 1) n)
      × (link.agent ≡ awaited.agent) × (carries link ≡ awaited.carries)
      × (awaited.carries ≡ true → is_moved_below p line n ≡ true)
  pub others : does_end_on p line n ≡ false → links_left p line (n + 1) n ≡ chain_below p line n
  pub newest : (s : SnoopEnd) → snooped_at p n ≡ Some s → is_ended p (n + 1) s.first ≡ false
  pub moved : is_moved_below p line (n + 1)
      ≡ ((is_moved_below p line n || does_respond_on p line n) && not (does_end_on p line n))

-- the accesses of n: those of hits, and those that come with the end of another line, are served; and whoever has the line
-- ready awaits no link of it, before the snoop end and behind it
pub record AccessesServed (p : Past) (line n : ℕ) : Type 0 where
  pub hits : IsTrue (list_all (is_served_hit p line n) (entries_on p line n))
  pub others : IsTrue (list_all (is_served_other p line n) (entries_on p line n))
  pub unlinked : (a : ℕ) → holds_line p a line n ≡ true → is_ready p a line n ≡ true
      → is_linked a (chain_below p line n) ≡ false
  pub unlinked_after : (a : ℕ) → holds_line p a line (n + 1) ≡ true → has_arrived p a line (n + 1) n ≡ true
      → is_linked a (chain_below p line (n + 1)) ≡ false

-- what is asked for suits what its agent has of the line: a read a line that it does not hold, an upgrade or a read and
-- invalidate one that it has not for itself, and a write-back one on which it is dirty
unfoldable pub suits_holder : Past → ℕ → ℕ → ℕ → Purpose → Bool
suits_holder p a line n purposes.Read = not (holds_line p a line n)
suits_holder p a line n purposes.Own = not (is_exclusive p a line n)
suits_holder p a line n purposes.Upgrade = not (is_exclusive p a line n)
suits_holder p a line n purposes.WriteBack = is_dirty p a line n

-- a request for the line that begins at n: its agent wants it, and has nothing else on the line, open, linked or deferred;
-- it suits what the agent has; no other request is open behind which a write-back would be held back; and it was neither
-- cancelled nor snooped before it began
pub record IsBegunRightly (p : Past) (line n a : ℕ) : Type 0 where
  pub kind : Purpose
  pub wanted : purpose_wanted p a n ≡ Some kind
  pub suited : suits_holder p a line n kind ≡ true
  pub no_ask : (request : OpenRequest) → IsOpen p a line n request → ⊥
  pub no_link : is_linked a (chain_below p line n) ≡ false
  pub no_deferral : (d : LineDeferral) → deferral_below p line n ≡ Some d → d.agent ≢ a
  pub not_held_off : kind ≡ purposes.WriteBack → (b : ℕ) (request : OpenRequest) → IsOpen p b line n request → b ≡ a
  pub uncancelled : is_cancelled_below p n n ≡ false
  pub unsnooped : is_snooped_below p n n ≡ false

-- the request that begins at n and the one that is cancelled there, for the line: a line that is dropped for another one of
-- its cache set is not dirty; and the one that is cancelled was open
pub record BeginsInOrder (p : Past) (line n : ℕ) : Type 0 where
  pub first : (claim : Claim) → begun_at p n ≡ Some claim → claim.first ≡ n
  pub begun : (claim : Claim) → begun_at p n ≡ Some claim → claim.line ≡ line → IsBegunRightly p line n claim.agent
  pub dropped : (claim : Claim) → begun_at p n ≡ Some claim → is_rival p claim.line line ≡ true
      → is_dirty p claim.agent line n ≡ false
  pub cancelled : (q : ℕ) (claim : Claim) → cancelled_in p n ≡ Some q → begun_at p q ≡ Some claim → claim.line ≡ line
      → (request : OpenRequest) × IsOpen p claim.agent line n request × (request.number ≡ q)

-- the snoop end of a request for the line at n: it may be, it is that of the oldest open request, of the kind that its
-- agent wanted, and not cancelled there; its agent drops no line; HIT# and HITM# told who has the line; and a pending line
-- is not given
pub record IsSettledOn (p : Past) (line n : ℕ) (s : SnoopEnd) : Type 0 where
  pub fits : IsSnoopOn p line n s
  pub purpose : Purpose
  pub known : purpose_of fits.kind ≡ Some purpose
  pub opened : IsOpen p fits.agent line n (record { kind = purpose; number = s.first })
  pub uncancelled : is_at (cancelled_in p n) s.first ≡ false
  pub oldest : (b : ℕ) (request : OpenRequest) → IsOpen p b line n request → s.first ≤ request.number
  pub unevicted : is_evicted p fits.agent line n ≡ false
  pub won : fits.won ≡ holds_line p fits.agent line n
  pub owns : fits.owns ≡ kind_owns purpose
  pub clean : s.outcome ≢ Handed → (b : ℕ) → b ≢ fits.agent → is_dirty p b line n ≡ false
  pub seen : s.outcome ≡ Granted → fits.shared ≡ is_held_elsewhere p fits.agent line n
  pub seen_dirty : s.outcome ≡ Handed → fits.shared ≡ true
  pub kept : s.outcome ≡ Granted → deferral_below p line n ≡ None
  pub kept_later : s.outcome ≡ Deferred → deferral_below p line n ≡ None
  pub kept_won : s.outcome ≡ Upgraded → deferral_below p line n ≡ None

-- the snoop end of a reply at n that grants the line: the line has a deferral, and the grant is for it
pub record IsRepliedOn (p : Past) (line n : ℕ) (s : SnoopEnd) (grant : Grant) : Type 0 where
  pub replied : s.outcome ≡ Replied
  pub no_kind : option_and_then purpose_of s.kind ≡ None
  pub deferral : LineDeferral
  pub pending : deferral_below p line n ≡ Some deferral
  pub agent : grant.agent ≡ deferral.agent
  pub first : grant.first ≡ s.first
  pub owns : grant.owns ≡ kind_owns deferral.kind
  pub seen : grant.owns ≡ false → grant.shared ≡ deferral.shared

-- the snoop end of n, for the line: its claim is that of the request that began; it is that of a request for the line, or of
-- a reply that grants it; any other grants another line
pub record SettlesInOrder (p : Past) (line n : ℕ) : Type 0 where
  pub claimed : (s : SnoopEnd) → snooped_at p n ≡ Some s → s.claim ≡ begun_at p s.first
  pub settled : (s : SnoopEnd) (claim : Claim) → snooped_at p n ≡ Some s → s.claim ≡ Some claim → claim.line ≡ line
      → IsSettledOn p line n s
  pub replied : (s : SnoopEnd) (grant : Grant) → snooped_at p n ≡ Some s → s.claim ≡ None → s.grant ≡ Some grant
      → grant.line ≡ line → IsRepliedOn p line n s grant
  pub elsewhere : (s : SnoopEnd) (claim : Claim) (grant : Grant) → snooped_at p n ≡ Some s → s.claim ≡ Some claim
      → s.grant ≡ Some grant → grant.line ≡ claim.line
  pub few_agents : (b : ℕ) → 4 ≤ b → holds_line p b line n ≡ false

-- what is known of clock n of a run, for the line: its past goes on from the one up to the clock; and the response, the
-- ends, the accesses, the requests that begin or are cancelled, and the snoop end come in order
pub record ClockFacts (p : Past) (line n : ℕ) : Type 0 where
  pub goes_on : GoesOn (n + 1) (past_to p n) p
  pub responds : RespondsAsOldest p line n
  pub ends : EndsInOrder p line n
  pub accesses : AccessesServed p line n
  pub begins : BeginsInOrder p line n
  pub settles : SettlesInOrder p line n
