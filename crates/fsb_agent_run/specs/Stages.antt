-- The view of an agent in a run at a clock: before its hit, after its hit, after it has sent its request, before the
-- clock's snoop end, and after it.
use Rattle.std.specs.Prelude.{◌≡◌, ℕ, ◌+◌, ◌++◌, ◌&&◌, ◌||◌, Bool, true, false, not, nat_eq, List}
use Rattle.std.specs.List.{filter}
use Rattle.fsb_count.specs.Options.{is_at, is_some_and}
use Rattle.fsb_timely.specs.Past.{Owing, Past}
use Rattle.fsb_timely.specs.Grants.{is_exclusive, latest_grant}
use Rattle.fsb_timely.specs.Hits.{is_dirty, is_hit, is_stored_since}
use Rattle.fsb_timely.specs.Wants.{owed}
use Rattle.fsb_coherent.specs.Awaits.{cancelled_in}
use Rattle.fsb_coherent.specs.Relation.{is_dirty_below}
use Rattle.fsb_run_laws.specs.RunSteps.{listed, owing_begun}
use Rattle.fsb_agent_view.specs.AgentViews.{AgentView}
use Rattle.fsb_agent_run.specs.RunViews.{HasLinesKept, HasLinesOf, HasRequestsOf, IsAgentOf, IsAtItem, IsPlacedIn}

-- agent a is dirty on the line after the snoop end of c: of its stores at c those of a hit count, and not those of an
-- arrival
abbrev pub is_dirty_snooped : Past → ℕ → ℕ → ℕ → Bool
is_dirty_snooped p a line c =
    is_exclusive p a line (c + 1)
    && is_some_and (latest_grant p a line (c + 1)) (λ grant. grant.owns || is_stored_since p a line c grant.first)

-- the request that agent a begins at c, as a list
unfoldable pub owings_begun : Past → ℕ → ℕ → List Owing
owings_begun p a c = filter (λ owing. nat_eq owing.claim.agent a) (listed (owing_begun p c))

-- the request is not cancelled at c
unfoldable pub is_uncancelled : Past → ℕ → Owing → Bool
is_uncancelled p c owing = not (is_at (cancelled_in p c) owing.claim.first)

-- the outstanding requests of agent a at c, with the one that it begins there
unfoldable pub owed_sent : Past → ℕ → ℕ → List Owing
owed_sent p a c = owed p a c ++ owings_begun p a c

-- the same, without the one that is cancelled there
unfoldable pub owed_through : Past → ℕ → ℕ → List Owing
owed_through p a c = filter (is_uncancelled p c) (owed_sent p a c)

-- the record is where agent a is in its script at c with its hit: where c finds it if it has none, and else where the
-- next clock finds it
pub record IsPlacedThrough (p : Past) (a c : ℕ) (v : AgentView) : Type 0 where
  pub item : IsAtItem p a c (is_hit p a c) v
  pub before : is_hit p a c ≡ false → IsPlacedIn p a c v
  pub behind : is_hit p a c ≡ true → IsPlacedIn p a (c + 1) v

-- the record is agent a as c finds it
pub record IsViewOf (p : Past) (a c : ℕ) (v : AgentView) : Type 0 where
  pub agent : IsAgentOf p a v
  pub placed : IsPlacedIn p a c v
  pub lines : HasLinesOf p a c c (λ line. is_dirty_below p a line c) v
  pub requests : HasRequestsOf p a c (owed p a c) v

-- the record is agent a after its hit at c, if it has one
pub record IsViewAfterHit (p : Past) (a c : ℕ) (v : AgentView) : Type 0 where
  pub agent : IsAgentOf p a v
  pub placed : IsPlacedThrough p a c v
  pub lines : HasLinesOf p a c c (λ line. is_dirty p a line c) v
  pub requests : HasRequestsOf p a c (owed p a c) v

-- the record is agent a after what it begins at c, if it begins anything
pub record IsViewAfterSent (p : Past) (a c : ℕ) (v : AgentView) : Type 0 where
  pub agent : IsAgentOf p a v
  pub placed : IsPlacedThrough p a c v
  pub lines : HasLinesKept p a c v
  pub requests : HasRequestsOf p a c (owed_sent p a c) v

-- the record is agent a before the snoop end of c: what is cancelled there has gone
pub record IsViewBeforeSnoop (p : Past) (a c : ℕ) (v : AgentView) : Type 0 where
  pub agent : IsAgentOf p a v
  pub placed : IsPlacedThrough p a c v
  pub lines : HasLinesKept p a c v
  pub requests : HasRequestsOf p a c (owed_through p a c) v

-- the record is agent a after the snoop end of c, and before anything ends there
pub record IsViewAfterSnoop (p : Past) (a c : ℕ) (v : AgentView) : Type 0 where
  pub agent : IsAgentOf p a v
  pub placed : IsPlacedThrough p a c v
  pub lines : HasLinesOf p a (c + 1) c (λ line. is_dirty_snooped p a line c) v
  pub requests : HasRequestsOf p a (c + 1) (owed_through p a c) v
