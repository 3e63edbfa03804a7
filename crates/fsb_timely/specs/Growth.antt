-- How a run grows, clock by clock.
use Rattle.std.specs.Prelude.{ℕ, ◌+◌, ◌&&◌, ◌||◌, nat_eq, nat_le, slice_get, ◌≡◌, ◌<◌, Bool, true, false, List, [], ◌∷◌, ◌++◌, length, IsTrue}
use Rattle.std.specs.List.{list_all, list_any}
use Rattle.fsb_count.specs.Options.{is_at}
use Rattle.fsb_signal.specs.declared.sample.Sample.{Sample}
use Rattle.fsb_access.specs.declared.log.Done.{Done}
use Rattle.fsb_hazard.specs.declared.choice.Choice.{Choice}
use Rattle.fsb_trace.specs.At.{Trace}
use Rattle.fsb_trace.specs.Flight.{last_clock_of}
use Rattle.fsb_trace.specs.Requests.{is_cancelled, is_live, live_number_of}
use Rattle.fsb_timely.specs.Past.{Moment, Past}
use Rattle.fsb_timely.specs.Scripts.{is_done_at}
use Rattle.fsb_timely.specs.Hits.{is_hit}
use Rattle.fsb_timely.specs.Moments.{moment_at}
use Rattle.fsb_timely.specs.Runs.{Run, requests_below, past_of}
use Rattle.fsb_timely.specs.Timely.{Timely}

-- the second run is the first with one more clock: one more sample and one more hold, maybe more choices, and entries of
-- that clock alone
pub record IsNext (r s : Run) : Type 0 where
  pub sample : Sample
  pub hold : Bool
  pub choices : List Choice
  pub entries : List Done
  pub same_plan : s.plan ≡ r.plan
  pub more_trace : s.trace ≡ r.trace ++ sample ∷ []
  pub more_holds : s.holds ≡ r.holds ++ hold ∷ []
  pub more_choices : s.choices ≡ r.choices ++ choices
  pub more_log : s.log ≡ r.log ++ entries
  pub at_end : IsTrue (list_all (λ done. nat_eq done.clock (length r.trace)) entries)

-- the run has one hold for each clock, and one choice for each request
pub record IsWhole (r : Run) : Type 0 where
  pub one_hold : length r.holds ≡ length r.trace
  pub one_choice : length r.choices ≡ requests_below r.trace (length r.trace)

-- the timely run r grows to s by one clock: s is r with one more clock, and has one hold for each clock and one choice for
-- each request
pub record GrowsTo (r s : Run) : Type 0 where
  pub timely : Timely r
  pub next : IsNext r s
  pub whole : IsWhole s

-- the past of the clock by which the run r grows to s: the moments of r, and the log of s
unfoldable pub past_at_growth : Run → Run → Past
past_at_growth r s = record { plan = s.plan; moments = (past_of r).moments; log = s.log }

-- the moment of the clock by which the run r grows to s
unfoldable pub moment_at_growth : Run → Run → Moment
moment_at_growth r s = moment_at (past_at_growth r s) s.choices s.trace (length r.trace)

-- the second past goes on from the first, of which clock n is the next: they have one plan and the same moments below n, and
-- the log of the second is that of the first with entries of clock n or later
pub record GoesOn (n : ℕ) (p q : Past) : Type 0 where
  pub same_plan : p.plan ≡ q.plan
  pub same_moments : (t : ℕ) → t < n → slice_get p.moments t ≡ slice_get q.moments t
  pub entries : List Done
  pub more_log : q.log ≡ p.log ++ entries
  pub at_end : IsTrue (list_all (λ done. nat_le n done.clock) entries)

-- the second past goes on from the first behind the hits of clock n: an agent that has a hit there has no entry of n among
-- those that come
pub record GoesOnAfterHits (n : ℕ) (p q : Past) : Type 0 where
  pub goes_on : GoesOn n p q
  pub hits_done : (a : ℕ) → is_hit p a n ≡ true → list_any (is_done_at a n) goes_on.entries ≡ false

-- c is the last clock at which the request that begins at q is outstanding: its address error is at c, or its end, or, if it
-- is Deferred, that of its reply
unfoldable pub is_last_clock : Trace → ℕ → ℕ → Bool
is_last_clock w c q =
    is_cancelled w q && nat_eq (q + 3) c || is_live w q && is_at (last_clock_of w (live_number_of w q)) c
