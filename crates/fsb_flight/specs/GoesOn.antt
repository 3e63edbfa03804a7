-- What a clock makes of the entries of a queue.
use Rattle.std.specs.Prelude.{◌≡◌, ◌<◌, ℕ, Bool, true, not, if◌then◌else◌, List, [], ◌∷◌, ◌++◌, map, Option, Some, None, length, slice_get, slice_index}
use Rattle.std.specs.List.{filter}
use Rattle.fsb_signal.specs.declared.lines.TheConstants.Lines.{ADS}
use Rattle.fsb_signal.specs.declared.sample.Sample.{Sample}
use Rattle.fsb_signal.specs.Samples.{has_line}
use Rattle.fsb_trace.specs.declared.outcome.Outcome.{Outcome}
use Rattle.fsb_trace.specs.At.{Trace}
use Rattle.fsb_trace.specs.Requests.{live_request_of, is_write_back}
use Rattle.fsb_trace.specs.Snoop.{snoop_end_of}
use Rattle.fsb_trace.specs.Outcome.{settled_by}
use Rattle.fsb_laws.specs.Leaving.{leaves}
use Rattle.fsb_queue.specs.declared.entry.Entry.{Entry}
use Rattle.fsb_queue.specs.Entries.{with_outcome}
use Rattle.fsb_phase.specs.Drive.{ends_snoop_at}
use Rattle.fsb_heads.specs.Heads.{snooped_count}

-- the entry after the sample x as the next of the history: with this outcome, where its snoop ends there
unfoldable pub settles : Trace → Sample → Outcome → Entry → Entry
settles h x outcome e = if ends_snoop_at (h ++ x ∷ []) (length h) e then with_outcome outcome e else e

-- the entries that stay: those that x neither ends nor cancels
unfoldable pub stays_in_flight : Trace → Sample → Entry → Bool
stays_in_flight h x e = not (leaves h x (h ++ x ∷ []) e.clock)

-- the entries after the sample, without one that begins there
unfoldable pub goes_on : Trace → Sample → Outcome → List Entry → List Entry
goes_on h x outcome queue = filter (stays_in_flight h x) (map (settles h x outcome) queue)

-- the effective turns go on as the later ones, with this outcome where a snoop ends, and these entries, one at most, begin
pub record TakesTurn (h : Trace) (x : Sample) (turns later : List ℕ) (outcome : Outcome) (new : List Entry) : Type 0 where
  -- the turns of the requests with their snoop end stay
  pub same : (i : ℕ) → i < snooped_count h → slice_index later i ≡ slice_index turns i
  -- the outcome is the settled one, by the turn of the next live request, where its snoop ends with the sample
  pub outcome_is : snoop_end_of (h ++ x ∷ []) (snooped_count h) ≡ Some (length h) → outcome ≡ settled_by (h ++ x ∷ []) (slice_index later (snooped_count h)) (snooped_count h) (length h)
  -- a write-back is kept
  pub kept : (i : ℕ) → is_write_back (live_request_of (h ++ x ∷ []) i) ≡ true → slice_index later i ≡ 0
  -- an entry begins where the sample has ADS#, without an outcome
  pub begun : map (λ e. e.clock) new ≡ (if has_line x ADS then length h ∷ [] else [])
  pub unsettled : (k : ℕ) (e : Entry) → slice_get new k ≡ Some e → e.outcome ≡ None

-- the numbers of the entries rise
pub record Rising (queue : List Entry) : Type 0 where
  pub rise : (j k : ℕ) (e f : Entry) → j < k → slice_get queue j ≡ Some e → slice_get queue k ≡ Some f → e.number < f.number

-- the entry that begins, if there is one, has a greater number than each of the queue
pub record IsLater (begun : Option Entry) (queue : List Entry) : Type 0 where
  pub later : (e f : Entry) (j : ℕ) → begun ≡ Some e → slice_get queue j ≡ Some f → f.number < e.number
