-- What the phases drive is what is due.
use Rattle.std.proofs.Common.{ℕ, ◌<◌, ◌≡◌, Bool, true, false, ◌&&◌, cond, Option, Some, None, List, is_some}
use Rattle.std.proofs.Common.{is_none, length, refl, sym, ap, ◌∙◌}
use Rattle.std.specs.List.{slice_get, find}
use Rattle.std.specs.Option.{option_map, option_map_or, option_and_then}
use Rattle.fsb_count.specs.Options.{is_some_and}
use Rattle.fsb_trace.specs.At.{Trace}
use Rattle.fsb_trace.specs.Requests.{live_clock_of}
use Rattle.fsb_trace.specs.Snoop.{snoop_start_of}
use Rattle.fsb_trace.specs.Timing.{is_stall_from, chunk_from, is_busy_from}
use Rattle.fsb_laws.specs.Progress.{is_snoop_due}
use Rattle.fsb_heads.specs.Heads.{snooped_count}
use Rattle.fsb_queue.specs.declared.entry.Entry.{Entry}
use Rattle.fsb_phase.specs.declared.drive.Drive.{Drive}
use Rattle.fsb_phase.specs.declared.phases.Phases.{Phases}
use Rattle.fsb_phase.specs.Due.{has_snoop, is_stalled, has_ready, has_response, response_to_now, is_moving, due_chunk}
use Rattle.fsb_phase.specs.Due.{keeps_busy}
use Rattle.fsb_phase.specs.Drive.{settled_code, numbered_chunk, drive_of}
use Rattle.fsb_phase.specs.Phases.{IsNext}
use Rattle.fsb_phase.proofs.Finds.{if_passes, find-first}
use Rattle.fsb_phase.proofs.Entries.{held}
use Rattle.fsb_phase.proofs.Snoops.{Meets, open_clock, open_is, snooping_at, snooping_is, some_if, stalled_none}
use Rattle.fsb_phase.proofs.Snoops.{stalled_some}
use Rattle.fsb_phase.proofs.Oldest.{Idle, far, idle-later, meets}

none_if : (b : Bool) → cond {A = Option Entry} b None None ≡ None
none_if true = refl
none_if false = refl

code_if : (b : Bool) (y : Entry) → option_map_or settled_code (cond b (Some y) None) 0 ≡ cond b (settled_code y) 0
code_if true y = refl
code_if false y = refl

chunk_if : (h : Trace) (y : Entry)
    → option_and_then (numbered_chunk h) (cond (is_some (due_chunk h y)) (Some y) None) ≡ numbered_chunk h y
unfolding numbered_chunk
chunk_if h y = go (due_chunk h y) refl where
  go : (o : Option ℕ) → due_chunk h y ≡ o
      → option_and_then (λ (z : Entry). option_map {U = ℕ × ℕ} (λ n. (z.number, n)) (due_chunk h z))
      (cond (is_some (due_chunk h y)) (Some y) None) ≡ option_map {U = ℕ × ℕ} (λ n. (y.number, n)) (due_chunk h y)
  go None e = rw e refl
  go (Some n) e = rw (e, e) refl

module _ {p : Phases} {clock : ℕ} {queue : List Entry} {turns : List ℕ} {h : Trace}
    (n : IsNext p clock queue turns h) where
  pub next_meets : (e : ℕ) × Meets h queue e (snooped_count h)
  next_meets =
      let w = far h n.stands.orderly in
      (w.0, meets h queue w.0 n.stands.orderly (held queue turns h n.flight) w.1)

  -- the snoop, where the heads know of the request that is snooped next by the clock at which it began
  pub snooping_next : (y : Entry) (due b : Bool) → find (λ z. is_none z.outcome) queue ≡ Some y
      → (live_clock_of h (snooped_count h) ≡ Some y.clock → due ≡ is_snoop_due h (snooped_count h) clock)
      → due ≡ b → cond b (Some y) None ≡ find (has_snoop h) queue
  snooping_next y due b f due_is t =
      let m = next_meets.1 in
      let at = sym (open_is m) ∙ f in
      sym (snooping_is m ∙ ap (λ o. cond (is_snoop_due h (snooped_count h) (length h)) o None) at
      ∙ ap (λ a. cond a (Some y) None) (ap (is_snoop_due h (snooped_count h)) (sym n.clock_is)
      ∙ sym (due_is (open_clock m y at)) ∙ t))

  pub snooping_none : find (λ z. is_none z.outcome) queue ≡ None → None ≡ find (has_snoop h) queue
  snooping_none f =
      let m = next_meets.1 in
      sym (snooping_is m ∙ ap (λ o. cond (is_snoop_due h (snooped_count h) (length h)) o None) (sym (open_is m) ∙ f)
      ∙ none_if (is_snoop_due h (snooped_count h) (length h)))

  pub stalled_next : (y : Entry) (start : ℕ) → find (has_snoop h) queue ≡ Some y
      → (live_clock_of h (snooped_count h) ≡ Some y.clock → snoop_start_of h (snooped_count h) ≡ Some start)
      → is_stall_from y.choice.stall clock start ≡ is_some (find (is_stalled h) queue)
  stalled_next y start f start_is =
      let m = next_meets.1 in
      ap (λ c. is_stall_from y.choice.stall c start) n.clock_is
      ∙ sym (stalled_some m y start f (start_is (open_clock m y (snooping_at m y f).1)))

  pub stalled_next-none : find (has_snoop h) queue ≡ None → false ≡ is_some (find (is_stalled h) queue)
  stalled_next-none f = sym (stalled_none next_meets.1 f)

  -- what is due is due of the oldest request
  later_idle : (j : ℕ) (y : Entry) → 0 < j → slice_get queue j ≡ Some y → Idle h y
  later_idle j y l g =
      let w = far h n.stands.orderly in idle-later h queue w.0 j y (held queue turns h n.flight) w.1 l g

  first_of : (o : Option Entry) (t : Entry → Bool) → slice_get queue 0 ≡ o
      → ((y : Entry) → Idle h y → t y ≡ false) → find t queue ≡ if_passes t o
  first_of o t at off =
      find-first t queue (λ j y l g. off y (later_idle j y l g)) ∙ ap (if_passes t) at

  pub drive_some : (y : Entry) (trdy responds : Bool) (answered : Option ℕ) → slice_get queue 0 ≡ Some y
      → trdy ≡ has_ready h y → responds ≡ has_response h y → answered ≡ response_to_now h y
      → ◌≡◌ {A = Drive} (record {
        snoop = option_map (λ e. e.number) (find (has_snoop h) queue);
        stall = is_some (find (is_stalled h) queue);
        trdy = trdy;
        rs = cond responds (settled_code y) 0;
        dbsy = is_moving y && is_some_and answered (is_busy_from y.choice.gap clock);
        chunk = option_map (λ k. (y.number, k))
            (cond (is_moving y) (option_and_then (chunk_from y.choice.gap clock) answered) None);
      }) (drive_of h queue)
  unfolding drive_of keeps_busy numbered_chunk due_chunk
  drive_some y trdy responds answered at ready response to_now =
      rw (
        first_of (Some y) (has_ready h) at (λ z i. i.ready),
        first_of (Some y) (has_response h) at (λ z i. i.response),
        first_of (Some y) (keeps_busy h) at (λ z i. i.busy),
        first_of (Some y) (λ z. is_some (due_chunk h z)) at (λ z i. i.chunk),
        some_if (has_ready h y) y,
        code_if (has_response h y) y,
        some_if (keeps_busy h y) y,
        chunk_if h y,
        ready,
        response,
        to_now,
        n.clock_is,
      ) refl

  pub drive_none : slice_get queue 0 ≡ None
      → ◌≡◌ {A = Drive} (record {
        snoop = option_map (λ e. e.number) (find (has_snoop h) queue);
        stall = is_some (find (is_stalled h) queue);
        trdy = false;
        rs = 0;
        dbsy = false;
        chunk = None;
      }) (drive_of h queue)
  unfolding drive_of
  drive_none at =
      rw (
        first_of None (has_ready h) at (λ z i. i.ready),
        first_of None (has_response h) at (λ z i. i.response),
        first_of None (keeps_busy h) at (λ z i. i.busy),
        first_of None (λ z. is_some (due_chunk h z)) at (λ z i. i.chunk),
      ) refl
