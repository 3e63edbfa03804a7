-- The requests that have begun, after the clock.
use Rattle.fsb_bench_run.proofs.Words
use Words.{ℕ, ◌<◌, ◌≡◌, Bool, true, false, Option, Some, None, List, [], ◌∷◌, ◌++◌, is_some, length, map, append-nil}
use Words.{refl, sym, ap, subst, ◌∙◌, arith, inl, inr, slice_get-map, nth_where, nth_where-found, slice_get-push}
use Words.{Choice, ADS, line_at, is_begun_by, is_locked_request, begun_at, GrowsTo, Run, past_of, begun-told}
use Words.{claim_at-agree, past-same, line_at-agree, Started, Starting, bench_stepped, step_decided, step_entries}
use Words.{step_run, BenchView, HasStarted, IsBenchOf, agree-grown}
use Rattle.std.proofs.Common.{slice_get}
use Rattle.fsb_bench_run.proofs.AdsGrown.{all-more}
use Rattle.fsb_bench_run.proofs.LockedStarts.{locked-start}
use Rattle.fsb_bench_run.proofs.NextRun.{begins-now, grows-to}
use Rattle.fsb_bench_run.proofs.StepEntries.{step-with}
use Rattle.fsb_bench_run.proofs.StepFields.{started-stepped, started_after}

-- what begins at a clock stays as a run grows
pub begun-same : (r s : Run) (q : ℕ) → GrowsTo r s → q < length r.trace
    → begun_at (past_of s) q ≡ begun_at (past_of r) q
begun-same r s q grows l = grind (arith, begun-told, line_at-agree, claim_at-agree, agree-grown)

-- whether a request is a locked one stays as a run grows
begun_by-same : (r s : Run) (a q : ℕ) → GrowsTo r s → q < length r.trace
    → is_begun_by (past_of s) a q ≡ is_begun_by (past_of r) a q
unfolding is_begun_by
begun_by-same r s a q grows l = grind (arith, begun-same)

pub locked-same : (r s : Run) (a q : ℕ) → GrowsTo r s → q < length r.trace
    → is_locked_request (past_of s) a q ≡ is_locked_request (past_of r) a q
unfolding is_locked_request
locked-same r s a q grows l = grind (arith, begun_by-same, past-same)

-- those that have begun have their clocks below the next one
started-below : (started : List Started) (r : Run) (k : ℕ) (start : Started) → HasStarted started r
    → slice_get started k ≡ Some start → start.clock < length r.trace
unfolding nth_where
started-below started r k start h at =
    let there : nth_where (line_at ADS r.trace) k (length r.trace) ≡ Some start.clock =
    grind (arith, slice_get-map) in
    (nth_where-found (line_at ADS r.trace) k (length r.trace) start.clock there).0

map-push : {X Y : Type 0} (f : X → Y) (xs : List X) (x : X) → map f (xs ++ x ∷ []) ≡ map f xs ++ f x ∷ []
map-push f [] x = refl
map-push f (y ∷ xs) x = ap (λ ys. f y ∷ ys) (map-push f xs x)

started-by : (r s : Run) (started : List Started) (o : Option Starting) → GrowsTo r s → HasStarted started r
    → line_at ADS s.trace (length r.trace) ≡ is_some o
    → ((starting : Starting) (a : ℕ) → o ≡ Some starting → is_begun_by (past_of s) a (length r.trace) ≡ true
    → starting.locked ≡ is_locked_request (past_of s) a (length r.trace))
    → HasStarted (started_after (length r.trace) o started) s
started-by r s started (Some x) grows h ads locks =
    let n = length r.trace in
    let new : Started = record { clock = n; locked = x.locked } in
    record {
      clocks = map-push (λ (start : Started). start.clock) started new ∙ ap (λ xs. xs ++ n ∷ []) h.clocks
          ∙ sym (all-more r s true grows ads);
      locked = λ k a start at begun.
          elim (slice_get-push started new k start at) [
            | inl old ↦
                let l = started-below started r k start h old in
                let was = sym (begun_by-same r s a start.clock grows l) ∙ begun in
                h.locked k a start old was ∙ sym (locked-same r s a start.clock grows l)
            | inr now ↦
                subst (λ (start : Started). is_begun_by (past_of s) a start.clock ≡ true
                → start.locked ≡ is_locked_request (past_of s) a start.clock)
                now.1 (locks x a refl) begun
          ];
    }
started-by r s started None grows h ads locks = record {
  clocks = h.clocks ∙ sym (append-nil _) ∙ sym (all-more r s false grows ads);
  locked = λ k a start at begun.
      let l = started-below started r k start h at in
      let was = sym (begun_by-same r s a start.clock grows l) ∙ begun in
      h.locked k a start at was ∙ sym (locked-same r s a start.clock grows l);
}

pub started-next : (v : BenchView) (hold : Bool) (choice : Choice) → IsBenchOf v
    → HasStarted (bench_stepped v hold choice).bus.started (step_run v hold choice)
started-next v hold choice b =
    subst (λ started. HasStarted started (step_run v hold choice)) (sym (started-stepped v hold choice))
    (started-by v.run (step_run v hold choice) v.bus.started (step_decided v hold).starting
    (grows-to v hold choice b) b.started
    (begins-now v hold choice)
    (λ starting a e begun. locked-start v hold choice (step_entries v hold) starting a
    (step-with v hold choice b) e begun))
