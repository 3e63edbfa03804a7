-- Data are driven, and the bus is kept busy, exactly where a live request has data.
use Rattle.fsb_phase_run.proofs.Words
use Words.{ℕ, ◌<◌, ◌≡◌, Bool, true, Option, Some, None, List, length, is_some, refl, sym, ap, ◌∙◌, inl, inr, find}
use Words.{slice_get, option_and_then, option_map, both_ways, cases_Bool, any_where, any_where-at, any_where-off}
use Words.{response_clock_of, live_count, Entry, due_chunk, keeps_busy, rank_of, drive_of, numbered_chunk, find-cases}
use Words.{find-off, find-place, GrowsTo, Run, past_of, has_data_at, is_busy_at, HoldsRequests}
use Rattle.fsb_phase_run.proofs.HeldEntries.{EntryOf, number-held}
use Rattle.fsb_phase_run.proofs.RespondsNow.{CodeShown, shown}
use Rattle.fsb_phase_run.proofs.MovingEntries.{busy-same, busy-way, chunk-same, chunk-way, way-entry}

-- a search in the queue and a search of the live requests, that find the same
record SameSearch (queue : List Entry) (test : Entry → Bool) (word : ℕ → Bool) (count : ℕ) : Type 0 where
  there : (k : ℕ) (e : Entry) → slice_get queue k ≡ Some e → test e ≡ true → (i : ℕ) × (i < count) × (word i ≡ true)
  back : (i : ℕ) → word i ≡ true → (k : ℕ) × (e : Entry) × (slice_get queue k ≡ Some e) × (test e ≡ true)

found-any : (queue : List Entry) (test : Entry → Bool) (word : ℕ → Bool) (count : ℕ)
    → SameSearch queue test word count → is_some (find test queue) ≡ any_where word count
found-any queue test word count same =
    elim (find-cases test queue) [
      | inl k ↦
          let w = same.there k.place k.item k.at k.passes in
          ap is_some (find-place test queue k.place k.item k.at k.passes k.before)
          ∙ sym (any_where-at word count w.0 w.1 w.2)
      | inr g ↦
          ap is_some (find-off test queue g)
          ∙ sym (any_where-off word count (λ i l. elim (cases_Bool (word i)) [
            | inr off ↦ off
            | inl t ↦ let b = same.back i t in absurd (both_ways _ (g b.0 b.1 b.2) b.3)
          ]))
    ]

entry-of : (r : Run) (queue : List Entry) (k : ℕ) (e : Entry) → HoldsRequests queue r → slice_get queue k ≡ Some e
    → EntryOf r queue (rank_of r.trace e)
entry-of r queue k e f at =
    let p = number-held r queue k e f at in
    record { place = k; entry = e; at = at; clock = p.0; rank = refl; choice = p.1 }

busy-search : (r s : Run) (queue : List Entry) → GrowsTo r s → HoldsRequests queue r → CodeShown r s
    → SameSearch queue (keeps_busy r.trace) (is_busy_at s (past_of s) (length r.trace)) (live_count s.trace)
unfolding entry-of
busy-search r s queue grows f code = record {
  there = λ k e at t.
      let i = rank_of r.trace e in
      let word = sym (busy-same r s queue i (entry-of r queue k e f at) grows f code) ∙ t in
      let d = busy-way r s i (response_clock_of s.trace i) refl word in
      let a = shown r s i d.response grows code d.is_response in (i, a.live, word);
  back = λ i t.
      let k = way-entry r s queue i (busy-way r s i (response_clock_of s.trace i) refl t) grows f code in
      (k.place, k.entry, k.at, busy-same r s queue i k grows f code ∙ t);
}

pub busy-drive : (r s : Run) (queue : List Entry) → GrowsTo r s → HoldsRequests queue r → CodeShown r s
    → (drive_of r.trace queue).dbsy ≡ any_where (is_busy_at s (past_of s) (length r.trace)) (live_count s.trace)
unfolding drive_of
busy-drive r s queue grows f code = found-any queue (keeps_busy r.trace) _ _ (busy-search r s queue grows f code)

chunk-search : (r s : Run) (queue : List Entry) → GrowsTo r s → HoldsRequests queue r → CodeShown r s
    → SameSearch queue (λ e. is_some (due_chunk r.trace e)) (has_data_at s (past_of s) (length r.trace))
    (live_count s.trace)
unfolding entry-of
chunk-search r s queue grows f code = record {
  there = λ k e at t.
      let i = rank_of r.trace e in
      let word = sym (chunk-same r s queue i (entry-of r queue k e f at) grows f code) ∙ t in
      let d = chunk-way r s i (response_clock_of s.trace i) refl word in
      let a = shown r s i d.response grows code d.is_response in (i, a.live, word);
  back = λ i t.
      let k = way-entry r s queue i (chunk-way r s i (response_clock_of s.trace i) refl t) grows f code in
      (k.place, k.entry, k.at, chunk-same r s queue i k grows f code ∙ t);
}

numbered : (r : Run) (e : Entry) → is_some (numbered_chunk r.trace e) ≡ is_some (due_chunk r.trace e)
unfolding numbered_chunk
numbered r e = by (due_chunk r.trace e)
  where
    by : (o : Option ℕ) → is_some {T = ℕ × ℕ} (option_map (λ n. (e.number, n)) o) ≡ is_some o
    by None = refl
    by (Some n) = refl

-- a chunk is numbered where it is found
chunk-found : (r : Run) (queue : List Entry)
    → is_some (option_and_then (numbered_chunk r.trace) (find (λ e. is_some (due_chunk r.trace e)) queue))
    ≡ is_some (find (λ e. is_some (due_chunk r.trace e)) queue)
chunk-found r queue =
    let test : Entry → Bool = λ e. is_some (due_chunk r.trace e) in
    elim (find-cases test queue) [
      | inl k ↦
          let found = find-place test queue k.place k.item k.at k.passes k.before in
          ap (λ o. is_some (option_and_then (numbered_chunk r.trace) o)) found ∙ numbered r k.item ∙ k.passes
          ∙ sym (ap is_some found)
      | inr g ↦
          let none = find-off test queue g in
          ap (λ o. is_some (option_and_then (numbered_chunk r.trace) o)) none ∙ sym (ap is_some none)
    ]

pub chunk-drive : (r s : Run) (queue : List Entry) → GrowsTo r s → HoldsRequests queue r → CodeShown r s
    → is_some (drive_of r.trace queue).chunk
    ≡ any_where (has_data_at s (past_of s) (length r.trace)) (live_count s.trace)
unfolding drive_of
chunk-drive r s queue grows f code =
    chunk-found r queue
    ∙ found-any queue (λ e. is_some (due_chunk r.trace e)) _ _ (chunk-search r s queue grows f code)
