-- Which agents keep the bus locked after a bench's clock, where its longer run is timely.
use Rattle.fsb_bench_run.proofs.Words
use Words.{ℕ, suc, ◌+◌, ◌<◌, ◌≡◌, ◌&&◌, ◌||◌, Bool, true, false, not, if◌then◌else◌, is_some, nat_eq, List, [], ◌∷◌}
use Words.{Option, Some, None, length, refl, sym, ap, subst, ◌∙◌, inl, inr, arith, find, list_any, option_and_then}
use Words.{option_map, and_parts, both_ways, cases_Bool, eq-eqb, eqb-true, false_from_ne_true, list_any-append}
use Words.{slice_get-map, slice_get_within, Done, all_where, count_where, nth_where, is_some_and, nth_where-at, Request}
use Words.{Choice, find-cases, find-off, find-place, code-shown, longer, responded-now, retried-now, Entry, ADS, AERR}
use Words.{line_at, response_of, slice_get-before, ends_locked_item, is_begun_by, is_lock_cancelled, is_lock_retried}
use Words.{is_locked_request, is_release, keeps_lock, is_in_time, cancelled_at, Past, Run, past_of, requests_below}
use Words.{items_of, Timely, cancelled-told, Trace, Who, Symmetric, Started, Starting, bench_stepped, step_decided}
use Words.{step_drive, step_ended, step_entries, step_performed, step_releases, step_run, is_cancelled_by}
use Words.{completes_lock, is_locked_of, is_locked_start, is_locking, is_of, is_released, is_retry, keeps_after}
use Words.{keeps_in, retried_by, BenchView, next_clock_of, IsBegunAt, IsBenchOf, keeps_into, kept_into}
use Rattle.std.proofs.Common.{slice_get}
use Rattle.fsb_bench_run.proofs.AdsGrown.{ads-old, size-suc}
use Rattle.fsb_bench_run.proofs.BegunStays.{begun-stays}
use Rattle.fsb_bench_run.proofs.DrivenLines.{aerr-driven, line-with}
use Rattle.fsb_bench_run.proofs.LockNow.{agent-begins, begun-ads, keeps_lock-into, locked-begins}
use Rattle.fsb_bench_run.proofs.LockedStarts.{begun-by-agent, locked-start}
use Rattle.fsb_bench_run.proofs.LocksStay.{keeps_into-grown}
use Rattle.fsb_bench_run.proofs.NextRun.{AreOfClock, entries-now, grows-to}
use Rattle.fsb_bench_run.proofs.ResponsesDriven.{code-now, sample-grown}
use Rattle.fsb_bench_run.proofs.RespondsFirst.{responds-first, retried-first}
use Rattle.fsb_bench_run.proofs.SameBus.{same-performed}
use Rattle.fsb_bench_run.proofs.SnoopEntry.{held-here}
use Rattle.fsb_bench_run.proofs.StartedNext.{locked-same}
use Rattle.fsb_bench_run.proofs.StartingNow.{mapped-some, starting-begins}
use Rattle.fsb_bench_run.proofs.StepEntries.{step-with}
use Rattle.fsb_bench_run.proofs.StepFields.{kept-ended, started-ended, started_after}
use Rattle.fsb_bench_run.proofs.StepWith.{IsStepWith, begins-with}

into-next : (p : Past) (c a : ℕ) → keeps_into p (suc c) a ≡ (keeps_lock p c a && not (is_release p a c))
unfolding keeps_into
into-next p c a = refl

-- a request is an agent's where it is the agent that began it
is-own : (a : ℕ) (who : Who) → is_of a who ≡ true → who ≡ Symmetric a
is-own a who h1 = grind arith

own-is : (a : ℕ) → is_of a (Symmetric a) ≡ true
own-is a = eq-eqb a a refl

unowned : (s : Run) (a q : ℕ) (who : Who) (request : Request) → q < length s.trace → is_of a who ≡ false
    → IsBegunAt s q who request
    → is_locked_request (past_of s) a q ≡ false
unowned s a q who request l off begun =
    false_from_ne_true (is_locked_request (past_of s) a q) (λ t.
    let won = begun-by-agent s a q l (locked-begins (past_of s) a q t) in
    let one : Some who ≡ Some (Symmetric a) = sym begun.winner ∙ won in
    let same : who ≡ Symmetric a = cc in
    both_ways (is_of a who) off (ap (is_of a) same ∙ own-is a))

-- an agent begins a locked request exactly where the run says so
locking-told : (v : BenchView) (hold : Bool) (choice : Choice) (a : ℕ) → IsBenchOf v
    → is_locking (step_decided v hold).starting a
    ≡ is_locked_request (past_of (step_run v hold choice)) a (next_clock_of v)
unfolding is_some_and
locking-told v hold choice a b =
    let s = step_run v hold choice in
    let n = next_clock_of v in
    let k = step-with v hold choice b in
    let size = longer v.run s k.grows in
    by (step_decided v hold).starting refl k
  where
    by : (o : Option Starting) → (step_decided v hold).starting ≡ o → IsStepWith v hold choice (step_entries v hold)
        → is_locking o a ≡ is_locked_request (past_of (step_run v hold choice)) a (next_clock_of v)
    by None e k = sym
        (false_from_ne_true (is_locked_request (past_of (step_run v hold choice)) a (next_clock_of v)) (λ t.
        let s = step_run v hold choice in
        let size = longer v.run s k.grows in
        let ads = begun-ads s a (next_clock_of v) (omega arith) (locked-begins (past_of s) a (next_clock_of v) t) in
        let off = begins-with v hold choice (step_entries v hold) ∙ ap (λ o. is_some o) e in
        both_ways (line_at ADS s.trace (next_clock_of v)) off ads))
    by (Some x) e k =
        let s = step_run v hold choice in
        let n = next_clock_of v in
        let size = longer v.run s k.grows in
        let begun = starting-begins v hold choice (step_entries v hold) x k e in
        elim (cases_Bool (is_of a x.who)) [
          | inl own ↦
              let mine = subst (λ w. IsBegunAt s n w x.request) (is-own a x.who own) begun in
              let by_agent = agent-begins s n a x.request (omega arith) mine in
              ap (λ b. b && x.locked) own ∙ locked-start v hold choice (step_entries v hold) x a k e by_agent
          | inr other ↦
              ap (λ b. b && x.locked) other ∙ sym (unowned s a n x.who x.request (omega arith) other begun)
        ]

-- whether the request of an entry is a locked one of an agent
start-kept : (n : ℕ) (o : Option Starting) (started : List Started) (k : ℕ) (x : Started) → slice_get started k ≡ Some x
    → slice_get (started_after n o started) k ≡ Some x
start-kept n o started k x h1 = grind (arith, slice_get-before, slice_get_within)

locked-entry : (v : BenchView) (hold : Bool) (choice : Choice) (a k : ℕ) (e : Entry) → IsBenchOf v
    → slice_get v.bus.queue k ≡ Some e
    → is_locked_of (step_ended v hold).started a e ≡ is_locked_request (past_of (step_run v hold choice)) a e.clock
unfolding requests_below nth_where
locked-entry v hold choice a k e b at =
    let r = v.run in
    let s = step_run v hold choice in
    let n = next_clock_of v in
    let grows = grows-to v hold choice b in
    let size = longer r s grows in
    let here = held-here r v.bus.queue k e b.requests at in
    let within : e.clock < n = here.within in
    let begun = b.entries.begun k e at in
    let number : e.number ≡ count_where (line_at ADS r.trace) e.clock = b.requests.entries.numbered k e at in
    let there : slice_get (all_where (line_at ADS r.trace) n) (count_where (line_at ADS r.trace) e.clock)
    ≡ Some e.clock =
    nth_where-at (line_at ADS r.trace) n e.clock within begun.begins in
    let clocks : option_map (λ (x : Started). x.clock) (slice_get v.bus.started e.number) ≡ Some e.clock =
    grind (arith, slice_get-map) in
    let start = mapped-some (λ (x : Started). x.clock) (slice_get v.bus.started e.number) e.clock clocks in
    let kept = ap (λ xs. slice_get xs e.number) (started-ended v hold)
    ∙ start-kept n (step_decided v hold).starting v.bus.started e.number start.0 start.1 in
    let locked : is_locked_start (step_ended v hold).started e.number ≡ start.0.locked = grind arith in
    elim (cases_Bool (is_of a e.who)) [
      | inr other ↦
          ap (λ b. b && is_locked_start (step_ended v hold).started e.number) other
          ∙ sym (unowned s a e.clock e.who e.request (omega arith) other
          (begun-stays r s e.clock e.who e.request grows within begun))
      | inl own ↦
          let mine = subst (λ w. IsBegunAt r e.clock w e.request) (is-own a e.who own) begun in
          let by_agent = agent-begins r e.clock a e.request within mine in
          let told = b.started.locked e.number a start.0 start.1
          (subst (λ q. is_begun_by (past_of r) a q ≡ true) (sym start.2) by_agent) in
          ap (λ b. b && is_locked_start (step_ended v hold).started e.number) own
          ∙ locked ∙ told ∙ ap (is_locked_request (past_of r) a) start.2
          ∙ sym (locked-same r s a e.clock grows within)
    ]

some-told : (o : Option Entry) (f : Entry → Bool) (g : ℕ → Bool) → ((e : Entry) → o ≡ Some e → f e ≡ g e.clock)
    → is_some_and o f ≡ is_some_and (option_map (λ (x : Entry). x.clock) o) g
unfolding is_some_and
some-told o f g h1 = grind arith

-- what is retried
retried-at : (rs : ℕ) (o : Option Entry) (e : Entry)
    → (if nat_eq rs 0 then None
    else option_and_then (λ (entry : Entry). if is_some_and entry.outcome is_retry then Some entry else None)
    o) ≡ Some e
    → o ≡ Some e
retried-at rs o e f = grind arith

retried-told : (v : BenchView) (hold : Bool) (choice : Choice) (a : ℕ) → IsBenchOf v → Timely (step_run v hold choice)
    → is_some_and (retried_by v.bus (step_drive v)) (is_locked_of (step_ended v hold).started a)
    ≡ is_lock_retried (past_of (step_run v hold choice)) a (next_clock_of v)
unfolding is_lock_retried
retried-told v hold choice a b timely =
    let r = v.run in
    let s = step_run v hold choice in
    let n = next_clock_of v in
    let queue = v.bus.queue in
    let grows = grows-to v hold choice b in
    let shown = ap response_of (sample-grown v hold choice (step_entries v hold) grows) ∙ code-now v hold in
    let code = code-shown r s queue grows b.requests shown in
    let responds = responded-now r s queue grows b.requests code in
    let first = retried-first r.trace queue (λ k e at found.
    responds-first r s queue k e grows timely b.requests at
    (responds ∙ ap (option_map (λ (x : Entry). x.clock)) found)) in
    let moment = retried-now r s queue grows b.requests code in
    some-told (retried_by v.bus (step_drive v)) (is_locked_of (step_ended v hold).started a)
    (is_locked_request (past_of s) a)
    (λ e is. locked-entry v hold choice a 0 e b (retried-at (step_drive v).rs (slice_get queue 0) e is))
    ∙ ap (λ o. is_some_and o (is_locked_request (past_of s) a)) (first ∙ sym moment)

-- what is cancelled
cancelled-some : (w : Trace) (n q : ℕ) → q + 3 ≡ n → line_at AERR w n ≡ true → line_at ADS w q ≡ true
    → cancelled_at w n ≡ Some q
unfolding cancelled_at
cancelled-some w n q e error ads = grind arith

cancelled-none : (w : Trace) (n : ℕ) → line_at AERR w n ≡ false → cancelled_at w n ≡ None
unfolding cancelled_at
cancelled-none w n e = grind arith

cancelled-is : (v : BenchView) (hold : Bool) (choice : Choice) → IsBenchOf v
    → option_map (λ (x : Entry). x.clock) (step_decided v hold).cancelled
    ≡ cancelled_at (step_run v hold choice).trace (next_clock_of v)
cancelled-is v hold choice b =
    let r = v.run in
    let s = step_run v hold choice in
    let n = next_clock_of v in
    let queue = v.bus.queue in
    let grows = grows-to v hold choice b in
    let same = ap (find (is_cancelled_by n)) (same-performed v).queue in
    let error = line-with v hold choice (step_entries v hold) AERR
    ∙ aerr-driven (step_performed v) n r.plan.profile (step_decided v hold) in
    elim (find-cases (is_cancelled_by n) queue) [
      | inr g ↦
          let none = same ∙ find-off (is_cancelled_by n) queue g in
          ap (option_map (λ (x : Entry). x.clock)) none
          ∙ sym (cancelled-none s.trace n (error ∙ ap (λ o. is_some o) none))
      | inl k ↦
          let some = same ∙ find-place (is_cancelled_by n) queue k.place k.item k.at k.passes k.before in
          let parts = and_parts k.item.choice.aerr (nat_eq (k.item.clock + 3) n) k.passes in
          let place : k.item.clock + 3 ≡ n = eqb-true (k.item.clock + 3) n parts.1 in
          let begun = b.entries.begun k.place k.item k.at in
          let ads = ads-old r s grows k.item.clock (omega arith) ∙ begun.begins in
          ap (option_map (λ (x : Entry). x.clock)) some
          ∙ sym (cancelled-some s.trace n k.item.clock place (error ∙ ap (λ o. is_some o) some) ads)
    ]

cancelled-entry : (v : BenchView) (hold : Bool) (e : Entry) → (step_decided v hold).cancelled ≡ Some e
    → (k : ℕ) × (slice_get v.bus.queue k ≡ Some e)
cancelled-entry v hold e f =
    let n = next_clock_of v in
    let queue = v.bus.queue in
    let same = ap (find (is_cancelled_by n)) (same-performed v).queue in
    elim (find-cases (is_cancelled_by n) queue) [
      | inr g ↦ absurd (let none = sym f ∙ same ∙ find-off (is_cancelled_by n) queue g in let no : ⊥ = cc in no)
      | inl k ↦
          let some : Some e ≡ Some k.item = grind (arith, find-place) in
          (k.place, k.at ∙ sym some)
    ]

lock-cancelled : (v : BenchView) (hold : Bool) (choice : Choice) (a : ℕ) → IsBenchOf v
    → is_some_and (step_decided v hold).cancelled (is_locked_of (step_ended v hold).started a)
    ≡ is_lock_cancelled (past_of (step_run v hold choice)) a (next_clock_of v)
unfolding is_lock_cancelled
lock-cancelled v hold choice a b =
    let s = step_run v hold choice in
    let n = next_clock_of v in
    let size = longer v.run s (grows-to v hold choice b) in
    some-told (step_decided v hold).cancelled (is_locked_of (step_ended v hold).started a)
    (is_locked_request (past_of s) a)
    (λ e is. let at = cancelled-entry v hold e is in locked-entry v hold choice a at.0 e b at.1)
    ∙ ap (λ o. is_some_and o (is_locked_request (past_of s) a))
    (cancelled-is v hold choice b ∙ sym (cancelled-told s n (omega arith)))

-- what completes a locked item
none-locked : (p : Past) (a first n : ℕ) (log : List Done) → is_in_time first n log ≡ true
    → list_any (ends_locked_item p a n) log ≡ false
unfolding is_in_time ends_locked_item
none-locked p a first n [] e = refl
none-locked p a first n (done ∷ log) e = grind (arith, none-locked p a done.clock n log)

ends-there : (p : Past) (a n : ℕ) (entries : List Done) → AreOfClock n entries
    → list_any (ends_locked_item p a n) entries ≡ list_any (completes_lock p.plan.scripts a) entries
unfolding ends_locked_item items_of
ends-there p a n [] e = refl
ends-there p a n (done ∷ entries) e = grind (arith, ends-there p a n entries)

lock-completed : (v : BenchView) (hold : Bool) (choice : Choice) (a : ℕ) → IsBenchOf v
    → list_any (completes_lock v.run.plan.scripts a) (step_entries v hold)
    ≡ list_any (ends_locked_item (past_of (step_run v hold choice)) a (next_clock_of v))
    (past_of (step_run v hold choice)).log
unfolding past_of
lock-completed v hold choice a b =
    let p = past_of (step_run v hold choice) in
    let n = next_clock_of v in
    let old = none-locked p a 0 n v.run.log b.timely.in_time in
    sym (list_any-append (ends_locked_item p a n) v.run.log (step_entries v hold)
    ∙ ap (λ b. b || list_any (ends_locked_item p a n) (step_entries v hold)) old
    ∙ ends-there p a n (step_entries v hold) (entries-now v hold))

or-split : (x y z : Bool) → (x || (y || z)) ≡ ((x || y) || z)
or-split x y z = grind arith

released-told : (v : BenchView) (hold : Bool) (choice : Choice) (a : ℕ) → IsBenchOf v → Timely (step_run v hold choice)
    → is_released v.run.plan.scripts (step_ended v hold).started (step_releases v hold) a
    ≡ is_release (past_of (step_run v hold choice)) a (next_clock_of v)
unfolding is_release
released-told v hold choice a b timely =
    let p = past_of (step_run v hold choice) in
    let n = next_clock_of v in
    let completed = lock-completed v hold choice a b in
    let retried = retried-told v hold choice a b timely in
    let cancelled = lock-cancelled v hold choice a b in
    (λ i. completed i || (retried i || cancelled i))
    ∙ or-split (list_any (ends_locked_item p a n) p.log) (is_lock_retried p a n) (is_lock_cancelled p a n)

kept-at : (p : Past) (c a : ℕ) → a < 4 → keeps_in (kept_into p c) a ≡ keeps_into p c a
kept-at p c a h1 = grind arith

or-swap : (x y : Bool) → (x || y) ≡ (y || x)
or-swap x y = grind arith

-- an agent keeps the bus locked after the clock exactly where it does in the longer run
keeps-next : (v : BenchView) (hold : Bool) (choice : Choice) (a : ℕ) → a < 4 → IsBenchOf v
    → Timely (step_run v hold choice)
    → keeps_after v.run.plan.scripts (step_ended v hold) (step_decided v hold).starting (step_releases v hold) a
    ≡ keeps_into (past_of (step_run v hold choice)) (suc (next_clock_of v)) a
keeps-next v hold choice a few b timely =
    let r = v.run in
    let s = step_run v hold choice in
    let p = past_of s in
    let n = next_clock_of v in
    let kept : keeps_in (step_ended v hold).kept a ≡ keeps_into p n a =
    ap (λ xs. keeps_in xs a) (kept-ended v hold ∙ b.kept) ∙ kept-at (past_of r) n a few
    ∙ sym (keeps_into-grown r s a (grows-to v hold choice b)) in
    let locking = locking-told v hold choice a b in
    let released = released-told v hold choice a b timely in
    grind (arith, or-swap, keeps_lock-into, into-next)

-- so the locks of the bench after the clock are those of the longer run
pub kept-next : (v : BenchView) (hold : Bool) (choice : Choice) → IsBenchOf v → Timely (step_run v hold choice)
    → (bench_stepped v hold choice).bus.kept
    ≡ kept_into (past_of (step_run v hold choice)) (length (step_run v hold choice).trace)
kept-next v hold choice b timely =
    let s = step_run v hold choice in
    let k0 = keeps-next v hold choice 0 (omega arith) b timely in
    let k1 = keeps-next v hold choice 1 (omega arith) b timely in
    let k2 = keeps-next v hold choice 2 (omega arith) b timely in
    let k3 = keeps-next v hold choice 3 (omega arith) b timely in
    (λ i. k0 i ∷ (k1 i ∷ (k2 i ∷ (k3 i ∷ []))))
    ∙ ap (kept_into (past_of s)) (sym (size-suc v.run s (grows-to v hold choice b)))
