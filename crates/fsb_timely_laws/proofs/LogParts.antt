-- Parity, the bus lock and the completions: what is said of a clock of the run up to it is said of the whole run.
use Rattle.fsb_timely_laws.proofs.Words
use Words.{ℕ, ◌+◌, ◌-◌, ◌<◌, ◌≤◌, ◌≡◌, Bool, true, false, not, ◌&&◌, ◌||◌, nat_eq, nat_le, [], ◌++◌, Option, Some, None}
use Words.{if◌then◌else◌, length, map, slice_get, refl, sym, ap, ◌∙◌, arith, beq, list_any, option_and_then, option_map}
use Words.{option_map_or, and_parts, eqb-true, le-leb, AgreeBelow, any_where, from_clock, holds_since, is_some_and}
use Words.{any_where-same, nth_where-found, LOCK, Trace, responds_at, response_code_at, response_code_of, is_live}
use Words.{live_clock_of, line_at-agree, completed_at, completed_if, completed_of_item, entries_at, is_arrival}
use Words.{is_in_time, logs_completions, next_accesses, are_completed, of_all_agents, begun_at, GoesOn, is_hit}
use Words.{cancelled_at, moment_at, responded_at, retried_at, Past, Run, entries_to, past_of, past_to, run_to, holds_at}
use Words.{holds_in, is_arrival-alike, is_hit-alike, last-same, moment-at, moment_of, next_item-alike}
use Words.{next_number-alike, length-cut, IsSaidOfTheWhole, holds_in_whole}
use Rattle.fsb_access.specs.ScriptOrder.{step_of}
use Rattle.fsb_signal.specs.Parity.{has_no_parity}
use Rattle.fsb_timely.specs.BusLock.{drives_lock, ends_locked_item, is_begun_by, is_lock_cancelled, is_lock_retried}
use Rattle.fsb_timely.specs.BusLock.{is_locked_request, is_release, is_released_before, keeps_lock, wants_lock}
use Rattle.fsb_timely.specs.ParityLines.{drives_parity, is_even_sample}
use Rattle.fsb_timely.specs.Scripts.{items_of}
use Rattle.fsb_timely_laws.proofs.Numbers.{cut-agrees, get-take}
use Rattle.fsb_timely_laws.proofs.CutRuns.{any-within, filter-within, past-on, past-twice}

pub parity-said : (r : Run) (c : ℕ) → c < length r.trace → IsSaidOfTheWhole drives_parity r c
unfolding holds_in_whole holds_at holds_in drives_parity run_to
parity-said r c l =
    sym (ap (λ o. is_some_and o (if nat_eq r.plan.profile 2 then is_even_sample else has_no_parity))
    (get-take (c + 1) r.trace c (omega arith)))

-- what has held since a gain, where gains and losses are the same
from-same : (f g : ℕ → Bool) (n d : ℕ) → AgreeBelow n f g → AgreeBelow n (from_clock d f) (from_clock d g)
unfolding from_clock
from-same f g n d a = record { same = λ c l. ap (λ b. nat_le d c && b) (a.same c l) }

since-same : (gain gain' loss loss' : ℕ → Bool) (n : ℕ) → AgreeBelow n gain gain' → AgreeBelow n loss loss'
    → holds_since gain loss n ≡ holds_since gain' loss' n
unfolding holds_since
since-same gain gain' loss loss' n a b =
    let last = last-same gain gain' n a in
    let any : (d : ℕ) → any_where (from_clock (d + 1) loss) n ≡ any_where (from_clock (d + 1) loss') n =
    λ d. any_where-same (from_clock (d + 1) loss) (from_clock (d + 1) loss') n (from-same loss loss' n (d + 1) b) in
    λ i. elim (last i) [ None ↦ false | Some d ↦ not (any d i) ]

moment-kept : (p : Past) (c t : ℕ) → t ≤ c → slice_get (past_to p c).moments t ≡ slice_get p.moments t
unfolding past_to
moment-kept p c t l = get-take (c + 1) p.moments t (omega arith)

locked-kept : (p : Past) (c a t : ℕ) → t ≤ c → is_locked_request (past_to p c) a t ≡ is_locked_request p a t
unfolding is_locked_request is_begun_by begun_at
locked-kept p c a t l =
    let moment = moment-kept p c t l in
    let past = past-twice p t c l in
    λ i. elim (is_some_and
    (option_map (λ owing. owing.claim) (option_and_then (λ moment. moment.begun) (moment i)))
    (λ claim. nat_eq claim.agent a)) [ true ↦ wants_lock (past i) a t | false ↦ false ]

items-kept : (p : Past) (c a t : ℕ) → t ≤ c
    → list_any (ends_locked_item (past_to p c) a t) (past_to p c).log ≡ list_any (ends_locked_item p a t) p.log
unfolding past_to entries_to ends_locked_item items_of
items-kept p c a t l =
    any-within (ends_locked_item p a t) (λ done. nat_le done.clock c) p.log
    (λ done e. le-leb done.clock c (let at = eqb-true done.clock t
    ((and_parts _ _ (and_parts _ _ e).0).0) in omega arith))

-- tests of a number that is not above c
some-kept : (o : Option ℕ) (f g : ℕ → Bool) (c : ℕ) → ((q : ℕ) → o ≡ Some q → q ≤ c)
    → ((q : ℕ) → q ≤ c → f q ≡ g q) → is_some_and o f ≡ is_some_and o g
unfolding is_some_and
some-kept None f g c low same = refl
some-kept (Some q) f g c low same = same q (low q refl)

-- the requests that are retried and cancelled at a clock of a run began by then
live-within : (w : Trace) (i q : ℕ) → live_clock_of w i ≡ Some q → q < length w
unfolding live_clock_of
live-within w i q e = (nth_where-found (is_live w) i (length w) q e).0

responded-by : (w : Trace) (t q i : ℕ) (b : Bool) → elim b [ true ↦ live_clock_of w i | false ↦ None ] ≡ Some q
    → q < length w
responded-by w t q i true e = live-within w i q e
responded-by w t q i false e = absurd (let no : ⊥ = cc in no)

retried-by : (w : Trace) (t q : ℕ) (b : Bool) → elim b [ true ↦ responded_at w t | false ↦ None ] ≡ Some q → q < length w
unfolding responded_at
retried-by w t q true e = responded-by w t q _ (responds_at w t) e
retried-by w t q false e = absurd (let no : ⊥ = cc in no)

cancelled-by : (t q : ℕ) (b : Bool) → elim b [ true ↦ Some (t - 3) | false ↦ None ] ≡ Some q → q ≤ t
cancelled-by t q true e = let same : t - 3 ≡ q = cc in omega arith
cancelled-by t q false e = absurd (let no : ⊥ = cc in no)

retried-low : (r : Run) (t q : ℕ) → t < length r.trace → (moment_of r t).retried ≡ Some q → q ≤ t
unfolding moment_at retried_at
retried-low r t q l e =
    let low = retried-by (run_to r t).trace t q
    (nat_eq (response_code_at (run_to r t).trace t) (response_code_of _)) e in
    let size = length-cut r t l in omega (arith, low, size)

cancelled-low : (r : Run) (t q : ℕ) → (moment_of r t).cancelled ≡ Some q → q ≤ t
unfolding moment_at cancelled_at
cancelled-low r t q e = cancelled-by t q _ e

release-kept : (r : Run) (c a t : ℕ) → t ≤ c → c < length r.trace
    → is_release (past_to (past_of r) c) a t ≡ is_release (past_of r) a t
unfolding is_release is_lock_retried is_lock_cancelled past_of
release-kept r c a t l m =
    let p = past_of r in
    let items = items-kept p c a t l in
    let here : slice_get p.moments t ≡ Some (moment_of r t) = moment-at r (length r.trace) t (omega arith) in
    let moment = moment-kept p c t l in
    let locked : (q : ℕ) → q ≤ c → is_locked_request (past_to p c) a q ≡ is_locked_request p a q =
    λ q k. locked-kept p c a q k in
    let retried = ap (λ o. is_some_and (option_and_then (λ moment. moment.retried) o) (is_locked_request (past_to p c) a))
    (moment ∙ here)
    ∙ some-kept (moment_of r t).retried (is_locked_request (past_to p c) a) (is_locked_request p a) c
    (λ q e. let low = retried-low r t q (omega arith) e in omega arith) locked
    ∙ sym (ap (λ o. is_some_and (option_and_then (λ moment. moment.retried) o) (is_locked_request p a)) here) in
    let cancelled =
    ap (λ o. is_some_and (option_and_then (λ moment. moment.cancelled) o) (is_locked_request (past_to p c) a))
    (moment ∙ here)
    ∙ some-kept (moment_of r t).cancelled (is_locked_request (past_to p c) a) (is_locked_request p a) c
    (λ q e. let low = cancelled-low r t q e in omega arith) locked
    ∙ sym (ap (λ o. is_some_and (option_and_then (λ moment. moment.cancelled) o) (is_locked_request p a)) here) in
    λ i. items i || retried i || cancelled i

released-kept : (r : Run) (c a t : ℕ) → t ≤ c → c < length r.trace
    → is_released_before (past_to (past_of r) c) a t ≡ is_released_before (past_of r) a t
unfolding is_released_before
released-kept r c a t l m = ap (λ b. nat_le 1 t && b) (release-kept r c a (t - 1) (omega arith) m)

keeps-kept : (r : Run) (c a : ℕ) → c < length r.trace → keeps_lock (past_to (past_of r) c) c a ≡ keeps_lock (past_of r) c a
unfolding keeps_lock
keeps-kept r c a m =
    let p = past_to (past_of r) c in
    let q = past_of r in
    since-same (is_locked_request p a) (is_locked_request q a) (is_released_before p a) (is_released_before q a) (c + 1)
    (record { same = λ t l. locked-kept q c a t (omega arith) })
    (record { same = λ t l. released-kept r c a t (omega arith) m })

pub lock-said : (r : Run) (c : ℕ) → c < length r.trace → IsSaidOfTheWhole drives_lock r c
unfolding holds_in_whole holds_at holds_in drives_lock run_to
lock-said r c l =
    let line = line_at-agree LOCK (c + 1) r.trace (run_to r c).trace c (cut-agrees r.trace c l) (omega arith) in
    let keeps = any_where-same (keeps_lock (past_to (past_of r) c) c) (keeps_lock (past_of r) c) 4
    (record { same = λ a m. keeps-kept r c a l }) in
    λ i. beq (line i) (sym keeps i)

entries-kept : (p : Past) (c : ℕ) → entries_at (past_to p c) c ≡ entries_at p c
unfolding entries_at past_to entries_to
entries-kept p c =
    ap (map (λ done. record { agent = done.agent; step = step_of done }))
    (filter-within (λ done. nat_eq done.clock c) (λ done. nat_le done.clock c) p.log
    (λ done e. le-leb done.clock c (let at = eqb-true done.clock c e in omega arith)))

next-on : (n c : ℕ) (p q : Past) (a : ℕ) → GoesOn n p q → c ≤ n → next_accesses p a c ≡ next_accesses q a c
unfolding next_accesses
next-on n c p q a h l =
    let number = next_number-alike n p q a c h l in
    let item = next_item-alike n p q a c h l in
    λ i. option_map_or (λ k. option_map_or (completed_of_item a k) (item i) []) (number i) []

completed-on : (c : ℕ) (p q : Past) → GoesOn (c + 1) p q → completed_at p c ≡ completed_at q c
unfolding completed_at completed_if
completed-on c p q h =
    let next : (a : ℕ) → next_accesses p a c ≡ next_accesses q a c = λ a. next-on (c + 1) c p q a h (omega arith) in
    let hit : (a : ℕ) → is_hit p a c ≡ is_hit q a c = λ a. is_hit-alike (c + 1) p q a c h (omega arith) in
    let comes : (a : ℕ) → is_arrival p a c ≡ is_arrival q a c = λ a. is_arrival-alike (c + 1) p q a c h (omega arith) in
    λ i. of_all_agents (λ a. elim (hit a i) [ true ↦ next a i | false ↦ [] ])
    ++ of_all_agents (λ a. elim (comes a i) [ true ↦ next a i | false ↦ [] ])

pub completions-said : (r : Run) (c : ℕ) → is_in_time 0 (length r.trace) r.log ≡ true
    → IsSaidOfTheWhole logs_completions r c
unfolding holds_in_whole holds_at holds_in logs_completions
completions-said r c h =
    let entries = entries-kept (past_of r) c in
    let completed = completed-on c (past_to (past_of r) c) (past_of r) (past-on r c h) in
    sym (λ i. are_completed (entries i) (completed i))
