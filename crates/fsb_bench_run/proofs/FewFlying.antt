-- At most eight requests are in flight.
use Rattle.fsb_bench_run.proofs.Words
use Words.{ℕ, zero, suc, ◌<◌, ◌≤◌, ◌≡◌, Bool, true, false, not, cond, List, [], ◌∷◌, ◌++◌, take, Some, length, refl}
use Words.{sym, ap, subst, ◌∙◌, add-one, arith, slice_get, length-append, length-map, take_all, get_or_from_slice_get}
use Words.{all_where, get-there, orderly-at, leaves, OneMore, Orderly, in_flight-more, in_flight-now, line_at-new}
use Words.{one_more, orderly-empty, HoldsRequests, Entry, ADS, Sample, has_line, line_at, Run, run_to, drives_ads}
use Words.{has_room, may_begin, starts_requests, Timely, holds_at, holds_in, Trace, in_flight}
use Rattle.std.proofs.Common.{filter}
use Rattle.std.proofs.Math.Seq.{take-suc}

-- a list that is filtered is no longer, and shorter where an item does not pass
pub filter-most : {X : Type 0} (test : X → Bool) (xs : List X) → length (filter test xs) ≤ length xs
filter-most test [] = omega arith
filter-most test (x ∷ xs) = grind (arith, filter-most test xs)

pub filter-less : {X : Type 0} (test : X → Bool) (xs : List X) (k : ℕ) (x : X) → slice_get xs k ≡ Some x
    → test x ≡ false → length (filter test xs) < length xs
filter-less test [] k x at off = absurd (let no : ⊥ = cc in no)
filter-less test (y ∷ ys) zero x at off = grind (arith, filter-most)
filter-less test (y ∷ ys) (suc k) x at off = grind (arith, filter-less test ys k x at off)

-- where a request begins there is room for it
room-at : (r : Run) (c : ℕ) → Timely r → c < length r.trace → line_at ADS (run_to r c).trace c ≡ true
    → length (in_flight (run_to r c).trace c) < 8
unfolding holds_at holds_in starts_requests drives_ads may_begin has_room
room-at r c h l ads = grind arith

orderly-cut : (r : Run) (m : ℕ) → Timely r → m ≤ length r.trace → Orderly (take m r.trace)
unfolding run_to
orderly-cut r zero h l = orderly-empty
orderly-cut r (suc c) h l = subst (λ k. Orderly (take k r.trace)) (add-one c) (orderly-at r c h (omega arith))

-- one sample on there are eight at most
few-more : (h : Trace) (x : Sample) (v : Trace) → OneMore h x v → Orderly h → Orderly v
    → length (in_flight h (length h)) ≤ 8
    → (line_at ADS v (length h) ≡ true → length (in_flight v (length h)) < 8)
    → length (in_flight v (length v)) ≤ 8
few-more h x v m before after most room =
    let stay = filter (λ q. not (leaves h x v q)) (in_flight h (length h)) in
    let kept = filter-most (λ q. not (leaves h x v q)) (in_flight h (length h)) in
    let new = cond (has_line x ADS) (length h ∷ []) [] in
    let size = ap length (in_flight-more h x v m before after) ∙ length-append stay new in
    grind (arith, line_at-new, in_flight-now)

none-flying : (w : Trace) → length (in_flight (take zero w) (length (take zero w))) ≤ 8
unfolding in_flight all_where
none-flying w = omega arith

few-cut : (r : Run) (m : ℕ) → Timely r → m ≤ length r.trace
    → length (in_flight (take m r.trace) (length (take m r.trace))) ≤ 8
unfolding run_to
few-cut r zero h l = none-flying r.trace
few-cut r (suc c) h l =
    let w = r.trace in
    let before = take c w in
    let x = get-there w c (omega arith) in
    let more : take (suc c) w ≡ before ++ x.0 ∷ [] =
    take-suc w c x.0 (omega arith) ∙ ap (λ y. before ++ y ∷ []) (get_or_from_slice_get w c x.0 x.0 x.1) in
    let m = subst (λ v. OneMore before x.0 v) (sym more) (one_more before x.0) in
    let size : length before ≡ c = length-taken w c (omega arith) in
    let room : line_at ADS (take (suc c) w) (length before) ≡ true
    → length (in_flight (take (suc c) w) (length before)) < 8 =
    subst (λ n. line_at ADS (take (suc c) w) n ≡ true → length (in_flight (take (suc c) w) n) < 8) (sym size)
    (subst (λ k. line_at ADS (take k w) c ≡ true → length (in_flight (take k w) c) < 8) (add-one c)
    (room-at r c h (omega arith))) in
    few-more before x.0 (take (suc c) w) m (orderly-cut r c h (omega arith)) (orderly-cut r (suc c) h l)
    (few-cut r c h (omega arith)) room
  where
    length-taken : {X : Type 0} (xs : List X) (n : ℕ) → n ≤ length xs → length (take n xs) ≡ n
    length-taken xs zero k = refl
    length-taken [] (suc n) k = absurd (omega arith)
    length-taken (y ∷ ys) (suc n) k = ap suc (length-taken ys n (omega arith))

-- so are the entries of the queue
pub few-held : (r : Run) (queue : List Entry) → Timely r → HoldsRequests queue r → length queue ≤ 8
few-held r queue h f =
    let whole : take (length r.trace) r.trace ≡ r.trace = take_all (length r.trace) r.trace (omega arith) in
    grind (arith, few-cut, length-map)
