-- Rule 4: the requests in flight, by the rows and the request that began at the last clock.
use Rattle.std.proofs.Common.{ℕ, zero, suc, ◌+◌, ◌-◌, ◌^◌, ◌<◌, ◌≤◌, ◌≡◌, ◌⊎◌, Bool, true, false, cond, not, ◌&&◌, ◌||◌, nat_lt, Option, Some, None}
use Rattle.std.proofs.Common.{[], ◌∷◌, ◌++◌, length, refl, sym, ap, subst, ◌∙◌, arith, inl, inr, is_some, slice_get}
use Rattle.std.specs.List.{count_by, find}
use Rattle.std.specs.Option.{option_map}
use Rattle.std.proofs.lemmas.Bool.{and_from, and_left, and_parts, and_right, both_ways, cases_Bool, false_from_ne_true, le-leb, lt-leb, lt-ltb, ltb-true, not_from_true, or_cases, or_left, or_right}
use Rattle.fsb_count.specs.Clocks.{all_where, count_where, nth_where}
use Rattle.fsb_count.specs.Options.{is_before}
use Rattle.fsb_count.proofs.Interface.{count_where-more, count_where-same, first_where-found, first_where-none, is_before-from, is_before-parts, length-all_where, nth_where-at}
use Rattle.fsb_signal.specs.declared.lines.TheConstants.Lines.{ADS}
use Rattle.fsb_signal.specs.declared.marks.Marks.{Marks}
use Rattle.fsb_signal.specs.declared.sample.Sample.{Sample}
use Rattle.fsb_signal.specs.Samples.{has_line, line_at}
use Rattle.fsb_trace.specs.At.{Trace, line_back}
use Rattle.fsb_trace.specs.Flight.{has_ended, in_flight, is_dropped, is_in_flight}
use Rattle.fsb_trace.specs.Requests.{is_live, live_number_of}
use Rattle.fsb_trace.specs.Outcome.{is_deferred}
use Rattle.fsb_trace.specs.Response.{end_of}
use Rattle.fsb_trace.specs.Rules.{breaks, is_queue_full, phase_rules}
use Rattle.fsb_laws.specs.Orderly.{Orderly}
use Rattle.fsb_laws.proofs.Interface.{count_where-none, deferred_response, ended_known, in_flight-now, is_cancelled-late, is_in_flight-end, line_at-new, one_more, response_counted, response_there}
use Rattle.fsb_owner_table.specs.declared.row.Row.{Row}
use Rattle.fsb_owner_table.specs.Kept.{is_row_closed, is_row_dropped, kept_below, row_last_clock, rows_of}
use Rattle.fsb_owner_table.specs.Rows.{reached, reached_by_reply, row_at}
use Rattle.fsb_owner_table.specs.RowAfter.{is_row_deferred}
use Rattle.fsb_owner_table.proofs.Closed.{left_is}
use Rattle.fsb_owner_table.proofs.KeptRows.{clock_is, last_of}
use Rattle.fsb_owner_table.proofs.Reached.{reached-live}
use Rattle.fsb_owner_table.proofs.RowGoes.{deferred_is}
use Rattle.fsb_owner_feed.specs.declared.begins.FirstClock.{FirstClock}
use Rattle.fsb_owner_feed.specs.Begins.{SaysBegins}
use Rattle.fsb_owner_feed.proofs.FoundRows.{find_rows, passes}
use Rattle.fsb_reasons.specs.declared.reason.Reason.TheVariants.{QueueFull}
use Rattle.fsb_reasons.specs.RuleOf.{rule_of}
use Rattle.fsb_why.specs.Explains.{IsReason}
use Rattle.fsb_why_open.specs.Open.{is_row_in_flight}
use Rattle.fsb_why_open.proofs.KeptOnes.{count_rows, most, one_at_most}

-- a row that is dropped below a clock is dropped below each later one
pub dropped_more : (row : Row) (d c : ℕ) → d ≤ c → is_row_dropped row d ≡ true → is_row_dropped row c ≡ true
dropped_more row d c l t =
    let p = and_parts row.seen.cancelled (nat_lt (row.seen.clock + 3) d) t in
    let less : row.seen.clock + 3 < d = ltb-true _ _ p.1 in
    rw p.0 (lt-ltb _ _ (omega arith))

before_as : (o p : Option ℕ) (d c : ℕ) → o ≡ p → d ≤ c → is_before o d ≡ true → is_before p c ≡ true
before_as o p d c e l t =
    let b = is_before-parts o d t in is_before-from p b.0 c (sym e ∙ b.1) (omega (arith, l, b.2))

-- a request that has its last clock in the trace has its end there
last_ended : (h : Trace) (q d : ℕ) (b : Bool) → is_row_deferred (row_at h q) ≡ b → d ≤ length h
    → is_before (row_last_clock (row_at h q)) d ≡ true → is_before (row_at h q).end (length h) ≡ true
unfolding row_at
last_ended h q d true e l t =
    let p = and_parts (is_live h q) (is_deferred h (live_number_of h q)) (sym (deferred_is h q) ∙ e) in
    let r = deferred_response h (live_number_of h q) p.1 in
    let there = response_there h (live_number_of h q) (response_counted h (live_number_of h q) r.0 r.1) in
    let a = r.1 in
    let b = there.1 in
    let same : there.0 ≡ r.0 = cc in
    is_before-from (reached end_of h q) r.0 (length h) (reached-live end_of h q p.0 ∙ r.2) (omega (arith, there.2, same))
last_ended h q d false e l t =
    before_as (row_last_clock (row_at h q)) (reached end_of h q) d (length h)
    (last_of h q ∙ ap (λ k. cond k (reached_by_reply end_of h q) (reached end_of h q)) e) l t

-- so one that is in flight at the end of the trace is kept
pub in_flight_kept : (h : Trace) (q : ℕ) → is_row_in_flight (length h) (row_at h q) ≡ true
    → is_row_closed (row_at h q) (length h - 3) ≡ false
in_flight_kept h q t =
    false_from_ne_true (is_row_closed (row_at h q) (length h - 3)) (λ closed.
    both_ways (is_row_in_flight (length h) (row_at h q))
    (not_from_true (is_row_dropped (row_at h q) (length h) || is_before (row_at h q).end (length h))
    (has_left (or_cases (is_row_dropped (row_at h q) (length h - 3))
    (is_before (row_last_clock (row_at h q)) (length h - 3)) closed))) t)
  where
    has_left : (is_row_dropped (row_at h q) (length h - 3) ≡ true)
        ⊎ (is_before (row_last_clock (row_at h q)) (length h - 3) ≡ true)
        → (is_row_dropped (row_at h q) (length h) || is_before (row_at h q).end (length h)) ≡ true
    has_left (inl dropped) =
        or_left (is_row_dropped (row_at h q) (length h)) (is_before (row_at h q).end (length h))
        (dropped_more (row_at h q) (length h - 3) (length h) (omega arith) dropped)
    has_left (inr last) =
        or_right (is_row_dropped (row_at h q) (length h)) (is_before (row_at h q).end (length h))
        (last_ended h q (length h - 3) (is_row_deferred (row_at h q)) refl (omega arith) last)

parted : (a l d e : Bool) → l ≡ true → (a && not (d || e)) ≡ (((a && l) && not d) && not e)
parted a l d e t = rw t (grind arith)

pub in_flight_is : (h : Trace) (q : ℕ) → q < length h → passes (is_row_in_flight (length h)) h q ≡ is_in_flight h (length h) q
unfolding is_in_flight
in_flight_is h q l =
    ap (λ b. line_at ADS h q && not b) (left_is (row_at h q) h q (length h) refl)
    ∙ parted (line_at ADS h q) (nat_lt q (length h)) (is_dropped h (length h) q) (has_ended h (length h) q)
    (lt-ltb q (length h) l)

-- the request of the last clock is in flight
last_live : (h : Trace) (q : ℕ) → length h ≤ q + 1 → is_live h q ≡ line_at ADS h q
unfolding is_live
last_live h q l = rw (is_cancelled-late h q (omega (arith, l))) (grind arith)

last_in_flight : (h : Trace) (q : ℕ) → Orderly h → length h ≡ q + 1 → is_in_flight h (length h) q ≡ line_at ADS h q
last_in_flight h q o e =
    elim (cases_Bool (is_live h q)) [
      | inl t ↦
          is_in_flight-end h q (omega (arith, e))
          ∙ and_from _ _ t (rw (ended_known h q (end_of h (live_number_of h q)) o (omega (arith, e)) t (omega (arith, e)) refl) refl)
          ∙ sym (sym (last_live h q (omega (arith, e))) ∙ t)
      | inr f ↦
          is_in_flight-end h q (omega (arith, e)) ∙ and_left _ _ f
          ∙ sym (sym (last_live h q (omega (arith, e))) ∙ f)
    ]

back_one : (h : Trace) (k : ℕ) → length h ≡ k + 1 → line_back ADS h (length h) 1 ≡ line_at ADS h k
unfolding line_back
back_one h k e =
    let back : length h - 1 ≡ k = omega (arith, e) in
    rw (back, le-leb 1 (length h) (omega (arith, e))) refl

back_none : (h : Trace) → length h ≡ 0 → line_back ADS h (length h) 1 ≡ false
unfolding line_back
back_none h e = rw e refl

same_below : (h : Trace) (k : ℕ) → k ≤ length h
    → count_where (passes (is_row_in_flight (length h)) h) k ≡ count_where (is_in_flight h (length h)) k
same_below h k l =
    count_where-same (passes (is_row_in_flight (length h)) h) (is_in_flight h (length h)) k
    (record { same = λ q m. in_flight_is h q (omega (arith, l, m)) })

depth_cases : (h : Trace) (n : ℕ) → Orderly h → length h ≡ n
    → length (in_flight h (length h))
    ≡ count_by (is_row_in_flight (length h)) (rows_of h) + cond (line_back ADS h (length h) 1) 1 0
unfolding in_flight kept_below count_where
depth_cases h zero o e =
    let none : length h - 1 ≡ 0 = omega (arith, e) in
    length-all_where (is_in_flight h (length h)) (length h)
    ∙ ap (count_where (is_in_flight h (length h))) e
    ∙ sym (rw (none, back_none h e) refl)
depth_cases h (suc k) o e =
    let size : length h ≡ k + 1 = omega (arith, e) in
    let back : length h - 1 ≡ k = omega (arith, e) in
    length-all_where (is_in_flight h (length h)) (length h)
    ∙ ap (count_where (is_in_flight h (length h))) size
    ∙ count_where-more (is_in_flight h (length h)) k
    ∙ ap (λ b. count_where (is_in_flight h (length h)) k + cond b 1 0) (last_in_flight h k o size ∙ sym (back_one h k size))
    ∙ ap (λ j. j + cond (line_back ADS h (length h) 1) 1 0)
    (sym (ap (λ j. count_by (is_row_in_flight (length h)) (kept_below h j)) back
    ∙ count_rows (is_row_in_flight (length h)) h (in_flight_kept h) k ∙ same_below h k (omega (arith, size))))

begun_is : (h : Trace) (b : Option FirstClock) → SaysBegins b h → is_some b ≡ line_back ADS h (length h) 1
begun_is h None e = sym e
begun_is h (Some begins) e = sym e.0

-- how many are in flight with the next sample
pub depth_is : (h : Trace) (x : Sample) (b : Option FirstClock) → Orderly h → SaysBegins b h
    → length (in_flight (h ++ x ∷ []) (length h))
    ≡ count_by (is_row_in_flight (length h)) (rows_of h) + cond (is_some b) 1 0
depth_is h x b o e =
    ap length (in_flight-now h x (h ++ x ∷ []) (one_more h x) o)
    ∙ depth_cases h (length h) o refl
    ∙ ap (λ k. count_by (is_row_in_flight (length h)) (rows_of h) + cond k 1 0) (sym (begun_is h b e))

-- and which is the oldest
first_item : (t : ℕ → Bool) (n q : ℕ) → q < n → t q ≡ true → ((k : ℕ) → k < q → t k ≡ false)
    → slice_get (all_where t n) 0 ≡ Some q
unfolding nth_where
first_item t n q l e none =
    let zero_below : count_where t q ≡ 0 = count_where-none t q none in
    subst (λ k. slice_get (all_where t n) k ≡ Some q) zero_below (nth_where-at t n q l e)

pub found_clock : (h : Trace) (o : Option ℕ) (row : Row) → Some row ≡ option_map (row_at h) o
    → (q : ℕ) × (o ≡ Some q) × (row.seen.clock ≡ q)
found_clock h None row e = absurd (let no : ⊥ = cc in no)
found_clock h (Some q) row e =
    let same : row ≡ row_at h q = cc in
    (q, refl, ap (λ r. r.seen.clock) same ∙ clock_is h q)

pub oldest_is : (h : Trace) (x : Sample) (row : Row) → Orderly h
    → Some row ≡ find (is_row_in_flight (length h)) (rows_of h)
    → slice_get (in_flight (h ++ x ∷ []) (length h)) 0 ≡ Some row.seen.clock
unfolding in_flight
oldest_is h x row o e =
    let t : ℕ → Bool = is_in_flight h (length h) in
    let f = found_clock h _ row (e ∙ find_rows (is_row_in_flight (length h)) h (in_flight_kept h) (length h - 1)) in
    let p = first_where-found (passes (is_row_in_flight (length h)) h) (length h - 1) f.0 f.1 in
    ap (λ xs. slice_get xs 0) (in_flight-now h x (h ++ x ∷ []) (one_more h x) o)
    ∙ first_item t (length h) f.0 (omega (arith, p.0)) (sym (in_flight_is h f.0 (omega (arith, p.0))) ∙ p.1)
    (λ k l. sym (in_flight_is h k (omega (arith, p.0, l))) ∙ p.2 k l)
    ∙ ap (λ q. Some q) (sym f.2)

pub none_mapped : (h : Trace) (o : Option ℕ) → None ≡ option_map (row_at h) o → o ≡ None
none_mapped h None e = refl
none_mapped h (Some q) e = absurd (let no : ⊥ = cc in no)

pub none_in_flight : (h : Trace) → None ≡ find (is_row_in_flight (length h)) (rows_of h)
    → count_by (is_row_in_flight (length h)) (rows_of h) ≡ 0
none_in_flight h e =
    let f = none_mapped h _ (e ∙ find_rows (is_row_in_flight (length h)) h (in_flight_kept h) (length h - 1)) in
    count_rows (is_row_in_flight (length h)) h (in_flight_kept h) (length h - 1)
    ∙ count_where-none (passes (is_row_in_flight (length h)) h) (length h - 1)
    (first_where-none (passes (is_row_in_flight (length h)) h) (length h - 1) f)

-- the rule
pub depth_quiet : (m : Marks) (h : Trace) (x : Sample) (c : ℕ) → c ≡ length h → has_line x ADS ≡ false
    → breaks m (h ++ x ∷ []) c 4 ≡ false
unfolding breaks phase_rules is_queue_full
depth_quiet m h x c e f = and_left _ _ (ap (line_at ADS (h ++ x ∷ [])) e ∙ line_at-new ADS h x (h ++ x ∷ []) (one_more h x) ∙ f)

pub depth_kept : (m : Marks) (h : Trace) (x : Sample) (c n : ℕ) → c ≡ length h
    → length (in_flight (h ++ x ∷ []) (length h)) ≡ n → n < 8 → breaks m (h ++ x ∷ []) c 4 ≡ false
unfolding breaks phase_rules is_queue_full
depth_kept m h x c n e k l = rw (e, k, lt-leb 8 n l) (and_right _ _ refl)

pub depth_full : (m : Marks) (h : Trace) (x : Sample) (c n oldest : ℕ) → c ≡ length h → has_line x ADS ≡ true
    → length (in_flight (h ++ x ∷ []) (length h)) ≡ n → 8 ≤ n
    → slice_get (in_flight (h ++ x ∷ []) (length h)) 0 ≡ Some oldest
    → IsReason m (h ++ x ∷ []) c 4 (QueueFull n oldest)
unfolding rule_of
depth_full m h x c n oldest e t k l first =
    rw e (record {
      rule = refl;
      holds = (line_at-new ADS h x (h ++ x ∷ []) (one_more h x) ∙ t, k, l, first);
    })

few_rows : (h : Trace) → count_by (is_row_in_flight (length h)) (rows_of h) ≤ length h - 1
few_rows h =
    let same = count_rows (is_row_in_flight (length h)) h (in_flight_kept h) (length h - 1) in
    let few = most (passes (is_row_in_flight (length h)) h) (length h - 1) in
    omega (arith, same, few)

-- what the code counts
pub counted : (h : Trace) (x : Sample) (c n j k : ℕ) (b : Option FirstClock) (s : Bool) → Orderly h → SaysBegins b h
    → c ≡ length h → c < 2 ^ 32 → s ≡ is_some b → n ≡ count_by (is_row_in_flight c) (rows_of h)
    → (n < 2 ^ 32 → j ≡ n) → (j + 1 < 2 ^ 32 → k ≡ j + cond s 1 0)
    → length (in_flight (h ++ x ∷ []) (length h)) ≡ k
counted h x c n j k b s o begins e fits is_there is_count as_number as_sum =
    let rows = is_count ∙ ap (λ t. count_by (is_row_in_flight t) (rows_of h)) e in
    let few = few_rows h in
    let same = as_number (omega (arith, rows, few, e, fits)) in
    let sum = as_sum (omega (arith, same, rows, few, e, fits)) in
    depth_is h x b o begins
    ∙ ap (λ t. count_by (is_row_in_flight (length h)) (rows_of h) + cond t 1 0) (sym is_there)
    ∙ ap (λ t. t + cond s 1 0) (sym rows ∙ sym same) ∙ sym sum

pub none_counted : (h : Trace) (x : Sample) (k : ℕ) (b : Option FirstClock) → Orderly h → SaysBegins b h
    → None ≡ find (is_row_in_flight (length h)) (rows_of h) → length (in_flight (h ++ x ∷ []) (length h)) ≡ k → k ≤ 1
none_counted h x k b o begins e same =
    let none = none_in_flight h e in
    let all = depth_is h x b o begins in
    let one = one_at_most (is_some b) in
    omega (arith, none, all, one, same)
