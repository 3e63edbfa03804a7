-- Requests in flight, replies and answers: two orderly traces that are the same so far have the same so far.
use Rattle.fsb_timely_laws.proofs.Words
use Words.{ℕ, zero, suc, ◌+◌, ◌<◌, ◌≤◌, ◌≡◌, ◌++◌, Bool, true, false, not, ◌&&◌, ◌||◌, nat_lt, [], ◌∷◌, Option, Some}
use Words.{None, length, if◌then◌else◌, refl, sym, ap, subst, ◌∙◌, arith, inl, inr, option_map, cases_lt, and_parts}
use Words.{and_from, and_right, le-ltb, lt-ltb, all_where, is_before, any_where-same, first_where-carried}
use Words.{first_where-found, is_before-from, is_before-parts, nth_where-found, ADS, line_at, Trace, AgreeTo, answers}
use Words.{is_answered, has_ended, in_flight, is_dropped, is_in_flight, is_live_reply_to, is_reply_to, reply_clock_of}
use Words.{reply_number_of, have_same_id, is_cancelled, is_live, is_reply, live_clock_of, live_number_of, end_of}
use Words.{snoop_end_of, AgreeTo-sym, end_of-response, is_cancelled-agree, is_live-agree, line_at-agree}
use Words.{live_clock_of-number, live_clock_of-stays, live_request_of-stays, request_at-agree, snoop_end_of-clock}
use Rattle.fsb_timely_laws.proofs.Tests.{both-same}
use Rattle.fsb_timely_laws.proofs.Agreed.{Agreed, Agreed-sym, answer-of, end-stays, responses-before}

-- the number of a live request whose address error would be there
pub number-stays : (n : ℕ) (u v : Trace) (i q : ℕ) → AgreeTo n u v → q + 3 < n → live_clock_of u i ≡ Some q
    → (is_live v q ≡ true) × (live_number_of v q ≡ i) × (q < length v)
unfolding live_number_of live_clock_of
number-stays n u v i q a l e =
    let p = nth_where-found (is_live v) i (length v) q (live_clock_of-stays n u v i q a l e) in (p.1, p.2, p.0)

live-within : (w : Trace) (q : ℕ) → is_live w q ≡ true → q < length w → live_clock_of w (live_number_of w q) ≡ Some q
live-within w q t l = live_clock_of-number w q l t

-- a request that has its end
ended-stays : (n c : ℕ) (u v : Trace) (q : ℕ) → Agreed n u v → c ≤ n → q < n → has_ended u c q ≡ true
    → has_ended v c q ≡ true
unfolding has_ended
ended-stays n c u v q a l m e =
    let x = and_parts (is_live u q) (is_before (end_of u (live_number_of u q)) c) e in
    let i : ℕ = live_number_of u q in
    let t = is_before-parts (end_of u i) c x.1 in
    let below : t.0 < c = t.2 in
    let p = end_of-response u i t.0 t.1 in
    let h = answer-of u i p.0 a.left p.1 in
    let k = snoop_end_of-clock u i h.snoop h.is_snoop in
    let f = k.is_clock in
    let g = live-within u q x.0 (omega (arith, a.agree.left)) in
    let same : k.clock ≡ q = cc in
    let far : q + 3 < n = omega (arith, k.above, h.before, p.2) in
    let there = number-stays n u v i q a.agree far g in
    let end = end-stays n u v i t.0 a (omega arith) t.1 in
    and_from (is_live v q) (is_before (end_of v (live_number_of v q)) c) there.0
    (is_before-from (end_of v (live_number_of v q)) t.0 c (ap (end_of v) there.1 ∙ end) below)

dropped-same : (n c : ℕ) (u v : Trace) (q : ℕ) → AgreeTo n u v → c ≤ n → is_dropped u c q ≡ is_dropped v c q
unfolding is_dropped
dropped-same n c u v q a l =
    elim (cases_lt (q + 3) c) [
      | inl known ↦ ap (λ b. b && nat_lt (q + 3) c) (is_cancelled-agree n u v q a (omega arith))
      | inr late ↦ rw (le-ltb (q + 3) c late) (and_right _ _ refl ∙ sym (and_right _ _ refl))
    ]

flight-same : (n c : ℕ) (u v : Trace) (q : ℕ) → Agreed n u v → c ≤ n → q < c
    → is_in_flight u c q ≡ is_in_flight v c q
unfolding is_in_flight
flight-same n c u v q a l m =
    let ads = line_at-agree ADS n u v q a.agree (omega arith) in
    let dropped = dropped-same n c u v q a.agree l in
    let ended : has_ended u c q ≡ has_ended v c q =
    both-same (has_ended u c q) (has_ended v c q) (λ e. ended-stays n c u v q a l (omega arith) e)
    (λ e. ended-stays n c v u q (Agreed-sym n u v a) l (omega arith) e) in
    λ i. ads i && nat_lt q c && not (dropped i) && not (ended i)

all-same : (f g : ℕ → Bool) (n : ℕ) → ((k : ℕ) → k < n → f k ≡ g k) → all_where f n ≡ all_where g n
unfolding all_where
all-same f g zero h = refl
all-same f g (suc n) h =
    let before = all-same f g n (λ k l. h k (omega arith)) in
    let here = h n (omega arith) in
    λ i. before i ++ (if here i then n ∷ [] else [])

pub in_flight-same : (n c : ℕ) (u v : Trace) → Agreed n u v → c ≤ n → in_flight u c ≡ in_flight v c
unfolding in_flight
in_flight-same n c u v a l =
    all-same (is_in_flight u c) (is_in_flight v c) c (λ q m. flight-same n c u v q a l m)

-- where the snoop end of live request i is there, a request of the same clocks is a reply to it in both traces
pub reply-same : (n : ℕ) (u v : Trace) (i s q : ℕ) → AgreeTo n u v → snoop_end_of u i ≡ Some s → s < n → q + 1 < n
    → is_reply_to u i q ≡ is_reply_to v i q
unfolding is_reply_to
reply-same n u v i s q a e l m =
    let ads = line_at-agree ADS n u v q a (omega arith) in
    let request = request_at-agree n u v q a m in
    let asked = live_request_of-stays n u v i s a l e in
    let response = responses-before n q u v i a (omega arith) in
    λ k. ads k && is_reply (request k) && have_same_id (request k) (asked k) && response k

-- a request that began before c is in flight there or live unless it was dropped
kept-form : (a b x n e : Bool) → a ≡ true → b ≡ true
    → ((((a && b) && not (x && n)) && not ((a && not x) && e)) || (a && not x)) ≡ not (x && n)
kept-form true true true true e f g = refl
kept-form true true true false true f g = refl
kept-form true true true false false f g = refl
kept-form true true false n true f g = refl
kept-form true true false n false f g = refl
kept-form false b x n e f g = absurd (let no : ⊥ = cc in no)
kept-form true false x n e f g = absurd (let no : ⊥ = cc in no)

kept : (w : Trace) (c q : ℕ) → line_at ADS w q ≡ true → q < c
    → (is_in_flight w c q || is_live w q) ≡ not (is_dropped w c q)
unfolding is_in_flight is_dropped has_ended is_live
kept w c q t l = kept-form (line_at ADS w q) (nat_lt q c) (is_cancelled w q) (nat_lt (q + 3) c)
    (is_before (end_of w (live_number_of w q)) c) t (lt-ltb q c l)

ads-of : (w : Trace) (i q : ℕ) → is_reply_to w i q ≡ true → line_at ADS w q ≡ true
unfolding is_reply_to
ads-of w i q e = (and_parts _ _ (and_parts _ _ (and_parts _ _ e).0).0).0

answers-stays : (n c : ℕ) (u v : Trace) (i s q : ℕ) → AgreeTo n u v → snoop_end_of u i ≡ Some s → s < n → c < n → q < c
    → answers u c i q ≡ true → answers v c i q ≡ true
unfolding answers
answers-stays n c u v i s q a e l m k f =
    let x = and_parts (is_reply_to u i q) (is_in_flight u c q || is_live u q) f in
    let reply = sym (reply-same n u v i s q a e l (omega arith)) ∙ x.0 in
    let alive = kept v c q (ads-of v i q reply) k ∙ ap not (sym (dropped-same n c u v q a (omega arith)))
    ∙ sym (kept u c q (ads-of u i q x.0) k) ∙ x.1 in
    and_from (is_reply_to v i q) (is_in_flight v c q || is_live v q) reply alive

pub answered-same : (n c : ℕ) (u v : Trace) (i s : ℕ) → AgreeTo n u v → snoop_end_of u i ≡ Some s
    → snoop_end_of v i ≡ Some s → s < n → c < n → is_answered u c i ≡ is_answered v c i
unfolding is_answered
answered-same n c u v i s a e f l m =
    any_where-same (answers u c i) (answers v c i) c
    (record {
      same = λ q k. both-same (answers u c i q) (answers v c i q) (answers-stays n c u v i s q a e l m k)
          (answers-stays n c v u i s q (AgreeTo-sym n u v a) f l m k);
    })

live_reply-same : (n : ℕ) (u v : Trace) (j s q : ℕ) → AgreeTo n u v → snoop_end_of u j ≡ Some s → s < n → q + 3 < n
    → is_live_reply_to u j q ≡ is_live_reply_to v j q
unfolding is_live_reply_to
live_reply-same n u v j s q a e l m =
    let live = is_live-agree n u v q a m in
    let reply = reply-same n u v j s q a e l (omega arith) in
    λ k. live k && reply k

number-parts : (w : Trace) (j i : ℕ) (o : Option ℕ) → reply_clock_of w j ≡ o → option_map (live_number_of w) o ≡ Some i
    → (q : ℕ) × (reply_clock_of w j ≡ Some q) × (live_number_of w q ≡ i)
number-parts w j i None e f = absurd (let no : ⊥ = cc in no)
number-parts w j i (Some q) e f = (q, e, cc)

-- a reply whose own snoop end is there is the one of the same live request in both traces
pub reply_number-stays : (n : ℕ) (u v : Trace) (i j s t : ℕ) → AgreeTo n u v → snoop_end_of u i ≡ Some s → s < n
    → snoop_end_of u j ≡ Some t → t < n → reply_number_of u j ≡ Some i → reply_number_of v j ≡ Some i
unfolding reply_number_of reply_clock_of is_live_reply_to
reply_number-stays n u v i j s t a e l f m h =
    let p = number-parts u j i (reply_clock_of u j) refl h in
    let q : ℕ = p.0 in
    let first = first_where-found (is_live_reply_to u j) (length u) q p.1 in
    let live = (and_parts (is_live u q) (is_reply_to u j q) first.1).0 in
    let k = snoop_end_of-clock u i s e in
    let mine = k.is_clock in
    let clock : live_clock_of u i ≡ Some q =
    subst (λ x. live_clock_of u x ≡ Some q) p.2 (live-within u q live first.0) in
    let same : k.clock ≡ q = cc in
    let far : q + 3 < n = omega (arith, k.above) in
    let there = number-stays n u v i q a far clock in
    let found : reply_clock_of v j ≡ Some q =
    first_where-carried (is_live_reply_to u j) (is_live_reply_to v j) (length u) (length v) q
    (record { same = λ c d. live_reply-same n u v j t c a f m (omega arith) }) there.2 p.1 in
    ap (option_map (live_number_of v)) found ∙ ap (λ x. Some x) there.1
