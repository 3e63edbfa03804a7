-- Where an agent begins no request, its outstanding requests of the next clock are some of those of this one.
use Rattle.fsb_lawful.proofs.Words
use Words.{ℕ, zero, suc, ◌+◌, ◌<◌, ◌≤◌, ◌≡◌, Bool, true, false, not, ◌&&◌, List, [], ◌∷◌, ◌++◌, Option, Some, length}
use Words.{nat_eq, refl, sym, ap, subst, ◌∙◌, ◌⊎◌, arith, add-one, append-nil, if◌then◌else◌, filter, filter_map}
use Words.{list_any, option_map, option_map_or, and_from, and_parts, cases_lt, eq-eqb, false_from_ne_true, ne_eqb}
use Words.{or_left, length-append, filter-append, filter_map-append, list_any-append, all_where, is_before, is_some_and}
use Words.{is_before-parts, ADS, Sample, line_at, Who, Symmetric, Trace, request_at, AgreeTo, is_outstanding}
use Words.{last_clock_of, outstanding, is_deferred, is_live, is_reply, live_number_of, begins_at, is_agent}
use Words.{is_same_agent, winner_at, end_of-response, request_at-agree, Orderly, finished-deferred, finished-plain}
use Words.{is_deferred-old, is_live-ads, is_live-more, is_outstanding-end, last_clock_of-plain, live_number_of-more}
use Words.{request_at-last, response_counted, agent_at, begun_with, claim_at, moment_at, owing_at, owing_for, Claim}
use Words.{Owing, Run, moments_below, past_of, past_with, run_to, Timely, outstanding_at, owed, moment-at, moment_of}
use Rattle.fsb_laws.specs.OneMore.{OneMore}
use Rattle.fsb_lawful.proofs.CutRuns.{cuts-agree, length-cut}
use Rattle.fsb_lawful.proofs.OrderlyRuns.{orderly-at}
use Rattle.fsb_lawful.proofs.OutstandingIds.{get-there}

-- the first list has no more than the second, and nothing that the second has not
pub record IsLess {Y : Type 0} (xs ys : List Y) : Type 0 where
  pub fewer : length xs ≤ length ys
  pub among : (test : Y → Bool) → list_any test xs ≡ true → list_any test ys ≡ true

less-same : {Y : Type 0} (xs : List Y) → IsLess xs xs
less-same xs = record { fewer = omega arith; among = λ test e. e }

less-none : {Y : Type 0} (ys : List Y) → IsLess [] ys
less-none ys = record { fewer = omega arith; among = λ test e. absurd (let no : ⊥ = cc in no) }

less-append : {Y : Type 0} (xs ys zs bs : List Y) → IsLess xs ys → IsLess zs bs → IsLess (xs ++ zs) (ys ++ bs)
less-append xs ys zs bs h k = grind (arith, length-append, list_any-append)

-- what the n-th clock of a list gives
abbrev pub tail_of : {Y : Type 0} → (ℕ → Bool) → (ℕ → Option Y) → (Y → Bool) → ℕ → List Y
tail_of t g f n = filter f (filter_map g (if t n then n ∷ [] else []))

listed-more : {Y : Type 0} (t : ℕ → Bool) (g : ℕ → Option Y) (f : Y → Bool) (n : ℕ)
    → filter f (filter_map g (all_where t (suc n))) ≡ filter f (filter_map g (all_where t n)) ++ tail_of t g f n
unfolding all_where
listed-more t g f n = grind (arith, filter_map-append, filter-append)

tail-less : {Y : Type 0} (s t : ℕ → Bool) (g k : ℕ → Option Y) (f : Y → Bool) (n : ℕ) (b : Bool) → s n ≡ b
    → (s n ≡ true → (t n ≡ true) × (g n ≡ k n)) → IsLess (tail_of s g f n) (tail_of t k f n)
tail-less s t g k f n b h1 h2 = grind arith

-- where each clock of the first list is one of the second, and gives the same there
pub listed-less : {Y : Type 0} (s t : ℕ → Bool) (g k : ℕ → Option Y) (f : Y → Bool) (n : ℕ)
    → ((q : ℕ) → q < n → s q ≡ true → (t q ≡ true) × (g q ≡ k q))
    → IsLess (filter f (filter_map g (all_where s n))) (filter f (filter_map k (all_where t n)))
unfolding all_where
listed-less s t g k f zero h = less-same []
listed-less s t g k f (suc n) h =
    let before = listed-less s t g k f n (λ q l. h q (omega arith)) in
    let last = tail-less s t g k f n (s n) refl (h n (omega arith)) in
    subst (λ xs. IsLess xs (filter f (filter_map k (all_where t (suc n))))) (sym (listed-more s g f n))
    (subst (IsLess (filter f (filter_map g (all_where s n)) ++ tail_of s g f n)) (sym (listed-more t k f n))
    (less-append _ _ _ _ before last))

pub one-more : (r : Run) (e : ℕ) → suc e < length r.trace
    → (x : Sample) × OneMore (run_to r e).trace x (run_to r (suc e)).trace
one-more r e l =
    let size = length-cut r e (omega arith) in
    let more = length-cut r (suc e) l in
    let x = get-there (run_to r (suc e)).trace (length (run_to r e).trace) (omega arith) in (
      x.0,
      record {
        agree = subst (λ n. AgreeTo n (run_to r e).trace (run_to r (suc e)).trace) (sym size)
            (cuts-agree r e (suc e) (omega arith) l);
        size = omega arith;
        last = x.1;
      },
    )

-- a request that has finished has finished at the next clock, too
still-finished : (h : Trace) (x : Sample) (v : Trace) (i : ℕ) (a b : Bool) → OneMore h x v → Orderly h
    → Orderly v → is_deferred h i ≡ a → is_deferred v i ≡ b → is_before (last_clock_of h i) (length h) ≡ true
    → is_before (last_clock_of v i) (length v) ≡ true
still-finished h x v i false false m o k e f t = finished-plain h x v i m o e f ∙ or_left _ _ t
still-finished h x v i true b m o k e f t = finished-deferred h x v i m o k e ∙ or_left _ _ t
still-finished h x v i false true m o k e f t =
    let end = is_before-parts (last_clock_of h i) (length h) t in
    let response = end_of-response h i end.0 (sym (last_clock_of-plain h i e) ∙ end.1) in
    let same = is_deferred-old h x v i m o (response_counted h i response.0 response.1) in
    let no : true ≡ false = sym f ∙ same ∙ e in absurd (cc no)

-- what is outstanding at the next clock was outstanding, if it began before
still-out : (h : Trace) (x : Sample) (v : Trace) (q : ℕ) → OneMore h x v → Orderly h → Orderly v → q < length h
    → is_outstanding v (length v) q ≡ true → is_outstanding h (length h) q ≡ true
unfolding is_reply is_some_and
still-out h x v q m o k l e =
    let size = m.size in
    let e' = sym (is_outstanding-end v q (omega arith)) ∙ e in
    let a = and_parts (is_live v q && not (is_reply (request_at v q))) _ e' in
    let b = and_parts (is_live v q) (not (is_reply (request_at v q))) a.0 in
    let live = (and_parts (is_live h q) _ (sym (is_live-more h x v q m l) ∙ b.0)).0 in
    let ads = is_live-ads h q live in
    let number = live_number_of-more h x v q m o.spaced l ads in
    let reply : not (is_reply (request_at h q)) ≡ true = early (cases_lt (q + 1) (length h)) b.1 in
    let unfinished : is_before (last_clock_of h (live_number_of h q)) (length h) ≡ false = false_from_ne_true _ (λ t.
    let i = live_number_of h q in
    let done = still-finished h x v i (is_deferred h i) (is_deferred v i) m o k refl refl t in
    let there : is_before (last_clock_of v (live_number_of v q)) (length v) ≡ true = grind arith in
    let no : false ≡ true = (let g = rw there at a.1 in g) in cc no) in
    is_outstanding-end h q l ∙ and_from _ _ (and_from _ _ live reply) (ap not unfinished)
  where
    early : (q + 1 < length h) ⊎ (length h ≤ q + 1) → not (is_reply (request_at v q)) ≡ true
        → not (is_reply (request_at h q)) ≡ true
    early h1 h2 = grind (arith, request_at-agree, request_at-last)

pub map-some : {A B : Type 0} (f : A → B) (o : Option A) (y : B) → option_map f o ≡ Some y
    → (x : A) × (o ≡ Some x) × (f x ≡ y)
map-some f o y h1 = grind arith

-- the agent of a claim is the winner
claim-winner : (w : Trace) (q : ℕ) (claim : Claim) (o : Option Who) → winner_at w q ≡ o
    → claim_at w q ≡ Some claim → winner_at w q ≡ Some (Symmetric claim.agent)
unfolding claim_at agent_at
claim-winner w q claim o h1 h2 = grind arith

begins-by : (w : Trace) (q a : ℕ) → line_at ADS w q ≡ true → winner_at w q ≡ Some (Symmetric a)
    → begins_at w q (Symmetric a) ≡ true
unfolding begins_at is_agent is_some_and is_same_agent
begins-by w q a t e = rw (t, e) (eq-eqb a a refl)

-- what begins at c is not the agent's
not-own : (r : Run) (a c : ℕ) (owing : Owing) (b : Bool) → line_at ADS (run_to r c).trace c ≡ b
    → begins_at (run_to r c).trace c (Symmetric a) ≡ false
    → begun_with (past_with r (moments_below r c) c) (run_to r c).trace c ≡ Some owing
    → nat_eq owing.claim.agent a ≡ false
unfolding begun_with owing_for
not-own r a c owing b h1 h2 h3 = grind (arith, claim-winner, begins-by)

tail-none : {Y : Type 0} (t : ℕ → Bool) (g : ℕ → Option Y) (f : Y → Bool) (n : ℕ) (b : Bool) (o : Option Y)
    → t n ≡ b → g n ≡ o → ((y : Y) → o ≡ Some y → f y ≡ false) → tail_of t g f n ≡ []
tail-none t g f n b o h1 h2 h3 = grind arith

-- what is outstanding behind a clock
pub outstanding-of : (r : Run) (e : ℕ) → e < length r.trace
    → outstanding_at (past_of r) (suc e) ≡ filter_map
    (owing_at (past_with r (moments_below r e) e) (run_to r e).trace e) (outstanding (run_to r e).trace (e + 1))
unfolding outstanding_at past_of moment_at
outstanding-of r e l = ap (λ o. option_map_or (λ moment. moment.outstanding) o []) (moment-at r (length r.trace) e l)

owing-now : (r : Run) (c : ℕ)
    → owing_at (past_with r (moments_below r c) c) (run_to r c).trace c c
    ≡ begun_with (past_with r (moments_below r c) c) (run_to r c).trace c
unfolding owing_at
owing-now r c = rw (eq-eqb c c refl, owing_at) refl

pub owing-then : (r : Run) (c q : ℕ) → q < c
    → owing_at (past_with r (moments_below r c) c) (run_to r c).trace c q ≡ (moment_of r q).begun
unfolding owing_at
owing-then r c q l = rw (ne_eqb q c (λ s. omega arith), owing_at, moment-at r c q l) refl

-- an agent knows a request alike at both clocks
owing-same : (r : Run) (e q : ℕ) → q < suc e
    → owing_at (past_with r (moments_below r (suc e)) (suc e)) (run_to r (suc e)).trace (suc e) q
    ≡ owing_at (past_with r (moments_below r e) e) (run_to r e).trace e q
unfolding moment_at
owing-same r e q l = grind (arith, owing-then, owing-now)

-- the requests that began before the clock
earlier : (r : Run) (a c : ℕ) → Timely r → c < length r.trace
    → IsLess (filter (λ owing. nat_eq owing.claim.agent a)
    (filter_map (owing_at (past_with r (moments_below r c) c) (run_to r c).trace c)
    (all_where (is_outstanding (run_to r c).trace (c + 1)) c))) (owed (past_of r) a c)
unfolding owed outstanding all_where
earlier r a zero h l = less-none (owed (past_of r) a zero)
earlier r a (suc e) h l =
    let u = (run_to r e).trace in
    let v = (run_to r (suc e)).trace in
    let f : Owing → Bool = λ owing. nat_eq owing.claim.agent a in
    let g = owing_at (past_with r (moments_below r (suc e)) (suc e)) v (suc e) in
    let k = owing_at (past_with r (moments_below r e) e) u e in
    let m = one-more r e l in
    let before : length u ≡ e + 1 = length-cut r e (omega arith) in
    let now : length v ≡ suc e + 1 = length-cut r (suc e) l in
    let less = listed-less (is_outstanding v (suc e + 1)) (is_outstanding u (e + 1)) g k f (suc e) (λ q below out. (
      subst (λ n. is_outstanding u n q ≡ true) before
          (still-out u m.0 v q m.1 (orderly-at r e h (omega arith)) (orderly-at r (suc e) h l) (omega arith)
          (subst (λ n. is_outstanding v n q ≡ true) (sym now) out)),
      owing-same r e q below,
    )) in
    subst (IsLess (filter f (filter_map g (all_where (is_outstanding v (suc e + 1)) (suc e)))))
    (sym (ap (filter f) (outstanding-of r e (omega arith))
    ∙ ap (λ n. filter f (filter_map k (all_where (is_outstanding u (e + 1)) n))) (add-one e))) less

-- what an agent owes behind a clock at which it begins nothing
pub owes-less : (r : Run) (a c : ℕ) → Timely r → c < length r.trace
    → begins_at (run_to r c).trace c (Symmetric a) ≡ false → IsLess (owed (past_of r) a (c + 1)) (owed (past_of r) a c)
unfolding owed outstanding
owes-less r a c h l none =
    let v = (run_to r c).trace in
    let f : Owing → Bool = λ owing. nat_eq owing.claim.agent a in
    let g = owing_at (past_with r (moments_below r c) c) v c in
    let t = is_outstanding v (c + 1) in
    let last = tail-none t g f c (t c) (begun_with (past_with r (moments_below r c) c) v c) refl (owing-now r c)
    (λ owing e. not-own r a c owing (line_at ADS v c) refl none e) in
    let whole = ap (λ n. filter f (outstanding_at (past_of r) n)) (add-one c)
    ∙ ap (filter f) (outstanding-of r c l) ∙ ap (λ n. filter f (filter_map g (all_where t n))) (add-one c)
    ∙ listed-more t g f c ∙ ap (λ xs. filter f (filter_map g (all_where t c)) ++ xs) last
    ∙ append-nil (filter f (filter_map g (all_where t c))) in
    subst (λ xs. IsLess xs (owed (past_of r) a c)) (sym whole) (earlier r a c h l)
