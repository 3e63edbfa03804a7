-- The clock from which a live request is answered: what it rests on, and that it stays.
use Rattle.fsb_lawful.proofs.Words
use Words.{ℕ, zero, suc, ◌+◌, ◌<◌, ◌≤◌, ◌≡◌, true, ◌||◌, Option, Some, max, refl, ap, arith, add-one, subst, length}
use Words.{option_map, is_some_and, is_before, greater_of, count_where, nth_where, count_where-above, nth_where-found}
use Words.{nth_where-there, nth_where-at, HITM, Trace, responds_at, AgreeTo, is_write_back, snoop_end_of}
use Words.{response_clock_of, takes, end_of, is_clear_before, two_after_snoop, answer_from, next_response}
use Words.{snoop_end_of-stays, snoop_end_of-before, end_of-stays, end_of-response, live_request_of-stays}
use Words.{line_at_snoop_end-stays, HasAnswer, clear_parts}

-- the parts of the clock from which the first request is answered, and of that of another one
first_parts : (w : Trace) (f : ℕ) (o : Option ℕ) → snoop_end_of w 0 ≡ o → option_map (λ s. s + 2) o ≡ Some f
    → (s : ℕ) × (snoop_end_of w 0 ≡ Some s) × (s + 2 ≡ f)
first_parts w f o h1 h2 = grind arith

next_parts : (w : Trace) (i f : ℕ) (o p : Option ℕ) → snoop_end_of w (suc i) ≡ o → end_of w i ≡ p
    → greater_of (option_map (λ s. s + 2) o) (option_map (λ t. t + 1) p) ≡ Some f
    → (s t : ℕ) × (snoop_end_of w (suc i) ≡ Some s) × (end_of w i ≡ Some t) × (max (s + 2) (t + 1) ≡ f)
unfolding greater_of
next_parts w i f o p h1 h2 h3 = grind arith

-- from that clock on it may be answered
pub answer_from-answer : (w : Trace) (i f : ℕ) → answer_from w i ≡ Some f → HasAnswer w f i
unfolding answer_from two_after_snoop is_clear_before is_before is_some_and
answer_from-answer w i f h1 = grind (arith, next_parts)

-- it stays
pub answer_from-stays : (n : ℕ) (w v : Trace) (i f : ℕ) → AgreeTo n w v → f ≤ n → answer_from w i ≡ Some f
    → answer_from v i ≡ Some f
unfolding answer_from two_after_snoop greater_of
answer_from-stays n w v zero f a l e =
    let p = first_parts w f (snoop_end_of w 0) refl e in
    let s : ℕ = p.0 in
    let two : s + 2 ≡ f = p.2 in
    rw (snoop_end_of-stays n w v 0 s a (omega arith) p.1) (ap (λ m. Some m) two)
answer_from-stays n w v (suc i) f a l e =
    let p = next_parts w i f (snoop_end_of w (suc i)) (end_of w i) refl refl e in
    let s : ℕ = p.0 in
    let t : ℕ = p.1 in
    let top : max (s + 2) (t + 1) ≡ f = p.4 in
    let before = snoop_end_of-before w i s (rw add-one p.2) in
    let u : ℕ = before.0 in
    let apart : u + 3 ≤ s = before.2 in
    rw (
      snoop_end_of-stays n w v (suc i) s a (omega arith) p.2,
      end_of-stays n w v i u t a (omega arith) before.1 (omega arith) p.3,
    )
    (ap (λ m. Some m) top)

-- whether memory takes its data stays
pub takes-stays : (n : ℕ) (w v : Trace) (i s : ℕ) → AgreeTo n w v → s < n → snoop_end_of w i ≡ Some s
    → takes w i ≡ takes v i
unfolding takes
takes-stays n w v i s a l e =
    let request = live_request_of-stays n w v i s a l e in
    let handed = line_at_snoop_end-stays HITM n w v i s a l e in
    λ k. is_write_back (request k) || handed k

-- a request that may be answered has its place: all before it responded
pub answered-before : (w : Trace) (c i : ℕ) → HasAnswer w c i → i ≤ next_response w c
unfolding next_response response_clock_of
answered-before w c zero a = omega arith
answered-before w c (suc i) a =
    let e = clear_parts w i c a.clear in
    let end : ℕ = e.0 in
    let below : end < c = e.2 in
    let f = end_of-response w i end e.1 in
    let r : ℕ = f.0 in
    let no_later : r ≤ end = f.2 in
    let p = nth_where-found (responds_at w) i (length w) r f.1 in
    let count : count_where (responds_at w) r ≡ i = p.2 in
    let more = count_where-above (responds_at w) r c (omega arith) p.1 in omega arith

-- the response of a request before the next one to respond
pub response-before : (w : Trace) (c i : ℕ) → c ≤ length w → i < next_response w c
    → (r : ℕ) × (r < c) × (response_clock_of w i ≡ Some r) × (responds_at w r ≡ true) × (next_response w r ≡ i)
unfolding next_response response_clock_of
response-before w c i l m =
    let h = nth_where-there (responds_at w) i c m in
    let r : ℕ = h.0 in
    let p = nth_where-found (responds_at w) i c r h.1 in
    let below : r < c = p.0 in (
      r,
      below,
      subst (λ k. nth_where (responds_at w) k (length w) ≡ Some r) p.2
          (nth_where-at (responds_at w) (length w) r (omega arith) p.1),
      p.1,
      p.2,
    )
