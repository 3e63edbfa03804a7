-- A request that has its snoop end, and no response yet, is in flight: so there are eight of them at most.
use Rattle.fsb_agent_run.proofs.Words
use Words.{ℕ, zero, suc, ◌+◌, ◌<◌, ◌≤◌, ◌≡◌, Bool, true, false, not, ◌&&◌, Some, length, refl, sym, ap, subst, ◌∙◌, inl}
use Words.{inr, arith, option_map_or, and_parts, both_ways, cases_Bool, cases_eq, cases_lt, false_from_ne_true, le-ltb}
use Words.{lt-ltb, not-true, count_where, is_at, is_before, is_some_and, any_where-at, any_where-found, any_where-none}
use Words.{any_where-off, count_where-above, count_where-passed, is_at-from, is_before-parts, length-all_where, ADS}
use Words.{AERR, line_at, has_ended, in_flight, is_dropped, is_in_flight, is_cancelled, is_live, live_clock_of}
use Words.{live_number_of, is_end_at, is_ended, snooped_at, Claim, Past, SnoopEnd, Run, past_of, run_to, Timely}
use Words.{holds_at, holds_in, tied-snoop, KeepsBounds, length-cut, run_to-agrees, some-and, responded_in}
use Words.{is_responded_below, answers-in-order, end-below, live-at, claim_given_at, owes_bytes_from}
use Rattle.fsb_trace.specs.At.{Trace}
use Rattle.fsb_trace.specs.Response.{end_of}
use Rattle.fsb_trace.specs.Snoop.{snoop_end_of}
use Rattle.fsb_trace.proofs.Interface.{line_at-agree, live_clock_of-number, live_clock_of-rises, snoop_end_of-clock}
use Rattle.fsb_trace.proofs.Interface.{snoop_end_of-rises}
use Rattle.fsb_timely.specs.Starts.{drives_ads, has_room, may_begin, starts_requests}
use Rattle.fsb_agent_run.proofs.GivenBytes.{given, unresponded}

-- where a request begins there is room for it
room-at : (r : Run) (q : ℕ) → Timely r → q < length r.trace → line_at ADS (run_to r q).trace q ≡ true
    → length (in_flight (run_to r q).trace q) < 8
unfolding holds_at holds_in starts_requests drives_ads may_begin has_room
room-at r q h l ads = grind arith

-- a live request that has no response up to c is in flight there
undropped : (r : Run) (c q i : ℕ) → c < length r.trace → live_clock_of r.trace i ≡ Some q
    → is_dropped (run_to r c).trace c q ≡ false
unfolding is_dropped is_cancelled
undropped r c q i l clock =
    elim (cases_lt (q + 3) c) [
      | inl early ↦
          let kept = (live-at r.trace i q clock).kept in
          let none : line_at AERR (run_to r c).trace (q + 3) ≡ false = grind (arith, line_at-agree, run_to-agrees) in
          rw none refl
      | inr late ↦ rw (le-ltb (q + 3) c late) (last (line_at AERR (run_to r c).trace (q + 3)))
    ]
  where
    last : (b : Bool) → (b && false) ≡ false
    last b = grind arith

unended : (r : Run) (c q : ℕ) → Timely r → c < length r.trace → q < c
    → is_responded_below (past_of r) (c + 1) q ≡ false → has_ended (run_to r c).trace c q ≡ false
unfolding has_ended is_ended is_responded_below
unended r c q h l before none =
    let v : Trace = (run_to r c).trace in
    let size = length-cut r c l in
    let order = answers-in-order r h in
    false_from_ne_true (is_live v q && is_before (end_of v (live_number_of v q)) c) (λ t.
    let parts = and_parts (is_live v q) (is_before (end_of v (live_number_of v q)) c) t in
    let ends = is_before-parts (end_of v (live_number_of v q)) c parts.1 in
    let low : ends.0 < c = ends.2 in
    let clock = live_clock_of-number v q (omega arith) parts.0 in
    let ended = end-below r c (live_number_of v q) ends.0 q h l ends.1 (omega arith) clock in
    let at = any_where-found (λ u. is_end_at (past_of r) u q) (suc c) ended in
    let below : at.0 < suc c = at.1 in
    let k = order.responded at.0 q (omega arith) at.2 in
    let early : k.at ≤ at.0 = k.before in
    both_ways (is_responded_below (past_of r) (c + 1) q) none
    (any_where-at (λ u. is_at (responded_in (past_of r) u) q) (c + 1) k.at (omega arith) (is_at-from (responded_in
    (past_of r) k.at) q k.there)))

still-in-flight : (r : Run) (c q i : ℕ) → Timely r → c < length r.trace → q < c → live_clock_of r.trace i ≡ Some q
    → is_responded_below (past_of r) (c + 1) q ≡ false → is_in_flight (run_to r c).trace c q ≡ true
unfolding is_in_flight
still-in-flight r c q i h l before clock none =
    let asks : line_at ADS (run_to r c).trace q ≡ true =
    sym (line_at-agree ADS (c + 1) r.trace (run_to r c).trace q (run_to-agrees r c l) (omega arith))
    ∙ (live-at r.trace i q clock).asks in
    rw (asks, lt-ltb q c before, undropped r c q i l clock, unended r c q h l before none) refl

-- the snoop end at t is that of a request whose response is not below n
unfoldable is_open_from : Past → ℕ → ℕ → Bool
is_open_from p n t = is_some_and (snooped_at p t) (λ s. not (is_responded_below p n s.first))

-- its first clock
unfoldable first_of_snoop : Past → ℕ → ℕ
first_of_snoop p t = option_map_or (λ (s : SnoopEnd). s.first) (snooped_at p t) 0

record IsOpenFrom (r : Run) (n t : ℕ) : Type 0 where
  end : SnoopEnd
  there : snooped_at (past_of r) t ≡ Some end
  first : first_of_snoop (past_of r) t ≡ end.first
  unresponded : is_responded_below (past_of r) n end.first ≡ false
  number : ℕ
  reached : snoop_end_of r.trace number ≡ Some t
  clock : live_clock_of r.trace number ≡ Some end.first
  above : end.first + 4 ≤ t

open-from : (r : Run) (n t : ℕ) → is_open_from (past_of r) n t ≡ true → IsOpenFrom r n t
unfolding is_open_from first_of_snoop
open-from r n t e =
    let s = some-and (snooped_at (past_of r) t) (λ (x : SnoopEnd). not (is_responded_below (past_of r) n x.first)) e in
    let tied = tied-snoop r t s.0 s.1 in
    let k = snoop_end_of-clock r.trace tied.0 t tied.1.reached in
    let same : k.clock ≡ s.0.first = (let both = sym k.is_clock ∙ tied.1.first in cc) in
    let above = k.above in
    record {
      end = s.0;
      there = s.1;
      first = ap (λ o. option_map_or (λ (x : SnoopEnd). x.first) o 0) s.1;
      unresponded = not-true (is_responded_below (past_of r) n s.0.first) s.2;
      number = tied.0;
      reached = tied.1.reached;
      clock = tied.1.first;
      above = omega arith;
    }

-- later snoop ends have later first clocks
rises : (r : Run) (n t u : ℕ) → t < u → IsOpenFrom r n t → IsOpenFrom r n u
    → first_of_snoop (past_of r) t < first_of_snoop (past_of r) u
rises r n t u l x y =
    let less : x.number < y.number = order x.number y.number refl refl in
    let first = live_clock_of-rises r.trace x.number y.number x.end.first y.end.first less x.clock y.clock in
    let tx = x.first in
    let ty = y.first in
    omega arith
  where
    order : (i j : ℕ) → x.number ≡ i → y.number ≡ j → i < j
    order i j f g =
        elim (cases_lt i j) [
          | inl less ↦ less
          | inr more ↦ elim (cases_eq i j) [
            | inl same ↦
                let both : Some t ≡ Some u = sym x.reached ∙ ap (snoop_end_of r.trace) (f ∙ same ∙ sym g) ∙ y.reached in
                let clock : t ≡ u = cc in
                absurd (omega arith)
            | inr apart ↦
                let before = snoop_end_of-rises r.trace y.number x.number t (omega arith) x.reached in
                let there : snoop_end_of r.trace y.number ≡ Some before.0 = before.1 in
                let both : Some before.0 ≡ Some u = sym there ∙ y.reached in
                let clock : before.0 ≡ u = cc in
                let gap : before.0 + 3 ≤ t = before.2 in
                absurd (omega arith)
          ]
        ]

-- clocks that pass one test are no more than those that pass another, where they lead to different ones of these
count-into : (f g : ℕ → Bool) (to : ℕ → ℕ) (n m : ℕ)
    → ((t : ℕ) → t < n → f t ≡ true → (to t < m) × (g (to t) ≡ true))
    → ((t u : ℕ) → t < u → u < n → f t ≡ true → f u ≡ true → to t < to u) → count_where f n ≤ count_where g m
unfolding count_where
count-into f g to zero m into rises = omega arith
count-into f g to (suc n) m into rises =
    grind (arith, count_where-above, count-into f g to n (to n), count-into f g to n m)

flying : (v : Trace) (q : ℕ) → length (in_flight v q) ≡ count_where (is_in_flight v q) q
unfolding in_flight
flying v q = length-all_where (is_in_flight v q) q

responded-less : (p : Past) (k n q : ℕ) → k ≤ n → is_responded_below p n q ≡ false → is_responded_below p k q ≡ false
unfolding is_responded_below
responded-less p k n q l none = any_where-off (λ t. is_at (responded_in p t) q) k (λ t low.
    any_where-none (λ t. is_at (responded_in p t) q) n none t (omega arith))

open-there : (p : Past) (n t : ℕ) (s : SnoopEnd) → snooped_at p t ≡ Some s → is_responded_below p n s.first ≡ false
    → is_open_from p n t ≡ true
unfolding is_open_from is_some_and
open-there p n t s there none = rw (there, none) refl

-- so at most eight snoop ends are those of requests whose responses are still to come
few-open : (r : Run) (n m : ℕ) → Timely r → m ≤ n + 1 → m ≤ length r.trace
    → count_where (is_open_from (past_of r) n) m ≤ 8
unfolding count_where
few-open r n zero h l k = omega arith
few-open r n (suc m) h l k =
    elim (cases_Bool (is_open_from (past_of r) n m)) [
      | inl on ↦
          let p : Past = past_of r in
          let x = open-from r n m on in
          let above : x.end.first + 4 ≤ m = x.above in
          let q : ℕ = x.end.first in
          let v : Trace = (run_to r q).trace in
          let asks : line_at ADS v q ≡ true =
          sym (line_at-agree ADS (q + 1) r.trace v q (run_to-agrees r q (omega arith)) (omega arith))
          ∙ (live-at r.trace x.number q x.clock).asks in
          let room : length (in_flight v q) < 8 = room-at r q h (omega arith) asks in
          let many = count-into (is_open_from p n) (is_in_flight v q) (first_of_snoop p) m q
          (λ t below e.
          let y = open-from r n t e in
          let less : first_of_snoop p t < first_of_snoop p m = rises r n t m below y x in
          let low : y.end.first < q = (let a = y.first in let b = x.first in omega arith) in
          let none : is_responded_below p (q + 1) y.end.first ≡ false = grind (arith, responded-less) in
          let flies = still-in-flight r q y.end.first y.number h (omega arith) low y.clock none in
          (subst (λ z. z < q) (sym y.first) low, subst (λ z. is_in_flight v q z ≡ true) (sym y.first) flies))
          (λ t u below within e d. rises r n t u below (open-from r n t e) (open-from r n u d)) in
          let size : length (in_flight v q) ≡ count_where (is_in_flight v q) q = flying v q in
          rw on (omega (arith, many, size, room))
      | inr off ↦ rw off (omega (arith, few-open r n m h (omega arith) (omega arith)))
    ]

-- fewer clocks pass a test that passes less
count-fewer : (f g : ℕ → Bool) (n : ℕ) → ((t : ℕ) → t < n → f t ≡ true → g t ≡ true) → count_where f n ≤ count_where g n
unfolding count_where
count-fewer f g zero less = omega arith
count-fewer f g (suc n) less = grind (arith, count-fewer f g n)

-- what an agent owes has its snoop end, and no response yet
owes-open : (r : Run) (a n m t : ℕ) → Timely r → KeepsBounds r.plan → m ≤ length r.trace → t < m
    → owes_bytes_from (past_of r) a n t ≡ true → is_open_from (past_of r) n t ≡ true
unfolding owes_bytes_from
owes-open r a n m t h bounds l low e =
    let c = some-and (claim_given_at (past_of r) a t) (λ (claim : Claim). not (is_responded_below
    (past_of r) n claim.first)) e in
    let k = given r a t c.0 h bounds (omega arith) c.1 in
    open-there (past_of r) n t k.at.end k.at.there
    (ap (is_responded_below (past_of r) n) (sym k.first) ∙ not-true (is_responded_below (past_of r) n c.0.first) c.2)

pub most-owed : (r : Run) (a n : ℕ) → Timely r → KeepsBounds r.plan → n ≤ length r.trace
    → count_where (owes_bytes_from (past_of r) a n) n ≤ 8
most-owed r a n h bounds l =
    let few = few-open r n n h (omega arith) l in
    let less = count-fewer (owes_bytes_from (past_of r) a n) (is_open_from (past_of r) n) n
    (λ t low e. owes-open r a n n t h bounds l low e) in
    omega (arith, few, less)

-- and one less before a snoop end, whose request is one of the eight
pub owed-before : (r : Run) (a c : ℕ) (s : SnoopEnd) → Timely r → KeepsBounds r.plan → c < length r.trace
    → snooped_at (past_of r) c ≡ Some s → count_where (owes_bytes_from (past_of r) a (c + 1)) c < 8
owed-before r a c s h bounds l there =
    let few = few-open r (c + 1) (c + 1) h (omega arith) (omega arith) in
    let here : is_open_from (past_of r) (c + 1) c ≡ true =
    open-there (past_of r) (c + 1) c s there (unresponded r c (c + 1) s h (omega arith) (omega arith) there) in
    let one = count_where-passed (is_open_from (past_of r) (c + 1)) c here in
    let less = count-fewer (owes_bytes_from (past_of r) a (c + 1)) (is_open_from (past_of r) (c + 1)) c
    (λ t low e. owes-open r a (c + 1) c t h bounds (omega arith) low e) in
    omega (arith, few, one, less)

-- the clock of a run that reaches the next one
pub within : (r : Run) (c : ℕ) → c + 1 ≤ length r.trace → c < length r.trace
within r c l = omega arith
