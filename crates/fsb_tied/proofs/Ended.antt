-- The ends of live requests, in the moments of a run and in its cut traces; what has ended has its snoop end behind it.
use Rattle.fsb_tied.proofs.Words
use Words.{ℕ, suc, ◌+◌, ◌<◌, ◌≤◌, ◌≡◌, true, Some, length, nat_eq, refl, ◌∙◌, arith, eq-eqb, is_at, is_some_and}
use Words.{any_where-at, any_where-found, is_at-from, is_at-some, nth_where-found, Trace, responds_at}
use Words.{response_clock_of, live_clock_of, live_count, end_of, snoop_end_of, AgreeTo-sym, end_of-response}
use Words.{end_of-stays, live_below_count, live_clock_of-stays, snoop_end_of-stays, end_after_clock, has_answer}
use Words.{is_end_at, is_ended, snooped_at, is_snoop_of, requests_ending_at, SnoopEnd, Run, past_of, run_to, IsSnoopOf}
use Words.{Timely, snoop-tied, IsListed, any-from, any-listed, cuts-agree, orderly-at, run_to-agrees, is_snooped_below}
use Rattle.fsb_tied.proofs.Bridge.{ended-at}

-- the live request that has its end at c
pub ending : (r : Run) (c q : ℕ) → c < length r.trace → is_end_at (past_of r) c q ≡ true
    → (i : ℕ) × (end_of (run_to r c).trace i ≡ Some c) × (live_clock_of (run_to r c).trace i ≡ Some q)
unfolding requests_ending_at
ending r c q l e = grind (arith, any-from, ended-at, is_at-some)

-- and the moment of c has its end
ending-there : (r : Run) (c q i : ℕ) → c < length r.trace → end_of (run_to r c).trace i ≡ Some c
    → live_clock_of (run_to r c).trace i ≡ Some q → is_end_at (past_of r) c q ≡ true
unfolding requests_ending_at
ending-there r c q i l end clock =
    let u = (run_to r c).trace in
    let listed : IsListed (λ i. is_at (end_of u i) c) (live_clock_of u) (nat_eq q) i = record {
      there = is_at-from (end_of u i) c end;
      given = q;
      gives = clock;
      passes = eq-eqb q q refl;
    } in
    ended-at r c q l
    ∙ any-listed (λ i. is_at (end_of u i) c) (live_clock_of u) (nat_eq q) (live_count u) i
    (live_below_count u i q clock) listed

-- the snoop end of a request that has an end, and its first clock
pub record EndsAt (r : Run) (e i x : ℕ) : Type 0 where
  pub clock : ℕ
  pub is_clock : live_clock_of (run_to r e).trace i ≡ Some clock
  pub early : clock + 6 ≤ x
  pub snoop : ℕ
  pub is_snoop : snoop_end_of (run_to r e).trace i ≡ Some snoop
  pub before : snoop + 2 ≤ x

pub ends-at : (r : Run) (e i x : ℕ) → Timely r → e < length r.trace → end_of (run_to r e).trace i ≡ Some x
    → EndsAt r e i x
ends-at r e i x h l end =
    let u = (run_to r e).trace in
    let o = orderly-at r e h l in
    let k = end_after_clock u i x o end in
    let p = end_of-response u i x end in
    let below = p.2 in
    let a = has_answer u p.0 i (o.timely i p.0 p.1) in
    let gap = a.before in
    record {
      clock = k.0;
      is_clock = k.1;
      early = k.2;
      snoop = a.snoop;
      is_snoop = a.is_snoop;
      before = omega arith;
    }

-- an end that shows in the run up to e is one of the moments
pub end-below : (r : Run) (e i x q : ℕ) → Timely r → e < length r.trace → end_of (run_to r e).trace i ≡ Some x
    → x < e + 1 → live_clock_of (run_to r e).trace i ≡ Some q → is_ended (past_of r) (suc e) q ≡ true
unfolding is_ended
end-below r e i x q h l end below clock =
    let u = (run_to r e).trace in
    let v = (run_to r x).trace in
    let k = ends-at r e i x h l end in
    let early = k.early in
    let before = k.before in
    let is = k.is_clock in
    let same : k.clock ≡ q = cc in
    let agree = AgreeTo-sym (x + 1) v u (cuts-agree r x e (omega arith) l) in
    let there = end_of-stays (x + 1) u v i k.snoop x agree (omega arith) k.is_snoop (omega arith) end in
    let first = live_clock_of-stays (x + 1) u v i q agree (omega arith) clock in
    any_where-at (λ t. is_end_at (past_of r) t q) (suc e) x (omega arith)
    (ending-there r x q i (omega arith) there first)

-- the snoop end of a live request is in the moment of its clock
pub snooped-there : (r : Run) (i s q : ℕ) → snoop_end_of r.trace i ≡ Some s → live_clock_of r.trace i ≡ Some q
    → (end : SnoopEnd) × IsSnoopOf r i s end × (end.first ≡ q)
snooped-there r i s q snoop clock = grind (arith, snoop-tied)

pub snooped-below : (r : Run) (n i s q : ℕ) → s < n → snoop_end_of r.trace i ≡ Some s → live_clock_of r.trace i ≡ Some q
    → is_snooped_below (past_of r) n q ≡ true
unfolding is_snooped_below is_snoop_of is_some_and
snooped-below r n i s q l snoop clock =
    let k = snooped-there r i s q snoop clock in
    let there = k.1.there in
    any_where-at (λ t. is_some_and (snooped_at (past_of r) t) (is_snoop_of q)) n s l
    (rw there (eq-eqb k.0.first q k.2))

-- what has ended has its snoop end behind it
pub ended-snooped : (r : Run) (n q : ℕ) → Timely r → n ≤ length r.trace → is_ended (past_of r) n q ≡ true
    → is_snooped_below (past_of r) n q ≡ true
unfolding is_ended
ended-snooped r n q h l e =
    let x = any_where-found (λ t. is_end_at (past_of r) t q) n e in
    let below : x.0 < n = x.1 in
    let end = ending r x.0 q (omega arith) x.2 in
    let k = ends-at r x.0 end.0 x.0 h (omega arith) end.1 in
    let early = k.early in
    let before = k.before in
    let is = k.is_clock in
    let also = end.2 in
    let same : k.clock ≡ q = cc in
    let back = AgreeTo-sym (x.0 + 1) r.trace (run_to r x.0).trace (run_to-agrees r x.0 (omega arith)) in
    let there = snoop_end_of-stays (x.0 + 1) (run_to r x.0).trace r.trace end.0 k.snoop back (omega arith) k.is_snoop in
    let clock = live_clock_of-stays (x.0 + 1) (run_to r x.0).trace r.trace end.0 q back (omega arith) end.2 in
    snooped-below r n end.0 k.snoop q (omega arith) there clock

-- a response lies within its trace
pub response-within : (w : Trace) (i t : ℕ) → response_clock_of w i ≡ Some t → t < length w
unfolding response_clock_of
response-within w i t e = (nth_where-found (responds_at w) i (length w) t e).0
