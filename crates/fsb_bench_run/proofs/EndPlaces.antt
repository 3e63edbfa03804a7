-- The request that ends at the next clock is the oldest one in flight.
use Rattle.fsb_bench_run.proofs.Words
use Words.{ℕ, zero, suc, ◌+◌, ◌<◌, ◌≤◌, ◌≡◌, ◌&&◌, true, false, not, Option, Some, None, List, [], ◌∷◌, length, nat_lt}
use Words.{refl, sym, ap, ◌∙◌, arith, slice_get, and_parts, slice_get-map, nth_where, is_at-some, is_before-from}
use Words.{nth_where-found, rank_of, has_end_at, HoldsRequests, agree-back, agree-grown, longer, Entry, answered}
use Words.{ended-before, live-at, orderly-whole, GrowsTo, Run, Timely, has_ended, in_flight, is_in_flight}
use Words.{response_clock_of, is_live, live_clock_of, live_number_of, end_of, snoop_end_of, end_of-response}
use Words.{end_of-stays, live_clock_of-number, live_clock_of-rises, live_clock_of-stays, snoop_end_of-clock}
use Words.{snoop_end_of-stays}
use Rattle.fsb_bench_run.proofs.SnoopEntry.{held-here, rank-rises}

-- the entry whose request ends at the next clock, in the run and in the longer one
pub record IsEnding (r s : Run) (e : Entry) : Type 0 where
  pub number : ℕ
  pub rank : live_number_of r.trace e.clock ≡ number
  pub old : live_clock_of r.trace number ≡ Some e.clock
  pub first : live_clock_of s.trace number ≡ Some e.clock
  pub end : end_of s.trace number ≡ Some (length r.trace)
  pub response : ℕ
  pub responds : response_clock_of s.trace number ≡ Some response
  pub upto : response ≤ length r.trace
  pub snoop : ℕ
  pub before : snoop + 2 ≤ response
  pub above : e.clock + 4 ≤ snoop
  pub reached : snoop_end_of s.trace number ≡ Some snoop
  pub settled : snoop_end_of r.trace number ≡ Some snoop

pub ending-of : (r s : Run) (queue : List Entry) (k : ℕ) (e : Entry) → GrowsTo r s → Timely s → HoldsRequests queue r
    → slice_get queue k ≡ Some e → has_end_at s.trace (length r.trace) e ≡ true → IsEnding r s e
unfolding has_end_at
ending-of r s queue k e grows timely f at t =
    let n = length r.trace in
    let size = longer r s grows in
    let here = held-here r queue k e f at in
    let within = here.within in
    let a = and_parts (is_live s.trace e.clock) _ t in
    let i = live_number_of s.trace e.clock in
    let first = live_clock_of-number s.trace e.clock (omega arith) a.0 in
    let end = is_at-some (end_of s.trace i) n a.1 in
    let p = end_of-response s.trace i n end in
    let upto = p.2 in
    let w = answered s.trace i p.0 (orderly-whole s n timely (omega arith)) p.1 in
    let before = w.before in
    let c = snoop_end_of-clock s.trace i w.snoop w.is_snoop in
    let same : c.clock ≡ e.clock = one c.clock e.clock (sym c.is_clock ∙ first) in
    let above = c.above in
    let back = agree-back r s grows in
    let old = live_clock_of-stays n s.trace r.trace i e.clock back (omega arith) first in
    record {
      number = i;
      rank = (live-at r.trace i e.clock old).number;
      old = old;
      first = first;
      end = end;
      response = p.0;
      responds = p.1;
      upto = upto;
      snoop = w.snoop;
      before = before;
      above = omega arith;
      reached = w.is_snoop;
      settled = snoop_end_of-stays n s.trace r.trace i w.snoop back (omega arith) w.is_snoop;
    }
  where
    one : (a b : ℕ) → Some a ≡ Some b → a ≡ b
    one a b e = cc

flies-at : (r : Run) (queue : List Entry) (k : ℕ) (e : Entry) → HoldsRequests queue r → slice_get queue k ≡ Some e
    → is_in_flight r.trace (length r.trace) e.clock ≡ true
unfolding in_flight nth_where
flies-at r queue k e f at =
    let n = length r.trace in
    let there : nth_where (is_in_flight r.trace n) k n ≡ Some e.clock = grind (arith, slice_get-map) in
    (nth_where-found (is_in_flight r.trace n) k n e.clock there).1

-- an entry of the queue has not ended
unended : (r : Run) (queue : List Entry) (k x : ℕ) (e : Entry) → HoldsRequests queue r → slice_get queue k ≡ Some e
    → end_of r.trace (rank_of r.trace e) ≡ Some x → x < length r.trace → ⊥
unfolding is_in_flight has_ended
unended r queue k x e f at end l =
    let here = held-here r queue k e f at in
    let flies = flies-at r queue k e f at in
    grind (arith, is_before-from)
  where
    wrong : (a b : Rattle.std.proofs.Common.Bool) → a ≡ true → b ≡ true → not (a && b) ≡ true → ⊥
    wrong a b p q t = let no : false ≡ true = (λ i. not (sym p i && sym q i)) ∙ t in cc

-- it is the oldest
pub head-ends : (r s : Run) (queue : List Entry) (k : ℕ) (e : Entry) → GrowsTo r s → Timely s → HoldsRequests queue r
    → slice_get queue k ≡ Some e → has_end_at s.trace (length r.trace) e ≡ true → slice_get queue 0 ≡ Some e
head-ends r s queue zero e grows timely f at t = at
head-ends r s [] (suc k) e grows timely f at t = absurd (let no : ⊥ = cc in no)
head-ends r s (y ∷ queue) (suc k) e grows timely f at t =
    let n = length r.trace in
    let size = longer r s grows in
    let d = ending-of r s (y ∷ queue) (suc k) e grows timely f at t in
    let i = rank_of r.trace y in
    let hy = held-here r (y ∷ queue) 0 y f refl in
    let rises = rank-rises r (y ∷ queue) 0 (suc k) y e f (omega arith) refl at in
    let rank = d.rank in
    let less : i < d.number = omega (arith, rises, rank) in
    let lower = live_clock_of-rises r.trace i d.number y.clock e.clock less hy.first d.old in
    let above = d.above in
    let before = d.before in
    let upto = d.upto in
    let agree = agree-grown r s grows in
    let back = agree-back r s grows in
    let o = orderly-whole s n timely (omega arith) in
    let b = ended-before s.trace i d.number d.response o less d.responds in
    let p = end_of-response s.trace i b.0 b.1 in
    let a = answered s.trace i p.0 o p.1 in
    let gap = a.before in
    let low = p.2 in
    let under = b.2 in
    let stays = end_of-stays n s.trace r.trace i a.snoop b.0 back (omega arith) a.is_snoop (omega arith) b.1 in
    absurd (unended r (y ∷ queue) 0 b.0 y f refl stays (omega arith))
