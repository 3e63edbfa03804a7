-- The open requests of a run, by its moments: those that have begun, and were neither cancelled nor snooped.
use Rattle.fsb_run_laws.proofs.Words
use Words.{ℕ, zero, suc, ◌+◌, ◌<◌, ◌≤◌, ◌≡◌, Bool, true, false, ◌&&◌, ◌||◌, [], length, refl, sym, ap, subst, arith}
use Words.{add-one, filter, filter_map, option_map_or, and_parts, all_where, any_where, is_before, any_where-found}
use Words.{any_where-more, is_at-some, is_before-parts, has_ended, in_flight, is_dropped, is_in_flight, is_cancelled}
use Words.{is_live, live_number_of, end_of, line_at-agree, live_clock_of-number, begun_at, claim_at, is_snooped_in}
use Words.{is_unsnooped, moment_at, moments_below, past_of, past_with, Run, run_to, Timely, unsnooped_at, begun-told}
use Words.{claim_at-agree, moment-at, moment_of, snooped-there, length-cut, run_to-agrees, is_cancelled_below}
use Words.{is_snooped_below, cancelled-below, cancels, end-below, ended-snooped, is_open_below, open_claims}
use Rattle.std.proofs.lemmas.List.Folds.{list_any-append}
use Rattle.fsb_run_laws.proofs.Lists.{all-both, given, given-alike}

-- the requests that the moment of e leaves open
unsnooped-of : (r : Run) (e : ℕ) → e < length r.trace → unsnooped_at (past_of r) (suc e)
    ≡ filter_map (claim_at (run_to r e).trace)
    (filter (is_unsnooped (past_with r (moments_below r e) e) (moment_of r e).snooped)
    (in_flight (run_to r e).trace (e + 1)))
unfolding unsnooped_at past_of moment_at
unsnooped-of r e l = ap (λ o. option_map_or (λ moment. moment.unsnooped) o []) (moment-at r (length r.trace) e l)

-- what has its snoop end in one of the moments has it below
snooped-same : (r : Run) (n q : ℕ) → n ≤ length r.trace
    → is_snooped_in (moments_below r n) q ≡ is_snooped_below (past_of r) n q
unfolding is_snooped_in is_snooped_below moments_below any_where
snooped-same r zero q l = refl
snooped-same r (suc n) q l = grind (arith, snooped-there, list_any-append, snooped-same r n q (omega arith))
  where
    or-false : (b : Bool) → (b || false) ≡ b
    or-false true = refl
    or-false false = refl

-- what has ended has its snoop end behind it
ended-then : (r : Run) (e q : ℕ) → Timely r → e < length r.trace → has_ended (run_to r e).trace (e + 1) q ≡ true
    → q < e + 1 → is_snooped_below (past_of r) (e + 1) q ≡ true
unfolding has_ended
ended-then r e q h l t below =
    let u = (run_to r e).trace in
    let size = length-cut r e l in
    let parts = and_parts (is_live u q) (is_before (end_of u (live_number_of u q)) (e + 1)) t in
    let x = is_before-parts (end_of u (live_number_of u q)) (e + 1) parts.1 in
    let clock = live_clock_of-number u q (omega arith) parts.0 in
    let ended = end-below r e (live_number_of u q) x.0 q h l x.1 x.2 clock in
    subst (λ k. is_snooped_below (past_of r) k q ≡ true) (sym (add-one e))
    (ended-snooped r (suc e) q h (omega arith) ended)

-- what the moment of e leaves of a request is what is open of it one clock on
open-there : (r : Run) (e q : ℕ) → Timely r → e < length r.trace → q < e + 1
    → given (is_in_flight (run_to r e).trace (e + 1) q
    && is_unsnooped (past_with r (moments_below r e) e) (moment_of r e).snooped q) (claim_at (run_to r e).trace q)
    ≡ given (is_open_below (past_of r) (e + 1) q) (begun_at (past_of r) q)
unfolding is_in_flight is_open_below is_unsnooped is_snooped_below is_dropped is_cancelled is_cancelled_below
open-there r e q h l below =
    grind (
      arith,
      run_to-agrees,
      line_at-agree,
      begun-told,
      claim_at-agree,
      snooped-same,
      snooped-there,
      any_where-more,
      cancelled-below,
      any_where-found,
      cancels,
      is_at-some,
      ended-then,
    )

-- the open requests, by the moments
pub open-told : (r : Run) (n : ℕ) → Timely r → n ≤ length r.trace
    → unsnooped_at (past_of r) n ≡ open_claims (past_of r) n
unfolding open_claims in_flight unsnooped_at all_where
open-told r n h1 h2 = grind (arith, unsnooped-of, all-both, given-alike, open-there)
