-- A write-back begins only where no other agent's request for the line is open.
use Rattle.fsb_tied.proofs.Words
use Words.{ℕ, zero, suc, ◌+◌, ◌<◌, ◌≤◌, ◌≡◌, Bool, true, false, not, if◌then◌else◌, List, [], ◌∷◌, Option, Some, None}
use Words.{length, nat_eq, refl, sym, ap, ◌∙◌, inl, inr, arith, filter, filter_map, list_any, option_map_or, and_from}
use Words.{both_ways, cases_Bool, eq-eqb, eqb-true, not-true, all_where, is_some_and, any_where-none, is_before-parts}
use Words.{Request, OpenRequest, ADS, line_at, Who, Symmetric, has_ended, in_flight, is_dropped, is_in_flight}
use Words.{is_cancelled, is_write_back_kind, winner_at, line_at-agree, live_clock_of-number, winner_at-agree}
use Words.{is_claim_of_other, snooped_at, claim_at, is_snoop_of, is_snooped_in, is_unsnooped, moment_at, snoop_at}
use Words.{Claim, Past, Run, moments_below, past_of, past_to, past_with, run_to, drives_ads, has_free_winner}
use Words.{is_kept_back, may_begin, starts_requests, Timely, holds_at, holds_in, is_held_back, is_open_to_other}
use Words.{unsnooped_at, want_of, claim_at-agree, done_below, is_held_back-alike, moment-at, moment_of, past-begins}
use Words.{IsListed, any-listed, run_to-agrees, IsOpen, is_cancelled_below, is_snooped_below}
use Rattle.std.proofs.lemmas.List.Folds.{list_any-append}
use Rattle.fsb_timely.proofs.Interface.{snooped-there as snooped-in-moments}
use Rattle.fsb_tied.proofs.Beginnings.{IsBegunWant, begun-there}
use Rattle.fsb_tied.proofs.Ended.{end-below, ended-snooped}
use Rattle.fsb_tied.proofs.Owing.{cancelled-below}

-- what is given for the numbers that pass
given_if : {Y : Type 0} → (ℕ → Option Y) → (ℕ → Bool) → ℕ → Option Y
given_if give test n = if test n then give n else None

given-passing : {Y : Type 0} (give : ℕ → Option Y) (test : ℕ → Bool) (xs : List ℕ)
    → filter_map give (filter test xs) ≡ filter_map (given_if give test) xs
unfolding given_if
given-passing give test [] = refl
given-passing give test (x ∷ xs) = grind (arith, given-passing give test xs)

given-there : {Y : Type 0} (give : ℕ → Option Y) (test : ℕ → Bool) (q : ℕ) (y : Y) → test q ≡ true → give q ≡ Some y
    → given_if give test q ≡ Some y
unfolding given_if
given-there give test q y e f = rw e f

-- no snoop end so far is in the moments so far
none-in : (r : Run) (q m : ℕ)
    → ((t : ℕ) → t < m → is_some_and (moment_of r t).snooped (is_snoop_of q) ≡ false)
    → is_snooped_in (moments_below r m) q ≡ false
unfolding is_snooped_in moments_below
none-in r q zero none = refl
none-in r q (suc m) none = grind (arith, list_any-append, none-in r q m)

snoop-none : (r : Run) (n q t : ℕ) → n ≤ length r.trace → t < n → is_snooped_below (past_of r) n q ≡ false
    → is_some_and (moment_of r t).snooped (is_snoop_of q) ≡ false
unfolding is_snooped_below
snoop-none r n q t l below none =
    ap (λ o. is_some_and o (is_snoop_of q)) (sym (snooped-in-moments r t (omega arith)))
    ∙ any_where-none (λ c. is_some_and (snooped_at (past_of r) c) (is_snoop_of q)) n none t below

-- a request that is neither cancelled nor snooped is in flight
open-flies : (r : Run) (e q : ℕ) → Timely r → e < length r.trace → q < e + 1 → line_at ADS r.trace q ≡ true
    → is_cancelled_below (past_of r) (suc e) q ≡ false → is_snooped_below (past_of r) (suc e) q ≡ false
    → is_in_flight (run_to r e).trace (e + 1) q ≡ true
unfolding is_in_flight is_dropped has_ended is_cancelled
open-flies r e q h l below asks uncancelled unsnooped =
    grind (
      arith,
      run_to-agrees,
      line_at-agree,
      cancelled-below,
      is_before-parts,
      live_clock_of-number,
      end-below,
      ended-snooped,
    )

-- so it is among the open ones that the clock leaves
open-left : (r : Run) (e q : ℕ) (claim : Claim) (f : Claim → Bool) → Timely r → e < length r.trace → q < e + 1
    → line_at ADS r.trace q ≡ true → claim_at r.trace q ≡ Some claim → f claim ≡ true
    → is_cancelled_below (past_of r) (suc e) q ≡ false → is_snooped_below (past_of r) (suc e) q ≡ false
    → list_any f (unsnooped_at (past_of r) (suc e)) ≡ true
unfolding unsnooped_at past_of moment_at in_flight is_unsnooped
open-left r e q claim f h l below asks claims passes uncancelled unsnooped =
    let u = (run_to r e).trace in
    let p : Past = past_with r (moments_below r e) e in
    let snooped = snoop_at p (run_to r e).choices u e in
    let test : ℕ → Bool = is_unsnooped p snooped in
    let agree = run_to-agrees r e l in
    let there = sym (claim_at-agree (e + 1) r.trace u q agree below) ∙ claims in
    let before = none-in r q e (λ t m. snoop-none r (suc e) q t (omega arith) (omega arith) unsnooped) in
    let now = snoop-none r (suc e) q e (omega arith) (omega arith) unsnooped in
    let passing : test q ≡ true = and_from _ _ (ap not before) (ap not now) in
    let listed : IsListed (is_in_flight u (e + 1)) (given_if (claim_at u) test) f q = record {
      there = open-flies r e q h l below asks uncancelled unsnooped;
      given = claim;
      gives = given-there (claim_at u) test q claim passing there;
      passes = passes;
    } in
    ap (λ o. list_any f (option_map_or (λ moment. moment.unsnooped) o [])) (moment-at r (length r.trace) e l)
    ∙ ap (list_any f) (given-passing (claim_at u) test (all_where (is_in_flight u (e + 1)) (e + 1)))
    ∙ any-listed (is_in_flight u (e + 1)) (given_if (claim_at u) test) f (e + 1) q below listed

free-by : (p : Past) (n a : ℕ) (o : Option Who) → o ≡ Some (Symmetric a)
    → is_some_and o (λ who. not (is_kept_back p n who)) ≡ true → is_held_back p a n ≡ false
unfolding is_some_and is_kept_back
free-by p n a o e f = let f' = rw e at f in not-true (is_held_back p a n) f'

free-winner : (r : Run) (p : Past) (n a : ℕ) → starts_requests r p n ≡ true → line_at ADS r.trace n ≡ true
    → winner_at r.trace n ≡ Some (Symmetric a) → is_held_back p a n ≡ false
unfolding starts_requests drives_ads may_begin has_free_winner
free-winner r p n a e ads won = grind (arith, free-by)

-- the agent whose request begins is not held back
begun-free : (r : Run) (n : ℕ) (claim : Claim) → Timely r → n < length r.trace → IsBegunWant r n claim
    → is_held_back (past_of r) claim.agent n ≡ false
unfolding holds_at holds_in
begun-free r n claim h l k =
    let u = (run_to r n).trace in
    let agree = run_to-agrees r n l in
    let ads = sym (line_at-agree ADS (n + 1) r.trace u n agree (omega arith)) ∙ k.ads in
    let won = sym (winner_at-agree (n + 1) r.trace u n agree (omega arith)) ∙ k.winner in
    let goes = past-begins r n h l in
    let same = is_held_back-alike (n + 1) (past_to (past_of r) n) (past_of r) claim.agent n goes (omega arith)
    (done_below (n + 1) (past_to (past_of r) n) claim.agent n goes.entries (omega arith) goes.at_end) in
    sym same ∙ free-winner (run_to r n) (past_to (past_of r) n) n claim.agent (h.request_starts.at n l) ads won

not-open : (p : Past) (a n : ℕ) (request : Request) → want_of p a n ≡ Some request
    → is_write_back_kind request.kind ≡ true → is_held_back p a n ≡ false → is_open_to_other p a n request.line ≡ false
unfolding is_held_back is_some_and
not-open p a n request want kind free = let f = rw (want, kind) at free in f

other-claim : (a b line q : ℕ) → nat_eq b a ≡ false
    → is_claim_of_other a line (record { first = q; agent = b; line = line }) ≡ true
unfolding is_claim_of_other
other-claim a b line q f = and_from _ _ (ap not f) (eq-eqb line line refl)

others-open : (r : Run) (n a b line : ℕ) (request : OpenRequest) → Timely r → n ≤ length r.trace
    → IsOpen (past_of r) b line n request → nat_eq b a ≡ false → is_open_to_other (past_of r) a n line ≡ true
unfolding is_open_to_other
others-open r zero a b line request h l k f = let below = k.before in absurd (omega arith)
others-open r (suc e) a b line request h l k f = grind (arith, begun-there, open-left, other-claim)

-- where an agent's write-back of a line begins no other agent has an open request for the line
pub none-other : (r : Run) (n : ℕ) (claim : Claim) → Timely r → n < length r.trace → (k : IsBegunWant r n claim)
    → is_write_back_kind k.request.kind ≡ true → (b : ℕ) (request : OpenRequest)
    → IsOpen (past_of r) b claim.line n request → b ≡ claim.agent
none-other r n claim h l k kind b request opened =
    let free = not-open (past_of r) claim.agent n k.request k.want kind (begun-free r n claim h l k) in
    elim (cases_Bool (nat_eq b claim.agent)) [
      | inl same ↦ eqb-true b claim.agent same
      | inr other ↦
          let open_there = others-open r n claim.agent b claim.line request h (omega arith) opened other in
          absurd (both_ways (is_open_to_other (past_of r) claim.agent n claim.line)
          (ap (is_open_to_other (past_of r) claim.agent n) (sym k.line) ∙ free) open_there)
    ]
