-- Rules 2, 4, 5 and 6: a request of a timely run begins only where it may.
use Rattle.fsb_lawful.proofs.Words
use Words.{ℕ, ◌+◌, ◌<◌, ◌≡◌, Bool, true, false, not, ◌||◌, Option, Some, length, take, nat_lt, nat_le, is_none, refl}
use Words.{◌∙◌, ap, arith, and_parts, ltb-true, lt-leb, is_some_and, ADS, BNR, Marks, line_at, Trace, line_back}
use Words.{winner_at, in_flight, Who, is_request_too_soon, is_queue_full, is_request_blocked, has_no_winner, breaks-2}
use Words.{breaks-4, breaks-5, breaks-6, winner_after-low, Past, Run, run_to, past_of, past_to, is_kept_back, is_spaced}
use Words.{has_room, has_free_winner, may_begin, drives_ads, starts_requests, holds_in, holds_at, Timely, Keeps}
use Rattle.fsb_lawful.proofs.Keeping.{and-fails, and4, not-true, keeps}

-- what a trace has at a clock where a request begins
pub record Begins (v : Trace) (c : ℕ) : Type 0 where
  pub not_before : line_back ADS v c 1 ≡ false
  pub nor_before : line_back ADS v c 2 ≡ false
  pub room : nat_lt (length (in_flight v c)) 8 ≡ true
  pub unblocked : line_back BNR v c 2 ≡ false
  pub who : Who
  pub wins : winner_at v c ≡ Some who

some-winner : (o : Option Who) (test : Who → Bool) → is_some_and o test ≡ true → (who : Who) × (o ≡ Some who)
unfolding is_some_and
some-winner o test h1 = grind arith

begins-by : (r : Run) (p : Past) (c : ℕ) → may_begin r p c ≡ true → Begins r.trace c
unfolding may_begin is_spaced has_room has_free_winner
begins-by r p c e =
    let a = and4 (is_spaced r c) (has_room r c) (not (line_back BNR r.trace c 2)) (has_free_winner r p c) e in
    let spaced = and_parts (not (line_back ADS r.trace c 1)) (not (line_back ADS r.trace c 2)) a.0 in
    let winner = some-winner (winner_at r.trace c) (λ who. not (is_kept_back p c who)) a.3 in
    record {
      not_before = not-true (line_back ADS r.trace c 1) spaced.0;
      nor_before = not-true (line_back ADS r.trace c 2) spaced.1;
      room = a.1;
      unblocked = not-true (line_back BNR r.trace c 2) a.2;
      who = winner.0;
      wins = winner.1;
    }

begins-where : (r : Run) (p : Past) (c : ℕ) → starts_requests r p c ≡ true → line_at ADS r.trace c ≡ true
    → Begins r.trace c
unfolding starts_requests drives_ads
begins-where r p c e t = grind (arith, begins-by)

-- where a request of a timely run begins
pub begins-at : (r : Run) (c : ℕ) → Timely r → c < length r.trace → line_at ADS (take (c + 1) r.trace) c ≡ true
    → Begins (take (c + 1) r.trace) c
unfolding holds_at holds_in run_to
begins-at r c h l t = begins-where (run_to r c) (past_to (past_of r) c) c (h.request_starts.at c l) t

-- the clock before has none
pub spaced : (r : Run) (c : ℕ) → Timely r → c < length r.trace → line_at ADS (run_to r c).trace c ≡ true
    → line_back ADS (run_to r c).trace c 1 ≡ false
unfolding run_to
spaced r c h l t = (begins-at r c h l t).not_before

-- a clock with a winner is not one of the first two
pub not-low : (v : Trace) (c : ℕ) (who : Who) (b : Bool) → nat_lt c 2 ≡ b → winner_at v c ≡ Some who
    → nat_lt c 2 ≡ false
unfolding winner_at
not-low v c who b h1 h2 = grind (arith, winner_after-low)

far : (v : Trace) (c : ℕ) → Begins v c → (nat_lt c 2 || line_back ADS v c 1 || line_back ADS v c 2) ≡ false
far v c h = rw (not-low v c h.who (nat_lt c 2) refl h.wins, h.not_before, h.nor_before) refl

no_full : (v : Trace) (c : ℕ) → Begins v c → nat_le 8 (length (in_flight v c)) ≡ false
no_full v c h = lt-leb 8 (length (in_flight v c)) (ltb-true (length (in_flight v c)) 8 h.room)

won : (v : Trace) (c : ℕ) → Begins v c → is_none (winner_at v c) ≡ false
won v c h = ap is_none h.wins

-- rule 2
pub keeps-2 : (m : Marks) (r : Run) → Timely r → Keeps m 2 r.trace
unfolding is_request_too_soon
keeps-2 m r h = keeps m 2 r.trace (λ c l.
    let v = take (c + 1) r.trace in
    breaks-2 m v c ∙ and-fails (line_at ADS v c) (nat_lt c 2 || line_back ADS v c 1 || line_back ADS v c 2)
    (λ t. far v c (begins-at r c h l t)))

-- rule 4
pub keeps-4 : (m : Marks) (r : Run) → Timely r → Keeps m 4 r.trace
unfolding is_queue_full
keeps-4 m r h = grind (arith, keeps, breaks-4, no_full, begins-at)

-- rule 5
pub keeps-5 : (m : Marks) (r : Run) → Timely r → Keeps m 5 r.trace
unfolding is_request_blocked
keeps-5 m r h = keeps m 5 r.trace (λ c l.
    let v = take (c + 1) r.trace in
    breaks-5 m v c ∙ and-fails (line_at ADS v c) (line_back BNR v c 2) (λ t. (begins-at r c h l t).unblocked))

-- rule 6
pub keeps-6 : (m : Marks) (r : Run) → Timely r → Keeps m 6 r.trace
unfolding has_no_winner
keeps-6 m r h = grind (arith, keeps, breaks-6, won, begins-at)
