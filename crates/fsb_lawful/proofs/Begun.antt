-- The request that begins in a timely run is the one that its winner would begin.
use Rattle.fsb_lawful.proofs.Words
use Words.{ℕ, suc, ◌+◌, ◌<◌, ◌≡◌, Bool, true, false, Option, Some, None, length, refl, sym, ap, arith, option_map}
use Words.{is_some_and, is_pair, Pair, Request, is_lawful_request, pairs_of, ADS, line_at, Trace, line_back}
use Words.{known_pair_at, request_at, Past, Run, run_to, past_of, past_to, request_begun, request_begun_before}
use Words.{pair_due, drives_pair, starts_requests, holds_in, holds_at, Timely}
use Rattle.fsb_encode.proofs.Interface.{request_of_coded}
use Rattle.fsb_lawful.proofs.Beginnings.{spaced}
use Rattle.fsb_lawful.proofs.Cuts.{slice_get-take, past-twice, line-to}
use Rattle.fsb_lawful.proofs.CutRuns.{run-twice}

same-pair : (p q : Pair) → is_pair p q ≡ true → p ≡ q
unfolding is_pair
same-pair p q e = grind arith

-- the words of a clock are those of a request that is there
pair-there : (f : Request → Pair) (o : Option Request) (k : Option Pair)
    → is_some_and (option_map f o) (λ due. is_some_and k (is_pair due)) ≡ true
    → (q : Request) × (o ≡ Some q) × (k ≡ Some (f q))
unfolding is_some_and
pair-there f None k e = absurd (let no : ⊥ = cc in no)
pair-there f (Some q) None e = absurd (let no : ⊥ = cc in no)
pair-there f (Some q) (Some b) e = (q, refl, ap (λ x. Some x) (sym (same-pair (f q) b e)))

due-first : (r : Run) (p : Past) (c : ℕ) → line_at ADS r.trace c ≡ true
    → pair_due r p c ≡ option_map (λ request. (pairs_of request).0) (request_begun r p c)
unfolding pair_due
due-first r p c t = rw (pair_due, t) refl

due-second : (r : Run) (p : Past) (c : ℕ) → line_at ADS r.trace c ≡ false → line_back ADS r.trace c 1 ≡ true
    → pair_due r p c ≡ option_map (λ request. (pairs_of request).1) (request_begun_before r p c)
unfolding pair_due
due-second r p c f t = rw (pair_due, f, t) refl

-- the words are those that are due
as-due : (r : Run) (p : Past) (c : ℕ) (o : Option Pair) → starts_requests r p c ≡ true → pair_due r p c ≡ o
    → is_some_and o (λ due. is_some_and (known_pair_at r.trace c) (is_pair due)) ≡ true
unfolding starts_requests drives_pair
as-due r p c o e same = grind arith

-- the first clock of a request has its first words
first-words : (r : Run) (p : Past) (c : ℕ) → starts_requests r p c ≡ true → line_at ADS r.trace c ≡ true
    → (q : Request) × (request_begun r p c ≡ Some q) × (known_pair_at r.trace c ≡ Some (pairs_of q).0)
first-words r p c e t =
    pair-there (λ request. (pairs_of request).0) (request_begun r p c) (known_pair_at r.trace c)
    (as-due r p c _ e (due-first r p c t))

-- the clock after it has its second words
second-words : (r : Run) (p : Past) (c : ℕ) → starts_requests r p c ≡ true → line_at ADS r.trace c ≡ false
    → line_back ADS r.trace c 1 ≡ true
    → (q : Request) × (request_begun_before r p c ≡ Some q) × (known_pair_at r.trace c ≡ Some (pairs_of q).1)
second-words r p c e f t =
    pair-there (λ request. (pairs_of request).1) (request_begun_before r p c) (known_pair_at r.trace c)
    (as-due r p c _ e (due-second r p c f t))

before-is : (r : Run) (d : ℕ)
    → request_begun_before (run_to r (suc d)) (past_to (past_of r) (suc d)) (suc d)
    ≡ request_begun (run_to r d) (past_to (past_of r) d) d
unfolding request_begun_before
before-is r d = grind (arith, run-twice, past-twice)

-- the request that the winner at d would begin
abbrev pub begun_of : Run → ℕ → Option Request
begun_of r d = request_begun (run_to r d) (past_to (past_of r) d) d

pub ads-back : (r : Run) (d : ℕ) → suc d < length r.trace
    → line_at ADS (run_to r d).trace d ≡ line_back ADS (run_to r (suc d)).trace (suc d) 1
unfolding line_back
ads-back r d l = grind (arith, line-to)

-- no request begins in the second clock of another
no-second : (r : Run) (d : ℕ) → Timely r → suc d < length r.trace → line_at ADS (run_to r d).trace d ≡ true
    → (b : Bool) → line_at ADS (run_to r (suc d)).trace (suc d) ≡ b
    → line_at ADS (run_to r (suc d)).trace (suc d) ≡ false
no-second r d h1 h2 h3 b h4 = grind (arith, spaced, ads-back)

words-to : (r : Run) (d : ℕ) → known_pair_at (run_to r d).trace d ≡ known_pair_at (run_to r (suc d)).trace d
unfolding known_pair_at run_to
words-to r d = grind (arith, slice_get-take)

decoded-from : (v : Trace) (d : ℕ) (q : Request) → is_lawful_request q ≡ true
    → known_pair_at v d ≡ Some (pairs_of q).0 → known_pair_at v (d + 1) ≡ Some (pairs_of q).1
    → request_at v d ≡ Some q
unfolding request_at
decoded-from v d q lawful e f = grind (arith, request_of_coded)

-- the request that begins at d is decoded from its two clocks, where it is lawful
pub begun-decoded : (r : Run) (d : ℕ) → Timely r → suc d < length r.trace → line_at ADS (run_to r d).trace d ≡ true
    → (q : Request) × (begun_of r d ≡ Some q)
    × (is_lawful_request q ≡ true → request_at (run_to r (suc d)).trace d ≡ Some q)
unfolding holds_at holds_in
begun-decoded r d h l t =
    grind (arith, first-words, no-second, second-words, ads-back, before-is, decoded-from, words-to)
