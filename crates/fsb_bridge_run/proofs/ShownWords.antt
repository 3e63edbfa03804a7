-- The request that began at the last clock of a run shows at the next one, where its words are as they must.
use Rattle.fsb_bridge_run.proofs.Words
use Words.{ℕ, ◌+◌, ◌-◌, ◌<◌, ◌≡◌, true, false, List, [], ◌∷◌, Option, Some, None, length, take, take-take, refl, sym}
use Words.{ap, ◌∙◌, arith, option_and_then, option_map, and_parts, le-leb, take-append-le, is_some_and, Request, ADS}
use Words.{line_at, AgreeTo, Trace, known_pair, known_pair_at, line_back, request_at, line_at-agree, GrowsTo, Past, Run}
use Words.{entries_to, past_of, past_to, run_to, drives_ads, drives_pair, due_number, is_spaced, may_begin, pair_due}
use Words.{request_begun, request_begun_before, starts_requests, would_begin, holds_at, holds_in, past-before}
use Words.{KeepsBounds, run_to-agrees, wants-lawfully, ShowsBegun}
use Rattle.fsb_access.specs.declared.log.Done.{Done}
use Rattle.fsb_encode.specs.Decoded.{is_pair}
use Rattle.fsb_encode.specs.declared.request.Pair.{Pair}
use Rattle.fsb_encode.specs.Request.{is_lawful_request, pairs_of}
use Rattle.fsb_encode.proofs.Interface.{request_of_coded}
use Rattle.fsb_bridge_run.proofs.GrownLists.{agree-grown}

same-pair : (p q : Pair) → is_pair p q ≡ true → p ≡ q
unfolding is_pair
same-pair p q e = grind arith

-- the words of a clock are those of a request that is there
pair-there : (f : Request → Pair) (o : Option Request) (k : Option Pair)
    → is_some_and (option_map f o) (λ due. is_some_and k (is_pair due)) ≡ true
    → (q : Request) × (o ≡ Some q) × (k ≡ Some (f q))
unfolding is_some_and
pair-there f None k e = absurd (let no : ⊥ = cc in no)
pair-there f (Some q) None e = absurd (let no : ⊥ = cc in no)
pair-there f (Some q) (Some b) e = (q, refl, ap (λ x. Some x) (sym (same-pair (f q) b e)))

first-words : (r : Run) (p : Past) (c : ℕ) → drives_pair r p c ≡ true → line_at ADS r.trace c ≡ true
    → (q : Request) × (request_begun r p c ≡ Some q) × (known_pair_at r.trace c ≡ Some (pairs_of q).0)
unfolding drives_pair pair_due
first-words r p c e t =
    pair-there (λ request. (pairs_of request).0) (request_begun r p c) (known_pair_at r.trace c)
    (let e' = rw (drives_pair, pair_due, t) at e in e')

second-words : (r : Run) (p : Past) (c : ℕ) → drives_pair r p c ≡ true → line_at ADS r.trace c ≡ false
    → line_back ADS r.trace c 1 ≡ true
    → (q : Request) × (request_begun_before r p c ≡ Some q) × (known_pair_at r.trace c ≡ Some (pairs_of q).1)
unfolding drives_pair pair_due
second-words r p c e f t =
    pair-there (λ request. (pairs_of request).1) (request_begun_before r p c) (known_pair_at r.trace c)
    (let e' = rw (drives_pair, pair_due, f, t) at e in e')

-- no request begins in the second clock of another
quiet-second : (r : Run) (p : Past) (c : ℕ) → drives_ads r p c ≡ true → line_back ADS r.trace c 1 ≡ true
    → line_at ADS r.trace c ≡ false
unfolding drives_ads may_begin is_spaced
quiet-second r p c e t = grind arith

entries-again : (c : ℕ) (log : List Done) → entries_to c (entries_to c log) ≡ entries_to c log
unfolding entries_to
entries-again c [] = refl
entries-again c (done ∷ log) = grind (arith, entries-again c log)

begun-same : (a b : Run) (p q : Past) (c : ℕ) → a.trace ≡ b.trace → p ≡ q
    → request_begun a p c ≡ request_begun b q c
unfolding request_begun would_begin due_number
begun-same a b p q c e f = grind arith

decoded-from : (w : Trace) (d : ℕ) (q : Request) → is_lawful_request q ≡ true
    → known_pair_at w d ≡ Some (pairs_of q).0 → known_pair_at w (d + 1) ≡ Some (pairs_of q).1
    → request_at w d ≡ Some q
unfolding request_at
decoded-from w d q lawful e f = grind (arith, request_of_coded)

words-agree : (n : ℕ) (w v : Trace) (c : ℕ) → AgreeTo n w v → c < n → known_pair_at w c ≡ known_pair_at v c
unfolding known_pair_at
words-agree n w v c a l = ap (option_and_then known_pair) (a.same c l)

-- so a request shows as what it is, where the next clock has its second words
pub shows-second : (r s : Run) → GrowsTo r s → KeepsBounds r.plan
    → ((d : ℕ) → d + 1 ≡ length r.trace → line_at ADS r.trace d ≡ true
    → (q : Request) × (request_begun_before s (past_of s) (length r.trace) ≡ Some q)
    × (known_pair_at s.trace (length r.trace) ≡ Some (pairs_of q).1)) → ShowsBegun r s
unfolding starts_requests request_begun_before holds_at holds_in run_to past_to
shows-second r s grows bounds there = record {
  shown = λ d at ads.
      let n = length r.trace in
      let agree = agree-grown r s grows in
      let back : n - 1 ≡ d = omega arith in
      let second = there d at ads in
      let cut = run_to-agrees r d (omega arith) in
      let here = sym (line_at-agree ADS (d + 1) r.trace (run_to r d).trace d cut (omega arith)) ∙ ads in
      let own = and_parts (drives_ads (run_to r d) (past_to (past_of r) d) d)
      (drives_pair (run_to r d) (past_to (past_of r) d) d) (grows.timely.request_starts.at d (omega arith)) in
      let first = first-words (run_to r d) (past_to (past_of r) d) d own.1 here in
      let trace : take (d + 1) s.trace ≡ take (d + 1) r.trace = grind (arith, take-append-le) in
      let past : past_to (past_of s) d ≡ past_to (past_of r) d =
      grind (arith, entries-again, take-take, past-before) in
      let same = begun-same (run_to s d) (run_to r d) (past_to (past_of s) d) (past_to (past_of r) d) d trace past in
      let one = second.1 in
      let two : request_begun_before s (past_of s) n ≡ Some first.0 = grind arith in
      let is : second.0 ≡ first.0 = cc in
      let words = words-agree (d + 1) r.trace (run_to r d).trace d cut (omega arith) in
      let lawful = (wants-lawfully r bounds).lawful d first.0 first.1 in
      decoded-from s.trace d first.0 lawful
      (sym (words-agree n r.trace s.trace d agree (omega arith)) ∙ words ∙ first.2)
      (ap (known_pair_at s.trace) at ∙ second.2 ∙ ap (λ q. Some (pairs_of q).1) is)
      ∙ sym first.1;
}

pub shows-begun : (r s : Run) → GrowsTo r s → KeepsBounds r.plan
    → starts_requests s (past_of s) (length r.trace) ≡ true → ShowsBegun r s
unfolding starts_requests line_back
shows-begun r s grows bounds starts =
    let n = length r.trace in
    let parts = and_parts (drives_ads s (past_of s) n) (drives_pair s (past_of s) n) starts in
    shows-second r s grows bounds (λ d at ads.
    let back : n - 1 ≡ d = omega arith in
    let long = line_at-agree ADS n r.trace s.trace d (agree-grown r s grows) (omega arith) in
    let before : line_back ADS s.trace n 1 ≡ true = rw (le-leb 1 n (omega arith), back) (sym long ∙ ads) in
    second-words s (past_of s) n parts.1 (quiet-second s (past_of s) n parts.0 before) before)
