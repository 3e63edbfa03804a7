-- What begins in a timely run is what its agent wants.
use Rattle.fsb_tied.proofs.Words
use Words.{ℕ, suc, ◌+◌, ◌/◌, ◌<◌, ◌≡◌, Bool, true, false, ◌&&◌, Option, Some, None, if◌then◌else◌, length, slice_get}
use Words.{refl, sym, ap, ◌∙◌, arith, option_and_then, option_map, and_parts, is_some_and, are_lawful_fields, clocks}
use Words.{is_lawful_request, pairs_of, row_of, Kind, Request, ADS, is_known_word, line_at, Who, Symmetric, Priority}
use Words.{Trace, known_pair, known_pair_at, request_at, is_reply_kind, line_of, winner_at, line_at-agree}
use Words.{request_at-agree, winner_at-agree, begun_at, agent_at, claim_at, Claim, Past, Run, past_of, past_to, run_to}
use Words.{drives_ads, drives_pair, pair_due, request_begun, starts_requests, would_begin, Timely, holds_at, holds_in}
use Words.{want_of, begun-told, done_below, past-begins, want_of-alike, KeepsBounds, begun-decoded, begun-winner}
use Words.{map-some, run_to-agrees, slice_get-take, want-own, wants-lawfully}
use Rattle.fsb_encode.specs.Decoded.{is_pair}
use Rattle.fsb_encode.specs.declared.request.Pair.{Pair}
use Rattle.fsb_signal.specs.declared.sample.Sample.{Sample}

-- what a claim says: its clock, its winner, and its line by the address word
record IsClaimAt (w : Trace) (q : ℕ) (claim : Claim) : Type 0 where
  pub first : claim.first ≡ q
  pub winner : winner_at w q ≡ Some (Symmetric claim.agent)
  pub sample : Sample
  pub there : slice_get w q ≡ Some sample
  pub line : sample.addr.bits / 4 ≡ claim.line

word-by : (w : Trace) (q a line : ℕ) → winner_at w q ≡ Some (Symmetric a) → line_of w q ≡ Some line
    → option_map (λ s. s.addr.bits / 4) (slice_get w q) ≡ Some line
unfolding line_of
word-by w q a line e h = let h' = rw (e, line_of) at h in h'

claimed-by : (w : Trace) (q : ℕ) (claim : Claim) (o : Option Who) → winner_at w q ≡ o → claim_at w q ≡ Some claim
    → IsClaimAt w q claim
unfolding claim_at agent_at
claimed-by w q claim None e h = absurd (let no : ⊥ = (let h' = rw (e, claim_at, agent_at) at h in cc) in no)
claimed-by w q claim (Some Priority) e h = absurd (let no : ⊥ = (let h' = rw (e, claim_at, agent_at) at h in cc) in no)
claimed-by w q claim (Some (Symmetric a)) e h =
    let h' = rw (claim_at, agent_at, e) at h in
    let k = map-some (λ line. record { first = q; agent = a; line = line }) (line_of w q) claim h' in
    let s = map-some (λ (s : Sample). s.addr.bits / 4) (slice_get w q) k.0 (word-by w q a k.0 e k.1) in
    record {
      first = sym (ap (λ c. c.first) k.2);
      winner = e ∙ ap (λ b. Some (Symmetric b)) (ap (λ c. c.agent) k.2);
      sample = s.0;
      there = s.1;
      line = s.2 ∙ ap (λ c. c.line) k.2;
    }

pub claimed : (w : Trace) (q : ℕ) (claim : Claim) → claim_at w q ≡ Some claim
    → (claim.first ≡ q) × (winner_at w q ≡ Some (Symmetric claim.agent))
claimed w q claim e = let k = claimed-by w q claim (winner_at w q) refl e in (k.first, k.winner)

same-pair : (p q : Pair) → is_pair p q ≡ true → p ≡ q
unfolding is_pair
same-pair p q e = grind arith

-- the words of a clock are those of a request that is there
pair-there : (f : Request → Pair) (o : Option Request) (k : Option Pair)
    → is_some_and (option_map f o) (λ due. is_some_and k (is_pair due)) ≡ true
    → (q : Request) × (o ≡ Some q) × (k ≡ Some (f q))
unfolding is_some_and
pair-there f None k e = absurd (let no : ⊥ = cc in no)
pair-there f (Some q) None e = absurd (let no : ⊥ = cc in no)
pair-there f (Some q) (Some b) e = (q, refl, ap (λ x. Some x) (sym (same-pair (f q) b e)))

-- the first clock of a request has its first words
first-words : (r : Run) (p : Past) (c : ℕ) → starts_requests r p c ≡ true → line_at ADS r.trace c ≡ true
    → (q : Request) × (request_begun r p c ≡ Some q) × (known_pair_at r.trace c ≡ Some (pairs_of q).0)
unfolding starts_requests drives_pair pair_due
first-words r p c e t =
    let pair = (and_parts (drives_ads r p c) (drives_pair r p c) e).1 in
    pair-there (λ request. (pairs_of request).0) (request_begun r p c) (known_pair_at r.trace c)
    (let e' = rw (drives_pair, pair_due, t) at pair in e')

-- the words that a sample has, where they are known
word-of : (s : Sample) (b : Bool) (pair : Pair) → (is_known_word s.addr && is_known_word s.req) ≡ b
    → known_pair s ≡ Some pair → s.addr.bits ≡ pair.addr
unfolding known_pair
word-of s b pair h1 h2 = grind arith

sample-word : (w : Trace) (q : ℕ) (s : Sample) (pair : Pair) → slice_get w q ≡ Some s → known_pair_at w q ≡ Some pair
    → s.addr.bits ≡ pair.addr
unfolding known_pair_at
sample-word w q s pair e f =
    word-of s (is_known_word s.addr && is_known_word s.req) pair refl (sym (ap (option_and_then known_pair) e) ∙ f)

-- the first address word of a request that is no reply names its line
line-word : (request : Request) (kind : Kind) → request.kind ≡ kind → is_reply_kind request.kind ≡ false
    → is_lawful_request request ≡ true → (pairs_of request).0.addr / 4 ≡ request.line
unfolding pairs_of row_of clocks is_lawful_request are_lawful_fields is_reply_kind
line-word request kind h1 h2 h3 = grind arith

-- the request of a symmetric agent that begins at q is what the agent wants there, by the past below q and by all of it
pub record IsBegunWant (r : Run) (q : ℕ) (claim : Claim) : Type 0 where
  pub first : claim.first ≡ q
  pub ads : line_at ADS r.trace q ≡ true
  pub claims : claim_at r.trace q ≡ Some claim
  pub winner : winner_at r.trace q ≡ Some (Symmetric claim.agent)
  pub request : Request
  pub wanted : want_of (past_to (past_of r) q) claim.agent q ≡ Some request
  pub want : want_of (past_of r) claim.agent q ≡ Some request
  pub begins : request_begun (run_to r q) (past_to (past_of r) q) q ≡ Some request
  pub line : request.line ≡ claim.line
  pub no_reply : is_reply_kind request.kind ≡ false

begun-claim : (b : Bool) (o : Option Claim) (claim : Claim) → (if b then o else None) ≡ Some claim
    → (b ≡ true) × (o ≡ Some claim)
begun-claim b o claim h1 = grind arith

by-winner : (r : Run) (q a : ℕ) (request : Request) (who : Who) → Some who ≡ Some (Symmetric a)
    → would_begin (run_to r q) (past_to (past_of r) q) q who ≡ Some request
    → want_of (past_to (past_of r) q) a q ≡ Some request
unfolding would_begin
by-winner r q a request who h1 h2 = grind arith

-- a request that is claimed where ADS# is
claim-want : (r : Run) (q : ℕ) (claim : Claim) → Timely r → KeepsBounds r.plan → q < length r.trace
    → line_at ADS r.trace q ≡ true → claim_at r.trace q ≡ Some claim → IsBegunWant r q claim
unfolding holds_at holds_in request_begun known_pair_at run_to past_to past_of
claim-want r q claim h bounds l t e =
    let v = (run_to r q).trace in
    let agree = run_to-agrees r q l in
    let here : line_at ADS v q ≡ true = sym (line_at-agree ADS (q + 1) r.trace v q agree (omega arith)) ∙ t in
    let words = first-words (run_to r q) (past_to (past_of r) q) q (h.request_starts.at q l) here in
    let request : Request = words.0 in
    let c = claimed-by r.trace q claim (winner_at r.trace q) refl e in
    let won = begun-winner (would_begin (run_to r q) (past_to (past_of r) q) q) (winner_at v q) request words.1 in
    let who : Some won.0 ≡ Some (Symmetric claim.agent) = grind (arith, winner_at-agree) in
    let wanted = by-winner r q claim.agent request won.0 who won.2 in
    let goes = past-begins r q h l in
    let want = want_of-alike (q + 1) (past_to (past_of r) q) (past_of r) claim.agent q goes (omega arith)
    (done_below (q + 1) (past_to (past_of r) q) claim.agent q goes.entries (omega arith) goes.at_end) in
    let lawful = (wants-lawfully r bounds).lawful q request words.1 in
    let no_reply = (want-own (past_to (past_of r) q) claim.agent q request bounds.few_ahead wanted).0 in
    let cut = slice_get-take (q + 1) r.trace q (omega arith) in
    let word = sample-word r.trace q c.sample (pairs_of request).0 c.there
    (sym (ap (option_and_then known_pair) cut) ∙ words.2) in
    record {
      first = c.first;
      ads = t;
      claims = e;
      winner = c.winner;
      request = request;
      wanted = wanted;
      want = sym want ∙ wanted;
      begins = words.1;
      line = sym (line-word request request.kind refl no_reply lawful) ∙ ap (λ n. n / 4) (sym word) ∙ c.line;
      no_reply = no_reply;
    }

-- where a claim begins there is ADS#
pub begun-there : (r : Run) (q : ℕ) (claim : Claim) → q < length r.trace → begun_at (past_of r) q ≡ Some claim
    → (line_at ADS r.trace q ≡ true) × (claim_at r.trace q ≡ Some claim)
begun-there r q claim l e = begun-claim (line_at ADS r.trace q) (claim_at r.trace q) claim (sym (begun-told r q l) ∙ e)

pub begun-want : (r : Run) (q : ℕ) (claim : Claim) → Timely r → KeepsBounds r.plan → q < length r.trace
    → begun_at (past_of r) q ≡ Some claim → IsBegunWant r q claim
begun-want r q claim h bounds l e =
    let k = begun-there r q claim l e in
    claim-want r q claim h bounds l k.0 k.1

pub begun-from : (r : Run) (q : ℕ) (claim : Claim) → q < length r.trace → line_at ADS r.trace q ≡ true
    → claim_at r.trace q ≡ Some claim → begun_at (past_of r) q ≡ Some claim
begun-from r q claim l t e = begun-told r q l ∙ ap (λ b. if b then claim_at r.trace q else None) t ∙ e

-- once the clock after it is there, it is decoded as that
pub begun-shown : (r : Run) (q : ℕ) (claim : Claim) → Timely r → KeepsBounds r.plan → suc q < length r.trace
    → (k : IsBegunWant r q claim) → request_at r.trace q ≡ Some k.request
begun-shown r q claim h bounds l k =
    let agree = run_to-agrees r q (omega arith) in
    let later = run_to-agrees r (suc q) l in
    let here = sym (line_at-agree ADS (q + 1) r.trace (run_to r q).trace q agree (omega arith)) ∙ k.ads in
    let b = begun-decoded r q h l here in
    let shown = b.2 ((wants-lawfully r bounds).lawful q b.0 b.1) in
    let one = b.1 in
    let two = k.begins in
    let same : b.0 ≡ k.request = cc in
    request_at-agree (suc q + 1) r.trace (run_to r (suc q)).trace q later (omega arith) ∙ shown ∙ ap Some same
