-- A reply that is seen in the samples up to a clock is the reply of the whole run.
use Rattle.fsb_tied.proofs.Words
use Words.{ℕ, ◌+◌, ◌<◌, ◌≤◌, ◌≡◌, Bool, true, ◌&&◌, Some, length, refl, sym, ap, ◌∙◌, arith, option_map, is_before}
use Words.{count_where-same, first_where-carried, first_where-found, is_before-from, is_before-parts, ADS, line_at}
use Words.{Trace, request_at, is_live_reply_to, is_reply_to, reply_clock_of, reply_number_of, response_clock_of}
use Words.{have_same_id, is_reply, live_clock_of, live_number_of, live_request_of, is_live-agree, line_at-agree}
use Words.{live_clock_of-number, live_clock_of-stays, request_at-agree, response_clock_of-stays, snoop_end_of-clock}
use Words.{snoop_end_of-stays, snoop_end_of}
use Rattle.fsb_trace.specs.Agree.{AgreeTo}

-- two tests of which each gives the other are the same
pub same-both : (x y : Bool) → (x ≡ true → y ≡ true) → (y ≡ true → x ≡ true) → x ≡ y
same-both x y h1 h2 = grind arith

response-kept : (n : ℕ) (w v : Trace) (j c : ℕ) → AgreeTo n w v → c ≤ n → is_before (response_clock_of w j) c ≡ true
    → is_before (response_clock_of v j) c ≡ true
response-kept n w v j c a l e =
    let h = is_before-parts (response_clock_of w j) c e in
    let below = h.2 in
    is_before-from (response_clock_of v j) h.0 c (response_clock_of-stays n w v j h.0 a (omega arith) h.1) below

response-same : (n : ℕ) (w v : Trace) (j c : ℕ) → AgreeTo n w v → c ≤ n
    → is_before (response_clock_of w j) c ≡ is_before (response_clock_of v j) c
response-same n w v j c a l = grind (arith, response-kept)

pub live-request : (w : Trace) (j q : ℕ) → live_clock_of w j ≡ Some q → live_request_of w j ≡ request_at w q
unfolding live_request_of
live-request w j q e = rw e refl

-- what is a live reply shows three clocks after its first clock
reply-same : (n : ℕ) (w v : Trace) (j q c : ℕ) → AgreeTo n w v → live_clock_of w j ≡ Some q → q + 3 < n → c + 3 < n
    → is_live_reply_to w j c ≡ is_live_reply_to v j c
unfolding is_live_reply_to is_reply_to
reply-same n w v j q c a clock l m =
    let live = is_live-agree n w v c a m in
    let ads = line_at-agree ADS n w v c a (omega arith) in
    let request = request_at-agree n w v c a (omega arith) in
    let there = live_clock_of-stays n w v j q a l clock in
    let asked = live-request w j q clock ∙ request_at-agree n w v q a (omega arith) ∙ sym (live-request v j q there) in
    let response = response-same n w v j c a (omega arith) in
    λ i. live i && (ads i && is_reply (request i) && have_same_id (request i) (asked i) && response i)

-- the first clock of a reply stays
pub reply-clock-stays : (n : ℕ) (w v : Trace) (j q c : ℕ) → AgreeTo n w v → live_clock_of w j ≡ Some q → q + 3 < n
    → c + 3 < n → reply_clock_of w j ≡ Some c → reply_clock_of v j ≡ Some c
unfolding reply_clock_of
reply-clock-stays n w v j q c a clock l m e =
    first_where-carried (is_live_reply_to w j) (is_live_reply_to v j) (length w) (length v) c
    (record { same = λ d k. reply-same n w v j q d a clock l (omega arith) }) (let r = a.right in omega arith) e

-- the reply to live request j begins at `clock`, after j's response, and is live request i
pub record HasReply (w : Trace) (j i : ℕ) : Type 0 where
  pub clock : ℕ
  pub is_clock : reply_clock_of w j ≡ Some clock
  pub first : live_clock_of w i ≡ Some clock
  pub number : live_number_of w clock ≡ i
  pub replies : is_reply (request_at w clock) ≡ true
  pub same_id : have_same_id (request_at w clock) (live_request_of w j) ≡ true
  pub ads : line_at ADS w clock ≡ true
  pub response : ℕ
  pub is_response : response_clock_of w j ≡ Some response
  pub after : response < clock

pub has-reply : (w : Trace) (j i : ℕ) → reply_number_of w j ≡ Some i → HasReply w j i
unfolding reply_number_of reply_clock_of is_live_reply_to is_reply_to
has-reply w j i e = grind (arith, first_where-found, is_before-parts, live_clock_of-number)

number-same : (n : ℕ) (w v : Trace) (c : ℕ) → AgreeTo n w v → c + 3 < n → live_number_of w c ≡ live_number_of v c
unfolding live_number_of
number-same n w v c a l = grind (arith, count_where-same, is_live-agree)

reply-number : (w : Trace) (j q : ℕ) → reply_clock_of w j ≡ Some q → reply_number_of w j ≡ Some (live_number_of w q)
unfolding reply_number_of
reply-number w j q e = ap (option_map (live_number_of w)) e

-- and so does its number
pub reply-stays : (n : ℕ) (w v : Trace) (j i q c : ℕ) → AgreeTo n w v → live_clock_of w j ≡ Some q → q + 3 < n
    → live_clock_of w i ≡ Some c → c + 3 < n → reply_number_of w j ≡ Some i → reply_number_of v j ≡ Some i
reply-stays n w v j i q c a clock l first m e =
    let k = has-reply w j i e in
    let here = k.first in
    let same : k.clock ≡ c = cc in
    let early : k.clock + 3 < n = omega arith in
    let there = reply-clock-stays n w v j q k.clock a clock l early k.is_clock in
    reply-number v j k.clock there ∙ ap Some (sym (number-same n w v k.clock a early) ∙ k.number)

-- a reply that has its snoop end below n is the reply wherever the samples agree so far
pub reply-snooped : (n : ℕ) (w v : Trace) (j i q x : ℕ) → AgreeTo n w v → live_clock_of w j ≡ Some q → q + 3 < n
    → reply_number_of w j ≡ Some i → snoop_end_of w i ≡ Some x → x < n
    → (reply_number_of v j ≡ Some i) × (snoop_end_of v i ≡ Some x)
reply-snooped n w v j i q x a clock l e snoop m =
    let c = snoop_end_of-clock w i x snoop in
    let above = c.above in
    (reply-stays n w v j i q c.clock a clock l c.is_clock (omega arith) e, snoop_end_of-stays n w v i x a m snoop)
