-- Orderly traces that agree so far show the same of a request, once it is decoded, and of a reply, once it is live.
use Rattle.std.proofs.Common.{ℕ, ◌+◌, ◌<◌, ◌≤◌, ◌≡◌, Bool, true, false, length, Option, Some, None}
use Rattle.std.proofs.Common.{refl, sym, ◌∙◌, arith}
use Rattle.std.proofs.lemmas.Bool.{and_parts, both_ways, false_from_ne_true}
use Rattle.fsb_count.specs.Options.{is_before}
use Rattle.fsb_count.proofs.Interface.{count_where-same, first_where-at, first_where-found, is_before-parts}
use Rattle.fsb_signal.specs.declared.lines.TheConstants.Lines.{ADS}
use Rattle.fsb_trace.specs.Agree.{AgreeTo}
use Rattle.fsb_trace.specs.At.{Trace}
use Rattle.fsb_trace.specs.Requests.{is_live, live_number_of}
use Rattle.fsb_trace.specs.Snoop.{snoop_end_of}
use Rattle.fsb_trace.specs.Outcome.{is_deferred, response_clock_of}
use Rattle.fsb_trace.specs.Flight.{is_live_reply_to, is_reply_to, reply_clock_of}
use Rattle.fsb_trace.proofs.Interface.{AgreeTo-sym, is_deferred-stays, is_live-agree, line_at-agree}
use Rattle.fsb_trace.proofs.Interface.{live_request_of-stays, request_at-agree, response_clock_of-stays, winner_at-agree}
use Rattle.fsb_timely.proofs.Interface.{line_of-agree}
use Rattle.fsb_laws.specs.Orderly.{Orderly}
use Rattle.fsb_laws.proofs.Interface.{deferred_response, has_answer}
use Rattle.fsb_owners.specs.Shown.{agent_at, asks, names, purpose_at}

-- two orderly traces whose first n samples are the same
pub record Alike (n : ℕ) (w v : Trace) : Type 0 where
  pub agree : AgreeTo n w v
  pub left : Orderly w
  pub right : Orderly v

pub turned_round : (n : ℕ) (w v : Trace) → Alike n w v → Alike n v w
turned_round n w v k = record { agree = AgreeTo-sym n w v k.agree; left = k.right; right = k.left }

pub itself : (w : Trace) → Orderly w → Alike (length w) w w
itself w o = record { agree = record { left = omega arith; right = omega arith; same = λ c l. refl }; left = o; right = o }

pub same_answers : (a b : Bool) → (a ≡ true → b ≡ true) → (b ≡ true → a ≡ true) → a ≡ b
same_answers true b f g = sym (f refl)
same_answers false b f g = sym (false_from_ne_true b (λ t. both_ways false refl (g t)))

pub same_options : {A : Type 0} (o p : Option A) → ((x : A) → o ≡ Some x → p ≡ Some x)
    → ((x : A) → p ≡ Some x → o ≡ Some x) → o ≡ p
same_options (Some x) p f g = sym (f x refl)
same_options None None f g = refl
same_options None (Some x) f g = g x refl

pub some_same : {A : Type 0} (x y : A) → Some x ≡ Some y → x ≡ y
some_same x y e = cc

pub agent_at-agree : (n : ℕ) (w v : Trace) (q : ℕ) → AgreeTo n w v → q < n → agent_at w q ≡ agent_at v q
unfolding agent_at
agent_at-agree n w v q a l = rw (winner_at-agree n w v q a (omega (arith, l))) refl

pub purpose_at-agree : (n : ℕ) (w v : Trace) (q : ℕ) → AgreeTo n w v → q + 1 < n → purpose_at w q ≡ purpose_at v q
unfolding purpose_at
purpose_at-agree n w v q a l = rw (request_at-agree n w v q a l) refl

pub names-agree : (n : ℕ) (w v : Trace) (line q : ℕ) → AgreeTo n w v → q + 1 < n → names w line q ≡ names v line q
unfolding names
names-agree n w v line q a l =
    rw (line_at-agree ADS n w v q a (omega (arith, l)), line_of-agree n w v q a (omega (arith, l)), request_at-agree n w v q a l) refl

pub asks-agree : (n : ℕ) (w v : Trace) (line a q : ℕ) → AgreeTo n w v → q + 1 < n → asks w line a q ≡ asks v line a q
unfolding asks
asks-agree n w v line a q k l = rw (names-agree n w v line q k l, agent_at-agree n w v q k (omega (arith, l))) refl

pub live_number-agree : (n : ℕ) (w v : Trace) (p : ℕ) → AgreeTo n w v → p + 3 < n → live_number_of w p ≡ live_number_of v p
unfolding live_number_of
live_number-agree n w v p a l =
    count_where-same (is_live w) (is_live v) p (record { same = λ q b. is_live-agree n w v q a (omega (arith, l, b)) })

-- a request that is Deferred has its response, and before it its snoop end
pub record IsPutOff (w : Trace) (i : ℕ) : Type 0 where
  pub response : ℕ
  pub is_response : response_clock_of w i ≡ Some response
  pub snoop : ℕ
  pub is_snoop : snoop_end_of w i ≡ Some snoop
  pub before : snoop + 2 ≤ response

pub put_off : (w : Trace) (i : ℕ) → Orderly w → is_deferred w i ≡ true → IsPutOff w i
put_off w i o t =
    let r = deferred_response w i t in
    let h = has_answer w r.0 i (o.timely i r.0 r.1) in
    record { response = r.0; is_response = r.1; snoop = h.snoop; is_snoop = h.is_snoop; before = h.before }

-- a live reply begins behind the response
pub reply_behind : (w : Trace) (i p : ℕ) → is_live_reply_to w i p ≡ true → (r : ℕ) × (response_clock_of w i ≡ Some r) × (r < p)
unfolding is_live_reply_to is_reply_to
reply_behind w i p t =
    let a = and_parts (is_live w p) _ t in
    let b = and_parts _ (is_before (response_clock_of w i) p) a.1 in
    is_before-parts (response_clock_of w i) p b.1

-- the reply to a request that responded is seen alike
live_reply-agree : (n : ℕ) (w v : Trace) (i p s r : ℕ) → AgreeTo n w v → snoop_end_of w i ≡ Some s → s < n
    → response_clock_of w i ≡ Some r → r < n → p + 3 < n → is_live_reply_to w i p ≡ is_live_reply_to v i p
unfolding is_live_reply_to is_reply_to
live_reply-agree n w v i p s r a e l f m k =
    rw (
      is_live-agree n w v p a k,
      line_at-agree ADS n w v p a (omega (arith, k)),
      request_at-agree n w v p a (omega (arith, k)),
      live_request_of-stays n w v i s a l e,
      f,
      response_clock_of-stays n w v i r a m f,
    ) refl

-- what is known of a Deferred request and its reply at p
pub record IsAnsweredAt (w : Trace) (i p : ℕ) : Type 0 where
  pub deferred : is_deferred w i ≡ true
  pub reply : reply_clock_of w i ≡ Some p

reply_stays : (n : ℕ) (w v : Trace) (i p s r : ℕ) → AgreeTo n w v → snoop_end_of w i ≡ Some s → s < n
    → response_clock_of w i ≡ Some r → r < n → p + 3 < n → reply_clock_of w i ≡ Some p → reply_clock_of v i ≡ Some p
unfolding reply_clock_of
reply_stays n w v i p s r a e l f m k h =
    let found = first_where-found (is_live_reply_to w i) (length w) p h in
    first_where-at (is_live_reply_to v i) (length v) p (omega (arith, k, a.right))
    (sym (live_reply-agree n w v i p s r a e l f m k) ∙ found.1)
    (λ q b. sym (live_reply-agree n w v i q s r a e l f m (omega (arith, k, b))) ∙ found.2 q b)

pub reply_found : (w : Trace) (i p : ℕ) → reply_clock_of w i ≡ Some p → is_live_reply_to w i p ≡ true
unfolding reply_clock_of
reply_found w i p h = (first_where-found (is_live_reply_to w i) (length w) p h).1

pub answered_stays : (n : ℕ) (w v : Trace) (i p : ℕ) → Alike n w v → p + 3 < n → IsAnsweredAt w i p → IsAnsweredAt v i p
answered_stays n w v i p k l h =
    let o = put_off w i k.left h.deferred in
    let b = reply_behind w i p (reply_found w i p h.reply) in
    let same : b.0 ≡ o.response = some_same b.0 o.response (sym b.1 ∙ o.is_response) in
    let below : o.response < n = omega (arith, l, b.2, same) in
    record {
      deferred = sym (is_deferred-stays n w v i o.snoop o.response k.agree (omega (arith, below, o.before)) o.is_snoop below o.is_response) ∙ h.deferred;
      reply = reply_stays n w v i p o.snoop o.response k.agree o.is_snoop (omega (arith, below, o.before)) o.is_response below l h.reply;
    }
