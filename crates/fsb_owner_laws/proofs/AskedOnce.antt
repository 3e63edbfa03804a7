-- Requests of one agent for one line come one after the other, and a pending line is given to nobody, where no rule is broken.
use Rattle.std.proofs.Common.{ℕ, ◌+◌, ◌-◌, ◌<◌, ◌≤◌, ◌≡◌, Bool, true, false, ◌&&◌, not, nat_eq, nat_lt, length, List}
use Rattle.std.proofs.Common.{Option, Some, None, ◌⊎◌}
use Rattle.std.proofs.Common.{refl, sym, ap, ◌∙◌, arith, inl, inr, if◌then◌else◌}
use Rattle.std.specs.Option.{option_and_then, option_map}
use Rattle.std.proofs.lemmas.Bool.{and_parts, both_ways, cases_Bool, cases_lt, false_from_ne_true, le-ltb, lt-ltb, not-true}
use Rattle.fsb_count.specs.Clocks.{any_where, first_where}
use Rattle.fsb_count.specs.Options.{is_at, is_before, is_some_and}
use Rattle.fsb_count.proofs.Interface.{any_where-at, any_where-none, first_where-found, is_at-from, is_before-parts}
use Rattle.fsb_count.proofs.Interface.{nth_where-found}
use Rattle.fsb_signal.specs.declared.lines.TheConstants.Lines.{ADS, HITM}
use Rattle.fsb_signal.specs.Samples.{line_at}
use Rattle.fsb_encode.specs.declared.request.Request.{Request}
use Rattle.fsb_line.specs.declared.purpose.Purpose.{Purpose}
use Rattle.fsb_line.specs.States.{asks_line}
use Rattle.fsb_trace.specs.At.{Trace, request_at, response_code_at}
use Rattle.fsb_trace.specs.Requests.{is_cancelled, is_live, is_reply, line_of, live_clock_of, live_count}
use Rattle.fsb_trace.specs.Requests.{live_number_of, live_request_of}
use Rattle.fsb_trace.specs.Snoop.{line_at_snoop_end, snoop_end_of}
use Rattle.fsb_trace.specs.Outcome.{is_deferral, is_deferred, live_response_of, outcome_of, response_code_of, told_by, told_with}
use Rattle.fsb_trace.specs.declared.outcome.Outcome.TheVariants.{Failed}
use Rattle.fsb_trace.specs.Response.{end_of}
use Rattle.fsb_trace.specs.Flight.{is_dropped, is_finished, is_outstanding, last_clock_of, reply_clock_of, reply_end_of}
use Rattle.fsb_trace.specs.Flight.{reply_number_of}
use Rattle.fsb_trace.proofs.Interface.{end_of-response, live_below_count, live_clock_of-number, live_clock_of-rises}
use Rattle.fsb_trace.proofs.Interface.{snoop_end_of-clock}
use Rattle.fsb_laws.specs.Orderly.{Orderly}
use Rattle.fsb_laws.proofs.Interface.{has_answer, last_clock_of-deferred, last_clock_of-plain, live_of_reply}
use Rattle.fsb_owners.specs.Joint.{Joint}
use Rattle.fsb_owners.specs.Rules.{at_decoding, is_answered_below, is_asked_twice, is_given_again, is_given_again_to}
use Rattle.fsb_owners.specs.Rules.{is_served_or_deferred, of_request}
use Rattle.fsb_owners.specs.Shown.{agent_at, asks, is_for_line, is_reply_of, is_spoiled, is_still_asking, names}
use Rattle.fsb_owners.specs.Shown.{origin_clock_of, origin_of, purpose_at}
use Rattle.fsb_owner_laws.proofs.AgreeEnders.{origin_parts, reply_of_parts, snooped_found, some_number}
use Rattle.fsb_owner_laws.proofs.AgreePossible.{clock_of_end, reply_end}
use Rattle.fsb_owner_laws.proofs.AgreeWords.{IsAnsweredAt, itself, put_off, reply_behind, reply_found, some_same}
use Rattle.fsb_owner_laws.proofs.BrokenRules.{IsEnder, decoded, named, named_by, of_request-at}
use Rattle.fsb_owner_laws.proofs.Emptied.{Ender}

-- the live request is itself what is asked, or it is the reply to what is asked
pub record IsPlain (v : Trace) (j i : ℕ) : Type 0 where
  pub request : is_reply (live_request_of v j) ≡ false
  pub same : j ≡ i

pub record IsReplied (v : Trace) (j i : ℕ) : Type 0 where
  pub reply : is_reply (live_request_of v j) ≡ true
  pub clock : ℕ
  pub answered : IsAnsweredAt v i clock
  pub number : live_number_of v clock ≡ j

-- the request that counts at a snoop end: it is outstanding until behind it
pub record IsAsker (v : Trace) (line b : ℕ) (e : Ender) : Type 0 where
  pub number : ℕ
  pub clock : ℕ
  pub begins : live_clock_of v number ≡ Some clock
  pub before : clock + 4 ≤ b
  pub names_line : names v line clock ≡ true
  pub agent : agent_at v clock ≡ Some e.1.0
  pub kind : purpose_at v clock ≡ Some e.1.1
  pub snoop : snoop_end_of v e.0 ≡ Some b
  pub lasts : (t : ℕ) → last_clock_of v number ≡ Some t → b < t
  pub origin : origin_of v e.0 ≡ Some number
  pub origin_clock : origin_clock_of v e.0 ≡ Some clock
  pub way : IsPlain v e.0 number ⊎ IsReplied v e.0 number

snoop_before_end : (v : Trace) (j b t : ℕ) → Orderly v → snoop_end_of v j ≡ Some b → end_of v j ≡ Some t → b < t
snoop_before_end v j b t o s e =
    let r = end_of-response v j t e in
    let h = has_answer v r.0 j (o.timely j r.0 r.1) in
    let same : h.snoop ≡ b = some_same h.snoop b (sym h.is_snoop ∙ s) in
    omega (arith, same, h.before, r.2)

deferred_lasts : (v : Trace) (i b t : ℕ) → Orderly v → snoop_end_of v i ≡ Some b → is_deferred v i ≡ true
    → reply_end_of v i ≡ Some t → b < t
deferred_lasts v i b t o s d e =
    let p = reply_end v i t (reply_clock_of v i) refl e in
    let live = live_of_reply v i p.0 p.1 in
    let far = clock_of_end v p.0 t o live.0 live.1 p.2 in
    let h = put_off v i o d in
    let behind = reply_behind v i p.0 (reply_found v i p.0 p.1) in
    let same : behind.0 ≡ h.response = some_same behind.0 h.response (sym behind.1 ∙ h.is_response) in
    let mine : h.snoop ≡ b = some_same h.snoop b (sym h.is_snoop ∙ s) in
    omega (arith, far, behind.2, same, h.before, mine)

plain_lasts : (v : Trace) (i b t : ℕ) → Orderly v → snoop_end_of v i ≡ Some b → last_clock_of v i ≡ Some t → b < t
plain_lasts v i b t o s e =
    elim (cases_Bool (is_deferred v i)) [
      | inl d ↦ deferred_lasts v i b t o s d (sym (last_clock_of-deferred v i d) ∙ e)
      | inr f ↦ snoop_before_end v i b t o s (sym (last_clock_of-plain v i f) ∙ e)
    ]

reply_lasts : (v : Trace) (j i p b t : ℕ) → Orderly v → snoop_end_of v j ≡ Some b → IsAnsweredAt v i p → live_number_of v p ≡ j
    → last_clock_of v i ≡ Some t → b < t
reply_lasts v j i p b t o s a n e =
    let r = reply_end v i t (reply_clock_of v i) refl (sym (last_clock_of-deferred v i a.deferred) ∙ e) in
    let same : r.0 ≡ p = some_same r.0 p (sym r.1 ∙ a.reply) in
    snoop_before_end v j b t o s (ap (end_of v) (sym (ap (live_number_of v) same ∙ n)) ∙ r.2)

asker_by : (v : Trace) (line b i : ℕ) (e : Ender) (r : Bool) → Orderly v → IsEnder v line b e → snoop_end_of v e.0 ≡ Some b
    → (q : ℕ) → origin_clock_of v e.0 ≡ Some q → q + 4 ≤ b → names v line q ≡ true → agent_at v q ≡ Some e.1.0
    → purpose_at v q ≡ Some e.1.1
    → is_reply (live_request_of v e.0) ≡ r
    → (if r then first_where (is_reply_of v e.0) (live_count v) else Some e.0) ≡ Some i → origin_of v e.0 ≡ Some i
    → live_clock_of v i ≡ Some q → IsAsker v line b e
asker_by v line b i e false o p s q og before n a k r h oi live =
    let same : e.0 ≡ i = some_same e.0 i h in
    record {
      number = i;
      clock = q;
      begins = live;
      before = before;
      names_line = n;
      agent = a;
      kind = k;
      snoop = s;
      origin = oi;
      origin_clock = og;
      lasts = λ t l. plain_lasts v i b t o (ap (snoop_end_of v) (sym same) ∙ s) l;
      way = inl (record { request = r; same = same });
    }
asker_by v line b i e true o p s q og before n a k r h oi live =
    let f = reply_of_parts v e.0 i (first_where-found (is_reply_of v e.0) (live_count v) i h).1 in
    record {
      number = i;
      clock = q;
      begins = live;
      before = before;
      names_line = n;
      agent = a;
      kind = k;
      snoop = s;
      origin = oi;
      origin_clock = og;
      lasts = λ t l. reply_lasts v e.0 i f.0 b t o s f.1 f.2 l;
      way = inr (record { reply = r; clock = f.0; answered = f.1; number = f.2 });
    }

pub asker : (v : Trace) (line b : ℕ) (e : Ender) → Orderly v → IsEnder v line b e → IsAsker v line b e
unfolding origin_clock_of origin_of is_for_line
asker v line b e o p =
    let s = snooped_found v b e.0 p.number in
    let within = (snoop_end_of-clock v e.0 b s).within in
    let before = (origin_parts (length v) v v e.0 b p.clock (itself v o) s within p.begins).0 in
    let m = some_number v p.clock (if is_reply (live_request_of v e.0) then first_where (is_reply_of v e.0) (live_count v) else Some e.0) p.begins in
    asker_by v line b m.0 e (is_reply (live_request_of v e.0)) o p s p.clock p.begins before
    (named_by v line p.clock (origin_clock_of v e.0) p.begins p.for_line) p.agent p.kind refl m.1 m.1 m.2

-- a live request and its first clock name one another
pub number_is : (v : Trace) (i q : ℕ) → live_clock_of v i ≡ Some q → live_number_of v q ≡ i
unfolding live_clock_of
number_is v i q e =
    let p = nth_where-found (is_live v) i (length v) q e in
    let there = live_clock_of-number v q p.0 p.1 in
    elim (cases_lt (live_number_of v q) i) [
      | inl l ↦ absurd (let no = live_clock_of-rises v (live_number_of v q) i q q l there e in omega (arith, no))
      | inr m ↦ elim (cases_lt i (live_number_of v q)) [
        | inl l ↦ absurd (let no = live_clock_of-rises v i (live_number_of v q) q q l e there in omega (arith, no))
        | inr k ↦ omega (arith, m, k)
      ]
    ]

live_there : (v : Trace) (i q : ℕ) → live_clock_of v i ≡ Some q → is_live v q ≡ true
unfolding live_clock_of
live_there v i q e = (nth_where-found (is_live v) i (length v) q e).1

not_cancelled : (v : Trace) (q : ℕ) → is_live v q ≡ true → is_cancelled v q ≡ false
unfolding is_live
not_cancelled v q t = not-true (is_cancelled v q) (and_parts (line_at ADS v q) (not (is_cancelled v q)) t).1

no_reply : (v : Trace) (line q : ℕ) → names v line q ≡ true → is_reply (request_at v q) ≡ false
unfolding names
no_reply v line q t =
    not-true (is_reply (request_at v q)) (and_parts (line_at ADS v q && is_at (line_of v q) line) (not (is_reply (request_at v q))) t).1

pub request_no_reply : (v : Trace) (line i q : ℕ) → live_clock_of v i ≡ Some q → names v line q ≡ true
    → is_reply (live_request_of v i) ≡ false
unfolding live_request_of
request_no_reply v line i q e n = rw e (no_reply v line q n)

unfinished : (v : Trace) (line b d : ℕ) (e : Ender) (a : IsAsker v line b e) → d ≤ b → is_finished v d a.clock ≡ false
unfolding is_finished
unfinished v line b d e a l =
    false_from_ne_true (is_live v a.clock && is_before (last_clock_of v (live_number_of v a.clock)) d) (λ t.
    let p = is_before-parts (last_clock_of v (live_number_of v a.clock)) d
    (and_parts (is_live v a.clock) (is_before (last_clock_of v (live_number_of v a.clock)) d) t).1 in
    let late = a.lasts p.0 (ap (last_clock_of v) (sym (number_is v a.number a.clock a.begins)) ∙ p.1) in
    omega (arith, late, p.2, l))

still_there : (v : Trace) (line b d : ℕ) (e : Ender) (a : IsAsker v line b e) → a.clock < d → d ≤ b
    → is_outstanding v d a.clock ≡ true
unfolding is_outstanding is_dropped
still_there v line b d e a l m =
    rw (
      (named v line a.clock a.names_line).0,
      lt-ltb a.clock d l,
      no_reply v line a.clock a.names_line,
      not_cancelled v a.clock (live_there v a.number a.clock a.begins),
      unfinished v line b d e a m,
    ) refl

asks_still : (v : Trace) (line b : ℕ) (e : Ender) (a : IsAsker v line b e) (agent d : ℕ) → e.1.0 ≡ agent → a.clock < d → d ≤ b
    → is_still_asking v line agent d ≡ true
unfolding is_still_asking asks
asks_still v line b e a agent d same l m =
    any_where-at (λ q. names v line q && is_at (agent_at v q) agent && is_outstanding v d q) d a.clock l
    (rw (a.names_line, is_at-from (agent_at v a.clock) agent (a.agent ∙ ap (λ n. Some n) same), still_there v line b d e a l m) refl)

-- an earlier request of the agent is not outstanding where it asks again
pub not_twice : (first : List Joint) (v : Trace) (line b p : ℕ) (e f : Ender) (a : IsAsker v line b e) (k : IsAsker v line p f)
    → is_spoiled v line ≡ false → e.1.0 ≡ f.1.0 → a.clock < k.clock → k.clock ≤ b
    → is_asked_twice first v (k.clock + 1) ≡ false → ⊥
unfolding is_asked_twice
not_twice first v line b p e f a k s same l m unbroken =
    let back : k.clock + 1 - 1 ≡ k.clock = omega arith in
    let asked : is_still_asking v line f.1.0 k.clock ≡ true = asks_still v line b e a f.1.0 k.clock same l m in
    both_ways (at_decoding v (k.clock + 1) (λ q line a. is_still_asking v line a q)) unbroken
    (decoded v line (k.clock + 1) f.1.0 (λ q line a. is_still_asking v line a q) (omega arith)
    (ap (names v line) back ∙ k.names_line) s (ap (agent_at v) back ∙ k.agent)
    (ap (λ q. is_still_asking v line f.1.0 q) back ∙ asked))

-- a request that is Deferred has no HITM#
told_quiet : (handed : Bool) (request : Option Request) (code : ℕ)
    → is_deferral (told_with handed request code) ≡ true → handed ≡ false
unfolding is_deferral
told_quiet false request code e = refl
told_quiet true request code e =
    elim (cases_Bool (nat_eq code (response_code_of Failed))) [
      | inl t ↦ absurd (let h = rw t at e in let no : ⊥ = cc in no)
      | inr f ↦ absurd (let h = rw f at e in let no : ⊥ = cc in no)
    ]

quiet_by : (v : Trace) (i : ℕ) (o : Option ℕ)
    → is_some_and (option_map (λ r. told_by v i (response_code_at v r)) o) is_deferral ≡ true → line_at_snoop_end HITM v i ≡ false
unfolding is_some_and told_by
quiet_by v i None e = absurd (let no : ⊥ = cc in no)
quiet_by v i (Some r) e = told_quiet (line_at_snoop_end HITM v i) (live_request_of v i) (response_code_at v r) e

pub deferred_quiet : (v : Trace) (i : ℕ) → is_deferred v i ≡ true → line_at_snoop_end HITM v i ≡ false
unfolding is_deferred outcome_of
deferred_quiet v i e = quiet_by v i (live_response_of v i) e

-- a pending line
pub not_answered : (v : Trace) (i p b s : ℕ) → reply_clock_of v i ≡ Some p → snoop_end_of v (live_number_of v p) ≡ Some b → s ≤ b
    → is_answered_below v i s ≡ false
unfolding is_answered_below reply_number_of is_before is_some_and
not_answered v i p b s e f l = rw (e, f) (le-ltb b s l)

last_off : (a b c d : Bool) → a ≡ true → b ≡ true → c ≡ true → (a && b && c && d) ≡ false → d ≡ false
last_off a b c d e f g h = let k = rw (e, f, g) at h in k

in_order : (v : Trace) (i j s t : ℕ) → snoop_end_of v i ≡ Some s → snoop_end_of v j ≡ Some t → s < t
    → is_answered_below v i t ≡ false
    → is_some_and (snoop_end_of v i) (λ t. is_some_and (snoop_end_of v j) (λ s. nat_lt t s && not (is_answered_below v i s))) ≡ true
unfolding is_some_and
in_order v i j s t e f l n = rw (e, f, lt-ltb s t l, n) refl

same_line : (v : Trace) (line i j p q a : ℕ) → live_clock_of v i ≡ Some p → names v line p ≡ true → is_spoiled v line ≡ false
    → agent_at v p ≡ Some a → live_clock_of v j ≡ Some q → names v line q ≡ true
    → is_some_and (live_clock_of v i) (λ q. of_request v q (λ line a. is_some_and (live_clock_of v j) (names v line))) ≡ true
unfolding is_some_and
same_line v line i j p q a e n s g f m =
    rw (e, f) (of_request-at v line p a (λ line a. names v line q) n s g ∙ m)

asked_kind : (v : Trace) (j q : ℕ) (kind : Purpose) → live_clock_of v j ≡ Some q → purpose_at v q ≡ Some kind
    → asks_line kind ≡ true
    → is_some_and (option_and_then (purpose_at v) (live_clock_of v j)) asks_line ≡ true
unfolding is_some_and
asked_kind v j q kind e k t = rw (e, k) t

pub off_then : (a b : Bool) → (a && b) ≡ false → a ≡ true → b ≡ false
off_then a b h e = let k = rw e at h in k

given_to : (v : Trace) (i j : ℕ)
    → is_some_and (snoop_end_of v i) (λ t. is_some_and (snoop_end_of v j) (λ s. nat_lt t s && not (is_answered_below v i s))) ≡ true
    → is_some_and (live_clock_of v i) (λ q. of_request v q (λ line a. is_some_and (live_clock_of v j) (names v line))) ≡ true
    → is_some_and (option_and_then (purpose_at v) (live_clock_of v j)) asks_line ≡ true
    → is_given_again_to v i j ≡ false → is_served_or_deferred v j ≡ false
unfolding is_given_again_to
given_to v i j x y z h =
    last_off (is_some_and (snoop_end_of v i) (λ t. is_some_and (snoop_end_of v j) (λ s. nat_lt t s && not (is_answered_below v i s))))
    (is_some_and (live_clock_of v i) (λ q. of_request v q (λ line a. is_some_and (live_clock_of v j) (names v line))))
    (is_some_and (option_and_then (purpose_at v) (live_clock_of v j)) asks_line) (is_served_or_deferred v j) x y z h

pub not_given : (first : List Joint) (v : Trace) (line c i j p q a s t : ℕ) (kind : Purpose) → is_given_again first v c ≡ false
    → is_deferred v i ≡ true → snoop_end_of v i ≡ Some s → snoop_end_of v j ≡ Some t → s < t → is_answered_below v i t ≡ false
    → live_clock_of v i ≡ Some p → names v line p ≡ true → is_spoiled v line ≡ false → agent_at v p ≡ Some a
    → live_clock_of v j ≡ Some q → names v line q ≡ true → purpose_at v q ≡ Some kind → asks_line kind ≡ true
    → is_served_or_deferred v j ≡ false
unfolding is_given_again
not_given first v line c i j p q a s t kind h d e f l n ep np sp g eq nq k ask =
    let outer = any_where-none (λ i. is_deferred v i && any_where (is_given_again_to v i) (live_count v)) (live_count v) h i (live_below_count v i p ep) in
    let inner = any_where-none (is_given_again_to v i) (live_count v)
    (off_then (is_deferred v i) (any_where (is_given_again_to v i) (live_count v)) outer d) j (live_below_count v j q eq) in
    given_to v i j (in_order v i j s t e f l n) (same_line v line i j p q a ep np sp g eq nq) (asked_kind v j q kind eq k ask) inner
