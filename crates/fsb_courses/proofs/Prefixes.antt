-- What a rule finds at the last clock of a trace it finds there in each longer one.
use Rattle.std.proofs.Common.{ℕ, zero, suc, ◌+◌, ◌-◌, ◌<◌, ◌≤◌, ◌≡◌, Bool, true, false, ◌&&◌, length, take, List, [], ◌∷◌}
use Rattle.std.proofs.Common.{Option, Some, None, refl, sym, ap, ◌∙◌, arith, inl, inr, if◌then◌else◌, nat_lt}
use Rattle.std.specs.Option.{option_and_then}
use Rattle.std.specs.Prelude.{slice_get}
use Rattle.std.proofs.lemmas.Bool.{and_parts, both_ways, cases_lt, false_from_ne_true}
use Rattle.std.proofs.lemmas.List.{length-take-le}
use Rattle.fsb_count.specs.Options.{is_some_and}
use Rattle.fsb_count.proofs.Interface.{any_where-same, first_where-found}
use Rattle.fsb_signal.specs.declared.lines.TheConstants.Lines.{HIT}
use Rattle.fsb_signal.specs.declared.marks.Marks.{Marks}
use Rattle.fsb_encode.specs.declared.request.Pair.{Pair}
use Rattle.fsb_encode.specs.Decoded.{request_of}
use Rattle.fsb_trace.specs.Agree.{AgreeTo}
use Rattle.fsb_trace.specs.At.{Trace, known_pair, known_pair_at, request_at}
use Rattle.fsb_trace.specs.Flight.{is_outstanding}
use Rattle.fsb_trace.specs.Requests.{is_reply, live_count, live_request_of}
use Rattle.fsb_trace.specs.Snoop.{snoop_end_of}
use Rattle.fsb_trace.specs.Verdict.{is_broken, verdict}
use Rattle.fsb_trace.proofs.Interface.{line_at-agree, line_at_snoop_end-stays, live_request_of-stays, snoop_end_of-clock}
use Rattle.fsb_trace.proofs.Interface.{snoop_end_of-stays, verdict-least, verdict-stays}
use Rattle.fsb_trace.proofs.RuleSteps.{breaks-past}
use Rattle.fsb_trace.specs.Rules.{breaks}
use Rattle.fsb_owners.specs.Joint.{Joint}
use Rattle.fsb_owners.specs.Possible.{after_begin, asking, possible, possible_begun}
use Rattle.fsb_owners.specs.Rules.{at_decoding, has_other_hit, is_asked_twice, is_hit_of_reply_wrong, of_request}
use Rattle.fsb_owners.specs.Shown.{agent_at, asks, is_reply_of, is_spoiled, is_still_asking, names, origin_clock_of, origin_of}
use Rattle.fsb_owners.specs.Shown.{purpose_at, snooped_at}
use Rattle.fsb_owner_laws.proofs.AgreeEnders.{origin-stays, origin_parts, reply_of_parts, snooped_found, snooped_from}
use Rattle.fsb_owner_laws.proofs.AgreePossible.{outstanding-agree, some_and}
use Rattle.fsb_owner_laws.proofs.AgreeWords.{Alike, agent_at-agree, asks-agree, names-agree, put_off, reply_behind, reply_found}
use Rattle.fsb_owner_laws.proofs.AgreeWords.{some_same, turned_round}
use Rattle.fsb_owner_laws.proofs.BrokenRules.{decoded, of_request-at}
use Rattle.fsb_owner_laws.proofs.Sound.{prefix-agree, slice_get-take}
use Rattle.fsb_courses.proofs.Spoiled.{sound_before}
use Rattle.fsb_courses.proofs.Tests.{decoding_out, of_request_out}

-- the first samples of a trace

pub size : (w : Trace) (c : ℕ) → c < length w → length (take (c + 1) w) ≡ c + 1
size w c l = length-take-le (c + 1) w (omega (arith, l))

pub prefixes_agree : (w : Trace) (d c : ℕ) → d ≤ c → c < length w → AgreeTo (d + 1) (take (d + 1) w) (take (c + 1) w)
prefixes_agree w d c m l =
    let one = size w d (omega (arith, m, l)) in
    let two = size w c l in
    record {
      left = omega (arith, one);
      right = omega (arith, two, m);
      same = λ k b. slice_get-take (d + 1) w k b ∙ sym (slice_get-take (c + 1) w k (omega (arith, b, m)));
    }

-- there are twenty phase rules
rule_low : (m : Marks) (w : Trace) (c j : ℕ) → is_broken m w c j ≡ true → j < 21
unfolding is_broken
rule_low m w c j t =
    elim (cases_lt j 21) [
      | inl low ↦ low
      | inr high ↦
          let p = and_parts (nat_lt c (length w)) (breaks m (take (c + 1) w) c j) t in
          absurd (both_ways _ (breaks-past m (take (c + 1) w) c j (omega (arith, high))) p.1)
    ]

phases_by : (m : Marks) (w : Trace) (d : ℕ) → d < length w → ((e k : ℕ) → e ≤ d → k < 21 → is_broken m w e k ≡ false)
    → (o : Option (ℕ × ℕ)) → verdict m (take (d + 1) w) ≡ o → verdict m (take (d + 1) w) ≡ None
phases_by m w d l h None f = f
phases_by m w d l h (Some (e, k)) f =
    let one = size w d l in
    let there = verdict-least m (take (d + 1) w) e k f in
    let below : e < d + 1 = (let b = there.0 in omega (arith, b, one)) in
    let now = verdict-least m w e k (verdict-stays (d + 1) m (take (d + 1) w) w e k (prefix-agree w d l) below f) in
    absurd (both_ways (is_broken m w e k) (h e k (omega (arith, below)) (rule_low m w e k now.1)) now.1)

-- the first samples break no phase rule, where none is broken at their clocks
pub phases_before : (m : Marks) (w : Trace) (d : ℕ) → d < length w
    → ((e k : ℕ) → e ≤ d → k < 21 → is_broken m w e k ≡ false) → verdict m (take (d + 1) w) ≡ None
phases_before m w d l h = phases_by m w d l h (verdict m (take (d + 1) w)) refl

-- what begins at the last clock is not decoded yet

past_end : (w : Trace) (c : ℕ) → length w ≤ c → slice_get w c ≡ None
past_end [] c l = refl
past_end (x ∷ w) zero l = absurd (omega (arith, l))
past_end (x ∷ w) (suc c) l = past_end w c (omega (arith, l))

no_second : (o : Option Pair) → option_and_then (λ a. option_and_then (λ b. request_of a b) None) o ≡ None
no_second None = refl
no_second (Some a) = refl

undecoded : (v : Trace) (c : ℕ) → length v ≤ c + 1 → request_at v c ≡ None
unfolding request_at known_pair_at
undecoded v c l = rw (past_end v (c + 1) l) (no_second (option_and_then known_pair (slice_get v c)))

no_purpose : (v : Trace) (c : ℕ) → length v ≤ c + 1 → purpose_at v c ≡ None
unfolding purpose_at
no_purpose v c l = rw (undecoded v c l) refl

asks_nothing : (b : Bool) (o : Option ℕ) (set : List Joint) → (if b then asking o None set else set) ≡ set
unfolding asking
asks_nothing true None set = refl
asks_nothing true (Some a) set = refl
asks_nothing false o set = refl

pub begun_last : (first : List Joint) (v : Trace) (line c : ℕ) → length v ≤ c + 1
    → possible_begun first v line c ≡ possible first v line c
unfolding possible_begun after_begin
begun_last first v line c l =
    ap (λ k. if names v line c then asking (agent_at v c) k (possible first v line c) else possible first v line c) (no_purpose v c l)
    ∙ asks_nothing (names v line c) (agent_at v c) (possible first v line c)

-- rule 21

still_asking-agree : (n : ℕ) (w v : Trace) (line a b : ℕ) → Alike n w v → b < n
    → is_still_asking w line a b ≡ is_still_asking v line a b
unfolding is_still_asking
still_asking-agree n w v line a b k l =
    any_where-same (λ q. asks w line a q && is_outstanding w b q) (λ q. asks v line a q && is_outstanding v b q) b
    (record { same = λ q m. rw (asks-agree n w v line a q k.agree (omega (arith, l, m)), outstanding-agree n w v b q k l m) refl })

pub asked_before : (n : ℕ) (first : List Joint) (w v : Trace) (e : ℕ) → Alike n w v → length w ≤ n → e < n
    → is_asked_twice first w e ≡ false → is_asked_twice first v e ≡ false
unfolding is_asked_twice
asked_before n first w v e k s l h =
    false_from_ne_true (at_decoding v e (λ q line a. is_still_asking v line a q)) (λ t.
    let d = decoding_out v e (λ q line a. is_still_asking v line a q) t in
    let r = d.1 in
    let low = d.0 in
    let q = e - 1 in
    let near : q + 1 < n = omega (arith, low, l) in
    both_ways (at_decoding w e (λ q line a. is_still_asking w line a q)) h
    (decoded w r.line e r.agent (λ q line a. is_still_asking w line a q) (omega (arith, low))
    (names-agree n w v r.line q k.agree near ∙ r.named) (sound_before n w v r.line k s r.sound)
    (agent_at-agree n w v q k.agree (omega (arith, near)) ∙ r.is_agent)
    (still_asking-agree n w v r.line r.agent q k (omega (arith, near)) ∙ r.passes)))

-- rule 30

-- the snoop end of a request lies below that of its reply
deferred_before : (n : ℕ) (w v : Trace) (j i d : ℕ) → Alike n w v → snoop_end_of v j ≡ Some d → d < n → is_reply_of v j i ≡ true
    → (s : ℕ) × (snoop_end_of v i ≡ Some s) × (s < n)
deferred_before n w v j i d k e l t =
    let p = reply_of_parts v j i t in
    let o = put_off v i k.right p.1.deferred in
    let b = reply_behind v i p.0 (reply_found v i p.0 p.1.reply) in
    let same : b.0 ≡ o.response = some_same b.0 o.response (sym b.1 ∙ o.is_response) in
    let h = snoop_end_of-clock v j d e in
    let clock : p.0 ≡ h.clock = some_same p.0 h.clock (sym p.3 ∙ h.is_clock) in
    (o.snoop, o.is_snoop, (let x = b.2 in let y = o.before in let z = h.above in omega (arith, same, x, y, clock, z, l)))

replied_origin : (v : Trace) (j i : ℕ) → is_reply (live_request_of v j) ≡ true → origin_of v j ≡ Some i → is_reply_of v j i ≡ true
unfolding origin_of
replied_origin v j i r e = (first_where-found (is_reply_of v j) (live_count v) i (let h = rw r at e in h)).1

other_hit : (n : ℕ) (w v : Trace) (d i s : ℕ) → Alike n w v → snoop_end_of v i ≡ Some s → s < n → d < n
    → has_other_hit v d i ≡ true → has_other_hit w d i ≡ true
unfolding has_other_hit
other_hit n w v d i s k e m l t =
    let back = turned_round n w v k in
    rw (
      ← (line_at_snoop_end-stays HIT n v w i s back.agree m e),
      ← (line_at-agree HIT n v w d back.agree l),
    ) t

wrong_there : (first : List Joint) (w : Trace) (d j i q line a : ℕ) → snooped_at w d ≡ Some j
    → is_reply (live_request_of w j) ≡ true → origin_of w j ≡ Some i → has_other_hit w d i ≡ true
    → origin_clock_of w j ≡ Some q → names w line q ≡ true → is_spoiled w line ≡ false → agent_at w q ≡ Some a
    → is_hit_of_reply_wrong first w d ≡ true
unfolding is_hit_of_reply_wrong is_some_and
wrong_there first w d j i q line a s r o h c n u g =
    rw (s, r, o, h, c, of_request-at w line q a (λ line a. true) n u g) refl

pub hit_before : (n : ℕ) (first : List Joint) (w v : Trace) (d : ℕ) → Alike n w v → length w ≤ n → d < n
    → is_hit_of_reply_wrong first w d ≡ false → is_hit_of_reply_wrong first v d ≡ false
unfolding is_hit_of_reply_wrong
hit_before n first w v d k size l h =
    let of_line = λ (j : ℕ). is_some_and (origin_clock_of v j) (λ q. of_request v q (λ line a. true)) in
    let test = λ (j : ℕ). is_reply (live_request_of v j) && is_some_and (origin_of v j) (λ i. has_other_hit v d i) && of_line j in
    false_from_ne_true (is_some_and (snooped_at v d) test) (λ t.
    let j = some_and (snooped_at v d) test t in
    let p = and_parts (is_reply (live_request_of v j.0) && is_some_and (origin_of v j.0) (λ i. has_other_hit v d i)) (of_line j.0) j.2 in
    let r = and_parts (is_reply (live_request_of v j.0)) (is_some_and (origin_of v j.0) (λ i. has_other_hit v d i)) p.0 in
    let i = some_and (origin_of v j.0) (λ i. has_other_hit v d i) r.1 in
    let q = some_and (origin_clock_of v j.0) (λ q. of_request v q (λ line a. true)) p.1 in
    let b = of_request_out v q.0 (λ line a. true) q.2 in
    let back = turned_round n w v k in
    let s = snooped_found v d j.0 j.1 in
    let o = origin_parts n v w j.0 d q.0 back s l q.1 in
    let near : q.0 + 1 < n = (let x = o.0 in omega (arith, x, l)) in
    let f = deferred_before n w v j.0 i.0 d k s l (replied_origin v j.0 i.0 r.0 i.1) in
    both_ways (is_hit_of_reply_wrong first w d) h
    (wrong_there first w d j.0 i.0 q.0 b.line b.agent
    (snooped_from w d j.0 (snoop_end_of-stays n v w j.0 d back.agree l s))
    (ap is_reply (sym (live_request_of-stays n v w j.0 d back.agree l s)) ∙ r.0)
    (origin-stays n v w j.0 i.0 d back s l i.1)
    (other_hit n w v d i.0 f.0 k f.1 f.2 l i.2) o.1
    (names-agree n w v b.line q.0 k.agree near ∙ b.named) (sound_before n w v b.line k size b.sound)
    (agent_at-agree n w v q.0 k.agree (omega (arith, near)) ∙ b.is_agent)))
