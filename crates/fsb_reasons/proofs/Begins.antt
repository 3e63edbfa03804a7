-- Reasons of the rules for a request that begins: 2 to 7.
use Rattle.std.proofs.Common.{ℕ, ◌+◌, ◌-◌, ◌/◌, ◌%◌, ◌<◌, ◌≤◌, ◌≡◌, true, false, nat_lt}
use Rattle.std.proofs.Common.{Option, Some, None, Err, is_none, is_some, List, [], ◌∷◌, length, slice_get, refl, sym, ap, subst, ◌∙◌}
use Rattle.std.proofs.Common.{arith, inl, inr}
use Rattle.std.proofs.lemmas.Bool.{cases_Bool, cases_lt, and_parts, and_from, leb-true, le-leb, le-ltb, lt-ltb}
use Rattle.std.proofs.lemmas.Bool.{not-true, not_from_false, cases_eq}
use Rattle.std.proofs.Math.Nat.{mod-lt}
use Rattle.std.specs.Option.{option_map, option_and_then}
use Rattle.fsb_count.specs.Options.{is_some_and}
use Rattle.fsb_count.proofs.Interface.{first_where-off, first_where-none, is_none-none}
use Rattle.fsb_signal.specs.declared.lines.TheConstants.Lines.{ADS, BNR, LOCK, BPRI}
use Rattle.fsb_signal.specs.declared.marks.Marks.{Marks}
use Rattle.fsb_signal.specs.Samples.{line_at}
use Rattle.fsb_encode.specs.declared.decoding.DecodeFault.{DecodeFault}
use Rattle.fsb_encode.specs.declared.decoding.DecodeFault.TheVariants.{BadCode, BadLen, BadField}
use Rattle.fsb_encode.specs.declared.request.Pair.{Pair}
use Rattle.fsb_encode.specs.declared.request.Request.{Request}
use Rattle.fsb_encode.specs.Decoded.{is_code, kind_of, request_of, decoded}
use Rattle.fsb_trace.specs.declared.who.Who.{Who}
use Rattle.fsb_trace.specs.declared.who.Who.TheVariants.{Symmetric, Priority}
use Rattle.fsb_trace.specs.At.{Trace, line_back, known_pair_at, request_at}
use Rattle.fsb_trace.specs.Winner.{bus_request_of, is_agent, first_in_order, agent_in_order, asks_in_order}
use Rattle.fsb_trace.specs.Winner.{first_asking, last_if_asking, winner_by, requesters_before, winner_at}
use Rattle.fsb_trace.specs.Winner.{last_agent, last_symmetric}
use Rattle.fsb_trace.specs.Requests.{is_reply}
use Rattle.fsb_trace.specs.Flight.{in_flight}
use Rattle.fsb_trace.specs.Rules.{is_request_too_soon, is_code_unlawful, is_queue_full, is_request_blocked}
use Rattle.fsb_trace.specs.Rules.{has_no_winner, is_own_id, is_identified, is_identity_wrong}
use Rattle.fsb_trace.proofs.Interface.{winner_after-low, winner_after-high, winner_by-locked, winner_by-priority}
use Rattle.fsb_trace.proofs.Interface.{winner_by-symmetric}
use Rattle.fsb_reasons.specs.declared.reason.Reason.TheVariants.{AtStart, TooSoon, UnknownBits, Unlawful, QueueFull, Blocked, NotArbitrated, Locked, NoneAsks, NoId, ReplyByOther, IdOfOther}
use Rattle.fsb_reasons.specs.RuleOf.{rule_of}
use Rattle.fsb_reasons.specs.Holds.{Holds, HasReason}
use Rattle.fsb_reasons.proofs.Words.{or_first, or_second, or_third, or_last, back_parts, back_from, back_fails, last_found, last_one}
use Rattle.fsb_reasons.proofs.Words.{last_two}

-- 2

pub at_start-sound : (m : Marks) (v : Trace) (c : ℕ) → Holds m v c AtStart → is_request_too_soon v c ≡ true
unfolding is_request_too_soon
at_start-sound m v c h = and_from _ _ h.0 (or_first _ _ _ (lt-ltb c 2 h.1))

pub too_soon-sound : (m : Marks) (v : Trace) (c before earliest : ℕ) → Holds m v c (TooSoon before earliest)
    → is_request_too_soon v c ≡ true
unfolding is_request_too_soon
too_soon-sound m v c before earliest h =
    let f = last_found (line_at ADS v) c before h.1 in
    let low : before < c = f.0 in
    let next : earliest ≡ before + 3 = h.2 in
    let early : c < earliest = h.3 in
    elim (cases_eq (before + 1) c) [
      | inl e ↦ and_from _ _ h.0 (or_second _ _ _ (back_from ADS v c 1 before e f.1))
      | inr other ↦ elim (cases_eq (before + 2) c) [
        | inl e ↦
            and_from _ _ h.0 (or_third (nat_lt c 2) (line_back ADS v c 1) _ (back_from ADS v c 2 before e f.1))
        | inr far ↦ absurd (omega (arith, other, far))
      ]
    ]

pub reason_2 : (m : Marks) (v : Trace) (c : ℕ) → is_request_too_soon v c ≡ true → HasReason m v c 2
unfolding is_request_too_soon rule_of
reason_2 m v c t =
    let p = and_parts _ _ t in
    elim (cases_lt c 2) [
      | inl low ↦ record { reason = AtStart; rule = refl; holds = (p.0, low) }
      | inr high ↦ elim (cases_Bool (line_back ADS v c 1)) [
        | inl one ↦
            let b = back_parts ADS v c 1 one in
            record {
              reason = TooSoon (c - 1) (c - 1 + 3);
              rule = refl;
              holds = (p.0, last_one (line_at ADS v) c (c - 1) (omega arith) b.1, refl, omega arith);
            }
        | inr other ↦
            let two = or_last _ _ _ p.1 (le-ltb c 2 high) other in
            let b = back_parts ADS v c 2 two in
            let same : c - 1 ≡ c - 2 + 1 = omega (arith, high) in
            let off : line_at ADS v (c - 2 + 1) ≡ false =
            subst (λ x. line_at ADS v x ≡ false) same (back_fails ADS v c 1 other (omega arith)) in
            record {
              reason = TooSoon (c - 2) (c - 2 + 3);
              rule = refl;
              holds = (p.0, last_two (line_at ADS v) c (c - 2) (omega arith) off b.1, refl, omega arith);
            }
      ]
    ]

-- 3

second_unknown : (a : Option Pair) → option_and_then (λ x. option_and_then (λ y. request_of x y) None) a ≡ None
second_unknown None = refl
second_unknown (Some a) = refl

first_none : (v : Trace) (q : ℕ) → known_pair_at v q ≡ None → request_at v q ≡ None
unfolding request_at
first_none v q e = rw e refl

second_none : (v : Trace) (q : ℕ) → known_pair_at v (q + 1) ≡ None → request_at v q ≡ None
unfolding request_at
second_none v q e = rw e (second_unknown (known_pair_at v q))

unlawful : (v : Trace) (c : ℕ) → line_back ADS v c 1 ≡ true → request_at v (c - 1) ≡ None → is_code_unlawful v c ≡ true
unfolding is_code_unlawful
unlawful v c t e = and_from _ _ t (ap (λ o. is_none o) e)

pub unknown_bits-sound : (m : Marks) (v : Trace) (c clock : ℕ) → Holds m v c (UnknownBits clock)
    → is_code_unlawful v c ≡ true
unknown_bits-sound m v c clock h =
    elim (h.2) [
      | inl e ↦ unlawful v c h.0 (first_none v (c - 1) (subst (λ x. known_pair_at v x ≡ None) e h.1))
      | inr e ↦ unlawful v c h.0 (second_none v (c - 1) (subst (λ x. known_pair_at v x ≡ None) e.0 h.1))
    ]

pub unlawful-sound : (m : Marks) (v : Trace) (c : ℕ) (fault : DecodeFault) → Holds m v c (Unlawful fault)
    → is_code_unlawful v c ≡ true
unlawful-sound m v c fault h = unlawful v c h.0 h.1

faulty : (a b : Pair) → request_of a b ≡ None → (fault : DecodeFault) × (decoded a b ≡ Err fault)
unfolding decoded
faulty a b e =
    elim (cases_Bool (is_code a.req)) [
      | inl t ↦ elim (cases_Bool (is_some (kind_of a.req b.req))) [
        | inl u ↦ (BadField, rw (t, u, e) refl)
        | inr f ↦ (BadLen b.req, rw (t, f) refl)
      ]
      | inr f ↦ (BadCode a.req, rw f refl)
    ]

unlawful-cases : (m : Marks) (v : Trace) (c : ℕ) (x y : Option Pair) → line_back ADS v c 1 ≡ true
    → known_pair_at v (c - 1) ≡ x → known_pair_at v (c - 1 + 1) ≡ y → request_at v (c - 1) ≡ None → HasReason m v c 3
unfolding rule_of request_at
unlawful-cases m v c None y t e f n =
    record { reason = UnknownBits (c - 1); rule = refl; holds = (t, e, inl refl) }
unlawful-cases m v c (Some a) None t e f n =
    record { reason = UnknownBits (c - 1 + 1); rule = refl; holds = (t, f, inr (refl, ap (λ o. is_some o) e)) }
unlawful-cases m v c (Some a) (Some b) t e f n =
    let none : request_of a b ≡ None = rw (e, f) at n in
    let g = faulty a b none in
    record { reason = Unlawful g.0; rule = refl; holds = (t, n, (a, b, e, f, g.1)) }

pub reason_3 : (m : Marks) (v : Trace) (c : ℕ) → is_code_unlawful v c ≡ true → HasReason m v c 3
unfolding is_code_unlawful
reason_3 m v c t =
    let p = and_parts _ _ t in
    unlawful-cases m v c (known_pair_at v (c - 1)) (known_pair_at v (c - 1 + 1)) p.0 refl refl (is_none-none _ p.1)

-- 4

pub queue_full-sound : (m : Marks) (v : Trace) (c n oldest : ℕ) → Holds m v c (QueueFull n oldest)
    → is_queue_full v c ≡ true
unfolding is_queue_full
queue_full-sound m v c n oldest h =
    and_from _ _ h.0 (le-leb 8 (length (in_flight v c)) (subst (λ x. 8 ≤ x) (sym h.1) h.2))

first_there : (xs : List ℕ) → 8 ≤ length xs → (x : ℕ) × (slice_get xs 0 ≡ Some x)
first_there [] l = absurd (omega (arith, l))
first_there (x ∷ xs) l = (x, refl)

pub reason_4 : (m : Marks) (v : Trace) (c : ℕ) → is_queue_full v c ≡ true → HasReason m v c 4
unfolding is_queue_full rule_of
reason_4 m v c t =
    let p = and_parts _ _ t in
    let many : 8 ≤ length (in_flight v c) = leb-true 8 (length (in_flight v c)) p.1 in
    let first = first_there (in_flight v c) many in
    record {
      reason = QueueFull (length (in_flight v c)) first.0;
      rule = refl;
      holds = (p.0, refl, many, first.1);
    }

-- 5

pub blocked-sound : (m : Marks) (v : Trace) (c clock : ℕ) → Holds m v c (Blocked clock) → is_request_blocked v c ≡ true
unfolding is_request_blocked
blocked-sound m v c clock h = and_from _ _ h.0 (back_from BNR v c 2 clock h.1 h.2)

pub reason_5 : (m : Marks) (v : Trace) (c : ℕ) → is_request_blocked v c ≡ true → HasReason m v c 5
unfolding is_request_blocked rule_of
reason_5 m v c t =
    let p = and_parts _ _ t in
    let b = back_parts BNR v c 2 p.1 in
    let low : 2 ≤ c = b.0 in
    record { reason = Blocked (c - 2); rule = refl; holds = (p.0, (omega (arith, low)), b.1) }

-- 6

no_winner : (v : Trace) (c : ℕ) → line_at ADS v c ≡ true → winner_at v c ≡ None → has_no_winner v c ≡ true
unfolding has_no_winner
no_winner v c t e = and_from _ _ t (ap (λ o. is_none o) e)

winner_low : (v : Trace) (c : ℕ) → c < 2 → winner_at v c ≡ None
unfolding winner_at
winner_low v c l = winner_after-low v c (requesters_before v c) (lt-ltb c 2 l)

winner_high : (v : Trace) (c : ℕ) → 2 ≤ c → winner_at v c ≡ winner_by v (c - 2) (requesters_before v c)
unfolding winner_at
winner_high v c l = winner_after-high v c (requesters_before v c) (le-ltb c 2 l)

winner_locked : (v : Trace) (c : ℕ) → 2 ≤ c → line_at LOCK v (c - 2) ≡ true
    → winner_at v c ≡ last_if_asking v (c - 2) (last_agent v c)
unfolding last_agent
winner_locked v c l t = winner_high v c l ∙ winner_by-locked v (c - 2) (requesters_before v c) t

winner_asking : (v : Trace) (c : ℕ) → 2 ≤ c → line_at LOCK v (c - 2) ≡ false → line_at BPRI v (c - 2) ≡ false
    → winner_at v c ≡ option_map Symmetric (first_asking v (c - 2) (first_in_order (last_symmetric v c)))
unfolding last_symmetric
winner_asking v c l f g = winner_high v c l ∙ winner_by-symmetric v (c - 2) (requesters_before v c) f g

none_asking : (v : Trace) (d first : ℕ) → ((a : ℕ) → a < 4 → line_at (bus_request_of a) v d ≡ false)
    → first_asking v d first ≡ None
unfolding first_asking asks_in_order agent_in_order
none_asking v d first none =
    ap (option_map (agent_in_order first)) (first_where-off (asks_in_order v d first) 4
    (λ n l. none ((first + n) % 4) (mod-lt (first + n) (omega arith))))

first_below : (o : Option ℕ) → first_in_order o < 4
unfolding first_in_order
first_below None = omega arith
first_below (Some a) = mod-lt (a + 1) (omega arith)

-- each agent has its place in the order
place_of : (first a : ℕ) → first < 4 → a < 4 → (n : ℕ) × (n < 4) × ((first + n) % 4 ≡ a)
place_of first a l k =
    elim (cases_lt a first) [
      | inl less ↦ (a + 4 - first, omega (arith, l, k, less), omega (arith, l, k, less))
      | inr more ↦ (a - first, omega (arith, l, k, more), omega (arith, l, k, more))
    ]

mapped_none : (first : ℕ) (o : Option ℕ) → option_map (agent_in_order first) o ≡ None → o ≡ None
mapped_none first None e = refl
mapped_none first (Some n) e = absurd (let no : ⊥ = cc in no)

symmetric_none : (o : Option ℕ) → option_map Symmetric o ≡ None → o ≡ None
symmetric_none None e = refl
symmetric_none (Some n) e = absurd (let no : ⊥ = cc in no)

asking_none : (v : Trace) (d first : ℕ) → first < 4 → first_asking v d first ≡ None
    → (a : ℕ) → a < 4 → line_at (bus_request_of a) v d ≡ false
unfolding first_asking asks_in_order agent_in_order
asking_none v d first l e a k =
    let p = place_of first a l k in
    let off = first_where-none (asks_in_order v d first) 4 (mapped_none first _ e) p.0 p.1 in
    subst (λ x. line_at (bus_request_of x) v d ≡ false) p.2 off

pub not_arbitrated-sound : (m : Marks) (v : Trace) (c : ℕ) → Holds m v c NotArbitrated → has_no_winner v c ≡ true
not_arbitrated-sound m v c h = no_winner v c h.0 (winner_low v c h.1)

pub locked-sound : (m : Marks) (v : Trace) (c : ℕ) (holder : Option Who) → Holds m v c (Locked holder)
    → has_no_winner v c ≡ true
locked-sound m v c holder h =
    no_winner v c h.0 (winner_locked v c h.1 h.2 ∙ ap (last_if_asking v (c - 2)) h.3 ∙ h.4)

pub none_asks-sound : (m : Marks) (v : Trace) (c clock : ℕ) → Holds m v c (NoneAsks clock) → has_no_winner v c ≡ true
none_asks-sound m v c clock h =
    let at : clock + 2 ≡ c = h.1 in
    let same : clock ≡ c - 2 = omega (arith, at) in
    let lock = subst (λ x. line_at LOCK v x ≡ false) same h.2 in
    let bpri = subst (λ x. line_at BPRI v x ≡ false) same h.3 in
    let none = none_asking v (c - 2) (first_in_order (last_symmetric v c))
    (λ a l. subst (λ x. line_at (bus_request_of a) v x ≡ false) same (h.4 a l)) in
    no_winner v c h.0 (winner_asking v c (omega (arith, at)) lock bpri ∙ ap (option_map Symmetric) none)

-- where there is no winner, by LOCK# two clocks before
pub unwon-locked : (m : Marks) (v : Trace) (c : ℕ) → line_at ADS v c ≡ true → winner_at v c ≡ None → 2 ≤ c
    → line_at LOCK v (c - 2) ≡ true → Holds m v c (Locked (last_agent v c))
unwon-locked m v c ads none high lock = (ads, high, lock, refl, sym (winner_locked v c high lock) ∙ none)

pub unwon-free : (m : Marks) (v : Trace) (c : ℕ) → line_at ADS v c ≡ true → winner_at v c ≡ None → 2 ≤ c
    → line_at LOCK v (c - 2) ≡ false → Holds m v c (NoneAsks (c - 2))
unwon-free m v c ads none high free =
    elim (cases_Bool (line_at BPRI v (c - 2))) [
      | inl bpri ↦
          let wins = winner_high v c high ∙ winner_by-priority v (c - 2) (requesters_before v c) free bpri in
          absurd (let no : ⊥ = cc in no)
      | inr quiet ↦
          let asking = symmetric_none _ (sym (winner_asking v c high free quiet) ∙ none) in (
            ads,
            omega (arith, high),
            free,
            quiet,
            asking_none v (c - 2) _ (first_below (last_symmetric v c)) asking,
          )
    ]

pub reason_6 : (m : Marks) (v : Trace) (c : ℕ) → has_no_winner v c ≡ true → HasReason m v c 6
unfolding has_no_winner rule_of
reason_6 m v c t =
    let p = and_parts _ _ t in
    let none : winner_at v c ≡ None = is_none-none _ p.1 in
    elim (cases_lt c 2) [
      | inl low ↦ record { reason = NotArbitrated; rule = refl; holds = (p.0, low) }
      | inr high ↦ elim (cases_Bool (line_at LOCK v (c - 2))) [
        | inl lock ↦ record {
          reason = Locked (last_agent v c);
          rule = refl;
          holds = unwon-locked m v c p.0 none high lock;
        }
        | inr free ↦ record {
          reason = NoneAsks (c - 2);
          rule = refl;
          holds = unwon-free m v c p.0 none high free;
        }
      ]
    ]

-- 7

wrong : (v : Trace) (c : ℕ) → line_back ADS v c 1 ≡ true
    → is_identified (winner_at v (c - 1)) (request_at v (c - 1)) ≡ false → is_identity_wrong v c ≡ true
unfolding is_identity_wrong
wrong v c t f = and_from _ _ t (not_from_false _ f)

pub identified-none : (winner : Option Who) → is_identified winner None ≡ false
unfolding is_identified is_reply is_some_and
identified-none winner = refl

pub identified-reply : (winner : Option Who) (request : Option Request) → is_reply request ≡ true
    → is_identified winner request ≡ is_agent winner Priority
unfolding is_identified
identified-reply winner request t = rw t refl

pub identified-other : (winner : Option Who) (r : Request) → is_reply (Some r) ≡ false
    → is_identified winner (Some r) ≡ is_agent winner (Symmetric (r.did / 16))
unfolding is_identified is_some_and is_own_id is_agent
identified-other winner r f = rw f refl

pub no_id-sound : (m : Marks) (v : Trace) (c : ℕ) → Holds m v c NoId → is_identity_wrong v c ≡ true
no_id-sound m v c h = wrong v c h.0 (ap (is_identified (winner_at v (c - 1))) h.1 ∙ identified-none _)

pub reply_by_other-sound : (m : Marks) (v : Trace) (c : ℕ) (winner : Option Who) → Holds m v c (ReplyByOther winner)
    → is_identity_wrong v c ≡ true
reply_by_other-sound m v c winner h =
    wrong v c h.0 (identified-reply _ _ h.1 ∙ ap (λ w. is_agent w Priority) h.2 ∙ h.3)

pub id_of_other-sound : (m : Marks) (v : Trace) (c did : ℕ) (winner : Option Who) → Holds m v c (IdOfOther did winner)
    → is_identity_wrong v c ≡ true
id_of_other-sound m v c did winner h =
    let r : Request = (h.2).0 in
    let there : request_at v (c - 1) ≡ Some r = (h.2).1 in
    let other : is_reply (Some r) ≡ false = subst (λ o. is_reply o ≡ false) there h.1 in
    wrong v c h.0
    (ap (is_identified (winner_at v (c - 1))) there ∙ identified-other _ r other
    ∙ ap (λ d. is_agent (winner_at v (c - 1)) (Symmetric (d / 16))) (h.2).2
    ∙ ap (λ w. is_agent w (Symmetric (did / 16))) h.3 ∙ h.4)

identity-cases : (m : Marks) (v : Trace) (c : ℕ) (o : Option Request) → line_back ADS v c 1 ≡ true
    → request_at v (c - 1) ≡ o → is_identified (winner_at v (c - 1)) o ≡ false → HasReason m v c 7
unfolding rule_of
identity-cases m v c None t e f = record { reason = NoId; rule = refl; holds = (t, e) }
identity-cases m v c (Some r) t e f =
    elim (cases_Bool (is_reply (Some r))) [
      | inl reply ↦ record {
        reason = ReplyByOther (winner_at v (c - 1));
        rule = refl;
        holds = (t, ap (λ o. is_reply o) e ∙ reply, refl, sym (identified-reply _ _ reply) ∙ f);
      }
      | inr other ↦ record {
        reason = IdOfOther r.did (winner_at v (c - 1));
        rule = refl;
        holds = (t, ap (λ o. is_reply o) e ∙ other, (r, e, refl), refl, sym (identified-other _ r other) ∙ f);
      }
    ]

pub reason_7 : (m : Marks) (v : Trace) (c : ℕ) → is_identity_wrong v c ≡ true → HasReason m v c 7
unfolding is_identity_wrong
reason_7 m v c t =
    let p = and_parts _ _ t in
    identity-cases m v c (request_at v (c - 1)) p.0 refl (not-true _ p.1)
