-- Reasons of the rules for lines that stand alone: 1, 8 to 12, 17, 19 and 20.
use Rattle.std.proofs.Common.{ℕ, zero, suc, ◌+◌, ◌-◌, ◌%◌, ◌<◌, ◌≤◌, ◌≡◌, Bool, true, false, ◌&&◌, ◌||◌, not, nat_lt, nat_le, nat_eq}
use Rattle.std.proofs.Common.{Option, Some, None, length, slice_get, max, refl, sym, ap, subst, ◌∙◌, arith, inl, inr}
use Rattle.std.specs.Prelude.{◌==◌, ◌⊎◌}
use Rattle.std.proofs.lemmas.Bool.{cases_Bool, cases_lt, and_parts, and_from, and_cases, or_cases, or_left, or_right, leb-true}
use Rattle.std.proofs.lemmas.Bool.{le-leb, lt-ltb, ltb-true, not-true, not-false, not_from_false, both_ways}
use Rattle.std.specs.Option.{option_map, option_map_or}
use Rattle.fsb_count.specs.Options.{is_some_and, is_before, greater_of}
use Rattle.fsb_count.specs.Clocks.{last_where}
use Rattle.fsb_count.proofs.Interface.{first_where-found, any_where-found, any_where-at, any_where-none, is_before-parts}
use Rattle.fsb_count.proofs.Interface.{is_at-some, is_at-from}
use Rattle.fsb_signal.specs.declared.lines.Lines.{Lines}
use Rattle.fsb_signal.specs.declared.lines.TheConstants.Lines.{ADS, HIT, HITM, DEFER, DRDY}
use Rattle.fsb_signal.specs.declared.marks.Marks.{Marks}
use Rattle.fsb_signal.specs.declared.sample.Sample.{Sample}
use Rattle.fsb_signal.specs.Parity.{is_address_odd, is_request_odd, is_low_address_even, is_high_address_even}
use Rattle.fsb_signal.specs.Samples.{line_at, has_known_lines, is_known_word}
use Rattle.fsb_trace.specs.declared.who.Who.{Who}
use Rattle.fsb_trace.specs.declared.who.Who.TheVariants.{Symmetric, Priority}
use Rattle.fsb_trace.specs.At.{Trace, line_back}
use Rattle.fsb_trace.specs.Winner.{begins_at, request_line_of}
use Rattle.fsb_trace.specs.Requests.{live_count, live_clock_of, live_request_of, is_write_back, is_reply}
use Rattle.fsb_trace.specs.Snoop.{is_every_second_from, snoop_end_of, snoop_start_of, start_after_clock, start_after_end}
use Rattle.fsb_trace.specs.Snoop.{is_snoop_clock_of, is_snoop_clock}
use Rattle.fsb_trace.specs.Rules.{has_unknown_line, is_asked_wrongly, is_some_asked_wrongly, is_lock_alone, is_error_alone}
use Rattle.fsb_trace.specs.Rules.{is_snoop_line_alone, is_result_unfit_for, is_snoop_result_unfit, has_unknown_data}
use Rattle.fsb_trace.specs.Rules.{has_parity_at, is_address_parity_wrong, is_request_parity_wrong}
use Rattle.fsb_trace.specs.Rules.{is_marked_address_wrong, is_marked_request_wrong}
use Rattle.fsb_trace.proofs.Interface.{live_below_count}
use Rattle.fsb_reasons.specs.declared.reason.Concerned.{Concerned}
use Rattle.fsb_reasons.specs.declared.reason.SnoopLines.{SnoopLines}
use Rattle.fsb_reasons.specs.declared.reason.Reason.TheVariants.{UnknownLines, Dropped, Held, LockAlone, ErrorAlone, SnoopsOver, SnoopEarly, SnoopBetween, WriteBackSnooped, ReplySnooped, UnknownData, AddressParity, RequestParity}
use Rattle.fsb_reasons.specs.RuleOf.{rule_of}
use Rattle.fsb_reasons.specs.Holds.{Holds, HasReason, AreSnooped, IsSnooped, is_bus_agent, is_unsnooped, next_snoop}
use Rattle.fsb_reasons.proofs.Words.{or_first, line_within, live_there}

-- 1

unknown_there : (o : Option Sample) (lines : Lines) → option_map (λ s. s.unknown) o ≡ Some lines
    → (lines.0 == 0) ≡ false → option_map_or (λ s. not (has_known_lines s)) o false ≡ true
unknown_there None lines e f = absurd (let no : ⊥ = cc in no)
unknown_there (Some s) lines e f =
    let same : lines ≡ s.unknown = cc in
    not_from_false _ (subst (λ x. (x.0 == 0) ≡ false) same f)

pub unknown_lines-sound : (m : Marks) (v : Trace) (c : ℕ) (lines : Lines) → Holds m v c (UnknownLines lines)
    → has_unknown_line v c ≡ true
unfolding has_unknown_line
unknown_lines-sound m v c lines h = unknown_there (slice_get v c) lines h.0 h.1

unknown-cases : (m : Marks) (v : Trace) (c : ℕ) (o : Option Sample) → slice_get v c ≡ o
    → option_map_or (λ s. not (has_known_lines s)) o false ≡ true → HasReason m v c 1
unfolding rule_of
unknown-cases m v c None e t = absurd (let no : ⊥ = cc in no)
unknown-cases m v c (Some s) e t =
    record { reason = UnknownLines s.unknown; rule = refl; holds = (ap (option_map (λ x. x.unknown)) e, not-true _ t) }

pub reason_1 : (m : Marks) (v : Trace) (c : ℕ) → has_unknown_line v c ≡ true → HasReason m v c 1
unfolding has_unknown_line
reason_1 m v c t = unknown-cases m v c (slice_get v c) refl t

-- 8

dropped_wrongly : (v : Trace) (c : ℕ) (who : Who) → begins_at v (c - 1) who ≡ false
    → line_back (request_line_of who) v c 1 ≡ true → line_at (request_line_of who) v c ≡ false
    → is_asked_wrongly v c who ≡ true
unfolding is_asked_wrongly
dropped_wrongly v c who f t g = rw f (and_from _ _ t (not_from_false _ g))

held_wrongly : (v : Trace) (c : ℕ) (who : Who) → begins_at v (c - 1) who ≡ true → 1 ≤ c
    → line_at (request_line_of who) v c ≡ true → is_asked_wrongly v c who ≡ true
unfolding is_asked_wrongly
held_wrongly v c who t l u = rw t (and_from _ _ (le-leb 1 c l) u)

asked : (v : Trace) (c : ℕ) (who : Who) → is_bus_agent who ≡ true → is_asked_wrongly v c who ≡ true
    → is_some_asked_wrongly v c ≡ true
unfolding is_some_asked_wrongly is_bus_agent
asked v c (Symmetric a) k t =
    or_left _ _ (any_where-at (λ b. is_asked_wrongly v c (Symmetric b)) 4 a (ltb-true a 4 k) t)
asked v c Priority k t = or_right _ _ t

pub dropped-sound : (m : Marks) (v : Trace) (c : ℕ) (who : Who) → Holds m v c (Dropped who)
    → is_some_asked_wrongly v c ≡ true
dropped-sound m v c who h = asked v c who h.0 (dropped_wrongly v c who h.1 h.2 h.3)

pub held-sound : (m : Marks) (v : Trace) (c : ℕ) (who : Who) → Holds m v c (Held who)
    → is_some_asked_wrongly v c ≡ true
held-sound m v c who h = asked v c who h.0 (held_wrongly v c who h.2 h.1 h.3)

asked-reason : (m : Marks) (v : Trace) (c : ℕ) (who : Who) → is_bus_agent who ≡ true
    → is_asked_wrongly v c who ≡ true → HasReason m v c 8
unfolding is_asked_wrongly rule_of
asked-reason m v c who k t =
    elim (cases_Bool (begins_at v (c - 1) who)) [
      | inl b ↦
          let p = and_parts _ _ (rw b at t) in
          record { reason = Held who; rule = refl; holds = (k, leb-true 1 c p.0, b, p.1) }
      | inr f ↦
          let p = and_parts _ _ (rw f at t) in
          record { reason = Dropped who; rule = refl; holds = (k, f, p.0, not-true _ p.1) }
    ]

pub reason_8 : (m : Marks) (v : Trace) (c : ℕ) → is_some_asked_wrongly v c ≡ true → HasReason m v c 8
unfolding is_some_asked_wrongly is_bus_agent
reason_8 m v c t =
    elim (or_cases _ _ t) [
      | inl some ↦
          let k = any_where-found (λ b. is_asked_wrongly v c (Symmetric b)) 4 some in
          asked-reason m v c (Symmetric k.0) (lt-ltb k.0 4 k.1) k.2
      | inr priority ↦ asked-reason m v c Priority refl priority
    ]

-- 9

pub lock_alone-sound : (m : Marks) (v : Trace) (c : ℕ) → Holds m v c LockAlone → is_lock_alone v c ≡ true
unfolding is_lock_alone
lock_alone-sound m v c h = rw (h.0, h.1, h.2) refl

pub reason_9 : (m : Marks) (v : Trace) (c : ℕ) → is_lock_alone v c ≡ true → HasReason m v c 9
unfolding is_lock_alone rule_of
reason_9 m v c t =
    let p = and_parts _ _ t in
    let q = and_parts _ _ p.0 in
    record { reason = LockAlone; rule = refl; holds = (q.0, not-true _ q.1, not-true _ p.1) }

-- 10

pub error_alone-sound : (m : Marks) (v : Trace) (c : ℕ) (last : Option ℕ) → Holds m v c (ErrorAlone last)
    → is_error_alone v c ≡ true
unfolding is_error_alone
error_alone-sound m v c last h = rw (h.0, h.1) refl

pub reason_10 : (m : Marks) (v : Trace) (c : ℕ) → is_error_alone v c ≡ true → HasReason m v c 10
unfolding is_error_alone rule_of
reason_10 m v c t =
    let p = and_parts _ _ t in
    record { reason = ErrorAlone (last_where (line_at ADS v) c); rule = refl; holds = (p.0, not-true _ p.1, refl) }

-- 11

three_lines : (v : Trace) (c : ℕ) (lines : SnoopLines) → AreSnooped v c lines
    → (lines.hit || lines.hitm || lines.defer) ≡ (line_at HIT v c || line_at HITM v c || line_at DEFER v c)
three_lines v c lines h = rw (h.0, h.1, h.2) refl

two_lines : (v : Trace) (c : ℕ) (lines : SnoopLines) → AreSnooped v c lines
    → (lines.hitm || lines.defer) ≡ (line_at HITM v c || line_at DEFER v c)
two_lines v c lines h = rw (h.1, h.2) refl

snooped_line : (v : Trace) (c : ℕ) (lines : SnoopLines) → IsSnooped v c lines
    → (line_at HIT v c || line_at HITM v c || line_at DEFER v c) ≡ true
snooped_line v c lines h = sym (three_lines v c lines h.0) ∙ h.1

snoop_alone : (v : Trace) (c : ℕ) (lines : SnoopLines) → IsSnooped v c lines → is_snoop_clock v c ≡ false
    → is_snoop_line_alone v c ≡ true
unfolding is_snoop_line_alone
snoop_alone v c lines h f = and_from _ _ (snooped_line v c lines h) (not_from_false _ f)

pub snoops_over-sound : (m : Marks) (v : Trace) (c : ℕ) (lines : SnoopLines) → Holds m v c (SnoopsOver lines)
    → is_snoop_line_alone v c ≡ true
snoops_over-sound m v c lines h = snoop_alone v c lines h.0 h.1

pub snoop_early-sound : (m : Marks) (v : Trace) (c : ℕ) (lines : SnoopLines) (request : Concerned) (start : ℕ)
    → Holds m v c (SnoopEarly lines request start) → is_snoop_line_alone v c ≡ true
snoop_early-sound m v c lines request start h = snoop_alone v c lines h.0 h.1

pub snoop_between-sound : (m : Marks) (v : Trace) (c : ℕ) (lines : SnoopLines) (request : Concerned) (start : ℕ)
    → Holds m v c (SnoopBetween lines request start) → is_snoop_line_alone v c ≡ true
snoop_between-sound m v c lines request start h = snoop_alone v c lines h.0 h.1

-- the three lines, as they are
abbrev snoop_lines : Trace → ℕ → SnoopLines
snoop_lines v c = record { hit = line_at HIT v c; hitm = line_at HITM v c; defer = line_at DEFER v c }

as_they_are : (v : Trace) (c : ℕ) → AreSnooped v c (snoop_lines v c)
as_they_are v c = (refl, refl, refl)

which_lines : (v : Trace) (c : ℕ) → (line_at HIT v c || line_at HITM v c || line_at DEFER v c) ≡ true
    → IsSnooped v c (snoop_lines v c)
which_lines v c t = ((refl, refl, refl), t)

within_three : (v : Trace) (c : ℕ) → (line_at HIT v c || line_at HITM v c || line_at DEFER v c) ≡ true → c < length v
within_three v c t =
    elim (or_cases _ _ t) [
      | inl two ↦ elim (or_cases _ _ two) [
        | inl hit ↦ line_within HIT v c hit
        | inr hitm ↦ line_within HITM v c hitm
      ]
      | inr defer ↦ line_within DEFER v c defer
    ]

-- the first request that is not snooped has its snoop's start, since those before it have their ends
start_next : (a b : Option ℕ) (q s : ℕ) → a ≡ Some q → b ≡ Some s
    → greater_of (option_map (λ n. n + 4) a) (option_map (λ n. n + 3) b) ≡ Some (max (q + 4) (s + 3))
unfolding greater_of
start_next a b q s e f = rw (e, f) refl

start_there : (v : Trace) (c i q : ℕ) → live_clock_of v i ≡ Some q
    → ((k : ℕ) → k < i → is_unsnooped v c k ≡ false) → (n : ℕ) × (snoop_start_of v i ≡ Some n)
unfolding snoop_start_of start_after_clock start_after_end is_unsnooped
start_there v c zero q e below = (q + 4, ap (option_map (λ n. n + 4)) e)
start_there v c (suc j) q e below =
    let s = is_before-parts (snoop_end_of v j) c (not-false _ (below j (omega arith))) in
    (max (q + 4) (s.0 + 3), start_next (live_clock_of v (suc j)) (snoop_end_of v j) q s.0 e s.1)

middle_false : (a b d : Bool) → (a && b && d) ≡ false → a ≡ true → d ≡ true → b ≡ false
middle_false true false d f t u = refl
middle_false true true true f t u = absurd (let no : ⊥ = cc in no)
middle_false true true false f t u = absurd (let no : ⊥ = cc in no)
middle_false false b d f t u = absurd (let no : ⊥ = cc in no)

not_every_second : (v : Trace) (c i start : ℕ) → c < length v → is_unsnooped v c i ≡ true
    → snoop_start_of v i ≡ Some start → is_snoop_clock_of v c i ≡ false → is_every_second_from start c ≡ false
unfolding is_snoop_clock_of is_unsnooped is_some_and
not_every_second v c i start l t e f =
    let off = middle_false (nat_lt c (length v)) (is_some_and (snoop_start_of v i) (λ n. is_every_second_from n c))
    (not (is_before (snoop_end_of v i) c)) f (lt-ltb c (length v) l) t in
    sym (ap (λ o. is_some_and o (λ n. is_every_second_from n c)) e) ∙ off

snoop_reason : (m : Marks) (v : Trace) (c i : ℕ) (lines : SnoopLines) → IsSnooped v c lines → is_snoop_clock v c ≡ false
    → next_snoop v c ≡ Some i → HasReason m v c 11
unfolding next_snoop is_snoop_clock is_every_second_from rule_of
snoop_reason m v c i lines h f e =
    let p = first_where-found (is_unsnooped v c) (live_count v) i e in
    let q = live_there v i p.0 in
    let n = start_there v c i q.0 q.1 p.2 in
    let off = any_where-none (is_snoop_clock_of v c) (live_count v) f i p.0 in
    let odd = not_every_second v c i n.0 (within_three v c (snooped_line v c lines h)) p.1 n.1 off in
    elim (cases_lt c n.0) [
      | inl early ↦ record {
        reason = SnoopEarly lines (record { number = i; clock = q.0 }) n.0;
        rule = refl;
        holds = (h, f, e, q.1, n.1, early);
      }
      | inr late ↦ elim (and_cases (nat_le n.0 c) (nat_eq ((c - n.0) % 2) 0) odd) [
        | inl before ↦ absurd (both_ways _ before (le-leb n.0 c late))
        | inr between ↦ record {
          reason = SnoopBetween lines (record { number = i; clock = q.0 }) n.0;
          rule = refl;
          holds = (h, f, e, q.1, n.1, late, between);
        }
      ]
    ]

snoop-cases : (m : Marks) (v : Trace) (c : ℕ) (lines : SnoopLines) (o : Option ℕ) → IsSnooped v c lines
    → is_snoop_clock v c ≡ false → next_snoop v c ≡ o → HasReason m v c 11
unfolding rule_of
snoop-cases m v c lines None h f e = record { reason = SnoopsOver lines; rule = refl; holds = (h, f, e) }
snoop-cases m v c lines (Some i) h f e = snoop_reason m v c i lines h f e

pub reason_11 : (m : Marks) (v : Trace) (c : ℕ) → is_snoop_line_alone v c ≡ true → HasReason m v c 11
unfolding is_snoop_line_alone
reason_11 m v c t =
    let p = and_parts _ _ t in
    snoop-cases m v c (snoop_lines v c) (next_snoop v c) (which_lines v c p.0) (not-true _ p.1) refl

-- 12

unfit : (v : Trace) (c i q : ℕ) → live_clock_of v i ≡ Some q → is_result_unfit_for v c i ≡ true
    → is_snoop_result_unfit v c ≡ true
unfolding is_snoop_result_unfit
unfit v c i q e t = any_where-at (is_result_unfit_for v c) (live_count v) i (live_below_count v i q e) t

write_back_unfit : (w r a b d : Bool) → w ≡ true → (a || b || d) ≡ true → ((w || r) && (b || d) || w && a) ≡ true
write_back_unfit true r true true d e t = refl
write_back_unfit true r true false true e t = refl
write_back_unfit true r true false false e t = refl
write_back_unfit true r false true d e t = refl
write_back_unfit true r false false true e t = refl
write_back_unfit true r false false false e t = absurd (let no : ⊥ = cc in no)
write_back_unfit false r a b d e t = absurd (let no : ⊥ = cc in no)

reply_unfit : (w r a b d : Bool) → r ≡ true → (b || d) ≡ true → ((w || r) && (b || d) || w && a) ≡ true
reply_unfit true true a true d e t = refl
reply_unfit true true a false true e t = refl
reply_unfit false true a true d e t = refl
reply_unfit false true a false true e t = refl
reply_unfit w true a false false e t = absurd (let no : ⊥ = cc in no)
reply_unfit w false a b d e t = absurd (let no : ⊥ = cc in no)

pub write_back-sound : (m : Marks) (v : Trace) (c : ℕ) (lines : SnoopLines) (request : Concerned)
    → Holds m v c (WriteBackSnooped lines request) → is_snoop_result_unfit v c ≡ true
unfolding is_result_unfit_for
write_back-sound m v c lines request h =
    unfit v c request.number request.clock h.1
    (and_from _ _ (is_at-from _ c h.2)
    (write_back_unfit (is_write_back (live_request_of v request.number)) (is_reply (live_request_of v request.number))
    (line_at HIT v c) (line_at HITM v c) (line_at DEFER v c) h.3 (snooped_line v c lines h.0)))

pub reply-sound : (m : Marks) (v : Trace) (c : ℕ) (lines : SnoopLines) (request : Concerned)
    → Holds m v c (ReplySnooped lines request) → is_snoop_result_unfit v c ≡ true
unfolding is_result_unfit_for
reply-sound m v c lines request h =
    let there : (line_at HITM v c || line_at DEFER v c) ≡ true = sym (two_lines v c lines h.0) ∙ h.1 in
    unfit v c request.number request.clock h.2
    (and_from _ _ (is_at-from _ c h.3)
    (reply_unfit (is_write_back (live_request_of v request.number)) (is_reply (live_request_of v request.number))
    (line_at HIT v c) (line_at HITM v c) (line_at DEFER v c) h.4 there))

or_rest : (a b d : Bool) → (b || d) ≡ true → (a || b || d) ≡ true
or_rest true b d t = refl
or_rest false b d t = t

unfit_parts : (w r a b d : Bool) → ((w || r) && (b || d) || w && a) ≡ true
    → ((w ≡ true) × (a ≡ true)) ⊎ ((w || r) ≡ true) × ((b || d) ≡ true)
unfit_parts w r a b d t =
    elim (or_cases ((w || r) && (b || d)) (w && a) t) [
      | inr hit ↦ inl (and_parts w a hit)
      | inl both ↦ inr (and_parts (w || r) (b || d) both)
    ]

unfit-reason : (m : Marks) (v : Trace) (c i q : ℕ) → live_clock_of v i ≡ Some q → snoop_end_of v i ≡ Some c
    → ((is_write_back (live_request_of v i) || is_reply (live_request_of v i))
    && (line_at HITM v c || line_at DEFER v c) || is_write_back (live_request_of v i) && line_at HIT v c) ≡ true
    → HasReason m v c 12
unfolding rule_of
unfit-reason m v c i q e s t =
    elim (unfit_parts (is_write_back (live_request_of v i)) (is_reply (live_request_of v i)) (line_at HIT v c)
    (line_at HITM v c) (line_at DEFER v c) t) [
      | inl hit ↦ record {
        reason = WriteBackSnooped (snoop_lines v c) (record { number = i; clock = q });
        rule = refl;
        holds = (which_lines v c (or_first _ _ _ hit.1), e, s, hit.0);
      }
      | inr both ↦
          elim (or_cases (is_write_back (live_request_of v i)) (is_reply (live_request_of v i)) both.0) [
            | inl back ↦ record {
              reason = WriteBackSnooped (snoop_lines v c) (record { number = i; clock = q });
              rule = refl;
              holds = (which_lines v c (or_rest (line_at HIT v c) _ _ both.1), e, s, back);
            }
            | inr reply ↦ record {
              reason = ReplySnooped (snoop_lines v c) (record { number = i; clock = q });
              rule = refl;
              holds = (as_they_are v c, both.1, e, s, reply);
            }
          ]
    ]

pub reason_12 : (m : Marks) (v : Trace) (c : ℕ) → is_snoop_result_unfit v c ≡ true → HasReason m v c 12
unfolding is_snoop_result_unfit is_result_unfit_for
reason_12 m v c t =
    let k = any_where-found (is_result_unfit_for v c) (live_count v) t in
    let q = live_there v k.0 k.1 in
    let p = and_parts _ _ k.2 in
    unfit-reason m v c k.0 q.0 q.1 (is_at-some _ c p.0) p.1

-- 17

bits_there : (o : Option Sample) (bits : ℕ) → option_map (λ s. s.dbus.unknown) o ≡ Some bits
    → (bits == 0) ≡ false → option_map_or (λ s. not (is_known_word s.dbus)) o false ≡ true
bits_there None bits e f = absurd (let no : ⊥ = cc in no)
bits_there (Some s) bits e f =
    let same : bits ≡ s.dbus.unknown = cc in
    not_from_false _ (subst (λ x. (x == 0) ≡ false) same f)

pub unknown_data-sound : (m : Marks) (v : Trace) (c bits : ℕ) → Holds m v c (UnknownData bits)
    → has_unknown_data v c ≡ true
unfolding has_unknown_data
unknown_data-sound m v c bits h = and_from _ _ h.0 (bits_there (slice_get v c) bits h.1 h.2)

bits-cases : (m : Marks) (v : Trace) (c : ℕ) (o : Option Sample) → line_at DRDY v c ≡ true → slice_get v c ≡ o
    → option_map_or (λ s. not (is_known_word s.dbus)) o false ≡ true → HasReason m v c 17
unfolding rule_of
bits-cases m v c None d e t = absurd (let no : ⊥ = cc in no)
bits-cases m v c (Some s) d e t = record {
  reason = UnknownData s.dbus.unknown;
  rule = refl;
  holds = (d, ap (option_map (λ x. x.dbus.unknown)) e, not-true _ t);
}

pub reason_17 : (m : Marks) (v : Trace) (c : ℕ) → has_unknown_data v c ≡ true → HasReason m v c 17
unfolding has_unknown_data
reason_17 m v c t = let p = and_parts _ _ t in bits-cases m v c (slice_get v c) p.0 refl p.1

-- 19 and 20

pub address_parity-sound : (m : Marks) (v : Trace) (c : ℕ) (low high : Bool) → Holds m v c (AddressParity low high)
    → is_marked_address_wrong m v c ≡ true
unfolding is_marked_address_wrong is_address_parity_wrong
address_parity-sound m v c low high h =
    let odd : option_map_or is_address_odd (slice_get v c) false ≡ true =
    ap (λ o. option_map_or is_address_odd o false) (h.2).1 ∙ (h.2).2 in
    and_from _ _ h.0 (and_from _ _ h.1 odd)

pub request_parity-sound : (m : Marks) (v : Trace) (c : ℕ) → Holds m v c RequestParity
    → is_marked_request_wrong m v c ≡ true
unfolding is_marked_request_wrong is_request_parity_wrong
request_parity-sound m v c h =
    let odd : option_map_or is_request_odd (slice_get v c) false ≡ true =
    ap (λ o. option_map_or is_request_odd o false) (h.2).1 ∙ (h.2).2 in
    and_from _ _ h.0 (and_from _ _ h.1 odd)

address-cases : (m : Marks) (v : Trace) (c : ℕ) (o : Option Sample) → m.ap ≡ true → has_parity_at v c ≡ true
    → slice_get v c ≡ o → option_map_or is_address_odd o false ≡ true → HasReason m v c 19
unfolding rule_of
address-cases m v c None a p e t = absurd (let no : ⊥ = cc in no)
address-cases m v c (Some s) a p e t = record {
  reason = AddressParity (not (is_low_address_even s)) (not (is_high_address_even s));
  rule = refl;
  holds = (a, p, (s, e, t, refl, refl));
}

pub reason_19 : (m : Marks) (v : Trace) (c : ℕ) → is_marked_address_wrong m v c ≡ true → HasReason m v c 19
unfolding is_marked_address_wrong is_address_parity_wrong
reason_19 m v c t =
    let p = and_parts _ _ t in
    let q = and_parts _ _ p.1 in
    address-cases m v c (slice_get v c) p.0 q.0 refl q.1

request-cases : (m : Marks) (v : Trace) (c : ℕ) (o : Option Sample) → m.rp ≡ true → has_parity_at v c ≡ true
    → slice_get v c ≡ o → option_map_or is_request_odd o false ≡ true → HasReason m v c 20
unfolding rule_of
request-cases m v c None a p e t = absurd (let no : ⊥ = cc in no)
request-cases m v c (Some s) a p e t = record { reason = RequestParity; rule = refl; holds = (a, p, (s, e, t)) }

pub reason_20 : (m : Marks) (v : Trace) (c : ℕ) → is_marked_request_wrong m v c ≡ true → HasReason m v c 20
unfolding is_marked_request_wrong is_request_parity_wrong
reason_20 m v c t =
    let p = and_parts _ _ t in
    let q = and_parts _ _ p.1 in
    request-cases m v c (slice_get v c) p.0 q.0 refl q.1
