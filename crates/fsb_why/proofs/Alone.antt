-- Reasons of the rules for lines that stand alone: 1, 8, 9, 10, 17, 19 and 20.
use Rattle.std.proofs.Common.{ℕ, zero, suc, ◌-◌, ◌<◌, ◌≡◌, Bool, true, false, ◌&&◌, ◌||◌, not, nat_le, nat_eq, Option, Some, None}
use Rattle.std.proofs.Common.{slice_get, refl, sym, ap, subst, ◌∙◌, arith}
use Rattle.std.specs.Option.{option_map}
use Rattle.std.proofs.lemmas.Bool.{and_left, and_right, eqb-true, false_from_ne_true, and_parts, or_from, leb-true, not-true, not_from_true}
use Rattle.fsb_count.specs.Clocks.{any_where, last_where}
use Rattle.fsb_count.proofs.Interface.{any_where-off}
use Rattle.fsb_signal.specs.declared.lines.TheConstants.Lines.{ADS}
use Rattle.fsb_signal.specs.declared.marks.Marks.{Marks}
use Rattle.fsb_signal.specs.declared.sample.Sample.{Sample}
use Rattle.fsb_signal.specs.Parity.{is_low_address_even, is_high_address_even}
use Rattle.fsb_signal.specs.Samples.{has_known_lines, line_at}
use Rattle.fsb_trace.specs.declared.who.Who.{Who}
use Rattle.fsb_trace.specs.declared.who.Who.TheVariants.{Symmetric, Priority}
use Rattle.fsb_trace.specs.At.{Trace, line_back}
use Rattle.fsb_trace.specs.Winner.{begins_at, request_line_of}
use Rattle.fsb_trace.specs.Rules.{breaks, phase_rules, has_unknown_line, is_asked_wrongly, is_some_asked_wrongly, is_lock_alone}
use Rattle.fsb_trace.specs.Rules.{is_error_alone, has_unknown_data, is_address_parity_wrong, is_request_parity_wrong}
use Rattle.fsb_trace.specs.Rules.{is_marked_address_wrong, is_marked_request_wrong}
use Rattle.fsb_reasons.specs.declared.reason.Reason.{Reason}
use Rattle.fsb_reasons.specs.declared.reason.Reason.TheVariants.{UnknownLines, Dropped, Held, LockAlone, ErrorAlone, UnknownData, AddressParity, RequestParity}
use Rattle.fsb_reasons.specs.RuleOf.{rule_of}
use Rattle.fsb_reasons.specs.Holds.{is_bus_agent}
use Rattle.fsb_why.specs.Explains.{IsReason, Explains, Tells, either_reason, is_line_rule}

-- 1

pub known-not : (m : Marks) (v : Trace) (c : ℕ) (x : Sample) → slice_get v c ≡ Some x → has_known_lines x ≡ true
    → breaks m v c 1 ≡ false
unfolding breaks phase_rules has_unknown_line
known-not m v c x e t = rw e (not_from_true _ t)

pub known-is : (m : Marks) (v : Trace) (c : ℕ) (x : Sample) → slice_get v c ≡ Some x → has_known_lines x ≡ false
    → IsReason m v c 1 (UnknownLines x.unknown)
unfolding rule_of
known-is m v c x e f = record { rule = refl; holds = (ap (option_map (λ s. s.unknown)) e, f) }

-- 8

pub held-is : (m : Marks) (v : Trace) (c : ℕ) (who : Who) → is_bus_agent who ≡ true → begins_at v (c - 1) who ≡ true
    → (nat_le 1 c && line_at (request_line_of who) v c) ≡ true → IsReason m v c 8 (Held who)
unfolding rule_of
held-is m v c who k b t =
    let p = and_parts _ _ t in record { rule = refl; holds = (k, leb-true 1 c p.0, b, p.1) }

pub held-not : (v : Trace) (c : ℕ) (who : Who) → begins_at v (c - 1) who ≡ true
    → (nat_le 1 c && line_at (request_line_of who) v c) ≡ false → is_asked_wrongly v c who ≡ false
unfolding is_asked_wrongly
held-not v c who b f = rw b f

pub dropped-is : (m : Marks) (v : Trace) (c : ℕ) (who : Who) → is_bus_agent who ≡ true
    → begins_at v (c - 1) who ≡ false
    → (line_back (request_line_of who) v c 1 && not (line_at (request_line_of who) v c)) ≡ true
    → IsReason m v c 8 (Dropped who)
unfolding rule_of
dropped-is m v c who k b t =
    let p = and_parts _ _ t in record { rule = refl; holds = (k, b, p.0, not-true _ p.1) }

pub dropped-not : (v : Trace) (c : ℕ) (who : Who) → begins_at v (c - 1) who ≡ false
    → (line_back (request_line_of who) v c 1 && not (line_at (request_line_of who) v c)) ≡ false
    → is_asked_wrongly v c who ≡ false
unfolding is_asked_wrongly
dropped-not v c who b f = rw b f

either-tells : (m : Marks) (v : Trace) (c : ℕ) (a b : Bool) (x y : Option Reason) → Tells m v c 8 a x → Tells m v c 8 b y
    → Tells m v c 8 (a || b) (either_reason x y)
either-tells m v c a b None None p q = or_from a b p q
either-tells m v c a b None (Some r) p q = q
either-tells m v c a b (Some r) y p q = p

five_false : (a b d e p : Bool) → (a || b || (d || e) || p) ≡ false
    → (a ≡ false) × (b ≡ false) × (d ≡ false) × (e ≡ false) × (p ≡ false)
five_false false false false false false f = (refl, refl, refl, refl, refl)
five_false true b d e p f = absurd (let no : ⊥ = cc in no)
five_false false true d e p f = absurd (let no : ⊥ = cc in no)
five_false false false true e p f = absurd (let no : ⊥ = cc in no)
five_false false false false true p f = absurd (let no : ⊥ = cc in no)
five_false false false false false true f = absurd (let no : ⊥ = cc in no)

four_off : (p : ℕ → Bool) → p 0 ≡ false → p 1 ≡ false → p 2 ≡ false → p 3 ≡ false → (k : ℕ) → k < 4 → p k ≡ false
four_off p a b d e zero l = a
four_off p a b d e (suc zero) l = b
four_off p a b d e (suc (suc zero)) l = d
four_off p a b d e (suc (suc (suc zero))) l = e
four_off p a b d e (suc (suc (suc (suc k)))) l = absurd (omega (arith, l))

none_asked : (m : Marks) (v : Trace) (c : ℕ)
    → (is_asked_wrongly v c (Symmetric 0) || is_asked_wrongly v c (Symmetric 1)
    || (is_asked_wrongly v c (Symmetric 2) || is_asked_wrongly v c (Symmetric 3)) || is_asked_wrongly v c Priority) ≡ false
    → breaks m v c 8 ≡ false
unfolding breaks phase_rules is_some_asked_wrongly
none_asked m v c f =
    let p = five_false (is_asked_wrongly v c (Symmetric 0)) (is_asked_wrongly v c (Symmetric 1))
    (is_asked_wrongly v c (Symmetric 2)) (is_asked_wrongly v c (Symmetric 3)) (is_asked_wrongly v c Priority) f in
    or_from (any_where (λ a. is_asked_wrongly v c (Symmetric a)) 4) (is_asked_wrongly v c Priority)
    (any_where-off (λ a. is_asked_wrongly v c (Symmetric a)) 4
    (four_off (λ a. is_asked_wrongly v c (Symmetric a)) p.0 p.1 p.2 p.3)) p.4

told : (m : Marks) (v : Trace) (c : ℕ) (o : Option Reason)
    → Tells m v c 8 (is_asked_wrongly v c (Symmetric 0) || is_asked_wrongly v c (Symmetric 1)
    || (is_asked_wrongly v c (Symmetric 2) || is_asked_wrongly v c (Symmetric 3)) || is_asked_wrongly v c Priority) o
    → Explains m v c 8 o
told m v c None f = none_asked m v c f
told m v c (Some r) h = h

pub all_told : (m : Marks) (v : Trace) (c : ℕ) (a b d e p : Option Reason)
    → Tells m v c 8 (is_asked_wrongly v c (Symmetric 0)) a → Tells m v c 8 (is_asked_wrongly v c (Symmetric 1)) b
    → Tells m v c 8 (is_asked_wrongly v c (Symmetric 2)) d → Tells m v c 8 (is_asked_wrongly v c (Symmetric 3)) e
    → Tells m v c 8 (is_asked_wrongly v c Priority) p
    → Explains m v c 8 (either_reason (either_reason (either_reason a b) (either_reason d e)) p)
all_told m v c a b d e p ta tb td te tp =
    told m v c _
    (either-tells m v c _ _ _ p
    (either-tells m v c _ _ (either_reason a b) (either_reason d e) (either-tells m v c _ _ a b ta tb)
    (either-tells m v c _ _ d e td te)) tp)

-- 9 and 10

pub lock-not : (m : Marks) (v : Trace) (c : ℕ) → is_lock_alone v c ≡ false → breaks m v c 9 ≡ false
unfolding breaks phase_rules
lock-not m v c f = f

pub lock-is : (m : Marks) (v : Trace) (c : ℕ) → is_lock_alone v c ≡ true → IsReason m v c 9 LockAlone
unfolding rule_of is_lock_alone
lock-is m v c t =
    let p = and_parts _ _ t in
    let q = and_parts _ _ p.0 in
    record { rule = refl; holds = (q.0, not-true _ q.1, not-true _ p.1) }

pub error-not : (m : Marks) (v : Trace) (c : ℕ) → is_error_alone v c ≡ false → breaks m v c 10 ≡ false
unfolding breaks phase_rules
error-not m v c f = f

pub error-is : (m : Marks) (v : Trace) (c : ℕ) (last : Option ℕ) → last ≡ last_where (line_at ADS v) c
    → is_error_alone v c ≡ true → IsReason m v c 10 (ErrorAlone last)
unfolding rule_of is_error_alone
error-is m v c last s t =
    let p = and_parts _ _ t in record { rule = refl; holds = (p.0, not-true _ p.1, s) }

-- 17

pub data-not : (m : Marks) (v : Trace) (c : ℕ) → has_unknown_data v c ≡ false → breaks m v c 17 ≡ false
unfolding breaks phase_rules
data-not m v c f = f

pub data-unknown : (m : Marks) (v : Trace) (c : ℕ) (x : Sample) → slice_get v c ≡ Some x → has_unknown_data v c ≡ true
    → IsReason m v c 17 (UnknownData x.dbus.unknown)
unfolding rule_of has_unknown_data
data-unknown m v c x e t =
    let p = and_parts _ _ t in
    record { rule = refl; holds = (p.0, ap (option_map (λ s. s.dbus.unknown)) e, not-true _ (rw e at p.1)) }

-- 19 and 20

pub address-not : (m : Marks) (v : Trace) (c : ℕ) → is_marked_address_wrong m v c ≡ false → breaks m v c 19 ≡ false
unfolding breaks phase_rules
address-not m v c f = f

pub address-odd : (m : Marks) (v : Trace) (c : ℕ) (x : Sample) (low high : Bool) → slice_get v c ≡ Some x
    → low ≡ is_low_address_even x → high ≡ is_high_address_even x → is_marked_address_wrong m v c ≡ true
    → IsReason m v c 19 (AddressParity (not low) (not high))
unfolding rule_of is_marked_address_wrong is_address_parity_wrong
address-odd m v c x low high e l h t =
    let p = and_parts _ _ t in
    let q = and_parts _ _ p.1 in
    record { rule = refl; holds = (p.0, q.0, (x, e, rw e at q.1, ap not l, ap not h)) }

pub request-not : (m : Marks) (v : Trace) (c : ℕ) → is_marked_request_wrong m v c ≡ false → breaks m v c 20 ≡ false
unfolding breaks phase_rules
request-not m v c f = f

pub request-odd : (m : Marks) (v : Trace) (c : ℕ) (x : Sample) → slice_get v c ≡ Some x
    → is_marked_request_wrong m v c ≡ true → IsReason m v c 20 RequestParity
unfolding rule_of is_marked_request_wrong is_request_parity_wrong
request-odd m v c x e t =
    let p = and_parts _ _ t in
    let q = and_parts _ _ p.1 in
    record { rule = refl; holds = (p.0, q.0, (x, e, rw e at q.1)) }

-- which rules are explained

pub explains-at : (m : Marks) (v : Trace) (c j k : ℕ) (o : Option Reason) → j ≡ k → Explains m v c k o
    → Tells m v c j (is_line_rule j && breaks m v c j) o
explains-at m v c j k None e h = and_right _ _ (ap (breaks m v c) e ∙ h)
explains-at m v c j k (Some reason) e h = subst (λ i. IsReason m v c i reason) (sym e) h

off : (j k : ℕ) → (j ≡ k → ⊥) → nat_eq j k ≡ false
off j k n = false_from_ne_true _ (λ t. n (eqb-true j k t))

not_explained : (j : ℕ) → (j ≡ 1 → ⊥) → (j ≡ 2 → ⊥) → (j ≡ 3 → ⊥) → (j ≡ 5 → ⊥) → (j ≡ 6 → ⊥) → (j ≡ 7 → ⊥)
    → (j ≡ 8 → ⊥) → (j ≡ 9 → ⊥) → (j ≡ 10 → ⊥) → (j ≡ 17 → ⊥) → (j ≡ 19 → ⊥) → (j ≡ 20 → ⊥) → is_line_rule j ≡ false
unfolding is_line_rule
not_explained j a b d e f g h i k l n o =
    rw (
      off j 1 a,
      off j 2 b,
      off j 3 d,
      off j 5 e,
      off j 6 f,
      off j 7 g,
      off j 8 h,
      off j 9 i,
      off j 10 k,
      off j 17 l,
      off j 19 n,
      off j 20 o,
    ) refl

pub unexplained : (m : Marks) (v : Trace) (c j : ℕ) → (j ≡ 1 → ⊥) → (j ≡ 2 → ⊥) → (j ≡ 3 → ⊥) → (j ≡ 5 → ⊥)
    → (j ≡ 6 → ⊥) → (j ≡ 7 → ⊥) → (j ≡ 8 → ⊥) → (j ≡ 9 → ⊥) → (j ≡ 10 → ⊥) → (j ≡ 17 → ⊥) → (j ≡ 19 → ⊥)
    → (j ≡ 20 → ⊥) → (is_line_rule j && breaks m v c j) ≡ false
unexplained m v c j a b d e f g h i k l n o =
    and_left (is_line_rule j) (breaks m v c j) (not_explained j a b d e f g h i k l n o)
