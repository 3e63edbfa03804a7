-- What a verdict says, and that it rests on the samples up to its clock.
use Rattle.std.proofs.Common.{ℕ, ◌+◌, ◌<◌, ◌≡◌, true, false, Option, Some, None, is_some, length, nat_lt, refl, sym, ap}
use Rattle.std.proofs.Common.{◌∙◌, arith, inl, inr}
use Rattle.std.specs.Option.{option_and_then, option_map}
use Rattle.std.proofs.lemmas.Bool.{cases_Bool, lt-ltb, ltb-true}
use Rattle.std.proofs.lemmas.Option.{some_pair_parts}
use Rattle.fsb_count.specs.Clocks.{first_where}
use Rattle.fsb_count.proofs.Interface.{first_where-same, first_where-carried, first_where-found, first_where-none}
use Rattle.fsb_signal.specs.declared.marks.Marks.{Marks}
use Rattle.fsb_trace.specs.At.{Trace}
use Rattle.fsb_trace.specs.Verdict.{is_broken, least_rule, breaks_a_rule, verdict}
use Rattle.fsb_trace.specs.Agree.{AgreeTo}
use Rattle.fsb_trace.proofs.AgreeAt.{take-agree, AgreeTo-less}

-- a clock of both traces
pub is_clock-agree : (w v : Trace) (c : ℕ) → AgreeTo (c + 1) w v → nat_lt c (length w) ≡ nat_lt c (length v)
is_clock-agree w v c a = lt-ltb c (length w) (omega (arith, a.left))
    ∙ sym (lt-ltb c (length v) (omega (arith, a.right)))

pub is_broken-agree : (m : Marks) (w v : Trace) (c j : ℕ) → AgreeTo (c + 1) w v → is_broken m w c j ≡ is_broken m v c j
unfolding is_broken
is_broken-agree m w v c j a = rw (is_clock-agree w v c a, take-agree (c + 1) w v a) refl

pub least_rule-agree : (m : Marks) (w v : Trace) (c : ℕ) → AgreeTo (c + 1) w v → least_rule m w c ≡ least_rule m v c
unfolding least_rule
least_rule-agree m w v c a = first_where-same (is_broken m w c) (is_broken m v c) 21
    (record { same = λ j l. is_broken-agree m w v c j a })

pub breaks_a_rule-agree : (m : Marks) (w v : Trace) (c : ℕ) → AgreeTo (c + 1) w v
    → breaks_a_rule m w c ≡ breaks_a_rule m v c
unfolding breaks_a_rule
breaks_a_rule-agree m w v c a = ap (λ o. is_some o) (least_rule-agree m w v c a)

rule : (m : Marks) (w : Trace) (c j d : ℕ) (o : Option ℕ) → first_where (breaks_a_rule m w) (length w) ≡ Some d
    → least_rule m w d ≡ o → option_map {U = ℕ × ℕ} (λ k. (d, k)) o ≡ Some (c, j)
    → (first_where (breaks_a_rule m w) (length w) ≡ Some c) × (least_rule m w c ≡ Some j)
rule m w c j d None e f h = absurd (let no : ⊥ = cc in no)
rule m w c j d (Some k) e f h =
    let p = some_pair_parts d c k j h in
    (e ∙ ap (λ x. Some x) p.0, ap (least_rule m w) (sym p.0) ∙ f ∙ ap (λ x. Some x) p.1)

parts : (m : Marks) (w : Trace) (c j : ℕ) (o : Option ℕ) → first_where (breaks_a_rule m w) (length w) ≡ o
    → option_and_then (λ d. option_map {U = ℕ × ℕ} (λ k. (d, k)) (least_rule m w d)) o ≡ Some (c, j)
    → (first_where (breaks_a_rule m w) (length w) ≡ Some c) × (least_rule m w c ≡ Some j)
parts m w c j None e h = absurd (let no : ⊥ = cc in no)
parts m w c j (Some d) e h = rule m w c j d (least_rule m w d) e refl h

-- a verdict is the first foul clock and its least rule
pub verdict-parts : (m : Marks) (w : Trace) (c j : ℕ) → verdict m w ≡ Some (c, j)
    → (first_where (breaks_a_rule m w) (length w) ≡ Some c) × (least_rule m w c ≡ Some j)
unfolding verdict
verdict-parts m w c j e = parts m w c j (first_where (breaks_a_rule m w) (length w)) refl e

pub verdict-from_parts : (m : Marks) (w : Trace) (c j : ℕ) → first_where (breaks_a_rule m w) (length w) ≡ Some c
    → least_rule m w c ≡ Some j → verdict m w ≡ Some (c, j)
unfolding verdict
verdict-from_parts m w c j e f = rw (e, f) refl

-- a verdict stays
pub verdict-stays : (n : ℕ) (m : Marks) (w v : Trace) (c j : ℕ) → AgreeTo n w v → c < n
    → verdict m w ≡ Some (c, j) → verdict m v ≡ Some (c, j)
verdict-stays n m w v c j a l e =
    let p = verdict-parts m w c j e in
    verdict-from_parts m v c j
    (first_where-carried (breaks_a_rule m w) (breaks_a_rule m v) (length w) (length v) c
    (record { same = λ d k. breaks_a_rule-agree m w v d (AgreeTo-less n (d + 1) w v (omega arith) a) })
    (omega (arith, a.right)) p.0)
    (sym (least_rule-agree m w v c (AgreeTo-less n (c + 1) w v (omega arith) a)) ∙ p.1)

not_foul : (m : Marks) (w : Trace) (c : ℕ) (o : Option ℕ) → least_rule m w c ≡ o → is_some o ≡ false
    → least_rule m w c ≡ None
not_foul m w c None e f = e
not_foul m w c (Some j) e f = absurd (let no : ⊥ = cc in no)

-- at a clock that is not foul no rule is broken
pub unbroken : (m : Marks) (w : Trace) (c j : ℕ) → breaks_a_rule m w c ≡ false → j < 21 → is_broken m w c j ≡ false
unfolding breaks_a_rule least_rule
unbroken m w c j f l = first_where-none (is_broken m w c) 21 (not_foul m w c (least_rule m w c) refl f) j l

-- a verdict names a broken rule; no rule before it is broken there, and none at a clock before
pub verdict-least : (m : Marks) (w : Trace) (c j : ℕ) → verdict m w ≡ Some (c, j)
    → (c < length w) × (is_broken m w c j ≡ true) × ((k : ℕ) → k < j → is_broken m w c k ≡ false)
    × ((d k : ℕ) → d < c → k < 21 → is_broken m w d k ≡ false)
unfolding least_rule
verdict-least m w c j e =
    let p = verdict-parts m w c j e in
    let clock = first_where-found (breaks_a_rule m w) (length w) c p.0 in
    let least = first_where-found (is_broken m w c) 21 j p.1 in
    (clock.0, least.1, least.2, λ d k l below. unbroken m w d k (clock.2 d l) below)

fouled : (m : Marks) (w : Trace) (c : ℕ) (o : Option ℕ) → first_where (breaks_a_rule m w) (length w) ≡ Some c
    → is_some o ≡ true → least_rule m w c ≡ o → verdict m w ≡ None → ⊥
fouled m w c None e t f h = let no : ⊥ = cc in no
fouled m w c (Some j) e t f h = let there : verdict m w ≡ Some (c, j) = verdict-from_parts m w c j e f in
    let no : ⊥ = cc in no

no_foul : (m : Marks) (w : Trace) (o : Option ℕ) → first_where (breaks_a_rule m w) (length w) ≡ o
    → verdict m w ≡ None → first_where (breaks_a_rule m w) (length w) ≡ None
unfolding breaks_a_rule
no_foul m w None e h = e
no_foul m w (Some c) e h =
    absurd (fouled m w c (least_rule m w c) e (first_where-found (breaks_a_rule m w) (length w) c e).1 refl h)

-- past the end no rule is broken
pub broken-past : (m : Marks) (w : Trace) (c j : ℕ) → nat_lt c (length w) ≡ false → is_broken m w c j ≡ false
unfolding is_broken
broken-past m w c j f = rw f refl

-- where there is no verdict no rule is broken
pub verdict-none : (m : Marks) (w : Trace) → verdict m w ≡ None → (c j : ℕ) → j < 21 → is_broken m w c j ≡ false
verdict-none m w h c j low =
    elim (cases_Bool (nat_lt c (length w))) [
      | inl below ↦
          let none = no_foul m w (first_where (breaks_a_rule m w) (length w)) refl h in
          unbroken m w c j (first_where-none (breaks_a_rule m w) (length w) none c (ltb-true c (length w) below)) low
      | inr past ↦ broken-past m w c j past
    ]
