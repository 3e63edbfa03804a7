-- Words that the reasons share: a line some clocks back, the last clock that passes, live requests with their clocks.
use Rattle.std.proofs.Common.{ℕ, zero, suc, ◌+◌, ◌-◌, ◌<◌, ◌≤◌, ◌≡◌, Bool, true, false, ◌||◌}
use Rattle.std.proofs.Common.{Option, Some, None, length, slice_get, refl, sym, ap, subst, ◌∙◌, arith, inl, inr}
use Rattle.std.proofs.lemmas.Bool.{cases_Bool, cases_lt, and_parts, and_from, leb-true, le-leb}
use Rattle.std.proofs.lemmas.Bool.{both_ways, false_from_ne_true}
use Rattle.std.proofs.lemmas.Option.{slice_get_past}
use Rattle.std.specs.Option.{option_map_or}
use Rattle.fsb_count.specs.Clocks.{last_where}
use Rattle.fsb_count.proofs.Interface.{last_where-passed, last_where-failed, nth_where-there, nth_where-past}
use Rattle.fsb_signal.specs.declared.lines.Lines.{Lines}
use Rattle.fsb_signal.specs.Samples.{line_at, has_line}
use Rattle.fsb_trace.specs.At.{Trace, line_back}
use Rattle.fsb_trace.specs.Requests.{is_live, live_count, live_clock_of}
use Rattle.fsb_trace.specs.Snoop.{snoop_end_of}
use Rattle.fsb_trace.proofs.Interface.{snoop_end_of-clock}

pub or_first : (a b c : Bool) → a ≡ true → (a || b || c) ≡ true
or_first true b c t = refl
or_first false b c t = absurd (let no : ⊥ = cc in no)

pub or_second : (a b c : Bool) → b ≡ true → (a || b || c) ≡ true
or_second true b c t = refl
or_second false true c t = refl
or_second false false c t = absurd (let no : ⊥ = cc in no)

pub or_third : (a b c : Bool) → c ≡ true → (a || b || c) ≡ true
or_third true b c t = refl
or_third false true c t = refl
or_third false false true t = refl
or_third false false false t = absurd (let no : ⊥ = cc in no)

pub or_last : (a b c : Bool) → (a || b || c) ≡ true → a ≡ false → b ≡ false → c ≡ true
or_last true b c t e f = absurd (let no : ⊥ = cc in no)
or_last false true c t e f = absurd (let no : ⊥ = cc in no)
or_last false false true t e f = refl
or_last false false false t e f = absurd (let no : ⊥ = cc in no)

-- a line some clocks back
pub back_parts : (line : Lines) (v : Trace) (c d : ℕ) → line_back line v c d ≡ true
    → (d ≤ c) × (line_at line v (c - d) ≡ true)
unfolding line_back
back_parts line v c d t = let p = and_parts _ _ t in (leb-true d c p.0, p.1)

pub back_from : (line : Lines) (v : Trace) (c d p : ℕ) → p + d ≡ c → line_at line v p ≡ true
    → line_back line v c d ≡ true
unfolding line_back
back_from line v c d p e t =
    let same : p ≡ c - d = omega (arith, e) in
    and_from _ _ (le-leb d c (omega (arith, e))) (subst (λ x. line_at line v x ≡ true) same t)

pub back_fails : (line : Lines) (v : Trace) (c d : ℕ) → line_back line v c d ≡ false → d ≤ c
    → line_at line v (c - d) ≡ false
back_fails line v c d f l =
    false_from_ne_true _ (λ t. both_ways _ f (back_from line v c d (c - d) (omega (arith, l)) t))

-- the last clock that passes
pub last_found : (p : ℕ → Bool) (n b : ℕ) → last_where p n ≡ Some b → (b < n) × (p b ≡ true)
unfolding last_where
last_found p zero b e = absurd (let no : ⊥ = cc in no)
last_found p (suc n) b e =
    elim (cases_Bool (p n)) [
      | inl t ↦
          let here : last_where p (suc n) ≡ Some n = last_where-passed p n t in
          let same : n ≡ b = cc in
          (omega (arith, same), subst (λ x. p x ≡ true) same t)
      | inr f ↦
          let h = last_found p n b (sym (last_where-failed p n f) ∙ e) in
          (omega (arith, h.0), h.1)
    ]

-- it is the one before n
pub last_one : (p : ℕ → Bool) (n b : ℕ) → b + 1 ≡ n → p b ≡ true → last_where p n ≡ Some b
last_one p n b e t =
    let same : suc b ≡ n = omega (arith, e) in
    subst (λ x. last_where p x ≡ Some b) same (last_where-passed p b t)

-- or the one before that
pub last_two : (p : ℕ → Bool) (n b : ℕ) → b + 2 ≡ n → p (b + 1) ≡ false → p b ≡ true → last_where p n ≡ Some b
last_two p n b e f t =
    let same : suc (b + 1) ≡ n = omega (arith, e) in
    subst (λ x. last_where p x ≡ Some b) same (last_where-failed p (b + 1) f ∙ last_one p (b + 1) b refl t)

-- a clock with a line is one of the trace
pub line_within : (line : Lines) (v : Trace) (c : ℕ) → line_at line v c ≡ true → c < length v
unfolding line_at
line_within line v c t =
    elim (cases_lt c (length v)) [
      | inl l ↦ l
      | inr past ↦
          let none : slice_get v c ≡ None = slice_get_past v c past in
          absurd (both_ways _ (ap (λ o. option_map_or (λ s. has_line s line) o false) none) t)
    ]

-- a live request that is counted has its clock
pub live_there : (v : Trace) (i : ℕ) → i < live_count v → (q : ℕ) × (live_clock_of v i ≡ Some q)
unfolding live_count live_clock_of
live_there v i l = nth_where-there (is_live v) i (length v) l

pub live_past : (v : Trace) (i : ℕ) → live_count v ≤ i → live_clock_of v i ≡ None
unfolding live_count live_clock_of
live_past v i l = nth_where-past (is_live v) i (length v) l

no_end-cases : (v : Trace) (i : ℕ) (o : Option ℕ) → live_count v ≤ i → snoop_end_of v i ≡ o → snoop_end_of v i ≡ None
no_end-cases v i None l e = e
no_end-cases v i (Some s) l e =
    let h = snoop_end_of-clock v i s e in
    let there : live_clock_of v i ≡ Some h.clock = h.is_clock in
    let none : live_clock_of v i ≡ None = live_past v i l in
    absurd (let no : ⊥ = cc in no)

-- past the live requests there is no snoop end
pub no_end : (v : Trace) (i : ℕ) → live_count v ≤ i → snoop_end_of v i ≡ None
no_end v i l = no_end-cases v i (snoop_end_of v i) l refl
