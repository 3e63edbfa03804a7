-- A last token after which a text may not end tells nothing.
use Rattle.std.proofs.Common.{◌≡◌, ℕ, Bool, true, false, not, ◌&&◌, if◌then◌else◌, nat_lt, is_some, List, [], ◌∷◌, ◌++◌}
use Rattle.std.proofs.Common.{Option, Some, None, codes, refl, sym, ap, subst, ◌∙◌, append-nil}
use Rattle.vcd_grammar.specs.Tokens.{Token, is_long, ended_at}
use Rattle.vcd_grammar.specs.Words.{ValueWord, Stamp, Scalar, Vector, Foreign, Mark, Section, Wrong, same, is_end}
use Rattle.vcd_way.specs.declared.tap.Tap.{Tap}
use Rattle.vcd_way.specs.Ways.{ValueRules, Way}
use Rattle.vcd_way.specs.Steps.{Spot, AtPreface, AtHeader, InSection, AtValues, AtCode, AtOtherCode, InRemark, DumpState, Step}
use Rattle.vcd_way.specs.Steps.{stamp_step, comes, given, scalar_step, vector_step, other_step}
use Rattle.vcd_way.specs.Steps.{mark_step, stops, resumes, value_step, remark_step, value_word_by}
use Rattle.vcd_way.specs.Steps.{step, step_at, is_past_header_at, is_too_wide_for, vector_digits, digits_by, may_be_long}
use Rattle.vcd_way.specs.Declarations.{DumpSection}
use Rattle.vcd_way.specs.Answers.{fault_at_end}
use Rattle.vcd_way.proofs.Interface.{past-behind, sound-step}
use Rattle.vcd_course.specs.Opening.{told_in}
use Rattle.vcd_scan.specs.Wired.{Wiring, wired}
use Rattle.vcd_scan.specs.Begun.{begun}
use Rattle.vcd_scan.specs.Standing.{tokens_after, last_tokens_after, known_after, open_after, told_after, fault_behind}
use Rattle.vcd_scan.proofs.Reading.{known-append, told-tokens}

-- where the text may not end behind it, it tells nothing
abbrev pub Quiet : {W : Type 0} → Step W → Type 0
Quiet y = (place : ℕ) → is_some (fault_at_end y.state.fault y.state.spot place) ≡ true → y.happenings ≡ []

-- a token behind which a text may end
well : {W : Type 0} (y : Step W) → y.state.fault ≡ None → y.state.spot ≡ AtValues → Quiet y
well y n e = λ place h. absurd (let no = sym h ∙ (λ i. is_some (fault_at_end (n i) (e i) place)) in let wrong : ⊥ = cc in wrong)

quiet-if : {W : Type 0} (b : Bool) (x y : Step W) → Quiet x → Quiet y → Quiet (if b then x else y)
quiet-if true x y p q = p
quiet-if false x y p q = q

quiet-stamp : {W : Type 0} (s : DumpState W) (place time : ℕ) (last : Option ℕ) → s.fault ≡ None → s.spot ≡ AtValues
    → Quiet (stamp_step s place time last)
quiet-stamp s place time None n e = well (comes s place time) n e
quiet-stamp s place time (Some last) n e =
    quiet-if (nat_lt time last) _ _ (λ at h. refl)
    (quiet-if (nat_lt last time) _ _ (well (comes s place time) n e) (λ at h. refl))

quiet-given : {W : Type 0} (s : DumpState W) (place : ℕ) (taps : List Tap) (digits : Option (List ℕ)) → s.fault ≡ None
    → Quiet (given s place taps digits)
quiet-given s place taps (Some digits) n = well (given s place taps (Some digits)) n refl
quiet-given s place [] None n = λ at h. refl
quiet-given s place (tap ∷ taps) None n = λ at h. refl

quiet-scalar : {W : Type 0} (way : Way W) (s : DumpState W) (place digit : ℕ) (taps : Option (List Tap)) → s.fault ≡ None
    → Quiet (scalar_step way s place digit taps)
quiet-scalar way s place digit None n = λ at h. refl
quiet-scalar way s place digit (Some taps) n = quiet-given s place taps (digits_by way.rules (digit ∷ [])) n

quiet-vector : {W : Type 0} (way : Way W) (s : DumpState W) (place from : ℕ) (digits : List ℕ) (taps : Option (List Tap))
    → s.fault ≡ None → Quiet (vector_step way s place from digits taps)
quiet-vector way s place from digits None n = λ at h. refl
quiet-vector way s place from digits (Some taps) n =
    quiet-if (is_too_wide_for taps digits) _ _ (λ at h. refl)
    (quiet-given s from taps (vector_digits way.rules digits) n)

quiet-other : {W : Type 0} (s : DumpState W) (place : ℕ) (taps : Option (List Tap)) → Quiet (other_step s place taps)
quiet-other s place None = λ at h. refl
quiet-other s place (Some taps) = λ at h. refl

quiet-mark : {W : Type 0} (way : Way W) (s : DumpState W) (word : List ℕ) → s.fault ≡ None → s.spot ≡ AtValues
    → Quiet (mark_step way s word)
quiet-mark way s word n e =
    quiet-if (way.rules.tells_holes && same (codes "$dumpoff") word) _ _ (well (stops way s) n e)
    (quiet-if (way.rules.tells_holes && (s.is_off && same (codes "$dumpon") word)) _ _ (well (resumes way s) n e)
    (λ at h. refl))

quiet-value : {W : Type 0} (way : Way W) (s : DumpState W) (t : Token) (w : ValueWord) → s.fault ≡ None
    → s.spot ≡ AtValues → Quiet (value_step way s t w)
quiet-value way s t (Stamp time) n e = quiet-stamp s t.place time s.time n e
quiet-value way s t (Scalar digit code) n e = quiet-scalar way s t.place digit (way.taps s.header code) n
quiet-value way s t (Vector digits) n e = λ at h. refl
quiet-value way s t Foreign n e = λ at h. refl
quiet-value way s t Mark n e = quiet-mark way s t.word n e
quiet-value way s t Section n e = λ at h. refl
quiet-value way s t Wrong n e = λ at h. refl

quiet-remark : {W : Type 0} (s : DumpState W) (section : DumpSection) (t : Token) → Quiet (remark_step s section t)
quiet-remark s section t = quiet-if (is_end t.word) _ _ (λ at h. refl) (λ at h. refl)

-- behind the header
quiet-at : {W : Type 0} (way : Way W) (spot : Spot) (s : DumpState W) (t : Token) → s.fault ≡ None → s.spot ≡ spot
    → is_past_header_at spot ≡ true → Quiet (step_at way spot s t)
quiet-at way AtPreface s t n e p = absurd (let no : ⊥ = cc in no)
quiet-at way AtHeader s t n e p = absurd (let no : ⊥ = cc in no)
quiet-at way (InSection section) s t n e p = absurd (let no : ⊥ = cc in no)
quiet-at way AtValues s t n e p =
    let w = value_word_by way.rules t.word in
    quiet-if (not (way.rules.takes_any && may_be_long w) && is_long t.word) _ _ (λ at h. refl) (quiet-value way s t w n e)
quiet-at way (AtCode from digits) s t n e p =
    quiet-if (is_long t.word) _ _ (λ at h. refl) (quiet-vector way s t.place from digits (way.taps s.header t.word) n)
quiet-at way (AtOtherCode from) s t n e p =
    quiet-if (is_long t.word) _ _ (λ at h. refl) (quiet-other s t.place (way.taps s.header t.word))
quiet-at way (InRemark section) s t n e p = quiet-remark s section t

quiet-step : (m : ValueRules) (s : DumpState Wiring) (t : Token) → s.fault ≡ None → is_past_header_at s.spot ≡ true
    → Quiet (step (wired m) s t)
quiet-step m s t n p =
    subst (λ y. Quiet y) (sym (sound-step (wired m) s t n)) (quiet-at (wired m) s.spot s t n refl p)

-- ---- the last token of a text

one-more : (m : ValueRules) (w : Wiring) (ts : List Token) (t : Token) (place : ℕ) → (known_after m w ts).fault ≡ None
    → is_some (fault_behind m w (ts ++ t ∷ []) place) ≡ true → told_after m w (ts ++ t ∷ []) ≡ told_after m w ts
one-more m w ts t place n h =
    let s = known_after m w ts in
    let past : is_past_header_at s.spot ≡ true = past-behind (wired m) (begun w) ts refl in
    let quiet = quiet-step m s t n past place
    (ap (λ (x : DumpState Wiring). is_some (fault_at_end x.fault x.spot place)) (sym (known-append m w ts (t ∷ []))) ∙ h) in
    told-tokens m w ts (t ∷ [])
    ∙ ap (λ hs. told_after m w ts ++ told_in m (open_after m w ts) (hs ++ [])) quiet
    ∙ append-nil (told_after m w ts)

more-or-none : (m : ValueRules) (w : Wiring) (ts : List Token) (b : Bool) (t : Token) (place : ℕ)
    → (known_after m w ts).fault ≡ None
    → is_some (fault_behind m w (ts ++ (if b then [] else t ∷ [])) place) ≡ true
    → told_after m w (ts ++ (if b then [] else t ∷ [])) ≡ told_after m w ts
more-or-none m w ts true t place n h = ap (told_after m w) (append-nil ts)
more-or-none m w ts false t place n h = one-more m w ts t place n h

-- where a text may not end, its last token has told nothing
pub told-quiet : (m : ValueRules) (w : Wiring) (head fed : List ℕ) (place : ℕ)
    → (known_after m w (tokens_after head fed)).fault ≡ None
    → is_some (fault_behind m w (last_tokens_after head fed) place) ≡ true
    → told_after m w (last_tokens_after head fed) ≡ told_after m w (tokens_after head fed)
unfolding ended_at
told-quiet m w head fed place n h = more-or-none m w (tokens_after head fed) _ _ place n h
