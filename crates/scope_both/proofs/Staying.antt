-- What a way keeps of a header stays behind it; and a fault stays.
use Rattle.std.proofs.Common.{◌≡◌, ℕ, Bool, true, false, not, ◌&&◌, if◌then◌else◌, is_some, List, [], ◌∷◌, ◌++◌}
use Rattle.std.proofs.Common.{codes, nat_lt, Option, Some, None, refl, sym, ap, ◌∙◌}
use Rattle.vcd_grammar.specs.declared.fault.VcdFault.{VcdFault}
use Rattle.vcd_grammar.specs.declared.fault.VcdCause.TheVariants as causes
use Rattle.vcd_grammar.specs.Tokens.{Token, is_long}
use Rattle.vcd_grammar.specs.Words.{ValueWord, Stamp, Scalar, Vector, Foreign, Mark, Section, Wrong, same, is_end}
use Rattle.vcd_way.specs.Declarations.{with_word}
use Rattle.vcd_way.specs.declared.tap.Tap.{Tap}
use Rattle.vcd_way.specs.Ways.{Way}
use Rattle.vcd_way.specs.Steps.{Spot, AtPreface, AtHeader, InSection, AtValues, AtCode, AtOtherCode, InRemark, DumpState}
use Rattle.vcd_way.specs.Steps.{Step, reads_past, moves_to, breaks, digits_by, value_word_by, comes, stamp_step}
use Rattle.vcd_way.specs.Steps.{given, scalar_step, is_too_wide_for, vector_step, other_step, mark_step, value_step}
use Rattle.vcd_way.specs.Steps.{vector_digits, may_be_long, stops, resumes, step_at, step, state_after}
use Rattle.vcd_way.specs.Steps.{is_past_header_at}
use Rattle.vcd_way.proofs.Interface.{past-behind, fault-behind}

-- what is kept of the header is the same after a token
abbrev Stays : {W : Type 0} → DumpState W → Step W → Type 0
Stays s y = y.state.header ≡ s.header

stays-if : {W : Type 0} (s : DumpState W) (b : Bool) (x y : Step W) → Stays s x → Stays s y → Stays s (if b then x else y)
stays-if s true x y p q = p
stays-if s false x y p q = q

stays-stamp : {W : Type 0} (s : DumpState W) (place time : ℕ) (last : Option ℕ) → Stays s (stamp_step s place time last)
stays-stamp s place time None = refl
stays-stamp s place time (Some last) =
    stays-if s (nat_lt time last) (breaks s place causes.TimeBack)
    (if nat_lt last time then comes s place time else reads_past s) refl
    (stays-if s (nat_lt last time) (comes s place time) (reads_past s) refl refl)

stays-given : {W : Type 0} (s : DumpState W) (place : ℕ) (taps : List Tap) (digits : Option (List ℕ))
    → Stays s (given s place taps digits)
stays-given s place taps (Some digits) = refl
stays-given s place [] None = refl
stays-given s place (tap ∷ taps) None = refl

stays-scalar : {W : Type 0} (way : Way W) (s : DumpState W) (place digit : ℕ) (taps : Option (List Tap))
    → Stays s (scalar_step way s place digit taps)
stays-scalar way s place digit None = refl
stays-scalar way s place digit (Some taps) = stays-given s place taps (digits_by way.rules (digit ∷ []))

stays-vector : {W : Type 0} (way : Way W) (s : DumpState W) (place from : ℕ) (digits : List ℕ) (taps : Option (List Tap))
    → Stays s (vector_step way s place from digits taps)
stays-vector way s place from digits None = refl
stays-vector way s place from digits (Some taps) =
    stays-if s (is_too_wide_for taps digits) (breaks s from causes.Width)
    (given s from taps (vector_digits way.rules digits)) refl
    (stays-given s from taps (vector_digits way.rules digits))

stays-other : {W : Type 0} (s : DumpState W) (place : ℕ) (taps : Option (List Tap)) → Stays s (other_step s place taps)
stays-other s place None = refl
stays-other s place (Some taps) = refl

stays-mark : {W : Type 0} (way : Way W) (s : DumpState W) (word : List ℕ) → Stays s (mark_step way s word)
stays-mark way s word =
    let on = way.rules.tells_holes && (s.is_off && same (codes "$dumpon") word) in
    stays-if s (way.rules.tells_holes && same (codes "$dumpoff") word) (stops way s)
    (if on then resumes way s else reads_past s) refl (stays-if s on (resumes way s) (reads_past s) refl refl)

stays-value : {W : Type 0} (way : Way W) (s : DumpState W) (t : Token) (w : ValueWord) → Stays s (value_step way s t w)
stays-value way s t (Stamp time) = stays-stamp s t.place time s.time
stays-value way s t (Scalar digit code) = stays-scalar way s t.place digit (way.taps s.header code)
stays-value way s t (Vector digits) = refl
stays-value way s t Foreign = refl
stays-value way s t Mark = stays-mark way s t.word
stays-value way s t Section = refl
stays-value way s t Wrong = refl

stays-at : {W : Type 0} (way : Way W) (spot : Spot) (s : DumpState W) (t : Token) → is_past_header_at spot ≡ true
    → Stays s (step_at way spot s t)
stays-at way AtPreface s t h = cc h
stays-at way AtHeader s t h = cc h
stays-at way (InSection section) s t h = cc h
stays-at way AtValues s t h =
    let w = value_word_by way.rules t.word in
    stays-if s (not (way.rules.takes_any && may_be_long w) && is_long t.word) (breaks s t.place causes.Token)
    (value_step way s t w) refl (stays-value way s t w)
stays-at way (AtCode from digits) s t h =
    let taps = way.taps s.header t.word in
    stays-if s (is_long t.word) (breaks s t.place causes.Token) (vector_step way s t.place from digits taps) refl
    (stays-vector way s t.place from digits taps)
stays-at way (AtOtherCode from) s t h =
    let taps = way.taps s.header t.word in
    stays-if s (is_long t.word) (breaks s t.place causes.Token) (other_step s t.place taps) refl
    (stays-other s t.place taps)
stays-at way (InRemark section) s t h =
    stays-if s (is_end t.word) (moves_to (record s { remarks = s.remarks ++ section ∷ [] }) AtValues)
    (moves_to s (InRemark (with_word section t.word))) refl refl

stays-step : {W : Type 0} (way : Way W) (s : DumpState W) (t : Token) → is_past_header_at s.spot ≡ true
    → Stays s (step way s t)
unfolding step
stays-step way s t h =
    stays-if s (is_some s.fault) (reads_past s) (step_at way s.spot s t) refl (stays-at way s.spot s t h)

-- once the header is over, what is kept of it stays
pub header-stays : {W : Type 0} (way : Way W) (s : DumpState W) (ts : List Token) → is_past_header_at s.spot ≡ true
    → (state_after way s ts).header ≡ s.header
header-stays way s [] h = refl
header-stays way s (t ∷ ts) h =
    header-stays way (step way s t).state ts (past-behind way s (t ∷ []) h) ∙ stays-step way s t h

-- where there is no fault after some tokens, there was none before them
pub none-before : {W : Type 0} (way : Way W) (s : DumpState W) (ts : List Token) → (state_after way s ts).fault ≡ None
    → s.fault ≡ None
none-before {W = W} way s ts h = by s.fault refl
  where
    by : (f : Option VcdFault) → s.fault ≡ f → f ≡ None
    by None e = refl
    by (Some fault) e =
        let same : (state_after way s ts).fault ≡ s.fault =
        ap (λ (r : DumpState W). r.fault) (fault-behind way s ts (ap is_some e)) in
        let wrong : Some fault ≡ None = sym e ∙ sym same ∙ h in
        cc wrong
