-- The text of a dump, as one more sample is put behind it.
use Rattle.std.proofs.Common.{◌≡◌, ℕ, suc, ◌+◌, Bool, List, [], ◌∷◌, ◌++◌, length, Option, Some, None, refl, sym, ap, ◌∙◌, arith}
use Rattle.std.proofs.Common.{append_assoc, append-nil}
use Rattle.std.proofs.Math.Path.{ap₂}
use Rattle.fsb_signal.specs.declared.sample.Sample.{Sample}
use Rattle.scope_write.specs.Text.{shown_header, shown_clock, shown_clocks, shown_dump}
use Rattle.scope_write.specs.Standing.{last_behind}

clocks-grow : (there : List Bool) (clock : ℕ) (before : Option Sample) (w : List Sample) (now : Sample) →
    shown_clocks there clock before (w ++ now ∷ [])
    ≡ shown_clocks there clock before w ++ shown_clock there (clock + length w) (last_behind before w) now
unfolding shown_clocks
clocks-grow there clock before [] now =
    let here : clock ≡ clock + 0 = omega arith in
    append-nil (shown_clock there clock before now) ∙ ap (λ c. shown_clock there c before now) here
clocks-grow there clock before (s ∷ w) now =
    let next : (clock + 1) + length w ≡ clock + suc (length w) = omega arith in
    ap (λ t. shown_clock there clock before s ++ t) (clocks-grow there (clock + 1) (Some s) w now
    ∙ ap (λ c. shown_clocks there (clock + 1) (Some s) w ++ shown_clock there c (last_behind (Some s) w) now) next)
    ∙ sym (append_assoc (shown_clock there clock before s) (shown_clocks there (clock + 1) (Some s) w)
    (shown_clock there (clock + suc (length w)) (last_behind (Some s) w) now))

-- the text grows by that of the sample's clock
pub dump-grows : (there : List Bool) (w : List Sample) (now : Sample) →
    shown_dump there (w ++ now ∷ []) ≡ shown_dump there w ++ shown_clock there (length w) (last_behind None w) now
unfolding shown_dump
dump-grows there w now =
    let here : 0 + length w ≡ length w = omega arith in
    ap (λ t. shown_header there ++ t) (clocks-grow there 0 None w now
    ∙ ap (λ c. shown_clocks there 0 None w ++ shown_clock there c (last_behind None w) now) here)
    ∙ sym (append_assoc (shown_header there) (shown_clocks there 0 None w)
    (shown_clock there (length w) (last_behind None w) now))

-- before the first sample it is the header
pub dump-none : (there : List Bool) → shown_dump there [] ≡ shown_header there
unfolding shown_dump shown_clocks
dump-none there = append-nil (shown_header there)

-- the last one is that sample
pub last-grows : (before : Option Sample) (w : List Sample) (now : Sample) → last_behind before (w ++ now ∷ []) ≡ Some now
last-grows before [] now = refl
last-grows before (s ∷ w) now = last-grows (Some s) w now

-- a text that grows by that of the next clock
pub text-grows : (old new begun : List ℕ) (own : List Bool) (clock : ℕ) (before : Option Sample) (there : List Bool)
    (w : List Sample) (now : Sample) → own ≡ there → clock ≡ length w → before ≡ last_behind None w
    → old ≡ begun ++ shown_dump there w → new ≡ old ++ shown_clock own clock before now
    → new ≡ begun ++ shown_dump there (w ++ now ∷ [])
text-grows old new begun own clock before there w now a b c held grown =
    grown ∙ ap₂ (λ x t. x ++ t) held
    (ap (λ o. shown_clock o clock before now) a
    ∙ ap₂ (λ n s. shown_clock there n s now) b c)
    ∙ append_assoc begun (shown_dump there w) (shown_clock there (length w) (last_behind None w) now)
    ∙ ap (λ t. begun ++ t) (sym (dump-grows there w now))
