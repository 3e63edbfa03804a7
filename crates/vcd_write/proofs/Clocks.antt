-- The texts of the clocks from one on.
use Rattle.std.proofs.Common.{◌≡◌, ℕ, ◌+◌, ◌<◌, ◌≤◌, List, [], ◌∷◌, ◌++◌, refl, length, get_or, drop, sym, drop-cons}
use Rattle.std.proofs.Common.{slice_get, Some, None, Bool, true, suc, ap, ◌∙◌, arith}
use Rattle.std.proofs.lemmas.Bool.{true_from_ne_false}
use Rattle.std.proofs.Math.Path.{ap₂}
use Rattle.std.proofs.lemmas.List.{drop_all}
use Rattle.fsb_signal.specs.declared.sample.Sample.{Sample}
use Rattle.std.proofs.lemmas.List.Folds.{list_all_at}
use Rattle.std.specs.List.{list_all}
use Rattle.fsb_signal.specs.Samples.{idle}
use Rattle.fsb_signal.specs.DumpText.{header_text, clock_text, clocks_text, dump_text}

-- the text of the clock of a sample, and then those of the later ones
pub clocks_text-at : (profile : ℕ) (w : List Sample) (clock : ℕ) (before now : Sample) → clock < length w
    → now ≡ get_or w clock now →
    clocks_text profile clock before (drop clock w) ≡ clock_text profile clock before now
    ++ clocks_text profile (clock + 1) now (drop (clock + 1) w)
unfolding clocks_text
clocks_text-at profile w clock before now within is =
    let next : suc clock ≡ clock + 1 = omega arith in
    let split : drop clock w ≡ now ∷ drop (clock + 1) w = drop-cons w clock now within
    ∙ ap₂ (λ x xs. x ∷ xs) (sym is) (ap (λ n. drop n w) next) in
    rw split refl

-- past the last clock there is no text
pub clocks_text-past : (profile : ℕ) (w : List Sample) (clock : ℕ) (before : Sample) → length w ≤ clock
    → clocks_text profile clock before (drop clock w) ≡ []
unfolding clocks_text
clocks_text-past profile w clock before past = rw (drop_all clock w past) refl

-- what holds of all samples holds of each
pub holds-at : (p : Sample → Bool) (w : List Sample) (clock : ℕ) (now : Sample) → list_all p w ≡ true
    → clock < length w → now ≡ get_or w clock now → p now ≡ true
holds-at p w clock now all within is =
    true_from_ne_false (p now) (λ not. cc (sym all ∙ list_all_at p w clock now within (ap p (sym is) ∙ not)))

-- and of the first one
pub holds-first : (p : Sample → Bool) (w : List Sample) (first : Sample) → list_all p w ≡ true
    → Some first ≡ slice_get w 0 → p first ≡ true
holds-first p [] first all h = cc h
holds-first p (x ∷ w) first all h =
    let same : first ≡ x = cc h in
    true_from_ne_false (p first) (λ not. cc (sym all ∙ list_all_at p (x ∷ w) 0 x (omega arith) (ap p (sym same) ∙ not)))

-- a dump with a first sample is its header and the texts of the clocks
pub dump_text-some : (profile : ℕ) (w : List Sample) (first : Sample) → Some first ≡ slice_get w 0
    → dump_text profile w ≡ header_text profile first ++ clocks_text profile 0 first w
unfolding dump_text
dump_text-some profile [] first h = cc h
dump_text-some profile (x ∷ w) first h = let same : first ≡ x = cc h in rw same refl

-- a dump of no samples is the header of the idle sample
pub dump_text-none : (profile : ℕ) (w : List Sample) → None ≡ slice_get w 0
    → dump_text profile w ≡ header_text profile idle
unfolding dump_text
dump_text-none profile [] h = refl
dump_text-none profile (x ∷ w) h = cc h
