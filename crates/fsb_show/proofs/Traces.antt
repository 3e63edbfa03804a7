-- One sample more of a trace.
use Rattle.std.proofs.Common.{◌≡◌, ℕ, ◌+◌, ◌<◌, ◌∷◌, ◌++◌, [], Some, None, length, take, get_or, refl, sym, ap, ◌∙◌}
use Rattle.std.proofs.lemmas.List.{take_more}
use Rattle.fsb_signal.specs.declared.sample.Sample.{Sample}
use Rattle.fsb_rules.specs.Checker.{as_broken}
use Rattle.fsb_rules.specs.declared.broken.Broken.{Broken}
use Rattle.fsb_signal.specs.declared.marks.Marks.{Marks}
use Rattle.fsb_trace.specs.At.{Trace}
use Rattle.fsb_trace.specs.Verdict.{verdict}

pub next_taken : (w : Trace) (i : ℕ) (x : Sample) → i < length w → x ≡ get_or w i x
    → take i w ++ x ∷ [] ≡ take (i + 1) w
next_taken w i x l is = ap (λ y. take i w ++ y ∷ []) is ∙ sym (take_more w i x l)

-- where none is broken, none is told
unbroken : as_broken None ≡ None
unfolding as_broken
unbroken = refl

-- a trace with a broken rule is not accepted
pub broken_not : (marks : Marks) (w : Trace) (broken : Broken) → Some broken ≡ as_broken (verdict marks w)
    → verdict marks w ≡ None → ⊥
broken_not marks w broken e none =
    let gone : as_broken (verdict marks w) ≡ None =
    rw none unbroken in let no : Some broken ≡ None = e ∙ gone in (let bad : ⊥ = cc in bad)
