-- Rule 3: the words of a request are those of a lawful one.
use Rattle.fsb_lawful.proofs.Words
use Words.{ℕ, zero, suc, ◌+◌, ◌<◌, ◌≡◌, true, false, length, take, is_none, refl, ap, ◌∙◌, arith, ADS, Marks, Trace}
use Words.{line_back, request_at, is_code_unlawful, breaks-3, Run, run_to, Timely, WantsLawfully, Keeps}
use Rattle.fsb_lawful.proofs.Begun.{ads-back, begun-decoded}
use Rattle.fsb_lawful.proofs.Keeping.{keeps}

none-back : (v : Trace) → line_back ADS v zero 1 ≡ false
unfolding line_back
none-back v = refl

there : (r : Run) (d : ℕ) → Timely r → WantsLawfully r → suc d < length r.trace
    → line_back ADS (run_to r (suc d)).trace (suc d) 1 ≡ true
    → is_none (request_at (run_to r (suc d)).trace d) ≡ false
there r d h wants l t =
    let begun = begun-decoded r d h l (ads-back r d l ∙ t) in
    ap is_none (begun.2 (wants.lawful d begun.0 begun.1))

at-clock : (r : Run) (c : ℕ) → Timely r → WantsLawfully r → c < length r.trace
    → is_code_unlawful (run_to r c).trace c ≡ false
unfolding is_code_unlawful
at-clock r zero h wants l = grind (arith, none-back)
at-clock r (suc d) h wants l = grind (arith, there)

-- rule 3
pub keeps-3 : (m : Marks) (r : Run) → Timely r → WantsLawfully r → Keeps m 3 r.trace
unfolding run_to
keeps-3 m r h wants = keeps m 3 r.trace (λ c l. breaks-3 m (take (c + 1) r.trace) c ∙ at-clock r c h wants l)
