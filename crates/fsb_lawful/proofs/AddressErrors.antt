-- Rule 10: an address error of a timely run cancels a request.
use Rattle.fsb_lawful.proofs.Words
use Words.{ℕ, ◌+◌, ◌<◌, ◌≡◌, true, length, take, arith, ADS, AERR, Marks, line_at, line_back, is_error_alone, breaks-10}
use Words.{Past, Run, run_to, past_of, past_to, is_error_chosen, drives_aerr, drives_hazards, holds_in, holds_at}
use Words.{Timely, Keeps}
use Rattle.fsb_lawful.proofs.Keeping.{keeps}

chosen : (r : Run) (c : ℕ) → is_error_chosen r c ≡ true → line_back ADS r.trace c 3 ≡ true
unfolding is_error_chosen line_back
chosen r c e = grind arith

behind_request : (r : Run) (p : Past) (c : ℕ) → drives_hazards r p c ≡ true → line_at AERR r.trace c ≡ true
    → line_back ADS r.trace c 3 ≡ true
unfolding drives_hazards drives_aerr
behind_request r p c e t = grind (arith, chosen)

at-clock : (r : Run) (c : ℕ) → Timely r → c < length r.trace → line_at AERR (take (c + 1) r.trace) c ≡ true
    → line_back ADS (take (c + 1) r.trace) c 3 ≡ true
unfolding holds_at holds_in run_to
at-clock r c h l t = behind_request (run_to r c) (past_to (past_of r) c) c (h.hazard_lines.at c l) t

-- rule 10
pub keeps-10 : (m : Marks) (r : Run) → Timely r → Keeps m 10 r.trace
unfolding is_error_alone
keeps-10 m r h = grind (arith, keeps, breaks-10, at-clock)
