-- A text's first line and the lines behind it.
use Rattle.std.proofs.Common.{◌≡◌, ℕ, suc, ◌+◌, ◌<◌, Bool, true, false, cond, eqb, List, [], ◌∷◌, length, take, drop}
use Rattle.std.proofs.Common.{Result, Ok, refl, ap, arith}
use Rattle.fsb_script.specs.declared.fault.Cause.{Cause}
use Rattle.fsb_script.specs.declared.fault.ScriptFault.{ScriptFault}
use Rattle.fsb_script.specs.declared.fault.LineStop.{LineStop}
use Rattle.fsb_script.specs.declared.fault.LineStop.TheVariants as stops
use Rattle.fsb_script.specs.Parsing.{◌>>=◌, LineFails, Fails, stop_at}
use Rattle.fsb_script.specs.TextWords.{in_front, text_lines, line_len}
use Rattle.fsb_script.specs.Drafts.{Progress, after_line, on_line, plan_from, said_plan, beginning}
use Rattle.fsb_script.specs.Plans.{PlanView}

line_step : (t : Bool) (b : ℕ) (xs : List ℕ) (n : ℕ) (lines : List (List ℕ)) → lines ≡ text_lines xs
    → lines ≡ take n xs ∷ text_lines (drop (n + 1) xs)
    → cond t ([] ∷ lines) (in_front b lines) ≡ take (cond t 0 (1 + n)) (b ∷ xs) ∷ text_lines
    (drop (cond t 0 (1 + n) + 1) (b ∷ xs))
line_step true b xs n lines same e = ap (λ (ls : List (List ℕ)). [] ∷ ls) same
line_step false b xs n lines same e =
    let one-more : 1 + n ≡ suc n = omega arith in
    let two-more : 1 + n + 1 ≡ suc (n + 1) = omega arith in
    rw e (rw two-more (rw one-more refl))

last_line : (t : Bool) (b : ℕ) → cond t ([] ∷ []) ((b ∷ []) ∷ []) ≡ take (cond t 0 (1 + 0)) (b ∷ []) ∷ text_lines
    (drop (cond t 0 (1 + 0) + 1) (b ∷ []))
last_line true b = refl
last_line false b = refl

pub lines_more : (b : ℕ) (bs : List ℕ) → text_lines (b ∷ bs) ≡ take (line_len (b ∷ bs)) (b ∷ bs) ∷ text_lines
    (drop (line_len (b ∷ bs) + 1) (b ∷ bs))
lines_more b [] = last_line (eqb b 10) b
lines_more b (c ∷ cs) = line_step (eqb b 10) b (c ∷ cs) (line_len (c ∷ cs)) (text_lines (c ∷ cs)) refl (lines_more c cs)

pub plan_more : (number : ℕ) (d e : Progress) (text : List ℕ) → 0 < length text
    → after_line d (take (line_len text) text) ≡ Ok e
    → plan_from number d (text_lines text) ≡ plan_from (number + 1) e (text_lines (drop (line_len text + 1) text))
plan_more number d e [] some taken = absurd (omega arith)
plan_more number d e (b ∷ bs) some taken = rw (lines_more b bs) (rw taken refl)

fails_at : (number : ℕ) (stop : LineStop) (read : Result Progress Cause)
    (rest : Progress → Result PlanView ScriptFault) → LineFails stop read
    → Fails (stop_at number stop) (on_line number read >>= rest)
fails_at number stops.Memory read rest h = tt
fails_at number (stops.Bad cause) read rest h = rw h refl

pub plan_stops : (number : ℕ) (d : Progress) (text : List ℕ) (stop : LineStop) → 0 < length text
    → LineFails stop (after_line d (take (line_len text) text))
    → Fails (stop_at number stop) (plan_from number d (text_lines text))
plan_stops number d [] stop some fails = absurd (omega arith)
plan_stops number d (b ∷ bs) stop some fails = rw (lines_more b bs) (fails_at number stop _ _ fails)

pub plan_begins : (text : List ℕ) (d : Progress) → d ≡ beginning → plan_from 1 d (text_lines text) ≡ said_plan text
unfolding said_plan
plan_begins text d e = ap (λ x. plan_from 1 x (text_lines text)) e
