-- How many fills a line has when one is added, promised or ended.
use Rattle.fsb_agent_run.proofs.Words
use Words.{ℕ, ◌+◌, ◌≡◌, ◌≢◌, Bool, true, false, cond, not, List, [], ◌∷◌, ◌++◌, refl, sym, ap, ◌∙◌, inl, inr, arith}
use Words.{zero-add, ◌==◌, count_by, is_none, find, cases_Bool, eqb-true, ne_eqb, sum_by-cons, Fill, fills_without}
use Words.{is_fill_on, promised_to, with_promise, without_first-cons, one_if}

abbrev pub count_on : ℕ → List Fill → ℕ
count_on line fills = count_by (is_fill_on line) fills

count-cons : (line : ℕ) (f : Fill) (fills : List Fill)
    → count_on line (f ∷ fills) ≡ cond (f.line == line) 1 0 + count_on line fills
count-cons line f fills = sum_by-cons (λ fill. cond (is_fill_on line fill) 1 0) f fills

pub count-here : (line : ℕ) (f : Fill) (fills : List Fill) (b : Bool) → (f.line == line) ≡ b
    → count_on line (f ∷ fills) ≡ cond b 1 0 + count_on line fills
count-here line f fills b e = count-cons line f fills ∙ ap (λ x. cond x 1 0 + count_on line fills) e

-- one more behind them
pub count-push : (line : ℕ) (fill : Fill) (fills : List Fill)
    → count_on line (fills ++ fill ∷ []) ≡ count_on line fills + cond (fill.line == line) 1 0
count-push line fill [] = omega (arith, count-cons line fill [])
count-push line fill (f ∷ fills) =
    omega (arith, count-cons line f (fills ++ fill ∷ []), count-cons line f fills, count-push line fill fills)

-- one is promised
pub count-promised : (line other to : ℕ) (fills : List Fill)
    → count_on line (promised_to other to fills) ≡ count_on line fills
count-promised line other to [] = refl
count-promised line other to (f ∷ fills) =
    count-cons line (with_promise other to f) (promised_to other to fills)
    ∙ ap (λ n. cond (n == line) 1 0 + count_on line (promised_to other to fills)) (same-line other to f)
    ∙ ap (λ n. cond (f.line == line) 1 0 + n) (count-promised line other to fills)
    ∙ sym (count-cons line f fills)
  where
    same-line : (other to : ℕ) (f : Fill) → (with_promise other to f).line ≡ f.line
    same-line other to f = elim (cases_Bool (is_fill_on other f)) [ inl on ↦ rw on refl | inr off ↦ rw off refl ]

-- one has ended
pub count-without_other : (line other : ℕ) (fills : List Fill) → line ≢ other
    → count_on line (fills_without other fills) ≡ count_on line fills
count-without_other line other [] apart = refl
count-without_other line other (f ∷ fills) apart =
    rw (without_first-cons (is_fill_on other) f fills)
    (elim (cases_Bool (f.line == other)) [
      | inl on ↦
          let is : f.line ≡ other = eqb-true f.line other on in
          let off : (f.line == line) ≡ false = ne_eqb f.line line (λ e. apart (sym e ∙ is)) in
          rw on (sym (count-here line f fills false off ∙ zero-add (count_on line fills)))
      | inr off ↦
          rw off
          (count-cons line f (fills_without other fills)
          ∙ ap (λ n. cond (f.line == line) 1 0 + n) (count-without_other line other fills apart)
          ∙ sym (count-cons line f fills))
    ])

pub count-without_this : (line : ℕ) (fills : List Fill) → count_on line fills ≡ 1
    → count_on line (fills_without line fills) ≡ 0
count-without_this line [] one = absurd (omega (arith, one))
count-without_this line (f ∷ fills) one =
    rw (without_first-cons (is_fill_on line) f fills)
    (elim (cases_Bool (f.line == line)) [
      | inl on ↦ rw on (omega (arith, one, count-here line f fills true on))
      | inr off ↦
          let rest : count_on line fills ≡ 1 = omega (arith, one, count-here line f fills false off) in
          rw off
          (count-here line f (fills_without line fills) false off ∙ zero-add (count_on line (fills_without line fills))
          ∙ count-without_this line fills rest)
    ])

-- none is found where there are none, and one where there is one
pub come-count : (line : ℕ) (fills : List Fill) (b : Bool) → count_on line fills ≡ one_if b
    → is_none (find (is_fill_on line) fills) ≡ not b
come-count line [] true e = absurd (omega (arith, e))
come-count line [] false e = refl
come-count line (f ∷ fills) b e = elim (cases_Bool (f.line == line)) [
  | inl on ↦ rw on (here b (omega (arith, e, count-here line f fills true on)))
  | inr off ↦ rw off (come-count line fills b (omega (arith, e, count-here line f fills false off)))
]
  where
    here : (b : Bool) → 1 + count_on line fills ≡ one_if b → false ≡ not b
    here b h1 = grind arith
