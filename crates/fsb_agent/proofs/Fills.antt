-- Fills that are added, promised and ended, and how many of them are promised.
use Rattle.std.proofs.Common.{ℕ, ◌+◌, ◌≤◌, ◌≡◌, ◌≢◌, Bool, true, false, cond, not, Option, Some, None, List, [], ◌∷◌}
use Rattle.std.proofs.Common.{◌++◌, refl, sym, ap, ◌∙◌, inl, inr, arith}
use Rattle.std.specs.Prelude.{◌==◌, ◌||◌, count_by, is_some}
use Rattle.std.specs.List.{list_all}
use Rattle.std.proofs.lemmas.Bool.{cases_Bool, eq-eqb, ne_eqb}
use Rattle.std.proofs.lemmas.List.Folds.{list_all-append}
use Rattle.std.proofs.lemmas.List.Sums.{sum_by-cons}
use Rattle.fsb_linebuf.specs.declared.entry.Fill.{Fill}
use Rattle.fsb_linebuf.specs.Buffers.{fill_on, fills_without, is_fill_on, promise_on, promised_to, with_promise}
use Rattle.fsb_linebuf.specs.Buffers.{without_first}
use Rattle.fsb_agent_view.specs.Sound.{are_fills_apart}
use Rattle.fsb_agent_view.proofs.Interface.{both, both_left, both_right, list_all-without, without_first-cons}

-- a fill behind the others
pub fill_on-push : (line : ℕ) (fill : Fill) (fills : List Fill)
    → is_some (fill_on line (fills ++ fill ∷ [])) ≡ (is_some (fill_on line fills) || (fill.line == line))
fill_on-push line fill [] = elim (cases_Bool (fill.line == line)) [ inl on ↦ rw on refl | inr off ↦ rw off refl ]
fill_on-push line fill (f ∷ fills) =
    elim (cases_Bool (f.line == line)) [ inl on ↦ rw on refl | inr off ↦ rw off (fill_on-push line fill fills) ]

-- fills of which one is promised
pub fill_on-promised : (line other to : ℕ) (fills : List Fill)
    → is_some (fill_on line (promised_to other to fills)) ≡ is_some (fill_on line fills)
fill_on-promised line other to [] = refl
fill_on-promised line other to (f ∷ fills) =
    elim (cases_Bool (f.line == other)) [
      | inl on ↦ rw on (last (record f { promise = Some to }) f (fill_on line (promised_to other to fills))
          (fill_on line fills) (f.line == line) (fill_on-promised line other to fills))
      | inr off ↦ rw off (last f f (fill_on line (promised_to other to fills)) (fill_on line fills)
          (f.line == line) (fill_on-promised line other to fills))
    ]
  where
    last : (x y : Fill) (a b : Option Fill) (here : Bool) → is_some a ≡ is_some b
        → is_some (cond here (Some x) a) ≡ is_some (cond here (Some y) b)
    last x y a b true e = refl
    last x y a b false e = e

-- the fill of another line when one has ended
pub fill_on-without : (line other : ℕ) (fills : List Fill) → line ≢ other
    → fill_on line (fills_without other fills) ≡ fill_on line fills
fill_on-without line other [] apart = refl
fill_on-without line other (f ∷ fills) apart =
    rw (without_first-cons (is_fill_on other) f fills)
    (elim (cases_Bool (f.line == other)) [
      | inl on ↦
          let is : f.line ≡ other = grind arith in
          rw (on, ne_eqb f.line line (λ e. apart (sym e ∙ is))) refl
      | inr off ↦ rw off (ap (λ rest. cond (f.line == line) (Some f) rest) (fill_on-without line other fills apart))
    ])

-- a line that has no fill is no fill's line
pub none_on : (line : ℕ) (fills : List Fill) → fill_on line fills ≡ None
    → list_all (λ fill. not (fill.line == line)) fills ≡ true
none_on line [] none = refl
none_on line (f ∷ fills) none =
    elim (cases_Bool (f.line == line)) [
      | inl on ↦ absurd (let never : Some f ≡ None = rw on at none in (let h : ⊥ = cc in h))
      | inr off ↦ rw off (none_on line fills (rw off at none))
    ]

flipped : (a b : ℕ) → not (a == b) ≡ true → not (b == a) ≡ true
flipped a b h =
    rw (ne_eqb b a (λ e. absurd (let never : false ≡ true = rw (eq-eqb a b (sym e)) at h in
    (let x : ⊥ = cc in x)))) refl

-- no line gets two fills
pub fills_apart-push : (fill : Fill) (fills : List Fill) → are_fills_apart fills ≡ true
    → fill_on fill.line fills ≡ None → are_fills_apart (fills ++ fill ∷ []) ≡ true
fills_apart-push fill [] apart none = refl
fills_apart-push fill (f ∷ fills) apart none =
    let others = none_on fill.line (f ∷ fills) none in
    let f_apart : not (f.line == fill.line) ≡ true =
    both_left _ (list_all (λ g. not (g.line == fill.line)) fills) others in
    elim (cases_Bool (f.line == fill.line)) [
      | inl on ↦ absurd (let never : Some f ≡ None = rw on at none in (let h : ⊥ = cc in h))
      | inr off ↦ both _ _
          (list_all-append (λ later. not (later.line == f.line)) fills (fill ∷ [])
          ∙ both _ _ (both_left (list_all (λ later. not (later.line == f.line)) fills) (are_fills_apart fills) apart)
          (both _ true (flipped f.line fill.line f_apart) refl))
          (fills_apart-push fill fills
          (both_right (list_all (λ later. not (later.line == f.line)) fills) (are_fills_apart fills) apart)
          (rw off at none))
    ]

line-promised : (line to : ℕ) (f : Fill) → (with_promise line to f).line ≡ f.line
line-promised line to f = elim (cases_Bool (is_fill_on line f)) [ inl on ↦ rw on refl | inr off ↦ rw off refl ]

lines-promised : (line to other : ℕ) (fills : List Fill)
    → list_all (λ later. not (later.line == other)) (promised_to line to fills)
    ≡ list_all (λ later. not (later.line == other)) fills
lines-promised line to other [] = refl
lines-promised line to other (f ∷ fills) = rw (line-promised line to f, lines-promised line to other fills) refl

pub fills_apart-promised : (line to : ℕ) (fills : List Fill) → are_fills_apart fills ≡ true
    → are_fills_apart (promised_to line to fills) ≡ true
fills_apart-promised line to [] apart = refl
fills_apart-promised line to (f ∷ fills) apart =
    both _ _
    (rw (line-promised line to f) (lines-promised line to f.line fills
    ∙ both_left (list_all (λ later. not (later.line == f.line)) fills) (are_fills_apart fills) apart))
    (fills_apart-promised line to fills
    (both_right (list_all (λ later. not (later.line == f.line)) fills) (are_fills_apart fills) apart))

pub fills_apart-without : (test : Fill → Bool) (fills : List Fill) → are_fills_apart fills ≡ true
    → are_fills_apart (without_first test fills) ≡ true
fills_apart-without test [] apart = refl
fills_apart-without test (f ∷ fills) apart =
    let others = both_right (list_all (λ later. not (later.line == f.line)) fills) (are_fills_apart fills) apart in
    let first = both_left (list_all (λ later. not (later.line == f.line)) fills) (are_fills_apart fills) apart in
    rw (without_first-cons test f fills)
    (elim (cases_Bool (test f)) [
      | inl on ↦ rw on others
      | inr off ↦ rw off (both _ _ (list_all-without (λ later. not (later.line == f.line)) test fills first)
          (fills_apart-without test fills others))
    ])

-- how many are promised
abbrev pub promised_count : List Fill → ℕ
promised_count fills = count_by (λ fill. is_some fill.promise) fills

promised_count-cons : (f : Fill) (fills : List Fill)
    → promised_count (f ∷ fills) ≡ cond (is_some f.promise) 1 0 + promised_count fills
promised_count-cons f fills = sum_by-cons (λ fill. cond (is_some fill.promise) 1 0) f fills

pub promised_count-push : (line number : ℕ) (fills : List Fill)
    → promised_count (fills ++ record { line = line; number = number; promise = None } ∷ []) ≡ promised_count fills
promised_count-push line number [] = refl
promised_count-push line number (f ∷ fills) =
    promised_count-cons f (fills ++ record { line = line; number = number; promise = None } ∷ [])
    ∙ ap (λ n. cond (is_some f.promise) 1 0 + n) (promised_count-push line number fills)
    ∙ sym (promised_count-cons f fills)

-- where none is of the line, nothing is promised
none_promised : (line to : ℕ) (fills : List Fill) → list_all (λ fill. not (fill.line == line)) fills ≡ true
    → promised_to line to fills ≡ fills
none_promised line to [] none = refl
none_promised line to (f ∷ fills) none =
    elim (cases_Bool (f.line == line)) [
      | inl on ↦ absurd (let never : false ≡ true = rw on at none in (let h : ⊥ = cc in h))
      | inr off ↦ rw off
          (ap (λ rest. f ∷ rest) (none_promised line to fills (both_right (not (f.line == line)) _ none)))
    ]

-- one more is promised at most
pub promised_count-promised : (line to : ℕ) (fills : List Fill) → are_fills_apart fills ≡ true
    → promised_count (promised_to line to fills) ≤ promised_count fills + 1
promised_count-promised line to [] apart = omega arith
promised_count-promised line to (f ∷ fills) apart =
    let others = both_right (list_all (λ later. not (later.line == f.line)) fills) (are_fills_apart fills) apart in
    let first = both_left (list_all (λ later. not (later.line == f.line)) fills) (are_fills_apart fills) apart in
    elim (cases_Bool (f.line == line)) [
      | inl on ↦
          let is : f.line ≡ line = grind arith in
          let rest : promised_to line to fills ≡ fills = none_promised line to fills (rw is at first) in
          more on (ap promised_count rest)
      | inr off ↦
          let here : promised_to line to (f ∷ fills) ≡ f ∷ promised_to line to fills = rw off refl in
          omega (
            arith,
            ap promised_count here,
            promised_count-cons f (promised_to line to fills),
            promised_count-cons f fills,
            promised_count-promised line to fills others,
          )
    ]
  where
    few : (b : Bool) → cond b 1 0 ≤ 1
    few true = omega arith
    few false = omega arith

    more : is_fill_on line f ≡ true → promised_count (promised_to line to fills) ≡ promised_count fills
        → promised_count (promised_to line to (f ∷ fills)) ≤ promised_count (f ∷ fills) + 1
    more on rest =
        let here : promised_to line to (f ∷ fills) ≡ record f { promise = Some to } ∷ promised_to line to
        fills = rw on refl in
        omega (
          arith,
          ap promised_count here,
          promised_count-cons (record f { promise = Some to }) (promised_to line to fills),
          promised_count-cons f fills,
          rest,
        )

-- what was promised of a fill that has ended
pub promised_count-without : (line : ℕ) (fills : List Fill)
    → promised_count (fills_without line fills) + cond (is_some (promise_on line fills)) 1 0 ≡ promised_count fills
promised_count-without line [] = refl
promised_count-without line (f ∷ fills) =
    elim (cases_Bool (f.line == line)) [
      | inl on ↦
          let rest : fills_without line (f ∷ fills) ≡ fills = without_first-cons (is_fill_on line) f fills
          ∙ ap (λ b. cond b fills (f ∷ fills_without line fills)) on in
          let promise : promise_on line (f ∷ fills) ≡ f.promise = rw on refl in
          omega (
            arith,
            ap promised_count rest,
            ap {B = ℕ} (λ o. cond (is_some o) 1 0) promise,
            promised_count-cons f fills,
          )
      | inr off ↦
          let rest : fills_without line (f ∷ fills) ≡ f ∷ fills_without line fills =
          without_first-cons (is_fill_on line) f fills
          ∙ ap (λ b. cond b fills (f ∷ fills_without line fills)) off in
          let promise : promise_on line (f ∷ fills) ≡ promise_on line fills = rw off refl in
          omega (
            arith,
            ap promised_count rest,
            ap {B = ℕ} (λ o. cond (is_some o) 1 0) promise,
            promised_count-cons f (fills_without line fills),
            promised_count-cons f fills,
            promised_count-without line fills,
          )
    ]
