-- The turns of the snoop ends come in the order of the live requests.
use Rattle.std.proofs.Common.{ℕ, zero, suc, ◌+◌, ◌<◌, ◌≤◌, ◌≡◌, List, [], ◌∷◌, ◌++◌, Some, None, refl, sym, ap, ◌∙◌}
use Rattle.std.proofs.Common.{inl, inr, arith, append-nil}
use Rattle.std.proofs.lemmas.Bool.{cases_lt}
use Rattle.fsb_trace.proofs.Interface.{snoop_end_of-rises}
use Rattle.fsb_trace.specs.At.{Trace}
use Rattle.fsb_trace.specs.Snoop.{snoop_end_of}
use Rattle.fsb_timely.specs.Moments.{number_of_turn, turns_in}
use Rattle.fsb_timely.specs.Past.{SnoopEnd, Moment}

pub turns_in-append : (xs ys : List Moment) → turns_in (xs ++ ys) ≡ turns_in xs ++ turns_in ys
unfolding turns_in
turns_in-append [] ys = refl
turns_in-append (x ∷ xs) ys = grind (arith, turns_in-append xs ys)

-- a moment with a snoop end adds its turn
pub turns-snooped : (xs : List Moment) (x : Moment) (s : SnoopEnd) → x.snooped ≡ Some s
    → turns_in (xs ++ x ∷ []) ≡ turns_in xs ++ number_of_turn s.turn ∷ []
unfolding turns_in
turns-snooped xs x s e = grind (arith, turns_in-append)

-- and one without adds nothing
pub turns-quiet : (xs : List Moment) (x : Moment) → x.snooped ≡ None → turns_in (xs ++ x ∷ []) ≡ turns_in xs
unfolding turns_in
turns-quiet xs x e = grind (arith, turns_in-append, append-nil)

-- how many snoop ends lie below a snoop end: the number of its live request
pub none_before_first : (w : Trace) (t u : ℕ) → snoop_end_of w 0 ≡ Some t → u < t → (j : ℕ)
    → snoop_end_of w j ≡ Some u → ⊥
none_before_first w t u e l zero f = let same : t ≡ u = (let e' = sym e ∙ f in cc) in omega arith
none_before_first w t u e l (suc j) f =
    let h = snoop_end_of-rises w 0 (suc j) u (omega arith) f in
    grind arith

pub none_between : (w : Trace) (i s t u : ℕ) → snoop_end_of w i ≡ Some s → snoop_end_of w (suc i) ≡ Some t
    → s < u → u < t → (j : ℕ) → snoop_end_of w j ≡ Some u → ⊥
none_between w i s t u e f l m j g =
    elim (cases_lt j (suc i)) [
      | inl less ↦ elim (cases_lt j i) [
        | inl k ↦
            let h = snoop_end_of-rises w j i s k e in
            let v : ℕ = h.0 in
            let gap : v + 3 ≤ s = h.2 in
            let same : u ≡ v = (let e' = sym g ∙ h.1 in cc) in
            omega arith
        | inr k ↦
            let one : j ≡ i = omega arith in
            let same : u ≡ s = (let e' = sym g ∙ ap (snoop_end_of w) one ∙ e in cc) in
            omega arith
      ]
      | inr more ↦ elim (cases_lt (suc i) j) [
        | inl k ↦
            let h = snoop_end_of-rises w (suc i) j u k g in
            let v : ℕ = h.0 in
            let gap : v + 3 ≤ u = h.2 in
            let same : t ≡ v = (let e' = sym f ∙ h.1 in cc) in
            omega arith
        | inr k ↦
            let one : j ≡ suc i = omega arith in
            let same : u ≡ t = (let e' = sym g ∙ ap (snoop_end_of w) one ∙ f in cc) in
            omega arith
      ]
    ]
