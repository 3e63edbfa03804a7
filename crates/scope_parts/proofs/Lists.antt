-- One more at the end of a list.
use Rattle.std.proofs.Common.{◌≡◌, ◌∙◌, ℕ, ◌-◌, ◌<◌, ◌++◌, ◌∷◌, [], List, length, take, sym, ap, arith}
use Rattle.std.proofs.lemmas.List.{length-append, length-take, take_all, take-append-le}
use Rattle.vcd_way.specs.Events.{DumpEvent}
use Rattle.scope_parts.specs.Findings.{EachBehind}
use Rattle.scope_parts.specs.Standing.{but_last}

-- each of some, and one more
pub each_more : {A : Type 0} (IsSo : List A → A → Type 0) (xs : List A) (x : A) → EachBehind IsSo xs → IsSo xs x
    → EachBehind IsSo (xs ++ x ∷ [])
each_more IsSo [] x all one = (one, tt)
each_more IsSo (y ∷ xs) x all one = (all.0, each_more (λ ys. IsSo (y ∷ ys)) xs x all.1 one)

-- all but the last one
pub but_last-snoc : (es : List DumpEvent) (e : DumpEvent) → but_last (es ++ e ∷ []) ≡ es
but_last-snoc es e =
    let size : length (es ++ e ∷ []) - 1 ≡ length es = omega (arith, length-append es (e ∷ [])) in
    ap (λ n. take n (es ++ e ∷ [])) size ∙ take-append-le (length es) es (e ∷ []) (omega arith) ∙ take_all (length es) es (omega arith)

-- the first ones, where there is room for one more
pub first-more : {A : Type 0} (n : ℕ) (xs : List A) (x : A) → length (take n xs) < n
    → take n (xs ++ x ∷ []) ≡ take n xs ++ x ∷ []
first-more n xs x room =
    let few : length xs < n = omega (arith, length-take n xs, room) in
    take_all n (xs ++ x ∷ []) (omega (arith, length-append xs (x ∷ []))) ∙ ap (λ ys. ys ++ x ∷ []) (sym (take_all n xs (omega arith)))

-- and where there is none
pub first-full : {A : Type 0} (n : ℕ) (xs : List A) (x : A) → length (take n xs) ≡ n
    → take n (xs ++ x ∷ []) ≡ take n xs
first-full n xs x full = take-append-le n xs (x ∷ []) (omega (arith, length-take n xs, full))
