-- The part of some events, and that of one more.
use Rattle.std.proofs.Common.{◌≡◌, ◌∙◌, ◌++◌, ◌∷◌, [], List, Bool, true, false, not, ◌⊎◌, inl, inr, refl, sym, ap, subst, append_assoc}
use Rattle.vcd_way.specs.Events.{DumpEvent}
use Rattle.scope_check.specs.declared.part.Part.{Part}
use Rattle.scope_check.specs.Parts.{IsParted, Throughout, begins, closes, is_none, opens}

not-both : (b c : Bool) → b ≡ c → b ≡ true → not c ≡ true → ⊥
not-both true true e h k = cc
not-both true false e h k = cc
not-both false c e h k = cc

none-left : {A : Type 0} (xs ys : List A) → xs ++ ys ≡ [] → xs ≡ []
none-left [] ys e = refl
none-left (x ∷ xs) ys e = absurd (let no : ⊥ = cc in no)

-- the events before the first one that is so, and those with one more at the end
pub grown : (is_so : List DumpEvent → DumpEvent → Bool) (b r c s : List DumpEvent) (e : DumpEvent)
    → (b ++ r) ++ e ∷ [] ≡ c ++ s → Throughout (λ ys x. not (is_so ys x)) b → begins (is_so b) r ≡ true
    → Throughout (λ ys x. not (is_so ys x)) c → begins (is_so c) s ≡ true
    → ((c ≡ b) × (s ≡ r ++ e ∷ [])) ⊎ ((r ≡ []) × (c ≡ b ++ e ∷ []) × (s ≡ []))
grown is_so [] r [] s e whole tb br tc bs = inl (refl, sym whole)
grown is_so [] [] (y ∷ c) s e whole tb br tc bs =
    let same : e ≡ y = cc whole in
    let rest : [] ≡ c ++ s = cc whole in
    let none : c ≡ [] = none-left c s (sym rest) in
    inr (refl, ap (λ x. y ∷ x) none ∙ ap (λ x. x ∷ []) (sym same), sym (rest ∙ ap (λ x. x ++ s) none))
grown is_so [] (x ∷ r) (y ∷ c) s e whole tb br tc bs =
    let same : x ≡ y = cc whole in absurd (not-both (is_so [] x) (is_so [] y) (ap (is_so []) same) br tc.0)
grown is_so (x ∷ b) r [] [] e whole tb br tc bs = absurd (let no : ⊥ = cc in no)
grown is_so (x ∷ b) r [] (z ∷ s) e whole tb br tc bs =
    let same : z ≡ x = (let h : x ≡ z = cc whole in sym h) in
    absurd (not-both (is_so [] z) (is_so [] x) (ap (is_so []) same) bs tb.0)
grown is_so (x ∷ b) r (y ∷ c) s e whole tb br tc bs =
    let same : y ≡ x = (let h : x ≡ y = cc whole in sym h) in
    let rest : (b ++ r) ++ e ∷ [] ≡ c ++ s = cc whole in
    by same (grown (λ ys. is_so (x ∷ ys)) b r c s e rest tb.1 br
    (subst (λ z. Throughout (λ ys w. not (is_so (z ∷ ys) w)) c) same tc.1)
    (subst (λ z. begins (is_so (z ∷ c)) s ≡ true) same bs))
  where
    by : y ≡ x → ((c ≡ b) × (s ≡ r ++ e ∷ [])) ⊎ ((r ≡ []) × (c ≡ b ++ e ∷ []) × (s ≡ []))
        → ((y ∷ c ≡ x ∷ b) × (s ≡ r ++ e ∷ [])) ⊎ ((r ≡ []) × (y ∷ c ≡ x ∷ (b ++ e ∷ [])) × (s ≡ []))
    by same (inl h) = inl (ap (λ z. z ∷ c) same ∙ ap (λ zs. x ∷ zs) h.0, h.1)
    by same (inr h) = inr (h.0, ap (λ z. z ∷ c) same ∙ ap (λ zs. x ∷ zs) h.1, h.2)

-- the first event of the part, or else of what is behind it
begins-both : (is_so : DumpEvent → Bool) (q h : List DumpEvent) → begins is_so q ≡ true
    → (is_none h ≡ false → is_none q ≡ false) → begins is_so (q ++ h) ≡ true
begins-both is_so [] [] first some = refl
begins-both is_so [] (x ∷ h) first some = absurd (let wrong = some refl in let no : ⊥ = cc in no)
begins-both is_so (x ∷ q) h first some = first

-- the part stays, or has one more event, the last of all, or there is none yet
pub part-grown : (p : Part) (es : List DumpEvent) (e : DumpEvent) (b q h c r i : List DumpEvent) → IsParted p es b q h
    → IsParted p (es ++ e ∷ []) c r i
    → ((c ≡ b) × (r ≡ q)) ⊎ (((c ≡ b) × (r ≡ q ++ e ∷ []) × (h ≡ [])) ⊎ ((q ≡ []) × (r ≡ [])))
part-grown p es e b q h c r i s t =
    let whole : (b ++ (q ++ h)) ++ e ∷ [] ≡ c ++ (r ++ i) =
    ap (λ xs. xs ++ e ∷ []) (sym (s.whole ∙ append_assoc b q h)) ∙ t.whole ∙ append_assoc c r i in
    first (grown (opens p) b (q ++ h) c (r ++ i) e whole s.unopened (begins-both (opens p b) q h s.opened s.begun)
    t.unopened (begins-both (opens p c) r i t.opened t.begun))
  where
    second : c ≡ b → ((r ≡ q) × (i ≡ h ++ e ∷ [])) ⊎ ((h ≡ []) × (r ≡ q ++ e ∷ []) × (i ≡ []))
        → ((c ≡ b) × (r ≡ q)) ⊎ (((c ≡ b) × (r ≡ q ++ e ∷ []) × (h ≡ [])) ⊎ ((q ≡ []) × (r ≡ [])))
    second same (inl x) = inl (same, x.0)
    second same (inr x) = inr (inl (same, x.1, x.0))

    first : ((c ≡ b) × (r ++ i ≡ (q ++ h) ++ e ∷ [])) ⊎ ((q ++ h ≡ []) × (c ≡ b ++ e ∷ []) × (r ++ i ≡ []))
        → ((c ≡ b) × (r ≡ q)) ⊎ (((c ≡ b) × (r ≡ q ++ e ∷ []) × (h ≡ [])) ⊎ ((q ≡ []) × (r ≡ [])))
    first (inl x) =
        second x.0 (grown (closes p b) q h r i e (sym x.1) s.unclosed s.closed
        (subst (λ ys. Throughout (λ zs w. not (closes p ys zs w)) r) x.0 t.unclosed)
        (subst (λ ys. begins (closes p ys r) i ≡ true) x.0 t.closed))
    first (inr x) = inr (inr (none-left q h x.0, none-left r i x.2))
