-- Where a part stands in events does not change when more of them come.
use Rattle.std.proofs.Common.{◌≡◌, ◌∙◌, ◌<◌, Bool, true, false, not, List, [], ◌∷◌, ◌++◌, length, refl, sym, ap, subst, append_assoc, append-nil, arith}
use Rattle.fsb_signal.specs.declared.sample.Sample.{Sample}
use Rattle.vcd_way.specs.Events.{DumpEvent, Sampled, Hole, Resumed, samples_among}
use Rattle.scope_check.specs.declared.part.Part.{Part}
use Rattle.scope_check.specs.declared.parting.Parting.{Parting}
use Rattle.scope_check.specs.Parting.{HasParted}
use Rattle.scope_check.specs.Parts.{IsParted, Throughout, begins, closes, is_none, opens}

not-both : (b : Bool) → not b ≡ true → b ≡ true → ⊥
not-both true e f = cc
not-both false e f = cc

-- of two first parts of events in which nothing opens, behind each of which something opens, if it is there
same-before : (P : List DumpEvent → DumpEvent → Bool) (b d : List DumpEvent) (x : DumpEvent) (r t : List DumpEvent)
    → b ++ x ∷ r ≡ d ++ t → Throughout (λ es e. not (P es e)) b → P b x ≡ true → Throughout (λ es e. not (P es e)) d
    → begins (P d) t ≡ true → d ≡ b
same-before P [] [] x r t e u o v s = refl
same-before P [] (y ∷ d) x r t e u o v s =
    let same : x ≡ y = cc in
    absurd (not-both (P [] x) (subst (λ z. not (P [] z) ≡ true) (sym same) v.0) o)
same-before P (y ∷ b) [] x r [] e u o v s = absurd (let no : ⊥ = cc in no)
same-before P (y ∷ b) [] x r (z ∷ t) e u o v s =
    let same : y ≡ z = cc in
    absurd (not-both (P [] y) u.0 (subst (λ n. P [] n ≡ true) (sym same) s))
same-before P (y ∷ b) (z ∷ d) x r t e u o v s =
    let same : y ≡ z = cc in
    let rest : b ++ x ∷ r ≡ d ++ t = cc in
    let here : d ≡ b =
    same-before (λ es. P (y ∷ es)) b d x r t rest u.1 o
    (subst (λ n. Throughout (λ es e. not (P (n ∷ es) e)) d) (sym same) v.1)
    (subst (λ n. begins (P (n ∷ d)) t ≡ true) (sym same) s) in
    cc

no-more : (b : List DumpEvent) (x : DumpEvent) (r : List DumpEvent) → b ++ x ∷ r ≡ [] → ⊥
no-more [] x r e = cc
no-more (y ∷ b) x r e = cc

-- what opens first among events in which nothing opens, with one more, is the last
last-opens : (P : List DumpEvent → DumpEvent → Bool) (b es : List DumpEvent) (x e : DumpEvent) (r : List DumpEvent)
    → b ++ x ∷ r ≡ es ++ e ∷ [] → P b x ≡ true → Throughout (λ es e. not (P es e)) es → b ≡ es
last-opens P [] [] x e r f o u = refl
last-opens P [] (y ∷ es) x e r f o u =
    let same : x ≡ y = cc in
    absurd (not-both (P [] x) (subst (λ z. not (P [] z) ≡ true) (sym same) u.0) o)
last-opens P (y ∷ b) [] x e r f o u = absurd (no-more b x r (let tail : b ++ x ∷ r ≡ [] = cc in tail))
last-opens P (y ∷ b) (z ∷ es) x e r f o u =
    let same : y ≡ z = cc in
    let rest : b ++ x ∷ r ≡ es ++ e ∷ [] = cc in
    let here : b ≡ es =
    last-opens (λ es. P (y ∷ es)) b es x e r rest o
    (subst (λ n. Throughout (λ es e. not (P (n ∷ es) e)) es) (sym same) u.1) in
    cc

-- the events of a part are clocks
no-samples : (p : Part) (before part : List DumpEvent) → Throughout (λ es e. not (closes p before es e)) part
    → samples_among part ≡ [] → part ≡ []
no-samples p before [] u e = refl
no-samples p before (Sampled s t ∷ part) u e = absurd (let no : ⊥ = cc in no)
no-samples p before (Hole t ∷ part) u e = absurd (let h : false ≡ true = u.0 in let no : ⊥ = cc in no)
no-samples p before (Resumed t ∷ part) u e = absurd (let h : false ≡ true = u.0 in let no : ⊥ = cc in no)

-- what comes behind the events before a part opens it, if it is there
begun-there : (is_so : DumpEvent → Bool) (part behind : List DumpEvent) → begins is_so part ≡ true
    → (is_none behind ≡ false → is_none part ≡ false) → begins is_so (part ++ behind) ≡ true
begun-there is_so [] [] e f = refl
begun-there is_so [] (y ∷ behind) e f = absurd (let h : true ≡ false = f refl in let no : ⊥ = cc in no)
begun-there is_so (y ∷ part) behind e f = e

-- the events before a part that has begun stay
before-cases : (p : Part) (es before part behind after more rest : List DumpEvent) (e : DumpEvent)
    → IsParted p es before part behind → IsParted p (es ++ e ∷ []) after more rest → is_none part ≡ false → after ≡ before
before-cases p es before [] behind after more rest e s n some = absurd (let no : ⊥ = cc in no)
before-cases p es before (x ∷ part) behind after more rest e s n some =
    let old : es ++ e ∷ [] ≡ before ++ x ∷ (part ++ behind ++ e ∷ []) =
    ap (λ l. l ++ e ∷ []) (s.whole ∙ append_assoc before (x ∷ part) behind)
    ∙ append_assoc before (x ∷ (part ++ behind)) (e ∷ []) in
    let new : es ++ e ∷ [] ≡ after ++ (more ++ rest) = n.whole ∙ append_assoc after more rest in
    same-before (opens p) before after x (part ++ behind ++ e ∷ []) (more ++ rest) (sym old ∙ new) s.unopened s.opened
    n.unopened (begun-there (opens p after) more rest n.opened n.begun)

-- a part that had not begun begins behind all events so far
opened-cases : (p : Part) (es before behind after more rest : List DumpEvent) (e : DumpEvent)
    → IsParted p es before [] behind → IsParted p (es ++ e ∷ []) after more rest → is_none more ≡ false
    → is_none behind ≡ true → after ≡ es
opened-cases p es before (y ∷ behind) after more rest e s n some none = absurd (let no : ⊥ = cc in no)
opened-cases p es before [] after [] rest e s n some none = absurd (let no : ⊥ = cc in no)
opened-cases p es before [] after (x ∷ more) rest e s n some none =
    let all : es ≡ before = s.whole ∙ append-nil (before ++ []) ∙ append-nil before in
    last-opens (opens p) after es x e (more ++ rest) (sym (n.whole ∙ append_assoc after (x ∷ more) rest)) n.opened
    (subst (λ l. Throughout (λ ds d. not (opens p ds d)) l) (sym all) s.unopened)

-- where there is no part, all events come before it
whole-before : (p : Part) (es before part behind : List DumpEvent) → IsParted p es before part behind → part ≡ []
    → is_none behind ≡ true → before ≡ es
whole-before p es before part [] s e none =
    sym (s.whole ∙ append-nil (before ++ part) ∙ ap (λ l. before ++ l) e ∙ append-nil before)
whole-before p es before part (x ∷ behind) s e none = absurd (let no : ⊥ = cc in no)

-- ---- the same of samples

some-part : (w : List Sample) (part : List DumpEvent) → w ≡ samples_among part → 0 < length w → is_none part ≡ false
some-part w [] e some = absurd (let size : length w ≡ 0 = ap length e in omega (arith, some, size))
some-part w (x ∷ part) e some = refl

none-behind : (part behind : List DumpEvent) → part ≡ [] → (is_none behind ≡ false → is_none part ≡ false)
    → is_none behind ≡ true
none-behind part [] e f = refl
none-behind part (x ∷ behind) e f =
    absurd (let h : is_none part ≡ false = f refl in let g : is_none part ≡ true = ap is_none e in let no : ⊥ = cc in no)

module _ {g : Parting} {p : Part} {es : List DumpEvent} {w : List Sample} (s : HasParted g p es w) where
  no-part : w ≡ [] → s.part ≡ []
  no-part none = no-samples p s.before s.part s.parted.unclosed (sym s.samples_are ∙ none)

  -- where it has no sample yet, all events come before it
  pub all-before : w ≡ [] → s.before ≡ es
  all-before none = whole-before p es s.before s.part s.behind s.parted (no-part none)
      (none-behind s.part s.behind (no-part none) s.parted.begun)

  -- it stays where it is
  pub stays-there : {h : Parting} (e : DumpEvent) {v : List Sample} (n : HasParted h p (es ++ e ∷ []) v) → 0 < length w
      → n.before ≡ s.before
  stays-there {h} e {v} n some =
      before-cases p es s.before s.part s.behind n.before n.part n.behind e s.parted n.parted
      (some-part w s.part s.samples_are some)

  -- or it begins behind all events so far
  pub begins-there : {h : Parting} (e : DumpEvent) {v : List Sample} (n : HasParted h p (es ++ e ∷ []) v) → 0 < length v
      → w ≡ [] → n.before ≡ es
  begins-there {h} e {v} n some none =
      opened-cases p es s.before s.behind n.before n.part n.behind e
      (subst (λ l. IsParted p es s.before l s.behind) (no-part none) s.parted) n.parted
      (some-part v n.part n.samples_are some) (none-behind s.part s.behind (no-part none) s.parted.begun)
