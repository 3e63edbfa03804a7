-- The broken clock of some events, and of one more.
use Rattle.std.proofs.Common.{◌≡◌, ◌∙◌, ℕ, ◌+◌, ◌++◌, ◌∷◌, [], List, ◌⊎◌, inl, inr, Option, Some, None, length, refl, sym, ap, subst, append-nil, arith}
use Rattle.fsb_signal.specs.declared.marks.Marks.{Marks}
use Rattle.fsb_signal.specs.declared.sample.Sample.{Sample}
use Rattle.fsb_rules.specs.declared.broken.Broken.{Broken as BrokenRule}
use Rattle.vcd_way.specs.Events.{DumpEvent, Sampled, Hole, Resumed, samples_among}
use Rattle.scope_later.specs.Findings.{found_on}
use Rattle.scope_later.proofs.Interface.{Goes, found-goes}
use Rattle.scope_check.specs.declared.finding.Judged.{Judged}
use Rattle.scope_check.specs.declared.finding.Verdict.{Verdict}
use Rattle.scope_check.specs.declared.finding.Verdict.TheVariants.{Nothing, Accepted, Broken}
use Rattle.scope_check.specs.declared.part.Part.{Part}
use Rattle.scope_check.specs.Bounds.{begins_later}
use Rattle.scope_check.specs.Findings.{IsFoundIn, Says}
use Rattle.scope_check.specs.Parts.{clocks_of, has_stopped}
use Rattle.scope_parts.specs.Findings.{FaultGoes, broken_clock}
use Rattle.scope_parts.proofs.Clocks.{clocks-counted, clocks_of-append, samples_among-append}
use Rattle.scope_parts.proofs.Partings.{part-grown}

pub goes-same : (n : ℕ) (o : Option ℕ) → FaultGoes n o o
goes-same n None = tt
goes-same n (Some clock) = refl

-- ---- two verdicts on the same part

says-same : (start n k : ℕ) (o : Option BrokenRule) (v w : Verdict) → Says start n o v → Says start k o w → n ≡ k
    → broken_clock v ≡ broken_clock w
says-same start n k o Nothing Nothing h i e = refl
says-same start n k o Nothing Accepted h i e = refl
says-same start n k o Nothing (Broken clock rule stamp) h i e = absurd (omega (arith, h, i.4, e))
says-same start n k o Accepted Nothing h i e = refl
says-same start n k o Accepted Accepted h i e = refl
says-same start n k o Accepted (Broken clock rule stamp) h i e = absurd (let one = h.0 in let other = i.1 in let no : ⊥ = cc in no)
says-same start n k o (Broken clock rule stamp) Nothing h i e = absurd (omega (arith, h.4, i, e))
says-same start n k o (Broken clock rule stamp) Accepted h i e =
    absurd (let one = h.1 in let other = i.0 in let no : ⊥ = cc in no)
says-same start n k o (Broken clock rule stamp) (Broken other again also) h i e =
    let there : Some h.0 ≡ Some i.0 = sym h.1 ∙ i.1 in
    let same : h.0 ≡ i.0 = cc there in
    ap Some (h.2 ∙ ap (λ (b : BrokenRule). start + b.clock) same ∙ sym i.2)

-- ---- the same with one more clock

says-goes : (start n k : ℕ) (o q : Option BrokenRule) (v w : Verdict) → Says start n o v → Says start k q w → k ≡ n + 1
    → Goes n o q → FaultGoes (start + n + 1) (broken_clock v) (broken_clock w)
says-goes start n k o q Nothing Nothing h i e g = tt
says-goes start n k o q Nothing Accepted h i e g = tt
says-goes start n k o q Nothing (Broken clock rule stamp) h i e g =
    let low = g.below i.0 i.1 in
    let is = i.2 in
    omega (arith, h, is, low)
says-goes start n k o q Accepted Nothing h i e g = tt
says-goes start n k o q Accepted Accepted h i e g = tt
says-goes start n k o q Accepted (Broken clock rule stamp) h i e g =
    let last = g.last i.0 h.0 i.1 in
    let is = i.2 in
    omega (arith, is, last)
says-goes start n k o q (Broken clock rule stamp) Nothing h i e g = absurd (omega (arith, i, e))
says-goes start n k o q (Broken clock rule stamp) Accepted h i e g =
    absurd (let one = g.stays h.0 h.1 in let other = i.0 in let no : ⊥ = cc in no)
says-goes start n k o q (Broken clock rule stamp) (Broken other again also) h i e g =
    let there : Some i.0 ≡ Some h.0 = sym i.1 ∙ g.stays h.0 h.1 in
    let same : i.0 ≡ h.0 = cc there in
    ap Some (i.2 ∙ ap (λ (b : BrokenRule). start + b.clock) same ∙ sym h.2)

says-nothing : (start n : ℕ) (o : Option BrokenRule) (v : Verdict) → Says start n o v → n ≡ 0 → broken_clock v ≡ None
says-nothing start n o Nothing h e = refl
says-nothing start n o Accepted h e = refl
says-nothing start n o (Broken clock rule stamp) h e = absurd (omega (arith, h.4, e))

-- ---- what is found

-- what is said of another part behind the same events, by its samples
moved : (f g : Judged) (p : Part) (m : Marks) (es fs : List DumpEvent) (h : IsFoundIn f p m es) (k : IsFoundIn g p m fs)
    → k.before ≡ h.before → (w : List Sample) → samples_among k.part ≡ w
    → Says f.start g.judged (found_on f.is_later m w) g.verdict
moved f g p m es fs h k same w is =
    let start : g.start ≡ f.start = k.start ∙ ap clocks_of same ∙ sym h.start in
    let later : g.is_later ≡ f.is_later =
    k.is_later ∙ ap (λ n. begins_later p.begin n (has_stopped k.before)) start
    ∙ ap (λ xs. begins_later p.begin f.start (has_stopped xs)) same ∙ sym h.is_later in
    subst (λ n. Says n g.judged (found_on f.is_later m w) g.verdict) start
    (subst (λ l. Says g.start g.judged (found_on l m w) g.verdict) later
    (subst (λ v. Says g.start g.judged (found_on g.is_later m v) g.verdict) is k.says))

grown-by : (f g : Judged) (p : Part) (m : Marks) (es : List DumpEvent) (e : DumpEvent) (h : IsFoundIn f p m es)
    (k : IsFoundIn g p m (es ++ e ∷ [])) → k.before ≡ h.before → k.part ≡ h.part ++ e ∷ [] → h.behind ≡ []
    → FaultGoes (clocks_of (es ++ e ∷ [])) (broken_clock f.verdict) (broken_clock g.verdict)
grown-by f g p m es (Sampled x t) h k same part behind =
    let w = samples_among h.part in
    let more : samples_among k.part ≡ w ++ x ∷ [] = ap samples_among part ∙ samples_among-append h.part (Sampled x t ∷ []) in
    let goes = says-goes f.start (length w) g.judged (found_on f.is_later m w) (found_on f.is_later m (w ++ x ∷ []))
    f.verdict g.verdict (subst (λ n. Says f.start n (found_on f.is_later m w) f.verdict) h.judged h.says)
    (moved f g p m es (es ++ Sampled x t ∷ []) h k same (w ++ x ∷ []) more)
    (k.judged ∙ ap clocks_of part ∙ clocks_of-append h.part (Sampled x t ∷ [])) (found-goes f.is_later m w x) in
    let all = clocks-counted f p m es h in
    let size = h.clocks in
    let judged = h.judged in
    let none = ap clocks_of behind in
    let one = clocks_of-append es (Sampled x t ∷ []) in
    let count : f.start + length w + 1 ≡ clocks_of (es ++ Sampled x t ∷ []) =
    omega (arith, all, size, judged, none, one) in
    subst (λ n. FaultGoes n (broken_clock f.verdict) (broken_clock g.verdict)) count goes
grown-by f g p m es (Hole t) h k same part behind =
    let more : samples_among k.part ≡ samples_among h.part =
    ap samples_among part ∙ samples_among-append h.part (Hole t ∷ []) ∙ append-nil (samples_among h.part) in
    let is = says-same f.start f.judged g.judged (found_on f.is_later m (samples_among h.part)) f.verdict g.verdict h.says
    (moved f g p m es (es ++ Hole t ∷ []) h k same (samples_among h.part) more)
    (h.judged ∙ ap length (sym more) ∙ sym k.judged) in
    subst (λ o. FaultGoes (clocks_of (es ++ Hole t ∷ [])) (broken_clock f.verdict) o) is
    (goes-same (clocks_of (es ++ Hole t ∷ [])) (broken_clock f.verdict))
grown-by f g p m es (Resumed t) h k same part behind =
    let more : samples_among k.part ≡ samples_among h.part =
    ap samples_among part ∙ samples_among-append h.part (Resumed t ∷ []) ∙ append-nil (samples_among h.part) in
    let is = says-same f.start f.judged g.judged (found_on f.is_later m (samples_among h.part)) f.verdict g.verdict h.says
    (moved f g p m es (es ++ Resumed t ∷ []) h k same (samples_among h.part) more)
    (h.judged ∙ ap length (sym more) ∙ sym k.judged) in
    subst (λ o. FaultGoes (clocks_of (es ++ Resumed t ∷ [])) (broken_clock f.verdict) o) is
    (goes-same (clocks_of (es ++ Resumed t ∷ [])) (broken_clock f.verdict))

pub fault-goes : (f g : Judged) (p : Part) (m : Marks) (es : List DumpEvent) (e : DumpEvent) → IsFoundIn f p m es
    → IsFoundIn g p m (es ++ e ∷ [])
    → FaultGoes (clocks_of (es ++ e ∷ [])) (broken_clock f.verdict) (broken_clock g.verdict)
fault-goes f g p m es e h k = by (part-grown p es e h.before h.part h.behind k.before k.part k.behind h.parted k.parted)
  where
    by : ((k.before ≡ h.before) × (k.part ≡ h.part))
        ⊎ (((k.before ≡ h.before) × (k.part ≡ h.part ++ e ∷ []) × (h.behind ≡ [])) ⊎ ((h.part ≡ []) × (k.part ≡ [])))
        → FaultGoes (clocks_of (es ++ e ∷ [])) (broken_clock f.verdict) (broken_clock g.verdict)
    by (inl x) =
        let is = says-same f.start f.judged g.judged (found_on f.is_later m (samples_among h.part)) f.verdict g.verdict
        h.says (moved f g p m es (es ++ e ∷ []) h k x.0 (samples_among h.part) (ap samples_among x.1))
        (h.judged ∙ ap clocks_of (sym x.1) ∙ sym k.judged) in
        subst (λ o. FaultGoes (clocks_of (es ++ e ∷ [])) (broken_clock f.verdict) o) is
        (goes-same (clocks_of (es ++ e ∷ [])) (broken_clock f.verdict))
    by (inr (inl x)) = grown-by f g p m es e h k x.0 x.1 x.2
    by (inr (inr x)) =
        let none = says-nothing f.start f.judged _ f.verdict h.says (h.judged ∙ ap clocks_of x.0) in
        let still = says-nothing g.start g.judged _ g.verdict k.says (k.judged ∙ ap clocks_of x.1) in
        subst (λ o. FaultGoes (clocks_of (es ++ e ∷ [])) o (broken_clock g.verdict)) (sym none)
        (subst (λ o. FaultGoes (clocks_of (es ++ e ∷ [])) None o) (sym still) tt)
