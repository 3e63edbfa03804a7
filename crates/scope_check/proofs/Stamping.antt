-- The stamp of a broken clock.
use Rattle.std.proofs.Common.{◌≡◌, ◌∙◌, ℕ, zero, suc, ◌++◌, ◌∷◌, [], Bool, false, if◌then◌else◌, List, Option, Some, None, is_some, slice_get, refl, sym, ap, arith}
use Rattle.fsb_signal.specs.declared.marks.Marks.{Marks}
use Rattle.fsb_signal.specs.declared.sample.Sample.{Sample}
use Rattle.fsb_rules.specs.declared.broken.Broken.{Broken}
use Rattle.vcd_course.specs.declared.event.Stamp.{Stamp}
use Rattle.vcd_course.specs.Told.{last_told}
use Rattle.vcd_way.specs.Pieces.{Stamp as TimeStamp}
use Rattle.vcd_way.specs.Events.{DumpEvent, Sampled, Hole, Resumed, samples_among}
use Rattle.scope_later.specs.Findings.{found_on}
use Rattle.scope_later.proofs.Interface.{Goes, found-goes}
use Rattle.scope_check.specs.Findings.{stamps_among}
use Rattle.scope_check.specs.Parts.{clocks_of, is_none}
use Rattle.scope_check.specs.Standing.{IsFoundOn, IsStampOf}
use Rattle.scope_check.proofs.Samples.{samples_snoc}

-- the stamps of more events
stamp-old : (es : List DumpEvent) (e : DumpEvent) (n : ℕ) (t : Option TimeStamp)
    → slice_get (stamps_among es) n ≡ Some t → slice_get (stamps_among (es ++ e ∷ [])) n ≡ Some t
stamp-old [] e n t h = absurd (let no : ⊥ = cc in no)
stamp-old (Sampled x u ∷ es) e zero t h = h
stamp-old (Sampled x u ∷ es) e (suc n) t h = stamp-old es e n t h
stamp-old (Hole u ∷ es) e n t h = stamp-old es e n t h
stamp-old (Resumed u ∷ es) e n t h = stamp-old es e n t h

stamp-new : (es : List DumpEvent) (x : Sample) (t : Option TimeStamp)
    → slice_get (stamps_among (es ++ Sampled x t ∷ [])) (clocks_of es) ≡ Some t
stamp-new [] x t = refl
stamp-new (Sampled y u ∷ es) x t = stamp-new es x t
stamp-new (Hole u ∷ es) x t = stamp-new es x t
stamp-new (Resumed u ∷ es) x t = stamp-new es x t

-- what was found, by whether it was before
stamped-by : (o : Option Broken) (kept stamp next : Option Stamp) (l : Bool) (m : Marks) (part : List DumpEvent) (x : Sample)
    (b : Broken) → IsFoundOn o kept l m part
    → Goes (clocks_of part) (found_on l m (samples_among part)) (found_on l m (samples_among part ++ x ∷ []))
    → found_on l m (samples_among part ++ x ∷ []) ≡ Some b → next ≡ (if is_some o then kept else stamp)
    → slice_get (stamps_among (part ++ Sampled x (last_told stamp) ∷ [])) b.clock ≡ Some (last_told next)
stamped-by o kept stamp next l m [] x b f g e is =
    let none : next ≡ stamp = is ∙ ap (λ (p : Option Broken). if is_some p then kept else stamp) f in
    let low = g.below b e in
    let first : b.clock ≡ 0 = omega (arith, low) in
    ap (λ n. slice_get (stamps_among (Sampled x (last_told stamp) ∷ [])) n) first
    ∙ ap (λ (s : Option Stamp). Some (last_told s)) (sym none)
stamped-by None kept stamp next l m (d ∷ part) x b f g e is =
    let last = g.last b (sym f.0) e in
    ap (λ n. slice_get (stamps_among ((d ∷ part) ++ Sampled x (last_told stamp) ∷ [])) n) last
    ∙ stamp-new (d ∷ part) x (last_told stamp) ∙ ap (λ (s : Option Stamp). Some (last_told s)) (sym is)
stamped-by (Some a) kept stamp next l m (d ∷ part) x b f g e is =
    let there : Some a ≡ Some b = sym (g.stays a (sym f.0)) ∙ e in
    let same : b.clock ≡ a.clock = cc there in
    ap (λ n. slice_get (stamps_among ((d ∷ part) ++ Sampled x (last_told stamp) ∷ [])) n) same
    ∙ stamp-old (d ∷ part) (Sampled x (last_told stamp)) a.clock (last_told kept) (f.1 a refl)
    ∙ ap (λ (s : Option Stamp). Some (last_told s)) (sym is)

-- what is found of some events, where there is one
found-some : (found : Option Broken) (stamp : Option Stamp) (l : Bool) (m : Marks) (es : List DumpEvent)
    → is_none es ≡ false → found ≡ found_on l m (samples_among es) → IsStampOf found stamp es → IsFoundOn found stamp l m es
found-some found stamp l m [] some e s = absurd (let no : ⊥ = cc in no)
found-some found stamp l m (d ∷ es) some e s = (e, s)

pub found-of : (found : Option Broken) (stamp : Option Stamp) (l : Bool) (m : Marks) (es : List DumpEvent)
    → is_none es ≡ false → IsFoundOn found stamp l m es
    → (found ≡ found_on l m (samples_among es)) × IsStampOf found stamp es
found-of found stamp l m [] some f = absurd (let no : ⊥ = cc in no)
found-of found stamp l m (d ∷ es) some f = f

pub found-more : (o : Option Broken) (kept stamp next : Option Stamp) (l : Bool) (m : Marks) (part : List DumpEvent)
    (x : Sample) (found : Option Broken) → IsFoundOn o kept l m part
    → is_none (part ++ Sampled x (last_told stamp) ∷ []) ≡ false
    → found ≡ found_on l m (samples_among part ++ x ∷ []) → next ≡ (if is_some o then kept else stamp)
    → IsFoundOn found next l m (part ++ Sampled x (last_told stamp) ∷ [])
found-more o kept stamp next l m part x found f some is next_is =
    let t = last_told stamp in
    found-some found next l m (part ++ Sampled x t ∷ []) some
    (is ∙ ap (λ w. found_on l m w) (sym (samples_snoc part x t)))
    (λ b e. stamped-by o kept stamp next l m part x b f (found-goes l m (samples_among part) x) (sym is ∙ e) next_is)
