-- The clocks of a dump that was judged.
use Rattle.std.proofs.Common.{◌≡◌, ◌≤◌, ◌∙◌, ◌+◌, ◌-◌, ◌++◌, ◌∷◌, [], ℕ, true, false, List, Option, Some, None, take, length, refl, sym, subst, ap, arith, append-nil}
use Rattle.std.proofs.lemmas.Bool.{leb-true, leb-false}
use Rattle.std.proofs.lemmas.List.{length-append, length-take, take_all, take-append-le}
use Rattle.fsb_signal.specs.declared.sample.Sample.{Sample}
use Rattle.vcd_way.specs.Pieces.{Stamp}
use Rattle.vcd_way.specs.Events.{DumpEvent, Sampled, Hole, Resumed, samples_among}
use Rattle.vcd_course.specs.declared.event.Told.{Told}
use Rattle.vcd_course.specs.declared.event.Told.TheVariants as told
use Rattle.vcd_course.specs.Told.{told_with}
use Rattle.scope_ring.specs.declared.ring.Ring.{Ring}
use Rattle.scope_parts.specs.Findings.{FaultGoes}
use Rattle.scope_ring.specs.Ring.{Stands}
use Rattle.scope_watch.specs.Checking.{is_kept, kept_to}

-- the samples among more events
pub samples_among-append : (es fs : List DumpEvent) → samples_among (es ++ fs) ≡ samples_among es ++ samples_among fs
samples_among-append [] fs = refl
samples_among-append (Sampled s t ∷ es) fs = ap (λ x. s ∷ x) (samples_among-append es fs)
samples_among-append (Hole t ∷ es) fs = samples_among-append es fs
samples_among-append (Resumed t ∷ es) fs = samples_among-append es fs

-- one more sample, or an event that is none
pub samples-sampled : (es : List DumpEvent) (s : Sample) (t : Option Stamp)
    → samples_among (es ++ Sampled s t ∷ []) ≡ samples_among es ++ s ∷ []
samples-sampled es s t = samples_among-append es (Sampled s t ∷ [])

pub samples-hole : (es : List DumpEvent) (t : Option Stamp) → samples_among (es ++ Hole t ∷ []) ≡ samples_among es
samples-hole es t = samples_among-append es (Hole t ∷ []) ∙ append-nil (samples_among es)

pub samples-resumed : (es : List DumpEvent) (t : Option Stamp) → samples_among (es ++ Resumed t ∷ []) ≡ samples_among es
samples-resumed es t = samples_among-append es (Resumed t ∷ []) ∙ append-nil (samples_among es)

-- the same of an event that was told
pub told-sampled : (a : Told) (s : Sample) (t : Option Stamp) (es : List DumpEvent) → a ≡ told.Sampled s
    → samples_among (es ++ told_with a t ∷ []) ≡ samples_among es ++ s ∷ []
told-sampled a s t es e = ap (λ x. samples_among (es ++ told_with x t ∷ [])) e ∙ samples-sampled es s t

pub told-hole : (a : Told) (t : Option Stamp) (es : List DumpEvent) → a ≡ told.Hole
    → samples_among (es ++ told_with a t ∷ []) ≡ samples_among es
told-hole a t es e = ap (λ x. samples_among (es ++ told_with x t ∷ [])) e ∙ samples-hole es t

pub told-resumed : (a : Told) (t : Option Stamp) (es : List DumpEvent) → a ≡ told.Resumed
    → samples_among (es ++ told_with a t ∷ []) ≡ samples_among es
told-resumed a t es e = ap (λ x. samples_among (es ++ told_with x t ∷ [])) e ∙ samples-resumed es t

-- ---- the samples that are kept

-- of no samples none
pub fed-none : (ring : Ring) (o : Option ℕ) → Stands ring [] → Stands ring (kept_to o [])
fed-none ring None h = h
fed-none ring (Some clock) h = subst (λ xs. Stands ring xs) (sym (take_all (clock + 3) [] (omega arith))) h

pub kept-few : (o : Option ℕ) (xs : List Sample) → length (kept_to o xs) ≤ length xs
kept-few None xs = omega arith
kept-few (Some clock) xs = let size = length-take (clock + 3) xs in omega (arith, size)

-- with one more sample, which is kept
pub kept-more : (before fault : Option ℕ) (xs : List Sample) (x : Sample) (n : ℕ) → n ≡ length xs + 1 → FaultGoes n before fault
    → is_kept fault n ≡ true → kept_to fault (xs ++ x ∷ []) ≡ kept_to before xs ++ x ∷ []
kept-more None None xs x n size goes kept = refl
kept-more None (Some c) xs x n size goes kept =
    let more = length-append xs (x ∷ []) in
    take_all (c + 3) (xs ++ x ∷ []) (omega (arith, size, goes, more))
kept-more (Some b) None xs x n size goes kept = absurd (let no : ⊥ = cc in no)
kept-more (Some b) (Some c) xs x n size goes kept =
    let same : c ≡ b = cc goes in
    let more = length-append xs (x ∷ []) in
    let low = leb-true (n - 3) c kept in
    take_all (c + 3) (xs ++ x ∷ []) (omega (arith, size, more, low))
    ∙ ap (λ ys. ys ++ x ∷ []) (sym (take_all (b + 3) xs (omega (arith, size, low, same))))

-- and where it is not
pub kept-full : (before fault : Option ℕ) (xs : List Sample) (x : Sample) (n : ℕ) → n ≡ length xs + 1 → FaultGoes n before fault
    → is_kept fault n ≡ false → kept_to fault (xs ++ x ∷ []) ≡ kept_to before xs
kept-full before None xs x n size goes kept = absurd (let no : ⊥ = cc in no)
kept-full None (Some c) xs x n size goes kept =
    absurd (let high = leb-false (n - 3) c kept in omega (arith, high, goes))
kept-full (Some b) (Some c) xs x n size goes kept =
    let same : c ≡ b = cc goes in
    let high = leb-false (n - 3) c kept in
    take-append-le (c + 3) xs (x ∷ []) (omega (arith, size, high)) ∙ ap (λ m. take (m + 3) xs) same

-- with an event that is none
pub kept-still : (before fault : Option ℕ) (xs ys : List Sample) (n : ℕ) → ys ≡ xs → n ≡ length ys → FaultGoes n before fault
    → kept_to fault ys ≡ kept_to before xs
kept-still None None xs ys n same size goes = same
kept-still None (Some c) xs ys n same size goes = take_all (c + 3) ys (omega (arith, size, goes)) ∙ same
kept-still (Some b) None xs ys n same size goes = absurd (let no : ⊥ = cc in no)
kept-still (Some b) (Some c) xs ys n same size goes =
    let one : c ≡ b = cc goes in ap (λ m. take (m + 3) ys) one ∙ ap (λ zs. take (b + 3) zs) same
