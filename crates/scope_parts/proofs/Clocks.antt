-- The clocks of events.
use Rattle.std.proofs.Common.{◌≡◌, ◌∙◌, ℕ, zero, suc, ◌+◌, ◌<◌, ◌≤◌, ◌++◌, ◌∷◌, [], Bool, true, false, if◌then◌else◌, nat_lt, Some, List, length, slice_get, filter, drop, ◌-◌, ◌^◌, Result, Ok, Err, IfErr, refl, sym, ap, arith}
use Rattle.std.proofs.lemmas.Bool.{ltb-true}
use Rattle.std.proofs.lemmas.List.{length-append, take-append-drop}
use Rattle.std.proofs.lemmas.List.Sums.{count_by-le-length, length-filter}
use Rattle.fsb_signal.specs.declared.marks.Marks.{Marks}
use Rattle.vcd_way.specs.Events.{DumpEvent, Sampled, Hole, Resumed, samples_among}
use Rattle.scope_check.specs.declared.finding.Judged.{Judged}
use Rattle.scope_check.specs.declared.part.Part.{Part}
use Rattle.vcd_course.specs.Told.{last_told}
use Rattle.scope_check.specs.declared.finding.Verdict.{Verdict}
use Rattle.scope_check.specs.declared.finding.Verdict.TheVariants as verdicts
use Rattle.scope_check.specs.Findings.{HasStamp, IsFoundIn, stamps_among}
use Rattle.scope_check.specs.Bounds.{most_counted}
use Rattle.scope_parts.specs.declared.finding.End.{End}
use Rattle.scope_parts.specs.declared.finding.End.TheVariants as ends
use Rattle.scope_parts.specs.declared.finding.PartFound.{PartFound}
use Rattle.scope_parts.specs.declared.plan.Plan.{Plan}
use Rattle.scope_parts.specs.Segments.{Segment, all_of, clocks_in, events_in, is_fault, judged_in, next_part, part_told, parts_behind, parts_in, told_if_judged}
use Rattle.scope_parts.specs.Holes.{holes_in}
use Rattle.scope_parts.specs.Findings.{EachBehind, IsOver, broken_clock}
use Rattle.scope_parts.specs.Standing.{IsWithin, but_last, clock_in, kept_at}
use Rattle.scope_check.specs.Parts.{clocks_of}

-- the samples among more events
pub samples_among-append : (es fs : List DumpEvent) → samples_among (es ++ fs) ≡ samples_among es ++ samples_among fs
samples_among-append [] fs = refl
samples_among-append (Sampled s t ∷ es) fs = ap (λ x. s ∷ x) (samples_among-append es fs)
samples_among-append (Hole t ∷ es) fs = samples_among-append es fs
samples_among-append (Resumed t ∷ es) fs = samples_among-append es fs

-- how many there are
pub clocks_of-append : (es fs : List DumpEvent) → clocks_of (es ++ fs) ≡ clocks_of es + clocks_of fs
clocks_of-append es fs = ap length (samples_among-append es fs) ∙ length-append (samples_among es) (samples_among fs)

-- what is found of events counts all their clocks
pub clocks-counted : (f : Judged) (p : Part) (m : Marks) (es : List DumpEvent) → IsFoundIn f p m es
    → f.clocks ≡ clocks_of es
clocks-counted f p m es h =
    let size : clocks_of es ≡ clocks_of h.before + clocks_of h.part + clocks_of h.behind =
    ap clocks_of h.parted.whole ∙ clocks_of-append (h.before ++ h.part) h.behind
    ∙ ap (λ n. n + clocks_of h.behind) (clocks_of-append h.before h.part) in
    omega (arith, size, h.clocks, h.start, h.judged)

-- ---- what is found lies among the clocks

got-below : {A : Type 0} (xs : List A) (n : ℕ) (v : A) → slice_get xs n ≡ Some v → n < length xs
got-below [] n v h = absurd (let no : ⊥ = cc in no)
got-below (x ∷ xs) zero v h = omega arith
got-below (x ∷ xs) (suc n) v h = let low = got-below xs n v h in omega (arith, low)

stamps-size : (es : List DumpEvent) → length (stamps_among es) ≡ clocks_of es
stamps-size [] = refl
stamps-size (Sampled s t ∷ es) = let h = stamps-size es in omega (arith, h)
stamps-size (Hole t ∷ es) = stamps-size es
stamps-size (Resumed t ∷ es) = stamps-size es

broken-within : (start : ℕ) (part : List DumpEvent) (v : Verdict) → HasStamp start part v
    → clock_in v ≤ start + clocks_of part
broken-within start part verdicts.Nothing h = omega arith
broken-within start part verdicts.Accepted h = omega arith
broken-within start part (verdicts.Broken clock rule stamp) h =
    let low = got-below (stamps_among part) h.0 (last_told stamp) h.2 in
    let size = stamps-size part in
    let is = h.1 in
    omega (arith, low, size, is)

-- a broken clock is one of them
below : (start : ℕ) (part : List DumpEvent) (v : Verdict) → HasStamp start part v → (c : ℕ) → broken_clock v ≡ Some c
    → c < start + clocks_of part
below start part verdicts.Nothing h c e = absurd (let no : ⊥ = cc in no)
below start part verdicts.Accepted h c e = absurd (let no : ⊥ = cc in no)
below start part (verdicts.Broken clock rule stamp) h c e =
    let low = got-below (stamps_among part) h.0 (last_told stamp) h.2 in
    let size = stamps-size part in
    let is = h.1 in
    let same : clock ≡ c = cc e in
    omega (arith, low, size, is, same)

pub broken-below : (f : Judged) (p : Part) (m : Marks) (es : List DumpEvent) → IsFoundIn f p m es → (c : ℕ)
    → broken_clock f.verdict ≡ Some c → c < clocks_of es
broken-below f p m es h c e =
    let all = clocks-counted f p m es h in
    let clocks = h.clocks in
    let judged = h.judged in
    let low = below f.start h.part f.verdict h.stamp c e in
    omega (arith, all, clocks, judged, low)

pub found-within : (f : Judged) (p : Part) (m : Marks) (es : List DumpEvent) → IsFoundIn f p m es
    → IsWithin f (clocks_of es)
found-within f p m es h =
    let all = clocks-counted f p m es h in
    let clocks = h.clocks in
    let judged = h.judged in
    let broken = broken-within f.start h.part f.verdict h.stamp in
    record {
      start = omega (arith, all, clocks);
      judged = omega (arith, all, clocks);
      broken = omega (arith, all, clocks, judged, broken);
    }

-- ---- of segments

judged-few : (IsSo : List Segment → Segment → Type 0)
    → ((ss : List Segment) (s : Segment) → IsSo ss s → s.found.judged ≤ clocks_of (all_of s)) → (ss : List Segment)
    → EachBehind IsSo ss → judged_in ss ≤ clocks_in ss
judged-few IsSo few [] h = omega arith
judged-few IsSo few (s ∷ ss) h =
    let one = few [] s h.0 in
    let rest = judged-few (λ xs. IsSo (s ∷ xs)) (λ xs. few (s ∷ xs)) ss h.1 in
    let size = clocks_of-append (all_of s) (events_in ss) in
    omega (arith, one, rest, size)

over-few : (plan : Plan) (m : Marks) (ss : List Segment) (s : Segment) → IsOver plan m ss s
    → s.found.judged ≤ clocks_of (all_of s)
over-few plan m ss s o =
    let within = (found-within s.found (next_part plan ss) m s.events o.found).judged in
    let size = clocks_of-append s.events s.reply in
    omega (arith, within, size)

pub segments-few : (plan : Plan) (m : Marks) (ss : List Segment) → EachBehind (IsOver plan m) ss
    → judged_in ss ≤ clocks_in ss
segments-few plan m ss h = judged-few (IsOver plan m) (over-few plan m) ss h

-- each part that is told has a judged clock
told-few : (base : ℕ) (f : Judged) (end : End) (b : Bool) → nat_lt 0 f.judged ≡ b
    → length (if b then part_told base f end ∷ [] else []) ≤ f.judged
told-few base f end true h = ltb-true 0 f.judged h
told-few base f end false h = omega arith

parts-few : (base : ℕ) (ss : List Segment) → length (parts_behind base ss) ≤ judged_in ss
parts-few base [] = omega arith
parts-few base (s ∷ ss) =
    let one = told-few base s.found s.end (nat_lt 0 s.found.judged) refl in
    let more = base + clocks_of (all_of s) in
    let rest = parts-few more ss in
    let size = length-append (told_if_judged base s.found s.end) (parts_behind more ss) in
    omega (arith, one, rest, size)

pub parts-judged : (ss : List Segment) → length (parts_in ss) ≤ judged_in ss
parts-judged ss = parts-few 0 ss

-- ---- holes

pub holes-few : (es : List DumpEvent) → holes_in es ≤ length es
holes-few [] = omega arith
holes-few (Sampled s t ∷ es) = let h = holes-few es in omega (arith, h)
holes-few (Hole t ∷ es) = let h = holes-few es in omega (arith, h)
holes-few (Resumed t ∷ es) = let h = holes-few es in omega (arith, h)

-- ---- where no more is counted

filter-few : {X : Type 0} (p : X → Bool) (xs : List X) → length (filter p xs) ≤ length xs
filter-few p xs =
    let size = length-filter p xs in
    let few = count_by-le-length p xs in
    omega (arith, size, few)

pub many-broken : (n : ℕ) (xs : List PartFound) → most_counted < n → n ≡ length (filter is_fault xs)
    → most_counted < length xs
many-broken n xs full is = let few = filter-few is_fault xs in omega (arith, full, is, few)

pub many-events : (n : ℕ) (es : List DumpEvent) → 2 ^ 64 ≤ n + 1 → n ≤ length es → most_counted ≤ length es
many-events n es full few = omega (arith, full, few)

pub err-so : {A E P Q : Type 0} (r : Result A E) → (P → Q) → IfErr r (λ _. P) → IfErr r (λ _. Q)
err-so (Ok a) f h = tt
err-so (Err e) f h = f h

pub within-more : (f : Judged) (n k : ℕ) → IsWithin f n → n ≤ k → IsWithin f k
within-more f n k w low =
    let start = w.start in
    let judged = w.judged in
    let broken = w.broken in
    record { start = omega (arith, start, low); judged = omega (arith, judged, low); broken = omega (arith, broken, low) }

pub kept-within : (end : End) (f b : Judged) (n : ℕ) → IsWithin f n → IsWithin b n → IsWithin (kept_at end f b) n
kept-within ends.Dump f b n w v = w
kept-within ends.Hole f b n w v = w
kept-within ends.Broken f b n w v = w
kept-within ends.Reply f b n w v = v

pub clocks-before : (xs : List DumpEvent) (e : DumpEvent) → clocks_of (but_last xs) ≤ clocks_of (xs ++ e ∷ [])
clocks-before xs e =
    let whole : clocks_of xs ≡ clocks_of (but_last xs) + clocks_of (drop (length xs - 1) xs) =
    ap clocks_of (sym (take-append-drop (length xs - 1) xs)) ∙ clocks_of-append (but_last xs) (drop (length xs - 1) xs) in
    let more = clocks_of-append xs (e ∷ []) in
    omega (arith, whole, more)
