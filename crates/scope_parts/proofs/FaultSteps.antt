-- The first broken clock of a judge after one more event.
use Rattle.std.proofs.Common.{◌≡◌, ◌∙◌, ℕ, ◌+◌, ◌++◌, ◌∷◌, [], Bool, true, false, ◌==◌, if◌then◌else◌, nat_lt, List, Option, Some, None, filter, refl, sym, ap, subst, arith, length}
use Rattle.std.proofs.lemmas.Bool.{and_parts, eqb-true}
use Rattle.fsb_signal.specs.declared.marks.Marks.{Marks}
use Rattle.vcd_way.specs.Events.{DumpEvent, Sampled, Hole, Resumed}
use Rattle.scope_check.specs.declared.finding.Judged.{Judged}
use Rattle.scope_check.specs.declared.finding.Verdict.{Verdict}
use Rattle.scope_check.specs.declared.finding.Verdict.TheVariants.{Nothing, Accepted, Broken}
use Rattle.scope_check.specs.declared.part.Part.{Part}
use Rattle.scope_check.specs.Findings.{IsFoundIn}
use Rattle.scope_check.specs.Parts.{clocks_of, is_sampled}
use Rattle.scope_parts.specs.declared.finding.End.{End}
use Rattle.scope_parts.specs.declared.finding.End.TheVariants as ends
use Rattle.scope_parts.specs.declared.finding.PartFound.{PartFound}
use Rattle.scope_parts.specs.declared.judge.PartsJudge.{PartsJudge}
use Rattle.scope_parts.specs.declared.plan.Plan.{Plan}
use Rattle.scope_parts.specs.Segments.{Segment, clocks_in, events_in, faults_in, is_fault, next_part, part_told, shifted, told_if_judged}
use Rattle.scope_parts.specs.Endings.{breaks_18_last, ending, is_accepted}
use Rattle.scope_parts.specs.Findings.{FaultGoes, broken_clock, fault_among, first_clock}
use Rattle.scope_parts.specs.Standing.{Remembers, Stands, Tallies, fault_of, kept_at}
use Rattle.scope_parts.proofs.Clocks.{broken-below, clocks-counted, clocks_of-append}
use Rattle.scope_parts.proofs.Endings.{EndsSo, ends-so}
use Rattle.scope_parts.proofs.Faults.{end_of, fault-is, faults_in-snoc, last-clock, some-judged, among-first}
use Rattle.scope_parts.proofs.Going.{fault-goes, goes-same}

-- ---- behind other clocks

shifted-goes : (base n : ℕ) (v w : Verdict) → FaultGoes n (broken_clock v) (broken_clock w)
    → FaultGoes (base + n) (broken_clock (shifted base v)) (broken_clock (shifted base w))
shifted-goes base n Nothing Nothing h = tt
shifted-goes base n Nothing Accepted h = tt
shifted-goes base n Nothing (Broken clock rule stamp) h = omega (arith, h)
shifted-goes base n Accepted Nothing h = tt
shifted-goes base n Accepted Accepted h = tt
shifted-goes base n Accepted (Broken clock rule stamp) h = omega (arith, h)
shifted-goes base n (Broken clock rule stamp) Nothing h = absurd (let no : ⊥ = cc in no)
shifted-goes base n (Broken clock rule stamp) Accepted h = absurd (let no : ⊥ = cc in no)
shifted-goes base n (Broken clock rule stamp) (Broken other again also) h =
    let same : other ≡ clock = cc h in ap (λ c. Some (base + c)) same

among-goes : (ps : List PartFound) (base n : ℕ) (v w : Verdict) → FaultGoes n (broken_clock v) (broken_clock w)
    → FaultGoes (base + n) (fault_among ps base v) (fault_among ps base w)
among-goes [] base n v w h = shifted-goes base n v w h
among-goes (p ∷ ps) base n v w h = goes-same (base + n) (broken_clock p.verdict)

-- the clocks behind those of the segments that are over
clocks-all : (j : PartsJudge) (p : Plan) (m : Marks) (es : List DumpEvent) (e : DumpEvent) (s : Stands j p m es)
    → clocks_in s.segments + clocks_of (s.open_events ++ e ∷ []) ≡ clocks_of (es ++ e ∷ [])
clocks-all j p m es e s =
    let whole = ap clocks_of s.whole ∙ clocks_of-append (events_in s.segments) s.open_events in
    let one = clocks_of-append es (e ∷ []) in
    let inside = clocks_of-append s.open_events (e ∷ []) in
    omega (arith, whole, one, inside)

-- ---- the segment goes on

pub goes-on : (j k : PartsJudge) (p : Plan) (m : Marks) (es : List DumpEvent) (e : DumpEvent) (s : Stands j p m es)
    → k.tally ≡ j.tally → IsFoundIn k.latest.found (next_part p s.segments) m (s.open_events ++ e ∷ [])
    → FaultGoes (clocks_of (es ++ e ∷ [])) (fault_of j) (fault_of k)
goes-on j k p m es e s tally found =
    let ps = faults_in s.segments in
    let base = clocks_in s.segments in
    let v = j.latest.found.verdict in
    let w = k.latest.found.verdict in
    let one = among-goes ps base (clocks_of (s.open_events ++ e ∷ [])) v w
    (fault-goes j.latest.found k.latest.found (next_part p s.segments) m s.open_events e s.latest.found found) in
    let new : fault_of k ≡ fault_among ps base w =
    ap (λ t. fault_among t.kept.faults.items t.clocks w) tally
    ∙ ap (λ qs. fault_among qs j.tally.clocks w) s.tallied.kept.faults ∙ among-first 15 ps j.tally.clocks w
    ∙ ap (λ n. fault_among ps n w) s.tallied.clocks in
    subst (λ o. FaultGoes (clocks_of (es ++ e ∷ [])) (fault_of j) o) (sym new)
    (subst (λ o. FaultGoes (clocks_of (es ++ e ∷ [])) o (fault_among ps base w)) (sym (fault-is j p m es s))
    (subst (λ n. FaultGoes n (fault_among ps base v) (fault_among ps base w)) (clocks-all j p m es e s) one))

-- ---- it ends

-- there was no broken clock where there is none with one more event
none-before : (n : ℕ) (o : Option ℕ) → FaultGoes n o None → o ≡ None
none-before n None h = refl
none-before n (Some c) h = absurd (let no : ⊥ = cc in no)

accepted-none : (v : Verdict) → is_accepted v ≡ true → broken_clock v ≡ None
accepted-none Nothing h = absurd (let no : ⊥ = cc in no)
accepted-none Accepted h = refl
accepted-none (Broken clock rule stamp) h = absurd (let no : ⊥ = cc in no)

last-broken : (n : ℕ) (v : Verdict) → breaks_18_last n v ≡ true → (c : ℕ) → broken_clock v ≡ Some c → c + 1 ≡ n
last-broken n Nothing h c e = absurd (let no : ⊥ = cc in no)
last-broken n Accepted h c e = absurd (let no : ⊥ = cc in no)
last-broken n (Broken clock rule stamp) h c e =
    let same : clock ≡ c = cc e in
    let at = eqb-true (clock + 1) n (and_parts (rule == 18) (clock + 1 == n) h).1 in
    omega (arith, same, at)

sampled-one : (es : List DumpEvent) (e : DumpEvent) → is_sampled e ≡ true → clocks_of (es ++ e ∷ []) ≡ clocks_of es + 1
sampled-one es (Sampled x t) h = clocks_of-append es (Sampled x t ∷ [])
sampled-one es (Hole t) h = absurd (let no : ⊥ = cc in no)
sampled-one es (Resumed t) h = absurd (let no : ⊥ = cc in no)

-- a clock that was broken before is none of a reply
reply-none : (o : Option ℕ) (f g : Judged) (p : Part) (m : Marks) (es : List DumpEvent) (e : DumpEvent) → IsFoundIn f p m es
    → IsFoundIn g p m (es ++ e ∷ []) → is_sampled e ≡ true → breaks_18_last g.clocks g.verdict ≡ true
    → o ≡ broken_clock f.verdict → o ≡ None
reply-none None f g p m es e h k one last is = refl
reply-none (Some c) f g p m es e h k one last is =
    let goes = fault-goes f g p m es e h k in
    let stays : broken_clock g.verdict ≡ Some c =
    subst (λ x. FaultGoes (clocks_of (es ++ e ∷ [])) x (broken_clock g.verdict)) (sym is) goes in
    let at = last-broken g.clocks g.verdict last c stays in
    let all = clocks-counted g p m (es ++ e ∷ []) k in
    let more = sampled-one es e one in
    let low = broken-below f p m es h c (sym is) in
    absurd (omega (arith, at, all, more, low))

no-fault : (base : ℕ) (f : Judged) (end : End) (b : Bool) → is_fault (part_told base f end) ≡ false
    → filter is_fault (if b then part_told base f end ∷ [] else []) ≡ []
no-fault base f end true h = rw h refl
no-fault base f end false h = refl

none-shifted : (base : ℕ) (v : Verdict) → broken_clock v ≡ None → broken_clock (shifted base v) ≡ None
none-shifted base Nothing h = refl
none-shifted base Accepted h = refl
none-shifted base (Broken clock rule stamp) h = absurd (let no : ⊥ = cc in no)

-- a segment that ended without a broken rule had no broken clock
none-goes : (n base : ℕ) (v : Verdict) (qs : List PartFound) → broken_clock v ≡ None → qs ≡ []
    → FaultGoes n (broken_clock (shifted base v)) (first_clock qs)
none-goes n base v qs none empty =
    subst (λ o. FaultGoes n o (first_clock qs)) (sym (none-shifted base v none))
    (subst (λ xs. FaultGoes n None (first_clock xs)) (sym empty) tt)

ended : (end : End) (base : ℕ) (f g b : Judged) (p : Part) (m : Marks) (es : List DumpEvent) (e : DumpEvent)
    → IsFoundIn f p m es → IsFoundIn g p m (es ++ e ∷ []) → EndsSo g e end
    → FaultGoes (base + clocks_of (es ++ e ∷ [])) (broken_clock (shifted base f.verdict))
    (first_clock (filter is_fault (told_if_judged base (kept_at end g b) end)))
ended ends.Dump base f g b p m es e h k so = absurd so
ended ends.Hole base f g b p m es e h k so =
    let n = clocks_of (es ++ e ∷ []) in
    let goes = fault-goes f g p m es e h k in
    let none = none-before n (broken_clock f.verdict)
    (subst (λ o. FaultGoes n (broken_clock f.verdict) o) (accepted-none g.verdict so) goes) in
    none-goes (base + n) base f.verdict _ none (no-fault base g ends.Hole (nat_lt 0 g.judged) refl)
ended ends.Reply base f g b p m es e h k so =
    let none = reply-none (broken_clock f.verdict) f g p m es e h k so.0 so.1 refl in
    none-goes (base + clocks_of (es ++ e ∷ [])) base f.verdict _ none
    (no-fault base b ends.Reply (nat_lt 0 b.judged) refl)
ended ends.Broken base f g b p m es e h k so =
    let n = clocks_of (es ++ e ∷ []) in
    let goes = shifted-goes base n f.verdict g.verdict (fault-goes f g p m es e h k) in
    let some = some-judged g.start g.judged _ g.verdict k.says in
    let end : end_of g.verdict ≡ ends.Broken = ap (λ (t : Bool). if t then ends.Broken else ends.Dump) so in
    let told = ap (λ (x : End). first_clock (filter is_fault (told_if_judged base g x))) (sym end)
    ∙ last-clock base g g.verdict (nat_lt 0 g.judged) refl some in
    subst (λ o. FaultGoes (base + n) (broken_clock (shifted base f.verdict)) o) (sym told) goes

-- the first of some, and of more
among-more : (ps qs : List PartFound) (n base : ℕ) (v : Verdict)
    → FaultGoes n (broken_clock (shifted base v)) (first_clock qs)
    → FaultGoes n (fault_among ps base v) (first_clock (ps ++ qs))
among-more [] qs n base v h = h
among-more (p ∷ ps) qs n base v h = goes-same n (broken_clock p.verdict)

among-over : (ps : List PartFound) (base : ℕ) (v : Verdict) → broken_clock v ≡ None → fault_among ps base v ≡ first_clock ps
among-over [] base v h = none-shifted base v h
among-over (p ∷ ps) base v h = refl

-- nothing is broken before the first clock
none-first : (f : Judged) (p : Part) (m : Marks) → IsFoundIn f p m [] → broken_clock f.verdict ≡ None
none-first f p m h = by (broken_clock f.verdict) refl
  where
    by : (o : Option ℕ) → broken_clock f.verdict ≡ o → o ≡ None
    by None e = refl
    by (Some c) e = absurd (let low = broken-below f p m [] h c e in omega (arith, low))

pub ends-with : (j k : PartsJudge) (p : Plan) (m : Marks) (es : List DumpEvent) (e : DumpEvent) (s : Stands j p m es)
    (end : End) (g : Judged) (x : Segment) (part : Part) (n : Marks)
    → IsFoundIn g (next_part p s.segments) m (s.open_events ++ e ∷ [])
    → ending p (length (faults_in s.segments)) g e ≡ Some end → x.found ≡ kept_at end g j.latest.before → x.end ≡ end
    → Tallies k.tally (s.segments ++ x ∷ []) → Remembers k.latest part n []
    → FaultGoes (clocks_of (es ++ e ∷ [])) (fault_of j) (fault_of k)
ends-with j k p m es e s end g x part n found so is_found is_end tallied latest =
    let ps = faults_in s.segments in
    let base = clocks_in s.segments in
    let f = j.latest.found in
    let w = k.latest.found.verdict in
    let qs = filter is_fault (told_if_judged base (kept_at end g j.latest.before) end) in
    let one = among-more ps qs (base + clocks_of (s.open_events ++ e ∷ [])) base f.verdict
    (ended end base f g j.latest.before (next_part p s.segments) m s.open_events e s.latest.found found
    (ends-so end p (length ps) g e so)) in
    let all : faults_in (s.segments ++ x ∷ []) ≡ ps ++ qs =
    faults_in-snoc s.segments x
    ∙ ap (λ y. ps ++ filter is_fault (told_if_judged base y x.end)) is_found
    ∙ ap (λ y. ps ++ filter is_fault (told_if_judged base (kept_at end g j.latest.before) y)) is_end in
    let new : fault_of k ≡ first_clock (ps ++ qs) =
    ap (λ xs. fault_among xs k.tally.clocks w) tallied.kept.faults
    ∙ among-first 15 (faults_in (s.segments ++ x ∷ [])) k.tally.clocks w
    ∙ among-over (faults_in (s.segments ++ x ∷ [])) k.tally.clocks w (none-first k.latest.found part n latest.found)
    ∙ ap first_clock all in
    subst (λ o. FaultGoes (clocks_of (es ++ e ∷ [])) (fault_of j) o) (sym new)
    (subst (λ o. FaultGoes (clocks_of (es ++ e ∷ [])) o (first_clock (ps ++ qs))) (sym (fault-is j p m es s))
    (subst (λ c. FaultGoes c (fault_among ps base f.verdict) (first_clock (ps ++ qs))) (clocks-all j p m es e s) one))
