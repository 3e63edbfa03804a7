-- The first broken clock of a judge.
use Rattle.std.proofs.Common.{◌≡◌, ◌∙◌, ℕ, suc, ◌+◌, ◌≤◌, ◌++◌, ◌∷◌, [], Bool, true, false, if◌then◌else◌, nat_lt, List, Option, Some, None, filter, take, slice_get, refl, sym, ap, append-nil, arith}
use Rattle.std.proofs.lemmas.Bool.{lt-ltb}
use Rattle.std.proofs.lemmas.List.Elements.{filter-append}
use Rattle.fsb_signal.specs.declared.marks.Marks.{Marks}
use Rattle.vcd_way.specs.Events.{DumpEvent}
use Rattle.fsb_rules.specs.declared.broken.Broken.{Broken as BrokenRule}
use Rattle.scope_check.specs.declared.finding.Judged.{Judged}
use Rattle.scope_check.specs.declared.finding.Verdict.{Verdict}
use Rattle.scope_check.specs.declared.finding.Verdict.TheVariants.{Nothing, Accepted, Broken}
use Rattle.scope_check.specs.Findings.{Says}
use Rattle.scope_check.specs.Parts.{clocks_of}
use Rattle.scope_parts.specs.declared.finding.End.{End}
use Rattle.scope_parts.specs.declared.finding.End.TheVariants as ends
use Rattle.scope_parts.specs.declared.finding.PartFound.{PartFound}
use Rattle.scope_parts.specs.declared.judge.PartsJudge.{PartsJudge}
use Rattle.scope_parts.specs.declared.plan.Plan.{Plan}
use Rattle.scope_parts.specs.Segments.{Segment, clocks_in, events_in, faults_in, is_fault, next_part, part_told, parts_in, shifted, told_if_judged}
use Rattle.scope_parts.specs.Endings.{breaks_one}
use Rattle.scope_parts.specs.Findings.{IsFirstFault, broken_clock, fault_among, first_clock}
use Rattle.scope_parts.specs.declared.tally.Tally.{Tally}
use Rattle.scope_parts.specs.Standing.{Stands, Tallies, clock_in, fault_of}
use Rattle.scope_parts.proofs.Clocks.{clocks_of-append, found-within}
use Rattle.scope_parts.proofs.Found.{last_at}
use Rattle.scope_parts.proofs.Sums.{events_in-snoc, parts_in-snoc}

pub faults_in-snoc : (ss : List Segment) (s : Segment)
    → faults_in (ss ++ s ∷ []) ≡ faults_in ss ++ filter is_fault (told_if_judged (clocks_in ss) s.found s.end)
faults_in-snoc ss s =
    ap (λ ps. filter is_fault ps) (parts_in-snoc ss s)
    ∙ filter-append is_fault (parts_in ss) (told_if_judged (clocks_in ss) s.found s.end)

-- the first of some, and of sixteen of them
pub among-first : (n : ℕ) (ps : List PartFound) (base : ℕ) (v : Verdict)
    → fault_among (take (suc n) ps) base v ≡ fault_among ps base v
among-first n [] base v = refl
among-first n (p ∷ ps) base v = refl

pub clock-first : (n : ℕ) (ps : List PartFound) → first_clock (take (suc n) ps) ≡ first_clock ps
clock-first n [] = refl
clock-first n (p ∷ ps) = refl

pub among-there : (ps : List PartFound) (base : ℕ) (v : Verdict) (x : PartFound) → slice_get ps 0 ≡ Some x
    → broken_clock x.verdict ≡ fault_among ps base v
among-there [] base v x h = absurd (let no : ⊥ = cc in no)
among-there (p ∷ ps) base v x h = let same : x ≡ p = cc h in ap (λ (y : PartFound). broken_clock y.verdict) same

pub among-none : (ps : List PartFound) (base : ℕ) (v : Verdict) → slice_get ps 0 ≡ None
    → broken_clock (shifted base v) ≡ fault_among ps base v
among-none [] base v h = refl
among-none (p ∷ ps) base v h = absurd (let no : ⊥ = cc in no)

-- how the last segment ends
abbrev pub end_of : Verdict → End
end_of v = if breaks_one v then ends.Broken else ends.Dump

pub last-clock : (base : ℕ) (f : Judged) (v : Verdict) (b : Bool) → f.verdict ≡ v → (breaks_one v ≡ true → b ≡ true)
    → first_clock (filter is_fault (if b then part_told base f (end_of v) ∷ [] else [])) ≡ broken_clock (shifted base v)
last-clock base f Nothing true e some = refl
last-clock base f Nothing false e some = refl
last-clock base f Accepted true e some = refl
last-clock base f Accepted false e some = refl
last-clock base f (Broken clock rule stamp) true e some = ap (λ (v : Verdict). broken_clock (shifted base v)) e
last-clock base f (Broken clock rule stamp) false e some = absurd (let wrong = some refl in let no : ⊥ = cc in no)

pub some-judged : (start judged : ℕ) (found : Option BrokenRule) (v : Verdict) → Says start judged found v
    → breaks_one v ≡ true → nat_lt 0 judged ≡ true
some-judged start judged found Nothing h e = absurd (let no : ⊥ = cc in no)
some-judged start judged found Accepted h e = absurd (let no : ⊥ = cc in no)
some-judged start judged found (Broken clock rule stamp) h e = lt-ltb 0 judged h.4

-- the first of some broken parts and of the one that is open
first-of : (ps : List PartFound) (base : ℕ) (f : Judged) → (breaks_one f.verdict ≡ true → nat_lt 0 f.judged ≡ true)
    → first_clock (ps ++ filter is_fault (told_if_judged base f (end_of f.verdict))) ≡ fault_among ps base f.verdict
first-of [] base f some = last-clock base f f.verdict (nat_lt 0 f.judged) refl some
first-of (p ∷ ps) base f some = refl

-- the first broken clock that a judge has found is that of the segments that are over, or else of the open one
pub fault-is : (j : PartsJudge) (p : Plan) (m : Marks) (es : List DumpEvent) (s : Stands j p m es)
    → fault_of j ≡ fault_among (faults_in s.segments) (clocks_in s.segments) j.latest.found.verdict
fault-is j p m es s =
    ap (λ ps. fault_among ps j.tally.clocks j.latest.found.verdict) s.tallied.kept.faults
    ∙ among-first 15 (faults_in s.segments) j.tally.clocks j.latest.found.verdict
    ∙ ap (λ n. fault_among (faults_in s.segments) n j.latest.found.verdict) s.tallied.clocks

pub fault-all : (j : PartsJudge) (p : Plan) (m : Marks) (es : List DumpEvent) (s : Stands j p m es)
    → fault_of j
    ≡ first_clock (faults_in (s.segments ++ last_at s.open_events j.latest.found (end_of j.latest.found.verdict) ∷ []))
fault-all j p m es s =
    let f = j.latest.found in
    fault-is j p m es s
    ∙ sym (first-of (faults_in s.segments) (clocks_in s.segments) f
    (some-judged f.start f.judged _ f.verdict s.latest.found.says))
    ∙ ap first_clock (sym (faults_in-snoc s.segments (last_at s.open_events f (end_of f.verdict))))

pub is-first : (j : PartsJudge) (p : Plan) (m : Marks) (es : List DumpEvent) (s : Stands j p m es)
    → IsFirstFault (fault_of j) p m es
is-first j p m es s =
    let last = last_at s.open_events j.latest.found (end_of j.latest.found.verdict) in
    record {
      segments = s.segments;
      last = last;
      whole = s.whole ∙ ap (λ xs. events_in s.segments ++ xs) (sym (append-nil s.open_events))
          ∙ sym (events_in-snoc s.segments last);
      over = s.over;
      is_last = record { unended = s.unended; reply = refl; found = s.latest.found; end = refl };
      fault_is = fault-all j p m es s;
    }

-- the first of the broken parts that are told at the end
pub fault-told : (j : PartsJudge) (t : Tally) (p : Plan) (m : Marks) (es : List DumpEvent) (s : Stands j p m es)
    → (end : End) → end ≡ end_of j.latest.found.verdict
    → Tallies t (s.segments ++ last_at s.open_events j.latest.found end ∷ [])
    → first_clock t.kept.faults.items ≡ fault_of j
fault-told j t p m es s end ends_so tallied =
    ap first_clock tallied.kept.faults
    ∙ clock-first 15 (faults_in (s.segments ++ last_at s.open_events j.latest.found end ∷ []))
    ∙ ap (λ (x : End). first_clock (faults_in (s.segments ++ last_at s.open_events j.latest.found x ∷ []))) ends_so
    ∙ sym (fault-all j p m es s)

pub clock-fits : (j : PartsJudge) (p : Plan) (m : Marks) (es : List DumpEvent) (s : Stands j p m es)
    → j.tally.clocks + clock_in j.latest.found.verdict ≤ j.counts.clocks
clock-fits j p m es s =
    let base = s.tallied.clocks in
    let all = s.counted.clocks ∙ ap clocks_of s.whole ∙ clocks_of-append (events_in s.segments) s.open_events in
    let within = (found-within j.latest.found (next_part p s.segments) m s.open_events s.latest.found).broken in
    omega (arith, base, all, within)
