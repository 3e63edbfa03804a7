-- What is found of a dump that never stops, and of which the first clock is known.
use Rattle.std.proofs.Common.{◌≡◌, ℕ, ◌+◌, Bool, true, false, not, ◌&&◌, List, [], ◌∷◌, ◌++◌, length, Option}
use Rattle.std.proofs.Common.{refl, sym, ap, subst, ◌∙◌, append_assoc, append-nil, arith}
use Rattle.std.specs.List.{list_all}
use Rattle.std.proofs.lemmas.Bool.{and_parts, not-true}
use Rattle.fsb_signal.specs.declared.marks.Marks.{Marks}
use Rattle.fsb_signal.specs.Samples.{has_known_lines}
use Rattle.fsb_rules.specs.declared.broken.Broken.{Broken}
use Rattle.fsb_rules.specs.Checker.{as_broken}
use Rattle.fsb_trace.specs.Verdict.{verdict}
use Rattle.vcd_way.specs.Events.{DumpEvent, Sampled, Hole, Resumed, samples_among}
use Rattle.scope_check.specs.declared.finding.Judged.{Judged}
use Rattle.scope_check.specs.declared.finding.Verdict.{Verdict}
use Rattle.scope_check.specs.declared.part.Begin.TheVariants.{Known}
use Rattle.scope_check.specs.Bounds.{begins_later}
use Rattle.scope_check.specs.Findings.{Says, IsFoundIn}
use Rattle.scope_later.specs.Findings.{found_on}
use Rattle.scope_check.specs.Parts.{is_ready, is_sampled, begins, has_stopped, opens, closes, Throughout, IsParted}
use Rattle.scope_both.specs.Finding.{begins_known, whole_part, IsJudgedWhole}

ready-first : (events : List DumpEvent) → list_all is_sampled events ≡ true → begins_known (samples_among events) ≡ true
    → begins is_ready events ≡ true
ready-first [] n h = refl
ready-first (Sampled sample stamp ∷ events) n h = h
ready-first (Hole stamp ∷ events) n h = cc n
ready-first (Resumed stamp ∷ events) n h = cc n

sampled-behind : (es fs : List DumpEvent) → list_all is_sampled (es ++ fs) ≡ true → list_all is_sampled fs ≡ true
sampled-behind [] fs h = h
sampled-behind (e ∷ es) fs h = sampled-behind es fs (and_parts (is_sampled e) (list_all is_sampled (es ++ fs)) h).1

none-before : (before rest : List DumpEvent) → begins is_ready (before ++ rest) ≡ true
    → Throughout (λ es e. not (opens whole_part es e)) before → before ≡ []
none-before [] rest h n = refl
none-before (Sampled sample stamp ∷ before) rest h n =
    let wrong : true ≡ false = sym h ∙ not-true (has_known_lines sample) n.0 in
    cc wrong
none-before (Hole stamp ∷ before) rest h n = cc h
none-before (Resumed stamp ∷ before) rest h n = cc h

none-behind : (before part behind : List DumpEvent) → list_all is_sampled behind ≡ true
    → begins (closes whole_part before part) behind ≡ true → behind ≡ []
none-behind before part [] h n = refl
none-behind before part (Sampled sample stamp ∷ behind) h n = cc n
none-behind before part (Hole stamp ∷ behind) h n = cc h
none-behind before part (Resumed stamp ∷ behind) h n = cc h

-- the part that is judged is all
record IsAll (events before part behind : List DumpEvent) : Type 0 where
  first : before ≡ []
  last : behind ≡ []
  all : part ≡ events

all-parted : (events before part behind : List DumpEvent) → list_all is_sampled events ≡ true
    → begins is_ready events ≡ true → IsParted whole_part events before part behind → IsAll events before part behind
all-parted events before part behind n r p =
    let rest = part ++ behind in
    let whole : events ≡ before ++ rest = p.whole ∙ append_assoc before part behind in
    let first = none-before before rest (subst (λ es. begins is_ready es ≡ true) whole r) p.unopened in
    let sampled = sampled-behind part behind
    (sampled-behind before rest (subst (λ es. list_all is_sampled es ≡ true) whole n)) in
    let last = none-behind before part behind sampled p.closed in
    record {
      first = first;
      last = last;
      all = sym (append-nil part) ∙ (λ i. part ++ sym last i) ∙ (λ i. sym first i ++ rest) ∙ sym whole;
    }

-- the numbers of a finding where nothing comes before the part and nothing behind it
whole-numbers : (start judged clocks before part behind : ℕ) → start ≡ before → judged ≡ part
    → clocks ≡ start + judged + behind → before ≡ 0 → behind ≡ 0 → clocks ≡ part
whole-numbers start judged clocks before part behind a b c d e = omega arith

pub found-whole : (f : Judged) (marks : Marks) (events : List DumpEvent) → list_all is_sampled events ≡ true
    → begins_known (samples_among events) ≡ true → IsFoundIn f whole_part marks events
    → IsJudgedWhole f (length (samples_among events)) (as_broken (verdict marks (samples_among events)))
found-whole f marks events n r k =
    let all = all-parted events k.before k.part k.behind n (ready-first events n r) k.parted in
    let before : length (samples_among k.before) ≡ 0 = ap (λ es. length (samples_among es)) all.first in
    let behind : length (samples_among k.behind) ≡ 0 = ap (λ es. length (samples_among es)) all.last in
    let start : f.start ≡ 0 = k.start ∙ before in
    let later : f.is_later ≡ false =
    k.is_later ∙ ap (λ es. begins_later Known f.start (has_stopped es)) all.first in
    let judged : f.judged ≡ length (samples_among events) = k.judged ∙ ap (λ es. length (samples_among es)) all.all in
    record {
      start = start;
      judged = judged;
      clocks_are = whole-numbers f.start f.judged f.clocks (length (samples_among k.before))
          (length (samples_among k.part)) (length (samples_among k.behind)) k.start k.judged k.clocks before behind
          ∙ ap (λ es. length (samples_among es)) all.all;
      says = subst (λ a. Says a (length (samples_among events)) (as_broken (verdict marks (samples_among events))) f.verdict)
          start
          (subst (λ b. Says f.start b (as_broken (verdict marks (samples_among events))) f.verdict) judged
          (subst (λ es. Says f.start f.judged (as_broken (verdict marks (samples_among es))) f.verdict) all.all
          (subst (λ (l : Bool). Says f.start f.judged (found_on l marks (samples_among k.part)) f.verdict) later k.says)));
    }
