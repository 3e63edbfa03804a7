-- What a verdict says, out of what `bench` says of a check.
use Rattle.std.proofs.Common.{◌≡◌, ◌+◌, ◌<◌, ◌≤◌, ◌∙◌, ℕ, zero, suc, false, true, List, Option, None, Some, ap, arith}
use Rattle.std.proofs.Common.{inl, inr, length, nat_lt, refl, subst, sym, take}
use Rattle.std.specs.Prelude.{slice_get}
use Rattle.std.proofs.lemmas.Bool.{and_parts, cases_lt}
use Rattle.std.proofs.lemmas.Option.{slice_get_past}
use Rattle.fsb_rules.specs.Checker.{as_broken}
use Rattle.fsb_rules.specs.declared.broken.Broken.{Broken}
use Rattle.fsb_signal.specs.declared.marks.Marks.{Marks}
use Rattle.fsb_signal.specs.declared.sample.Sample.{Sample}
use Rattle.fsb_trace.proofs.Interface.{verdict-least, verdict-none}
use Rattle.fsb_trace.specs.Rules.{breaks, phase_rules}
use Rattle.fsb_trace.specs.Verdict.{is_broken, verdict}
use Rattle.fsb_calls.specs.FileSays.{HasTable, HasVerdict}
use Rattle.fsb_top.specs.declared.status.Status.TheVariants.{Done, Rejected}
use Rattle.fsb_headline.specs.PhaseRules.{BreaksNoRule, IsAccepted, IsFirstBroken, IsRejected}

pub none-broken : (m : Marks) (w : List Sample) → verdict m w ≡ None → BreaksNoRule m w
none-broken m w e = record { none = verdict-none m w e }

no-rule : (m : Marks) (w : List Sample) (c j : ℕ) → 21 ≤ j → breaks m w c j ≡ false
unfolding breaks phase_rules
no-rule m w c zero past = absurd (omega arith)
no-rule m w c (suc j) past =
    let off : slice_get (phase_rules m) j ≡ None = slice_get_past (phase_rules m) j (omega arith) in
    rw off refl

-- a rule that is broken is one of the twenty
broken-rule : (m : Marks) (w : List Sample) (c j : ℕ) → is_broken m w c j ≡ true → j < 21
unfolding is_broken
broken-rule m w c j e = elim (cases_lt j 21) [
  | inl few ↦ few
  | inr past ↦ absurd (let off = no-rule m (take (c + 1) w) c j past in
      let both = and_parts (nat_lt c (length w)) (breaks m (take (c + 1) w) c j) e in
      let no : true ≡ false = sym both.1 ∙ off in
      let not : ⊥ = cc in not)
]

told-parts : (found : Option (ℕ × ℕ)) (first : Broken) → as_broken found ≡ Some first
    → found ≡ Some (first.clock, first.rule)
unfolding as_broken
told-parts None first e = let no : ⊥ = cc in absurd no
told-parts (Some p) first e =
    let same : record { clock = p.0; rule = p.1 } ≡ first = cc in
    let parts : Broken → Option (ℕ × ℕ) = λ b. Some (b.clock, b.rule) in
    ap parts same

pub first-broken : (m : Marks) (w : List Sample) (first : Broken) → as_broken (verdict m w) ≡ Some first
    → IsFirstBroken m w first
first-broken m w first e =
    let least = verdict-least m w first.clock first.rule (told-parts (verdict m w) first e) in record {
      within = least.0;
      of_twenty = broken-rule m w first.clock first.rule least.1;
      breaks = least.1;
      none_before = least.3;
      none_less = least.2;
    }

pub accepted : (name held left : List ℕ) (begun_as : Option (List ℕ)) → HasVerdict Done name held left begun_as
    → IsAccepted held
accepted name held left begun_as h =
    record { marks = h.marks; trace = h.trace; reads = h.reads; accepted = none-broken h.marks h.trace h.told }

pub accepted-table : (name held left : List ℕ) (begun_as : Option (List ℕ)) → HasTable Done name held left begun_as
    → IsAccepted held
accepted-table name held left begun_as h =
    record { marks = h.marks; trace = h.trace; reads = h.reads; accepted = none-broken h.marks h.trace h.told }

pub rejected : (name held left : List ℕ) (begun_as : Option (List ℕ)) (first : Broken)
    → HasVerdict (Rejected first) name held left begun_as → IsRejected held first
rejected name held left begun_as first h =
    record { marks = h.marks; trace = h.trace; reads = h.reads; rejected = first-broken h.marks h.trace first h.told }

pub rejected-table : (name held left : List ℕ) (begun_as : Option (List ℕ)) (first : Broken)
    → HasTable (Rejected first) name held left begun_as → IsRejected held first
rejected-table name held left begun_as first h =
    record { marks = h.marks; trace = h.trace; reads = h.reads; rejected = first-broken h.marks h.trace first h.told }

pub not-both : (held : List ℕ) (first : Broken) → IsAccepted held → IsRejected held first → ⊥
not-both held first a r =
    let marks : r.marks ≡ a.marks = r.reads.1 ∙ sym a.reads.1 in
    let trace : r.trace ≡ a.trace = r.reads.2 ∙ sym a.reads.2 in
    let breaks : is_broken a.marks a.trace first.clock first.rule ≡ true =
    subst (λ (w : List Sample). is_broken a.marks w first.clock first.rule ≡ true) trace
    (subst (λ (m : Marks). is_broken m r.trace first.clock first.rule ≡ true) marks r.rejected.breaks) in
    let no : true ≡ false = sym breaks ∙ a.accepted.none first.clock first.rule r.rejected.of_twenty in cc
