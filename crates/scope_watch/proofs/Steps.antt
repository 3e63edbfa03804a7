-- One more piece of the values.
use Rattle.std.proofs.Common.{◌≡◌, ℕ, true, inl, inr, List, [], ◌++◌, Option, Some, None, option_map, Result, Ok, Err}
use Rattle.std.proofs.Common.{refl, sym, ap, subst, ◌∙◌, append_assoc, append-nil}
use Rattle.vcd_grammar.specs.declared.fault.VcdFault.{VcdFault}
use Rattle.vcd_way.specs.Ways.{ValueRules}
use Rattle.vcd_way.specs.Events.{DumpEvent}
use Rattle.vcd_scan.specs.declared.reader.ValueReader.{ValueReader}
use Rattle.vcd_scan.specs.declared.stop.ScanStop.{ScanStop}
use Rattle.vcd_scan.specs.declared.stop.ScanStop.TheVariants as scans
use Rattle.vcd_scan.specs.Wired.{Wiring}
use Rattle.vcd_scan.specs.Standing.{Stands, Keeps, Answers, Appends, refusal_of, refusal_in, rules_of, wiring_of, events_of}
use Rattle.vcd_scan.specs.declared.early.EarlyEnd.{EarlyEnd}
use Rattle.vcd_scan.specs.Standing.{tokens_after, last_tokens_after, known_after, told_after, limit_after}
use Rattle.scope_watch.specs.declared.values.Ended.{Ended}
use Rattle.vcd_scan.specs.Ending.{early_told, early_end_after, fault_to_end, told_to_end}
use Rattle.vcd_course.specs.declared.course.Course.{Course}
use Rattle.vcd_course.specs.declared.course.CourseRules.{CourseRules}
use Rattle.vcd_course.specs.Told.{rules_of as course_rules_of, late_of}
use Rattle.vcd_scan.specs.Told.{values_by}
use Rattle.vcd_joined.specs.Choosing.{of_values}
use Rattle.scope_watch.specs.declared.values.Sampling.{Sampling}
use Rattle.scope_watch.specs.Watching.{rules_for, Seen, ShowsFaultBehind, Refuses, EndsWell, EndsBadly}

-- a reader that answers Ok had not refused
pub not-refused : {X : Type 0} (o : Option ScanStop) (result : Result X ScanStop) (x : X) → result ≡ Ok x
    → ((stop : ScanStop) → o ≡ Some stop → result ≡ Err stop) → o ≡ None
not-refused None result x e again = refl
not-refused (Some stop) result x e again = absurd (let h : Ok x ≡ Err stop = sym e ∙ again stop refl in
    let no : ⊥ = cc in no)

-- what was appended goes on from what was told
joined : (before after old new : List DumpEvent) (h : List DumpEvent) → old ≡ [] → Appends before after old new
    → (h ++ before) ++ new ≡ h ++ after
joined before after old new h e a =
    append_assoc h before new
    ∙ ap (λ x. h ++ (before ++ x)) (a.appended ∙ ap (λ x. x ++ a.added) e)
    ∙ ap (λ x. h ++ x) (sym a.complete)

-- behind a piece
pub more-shown : (m : ValueRules) (w : Wiring) (old mid : ValueReader) (head fed piece : List ℕ) (h : List DumpEvent)
    → rules_of old ≡ m → wiring_of old ≡ w → events_of old ≡ []
    → Appends (told_after (rules_of old) (wiring_of old) (tokens_after head fed))
    (told_after (rules_of old) (wiring_of old) (tokens_after head (fed ++ piece))) (events_of old) (events_of mid)
    → (h ++ told_after m w (tokens_after head fed)) ++ events_of mid
    ≡ h ++ told_after m w (tokens_after head (fed ++ piece))
more-shown m w old mid head fed piece h r v e a =
    let same : (fed : List ℕ) → told_after (rules_of old) (wiring_of old) (tokens_after head fed)
    ≡ told_after m w (tokens_after head fed) = λ fed i. told_after (r i) (v i) (tokens_after head fed) in
    ap (λ x. (h ++ x) ++ events_of mid) (sym (same fed))
    ∙ joined _ _ _ _ h e a
    ∙ ap (λ x. h ++ x) (same (fed ++ piece))

-- at the end
pub last-shown : (m : ValueRules) (w : Wiring) (old mid : ValueReader) (head fed : List ℕ) (h : List DumpEvent)
    → rules_of old ≡ m → wiring_of old ≡ w → events_of old ≡ []
    → Appends (told_after (rules_of old) (wiring_of old) (tokens_after head fed))
    (told_to_end (rules_of old) (wiring_of old) head fed) (events_of old) (events_of mid)
    → (h ++ told_after m w (tokens_after head fed)) ++ events_of mid
    ≡ h ++ told_to_end m w head fed
last-shown m w old mid head fed h r v e a =
    ap (λ x. (h ++ x) ++ events_of mid) (λ i. told_after (sym r i) (sym v i) (tokens_after head fed))
    ∙ joined _ _ _ _ h e a
    ∙ ap (λ x. h ++ x) (λ i. told_to_end (r i) (v i) head fed)

-- a reader behind a piece whose events were seen
pub seen-more : (before after : List DumpEvent → Type 0) (m : ValueRules) (w : Wiring) (old mid new : ValueReader)
    (head fed piece : List ℕ) → Seen before m w old head fed
    → Keeps old mid → Keeps mid new → Stands new head (fed ++ piece) → events_of new ≡ [] → refusal_of new ≡ None
    → after (told_after m w (tokens_after head (fed ++ piece))) → Seen after m w new head (fed ++ piece)
seen-more before after m w old mid new head fed piece s k j stands taken fresh shown = record {
  rules = j.rules ∙ k.rules ∙ s.rules;
  wiring = j.wiring ∙ k.wiring ∙ s.wiring;
  stands = stands;
  taken = λ none. taken;
  shown = λ none. shown;
  refused = subst (λ x. Refuses m w head (fed ++ piece) x) (sym fresh) tt;
}

-- the fault that is answered
fault-of : {X : Type 0} (result : Result X ScanStop) (fault : VcdFault) (o : Option VcdFault) → result ≡ Err (scans.Bad fault)
    → Answers result o → o ≡ Some fault
fault-of result fault o e a = subst (λ x. Answers x o) e a

same-stop : {X : Type 0} (result : Result X ScanStop) (a b : ScanStop) → result ≡ Err a → result ≡ Err b → a ≡ b
same-stop result a b e f = cc

-- a reader that answers a fault has read it now or before
shows-more : (m : ValueRules) (w : Wiring) (head fed piece : List ℕ) (fault : VcdFault) (o : Option ScanStop)
    (result : Result Unit ScanStop) → Refuses m w head fed o
    → (o ≡ None → (known_after m w (tokens_after head (fed ++ piece))).fault ≡ Some fault)
    → result ≡ Err (scans.Bad fault) → ((stop : ScanStop) → o ≡ Some stop → result ≡ Err stop)
    → ShowsFaultBehind m w head (fed ++ piece) fault
shows-more m w head fed piece fault None result r now e again = record {
  some = fed ++ piece;
  more = [];
  whole = sym (append-nil (fed ++ piece));
  first = now refl;
}
shows-more m w head fed piece fault (Some scans.Memory) result r now e again = absurd r
shows-more m w head fed piece fault (Some (scans.Bad before)) result r now e again =
    let same : scans.Bad before ≡ scans.Bad fault = same-stop result _ _ (again (scans.Bad before) refl) e in
    let shown : ShowsFaultBehind m w head fed fault =
    subst (λ x. Refuses m w head fed (Some x)) same r in
    record {
      some = shown.some;
      more = shown.more ++ piece;
      whole = ap (λ x. x ++ piece) shown.whole ∙ append_assoc shown.some shown.more piece;
      first = shown.first;
    }

-- behind a piece with a fault, or behind one
pub seen-fault : (before after : List DumpEvent → Type 0) (m : ValueRules) (w : Wiring) (old new : ValueReader)
    (head fed piece : List ℕ) (fault : VcdFault) (result : Result Unit ScanStop) → Seen before m w old head fed
    → Keeps old new → Stands new head (fed ++ piece) → refusal_of new ≡ refusal_in result
    → (refusal_of old ≡ None → Answers result (known_after (rules_of old) (wiring_of old)
    (tokens_after head (fed ++ piece))).fault)
    → result ≡ Err (scans.Bad fault) → ((stop : ScanStop) → refusal_of old ≡ Some stop → result ≡ Err stop)
    → Seen after m w new head (fed ++ piece)
seen-fault before after m w old new head fed piece fault result s k stands refusal answer e again =
    let now : refusal_of new ≡ Some (scans.Bad fault) = refusal ∙ ap refusal_in e in
    record {
      rules = k.rules ∙ s.rules;
      wiring = k.wiring ∙ s.wiring;
      stands = stands;
      taken = λ none. absurd (let wrong = sym now ∙ none in let no : ⊥ = cc in no);
      shown = λ none. absurd (let wrong = sym now ∙ none in let no : ⊥ = cc in no);
      refused = subst (λ x. Refuses m w head (fed ++ piece) x) (sym now)
          (shows-more m w head fed piece fault (refusal_of old) result s.refused
          (λ none. (λ i. (known_after (sym s.rules i) (sym s.wiring i) (tokens_after head (fed ++ piece))).fault)
          ∙ fault-of result fault _ e (answer none)) e again);
    }

-- at the end of a text
pub ends-well : (ended : Ended) (before after : List DumpEvent → Type 0) (m : ValueRules) (w : Wiring)
    (old : ValueReader) (head fed : List ℕ) → Seen before m w old head fed
    → fault_to_end (rules_of old) (wiring_of old) head fed ≡ None
    → option_map early_told ended.early_end ≡ early_end_after (rules_of old) (wiring_of old) head fed
    → ended.limit ≡ limit_after (rules_of old) (wiring_of old) (last_tokens_after head fed)
    → after (told_to_end m w head fed) → EndsWell ended after m w head fed
ends-well ended before after m w old head fed s answer early limit shown = record {
  none = (λ i. fault_to_end (sym s.rules i) (sym s.wiring i) head fed) ∙ answer;
  early_end = early ∙ (λ i. early_end_after (s.rules i) (s.wiring i) head fed);
  limit = limit ∙ (λ i. limit_after (s.rules i) (s.wiring i) (last_tokens_after head fed));
  shown = shown;
}

pub ends-badly : (before : List DumpEvent → Type 0) (m : ValueRules) (w : Wiring) (old : ValueReader)
    (head fed : List ℕ) (fault : VcdFault) (result : Result (Option EarlyEnd) ScanStop) → Seen before m w old head fed
    → (refusal_of old ≡ None → Answers result (fault_to_end (rules_of old) (wiring_of old) head fed))
    → result ≡ Err (scans.Bad fault) → ((stop : ScanStop) → refusal_of old ≡ Some stop → result ≡ Err stop)
    → EndsBadly m w head fed fault
ends-badly before m w old head fed fault result s answer e again = by (refusal_of old) refl s.refused
  where
    by : (o : Option ScanStop) → refusal_of old ≡ o → Refuses m w head fed o → EndsBadly m w head fed fault
    by None o r =
        inr ((λ i. fault_to_end (sym s.rules i) (sym s.wiring i) head fed) ∙ fault-of result fault _ e (answer o))
    by (Some scans.Memory) o r = absurd r
    by (Some (scans.Bad seen)) o r =
        inl (subst (λ x. Refuses m w head fed (Some x)) (same-stop result _ _ (again (scans.Bad seen) o) e) r)

-- ---- before the first byte

-- when a course samples
abbrev pub sampled_at : Sampling → CourseRules
sampled_at s = record { edge = s.edge; takes_first = s.takes_first }

-- the rules of a reader by these rules
pub rules-same : (s : Sampling) (c : Course) (rules : CourseRules) → course_rules_of c ≡ rules → rules.edge ≡ s.edge
    → rules.takes_first ≡ s.takes_first → late_of c ≡ s.late.items
    → values_by (record { has_wide_digits = true; takes_any = true; tells_holes = true; ends_early = true }) c
    ≡ of_values (rules_for s)
rules-same s c rules e f g h = (λ i. record (of_values (rules_for s)) {
  edge = (ap (λ (x : CourseRules). x.edge) e ∙ f) i;
  takes_first = (ap (λ (x : CourseRules). x.takes_first) e ∙ g) i;
  late = h i;
})

-- a reader before the first byte behind a header has told nothing
pub seen-first : (seen : List DumpEvent → Type 0) (m : ValueRules) (w : Wiring) (r : ValueReader) (head : List ℕ)
    → rules_of r ≡ m → wiring_of r ≡ w → Stands r head [] → refusal_of r ≡ None → events_of r ≡ [] → seen []
    → Seen seen m w r head []
seen-first seen m w r head rules wiring stands fresh events shown = record {
  rules = rules;
  wiring = wiring;
  stands = stands;
  taken = λ none. events;
  shown = λ none. shown;
  refused = subst (λ x. Refuses m w head [] x) (sym fresh) tt;
}
