-- What a reader of values answers is what the whole text tells.
use Rattle.std.proofs.Common.{◌≡◌, Bool, true, false, not, ◌&&◌, is_some, option_map, Option, ◌<◌, ◌≤◌, ◌^◌, ℕ, ◌⊎◌, inl, inr, if◌then◌else◌, List, [], ◌∷◌, ◌++◌, length, Some, None, Result, Ok, Err}
use Rattle.std.proofs.Common.{refl, sym, ap, subst, ◌∙◌, append_assoc, append-nil, drop}
use Rattle.std.proofs.Math.Seq.{drop-append_seam}
use Rattle.vcd_grammar.specs.declared.fault.VcdFault.{VcdFault}
use Rattle.vcd_grammar.specs.Tokens.{Token, tokens_so_far, tokens_of, ended_at, open_run}
use Rattle.vcd_way.specs.Declarations.{Declaration}
use Rattle.vcd_way.specs.Ways.{ValueRules, Way}
use Rattle.vcd_way.specs.Events.{DumpEvent}
use Rattle.vcd_way.proofs.Interface.{tokens_longer}
use Rattle.vcd_scan.specs.Limits.{first_limit}
use Rattle.vcd_way.specs.Answers.{EarlyEnd, state_of, fault_so_far_by, first_fault_by, early_end_by, events_by}
use Rattle.vcd_scan.specs.Wired.{Wiring}
use Rattle.vcd_scan.specs.Standing.{known_after, tokens_after, last_tokens_after, told_after, all_told_after, fault_behind, limit_after}
use Rattle.vcd_scan.specs.Ending.{ends_early_after, early_end_after, fault_to_end, told_to_end}
use Rattle.vcd_joined.specs.Choosing.{Choice, choosing, IsTaken, of_values}
use Rattle.vcd_joined.specs.Behind.{gathered_in, IsHeader, behind}
use Rattle.vcd_joined.specs.Texts.{IsHeadWith, IsWholeWith}
use Rattle.vcd_way.specs.Steps.{DumpState, is_past_header_at, open_from, hides_stamp}
use Rattle.vcd_header.specs.Gathering.{FitsRules, header_fault_so_far, header_fault_of}
use Rattle.scope_watch.specs.declared.header.Behind.{Behind}
use Rattle.scope_watch.specs.declared.header.Begun.{Begun}
use Rattle.scope_watch.specs.declared.stop.ScopeStop.{ScopeStop}
use Rattle.scope_watch.specs.declared.stop.ScopeStop.TheVariants as stops
use Rattle.scope_watch.specs.declared.values.Sampling.{Sampling}
use Rattle.scope_watch.specs.declared.values.Ended.{Ended}
use Rattle.scope_watch.specs.Limit.{IsLimit}
use Rattle.scope_watch.specs.Heading.{StandsBehind, IsInside, IsWhole, ShowsInHeader, IsHeaderFault, IsReadUp, IsHeaded, any_header}
use Rattle.scope_watch.specs.Prefaces.{is_no_dump}
use Rattle.scope_watch.specs.Watching.{rules_for, EndsBadly, Finishes, IsWatched}

-- the laws of vcd_joined and vcd_way that are drawn on
pub record Laws : Type 0 where
  pub so_far : (c : Choice) (m : ValueRules) (w : Wiring) (head fed : List ℕ) → IsHeadWith c m w head
      → fault_so_far_by (choosing c m) (head ++ fed) ≡ (known_after (of_values m) w (tokens_after head fed)).fault
  pub fault : (c : Choice) (m : ValueRules) (w : Wiring) (head fed : List ℕ) → IsHeadWith c m w head
      → first_fault_by (choosing c m) (head ++ fed) ≡ fault_to_end (of_values m) w head fed
  pub early : (c : Choice) (m : ValueRules) (w : Wiring) (head fed : List ℕ) → IsHeadWith c m w head
      → early_end_by (choosing c m) (head ++ fed) ≡ early_end_after (of_values m) w head fed
  pub events : (c : Choice) (m : ValueRules) (w : Wiring) (head fed : List ℕ) → IsHeadWith c m w head
      → events_by (choosing c m) (head ++ fed) ≡ told_to_end (of_values m) w head fed
  pub none : (c : Choice) (m : ValueRules) (text : List ℕ) → IsHeader m (tokens_of text)
      → first_fault_by (choosing c m) text ≡ None
  pub well : (c : Choice) (m : ValueRules) (text : List ℕ) → IsHeader m (tokens_of text)
      → early_end_by (choosing c m) text ≡ None
  pub all : (c : Choice) (m : ValueRules) (w : Wiring) (text : List ℕ) → IsWholeWith c m w text
      → events_by (choosing c m) text ≡ all_told_after (of_values m) w []
  pub stays : (way : Way (List Declaration)) (fed more : List ℕ) (f : VcdFault) → fault_so_far_by way fed ≡ Some f
      → first_fault_by way (fed ++ more) ≡ Some f
  pub gathered : (c : Choice) (m : ValueRules) (ts : List Token) → IsHeader m ts
      → state_of (choosing c m) ts ≡ gathered_in m ts
  pub goes_on : (c : Choice) (m : ValueRules) (w : Wiring) (hs ts : List Token) → IsHeader m hs
      → IsTaken c (gathered_in m hs).header w
      → state_of (choosing c m) (hs ++ ts) ≡ behind (gathered_in m hs) (known_after (of_values m) w ts)

-- ---- the limit that is told

-- the sections behind a header are those that a reader of values reads past
limit-behind : (laws : Laws) (c : Choice) (m : ValueRules) (w : Wiring) (text : List ℕ) (hs ts : List Token)
    (limit : Option ℕ) → IsHeader m hs → IsTaken c (gathered_in m hs).header w → tokens_of text ≡ hs ++ ts
    → limit ≡ limit_after (of_values m) w ts → IsLimit (choosing c m) text limit
limit-behind laws c m w text hs ts limit h k e f =
    let first = (gathered_in m hs).remarks in
    let more = (known_after (of_values m) w ts).remarks in
    let all : (state_of (choosing c m) (tokens_of text)).remarks ≡ first ++ more =
    ap (λ x. (state_of (choosing c m) x).remarks) e
    ∙ ap (λ (s : DumpState (List Declaration)). s.remarks) (laws.goes_on c m w hs ts h k) in
    let front : (state_of (choosing c m) hs).remarks ≡ first =
    ap (λ (s : DumpState (List Declaration)). s.remarks) (laws.gathered c m hs h) in
    record {
      header = hs;
      more = ts;
      whole = e;
      is_header = h;
      limit_is = f ∙ ap first_limit (sym (drop-append_seam first more))
          ∙ (λ i. first_limit (drop (length (sym front i)) (sym all i)));
    }

-- the tokens behind a header
tokens-behind : (head fed : List ℕ) → tokens_of (head ++ fed) ≡ tokens_so_far head ++ last_tokens_after head fed
tokens-behind head fed =
    let last = ended_at (length (head ++ fed)) (open_run (head ++ fed)) in
    ap (λ x. x ++ last) (tokens_longer head fed)
    ∙ append_assoc (tokens_so_far head) (tokens_after head fed) last

-- ---- behind a header

fault-inside : (laws : Laws) (c : Choice) (s : Sampling) (w : Wiring) (head fed : List ℕ) (fault : VcdFault)
    → IsHeadWith c (rules_for s) w head → EndsBadly (of_values (rules_for s)) w head fed fault
    → first_fault_by (choosing c (rules_for s)) (head ++ fed) ≡ Some fault
fault-inside laws c s w head fed fault h (inl shown) =
    ap (first_fault_by (choosing c (rules_for s)))
    (ap (λ x. head ++ x) shown.whole ∙ sym (append_assoc head shown.some shown.more))
    ∙ laws.stays (choosing c (rules_for s)) (head ++ shown.some) shown.more fault
    (laws.so_far c (rules_for s) w head shown.some h ∙ shown.first)
fault-inside laws c s w head fed fault h (inr e) = laws.fault c (rules_for s) w head fed h ∙ e

inside : (laws : Laws) (c : Choice) (s : Sampling) (w : Wiring) (head fed : List ℕ) (seen : List DumpEvent → Type 0) (most : ℕ)
    (result : Result Ended ScopeStop) → IsHeadWith c (rules_for s) w head
    → (result ≡ Err stops.TooLong → 2 ^ 40 < length (head ++ fed))
    → Finishes result seen most (of_values (rules_for s)) w head fed
    → IsWatched result seen most (choosing c (rules_for s)) (head ++ fed)
inside laws c s w head fed seen most (Ok ended) h long f = record {
  none = laws.fault c (rules_for s) w head fed h ∙ f.none;
  early_end = f.early_end ∙ sym (laws.early c (rules_for s) w head fed h);
  limit = limit-behind laws c (rules_for s) w (head ++ fed) (tokens_so_far head) (last_tokens_after head fed) ended.limit
      h.header h.taken (tokens-behind head fed) f.limit;
  shown = subst (λ x. seen x) (sym (laws.events c (rules_for s) w head fed h)) f.shown;
}
inside laws c s w head fed seen most (Err (stops.Bad fault)) h long f = fault-inside laws c s w head fed fault h f
inside laws c s w head fed seen most (Err stops.NoHeader) h long f = f
inside laws c s w head fed seen most (Err stops.TooLong) h long f = long refl
inside laws c s w head fed seen most (Err stops.ReadFault) h long f = tt
inside laws c s w head fed seen most (Err stops.TooMany) h long f =
    subst (λ es. most ≤ length es) (sym (laws.events c (rules_for s) w head fed h)) f
inside laws c s w head fed seen most (Err stops.WriteFault) h long f = tt
inside laws c s w head fed seen most (Err stops.Memory) h long f = tt

-- ---- a text that is its header

none-last : last_tokens_after [] [] ≡ []
unfolding ended_at
none-last = refl

no-fault : (m : ValueRules) (w : Wiring) (some more : List ℕ) (fault : VcdFault) → [] ≡ some ++ more
    → (known_after m w (tokens_after [] some)).fault ≡ Some fault → ⊥
no-fault m w [] more fault e h = cc
no-fault m w (b ∷ some) more fault e h = cc

-- such a text has no fault behind it
none-behind : (m : ValueRules) (w : Wiring) → fault_behind m w (last_tokens_after [] []) 0 ≡ None
none-behind m w = ap (λ ts. fault_behind m w ts 0) none-last

not-early : (a b c : Bool) (f : Option VcdFault) → f ≡ None → (a && b && c && is_some f) ≡ false
not-early true true true f h = ap is_some h
not-early true true false f h = refl
not-early true false c f h = refl
not-early false b c f h = refl

none-early : (m : ValueRules) (w : Wiring) → ends_early_after m w [] [] ≡ false
none-early m w =
    not-early m.ends_early (not (is_some (known_after m w (tokens_after [] [])).fault))
    (not (hides_stamp (known_after m w (last_tokens_after [] [])).spot)) _ (none-behind m w)

no-end : (m : ValueRules) (w : Wiring) (fault : VcdFault) → fault_to_end m w [] [] ≡ Some fault → ⊥
no-end m w fault h =
    let wrong = sym (λ i. if none-early m w i then None else none-behind m w i) ∙ h in let no : ⊥ = cc in no

told-none : (m : ValueRules) (w : Wiring) → told_to_end m w [] [] ≡ all_told_after m w []
told-none m w =
    ap (λ b. if b then told_after m w (tokens_after [] []) else all_told_after m w (last_tokens_after [] []))
    (none-early m w)
    ∙ ap (λ ts. all_told_after m w ts) none-last

ended-none : (m : ValueRules) (w : Wiring) → early_end_after m w [] [] ≡ None
ended-none m w =
    let last = last_tokens_after [] [] in
    let early : Option EarlyEnd = option_map
    (λ fault. record { fault = fault; open_from = open_from (known_after m w last).spot }) (fault_behind m w last 0) in
    ap (λ b. if b then early else None) (none-early m w)

no-bad : (m : ValueRules) (w : Wiring) (fault : VcdFault) → EndsBadly m w [] [] fault → ⊥
no-bad m w fault (inl shown) = no-fault m w shown.some shown.more fault shown.whole shown.first
no-bad m w fault (inr e) = no-end m w fault e

whole : (laws : Laws) (c : Choice) (s : Sampling) (w : Wiring) (text : List ℕ) (seen : List DumpEvent → Type 0) (most : ℕ)
    (result : Result Ended ScopeStop) → IsWholeWith c (rules_for s) w text
    → (result ≡ Err stops.TooLong → 2 ^ 40 < length text)
    → Finishes result seen most (of_values (rules_for s)) w [] []
    → IsWatched result seen most (choosing c (rules_for s)) text
whole laws c s w text seen most (Ok ended) h long f = record {
  none = laws.none c (rules_for s) text h.header;
  early_end = f.early_end ∙ ended-none (of_values (rules_for s)) w ∙ sym (laws.well c (rules_for s) text h.header);
  limit = limit-behind laws c (rules_for s) w text (tokens_of text) [] ended.limit h.header h.taken
      (sym (append-nil (tokens_of text))) (f.limit ∙ ap (limit_after (of_values (rules_for s)) w) none-last);
  shown = subst (λ x. seen x) (told-none (of_values (rules_for s)) w ∙ sym (laws.all c (rules_for s) w text h)) f.shown;
}
whole laws c s w text seen most (Err (stops.Bad fault)) h long f = absurd (no-bad (of_values (rules_for s)) w fault f)
whole laws c s w text seen most (Err stops.NoHeader) h long f = f
whole laws c s w text seen most (Err stops.TooLong) h long f = long refl
whole laws c s w text seen most (Err stops.ReadFault) h long f = tt
whole laws c s w text seen most (Err stops.TooMany) h long f =
    subst (λ es. most ≤ length es) (told-none (of_values (rules_for s)) w ∙ sym (laws.all c (rules_for s) w text h)) f
whole laws c s w text seen most (Err stops.WriteFault) h long f = tt
whole laws c s w text seen most (Err stops.Memory) h long f = tt

-- ---- both

-- what is answered of the values is right of the whole text
pub watched : (laws : Laws) (c : Choice) (s : Sampling) (w : Wiring) (b : Behind) (ts : List Token) (text left : List ℕ)
    (seen : List DumpEvent → Type 0) (most : ℕ) (result : Result Ended ScopeStop)
    → (at : StandsBehind (rules_for s) b ts text left) → IsTaken c (gathered_in (rules_for s) ts).header w
    → (result ≡ Err stops.TooLong → 2 ^ 40 < length text)
    → Finishes result seen most (of_values (rules_for s)) w at.head (b.rest.items ++ left)
    → IsWatched result seen most (choosing c (rules_for s)) text
watched laws c s w b ts text left seen most result at k long f = by at.place
  where
    by : IsInside b ts text left at.head ⊎ IsWhole b ts text left at.head
        → IsWatched result seen most (choosing c (rules_for s)) text
    by (inl p) =
        let fed = b.rest.items ++ left in
        let h : IsHeadWith c (rules_for s) w at.head = record {
          header = subst (λ x. IsHeader (rules_for s) x) p.tokens at.header;
          taken = subst (λ x. IsTaken c (gathered_in (rules_for s) x).header w) p.tokens k;
        } in
        subst (λ x. IsWatched result seen most (choosing c (rules_for s)) x) (sym p.whole)
        (inside laws c s w at.head fed seen most result h
        (λ e. subst (λ x. 2 ^ 40 < length x) p.whole (long e)) f)
    by (inr p) =
        let h : IsWholeWith c (rules_for s) w text = record {
          header = subst (λ x. IsHeader (rules_for s) x) p.tokens at.header;
          taken = subst (λ x. IsTaken c (gathered_in (rules_for s) x).header w) p.tokens k;
        } in
        let none : b.rest.items ++ left ≡ [] = (λ i. p.no_rest i ++ p.nothing i) in
        whole laws c s w text seen most result h long
        (subst (λ x. Finishes result seen most (of_values (rules_for s)) w [] x) none
        (subst (λ x. Finishes result seen most (of_values (rules_for s)) w x (b.rest.items ++ left)) p.none f))

-- ---- a fault in a header

-- laws on headers that are drawn on
pub record HeaderLaws : Type 0 where
  pub so_far : (c : Choice) (m : ValueRules) (fed : List ℕ)
      → is_past_header_at (gathered_in m (tokens_so_far fed)).spot ≡ false
      → fault_so_far_by (choosing c m) fed ≡ header_fault_so_far m fed
  pub whole : (c : Choice) (m : ValueRules) (text : List ℕ)
      → is_past_header_at (gathered_in m (tokens_of text)).spot ≡ false
      → first_fault_by (choosing c m) text ≡ header_fault_of m text
  pub stays : (way : Way (List Declaration)) (fed more : List ℕ) (f : VcdFault) → fault_so_far_by way fed ≡ Some f
      → first_fault_by way (fed ++ more) ≡ Some f

not-past : (b : Bool) (o : Option VcdFault) (fault : VcdFault) → (if b then None else o) ≡ Some fault → b ≡ false
not-past true o fault e = absurd (let no : ⊥ = cc in no)
not-past false o fault e = refl

-- it is the first fault in each way that keeps declarations
first-bad : (laws : HeaderLaws) (text : List ℕ) (fault : VcdFault) → ShowsInHeader text fault
    → (c : Choice) (m : ValueRules) → FitsRules m any_header → first_fault_by (choosing c m) text ≡ Some fault
first-bad laws text fault (inl shown) = λ c m f.
    let early = not-past _ (gathered_in m (tokens_so_far shown.some)).fault fault (shown.first m f) in
    ap (first_fault_by (choosing c m)) shown.whole
    ∙ laws.stays (choosing c m) shown.some shown.more fault
    (laws.so_far c m shown.some early ∙ shown.first m f)
first-bad laws text fault (inr e) = λ c m f. laws.whole c m text (not-past _ _ fault (e m f)) ∙ e m f

pub header-bad : (laws : HeaderLaws) (text : List ℕ) (fault : VcdFault) → ShowsInHeader text fault
    → is_no_dump text ≡ false → IsHeaderFault text fault
header-bad laws text fault shown dump = (shown, first-bad laws text fault shown, dump)

-- what was read up to the end of a header
pub headed : (laws : HeaderLaws) (answer : Result Begun ScopeStop) (text left : List ℕ) → IsReadUp answer text left
    → IsHeaded answer text left
headed laws (Ok b) text left h = h
headed laws (Err (stops.Bad fault)) text left h = header-bad laws text fault h.0 h.1
headed laws (Err stops.NoHeader) text left h = h
headed laws (Err stops.ReadFault) text left h = tt
headed laws (Err stops.TooLong) text left h = h
headed laws (Err stops.TooMany) text left h = h
headed laws (Err stops.WriteFault) text left h = h
headed laws (Err stops.Memory) text left h = tt
