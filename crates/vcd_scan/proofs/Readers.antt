-- A value reader that has read more bytes.
use Rattle.std.proofs.Common.{◌≡◌, ℕ, ◌+◌, ◌-◌, Bool, not, ◌&&◌, Option, None, List, ◌++◌, length, take, drop, true, is_some, refl, sym, ap}
use Rattle.std.proofs.Common.{◌∙◌, append_assoc}
use Rattle.vcd_grammar.specs.Tokens.{Token, tokens_from, open_run, open_run_from}
use Rattle.vcd_way.specs.Ways.{ValueRules}
use Rattle.vcd_grammar.specs.declared.fault.VcdFault.{VcdFault}
use Rattle.vcd_way.specs.Steps.{DumpState, state_after, happenings_in, hides_stamp, open_from}
use Rattle.vcd_way.specs.Events.{DumpEvent}
use Rattle.vcd_course.specs.Opening.{after_happenings, ended_in, told_in}
use Rattle.vcd_scan.specs.declared.reader.ValueReader.{ValueReader}
use Rattle.vcd_scan.specs.Wired.{Wiring, wired}
use Rattle.vcd_scan.specs.Told.{state_told, open_in}
use Rattle.vcd_scan.specs.Standing.{tokens_after, known_after, open_after, told_after, rules_of, wiring_of, events_of, Took, Works, Keeps, Appends}
use Rattle.vcd_scan.specs.Standing.{last_tokens_after, fault_behind, all_told_after}
use Rattle.vcd_way.specs.Answers.{fault_at_end}
use Rattle.vcd_way.proofs.Interface.{past-behind}
use Rattle.vcd_scan.specs.Begun.{begun}
use Rattle.vcd_scan.specs.Erased.{erased}
use Rattle.vcd_scan.proofs.Erasing.{state-alike, happenings-alike, hides-alike, open-alike, end-alike}
use Rattle.vcd_scan.proofs.Endings.{fault_of, lets_end}
use Rattle.vcd_scan.proofs.Reading.{known-append, open-tokens, told-tokens, known-faulty, told-faulty, rest_tokens, whole_of, more_of, appends_more}

-- the machine has taken more tokens
pub took_more : (old new : ValueReader) (head fed xs : List ℕ) (ts : List Token) → Keeps old new
    → Took old (tokens_after head fed) → tokens_after head (fed ++ xs) ≡ tokens_after head fed ++ ts
    → state_told new.machine ≡ erased (state_after (wired (rules_of old)) (state_told old.machine) ts)
    → open_in new.machine
    ≡ after_happenings (open_in old.machine) (happenings_in (wired (rules_of old)) (state_told old.machine) ts)
    → Took new (tokens_after head (fed ++ xs))
took_more old new head fed xs ts keeps took more state opened =
    let m = rules_of old in
    let w = wiring_of old in
    let s = known_after m w (tokens_after head fed) in
    let past = past-behind (wired m) (begun w) (tokens_after head fed) refl in
    let known : state_told new.machine ≡ erased (known_after m w (tokens_after head (fed ++ xs))) =
    state ∙ ap (λ s. erased (state_after (wired m) s ts)) took.state ∙ state-alike (wired m) s ts past
    ∙ ap (λ (x : DumpState Wiring). erased x)
    (sym (known-append m w (tokens_after head fed) ts) ∙ ap (known_after m w) (sym more)) in
    let block : open_in new.machine ≡ open_after m w (tokens_after head (fed ++ xs)) =
    opened ∙ (λ i. after_happenings (took.opened i) (happenings_in (wired m) (took.state i) ts))
    ∙ ap (after_happenings (open_after m w (tokens_after head fed))) (happenings-alike (wired m) s ts past)
    ∙ sym (open-tokens m w (tokens_after head fed) ts) ∙ ap (open_after m w) (sym more) in
    record {
      state = known ∙ (λ i. erased (known_after (sym keeps.rules i) (sym keeps.wiring i) (tokens_after head (fed ++ xs))));
      opened = block ∙ (λ i. open_after (sym keeps.rules i) (sym keeps.wiring i) (tokens_after head (fed ++ xs)));
    }

-- what they tell
pub told_more : (old new : ValueReader) (head fed xs : List ℕ) (ts : List Token)
    → Took old (tokens_after head fed) → tokens_after head (fed ++ xs) ≡ tokens_after head fed ++ ts
    → events_of new ≡ events_of old
    ++ told_in (rules_of old) (open_in old.machine) (happenings_in (wired (rules_of old)) (state_told old.machine) ts)
    → Appends (told_after (rules_of old) (wiring_of old) (tokens_after head fed))
    (told_after (rules_of old) (wiring_of old) (tokens_after head (fed ++ xs))) (events_of old) (events_of new)
told_more old new head fed xs ts took more told =
    let m = rules_of old in
    let w = wiring_of old in
    record {
      added = told_in m (open_in old.machine) (happenings_in (wired m) (state_told old.machine) ts);
      appended = told;
      complete = ap (told_after m w) more ∙ told-tokens m w (tokens_after head fed) ts
          ∙ sym ((λ i. told_after m w (tokens_after head fed)
          ++ told_in m (took.opened i) (happenings_in (wired m) (took.state i) ts))
          ∙ ap (λ hs. told_after m w (tokens_after head fed) ++ told_in m (open_after m w (tokens_after head fed)) hs)
          (happenings-alike (wired m) (known_after m w (tokens_after head fed)) ts
          (past-behind (wired m) (begun w) (tokens_after head fed) refl)));
    }

-- ---- a fault in the first bytes of a piece

pub known_there : (m : ValueRules) (w : Wiring) (head fed piece : List ℕ) (used : ℕ)
    → is_some (known_after m w (tokens_after head (fed ++ take used piece))).fault ≡ true
    → known_after m w (tokens_after head (fed ++ piece))
    ≡ known_after m w (tokens_after head (fed ++ take used piece))
known_there m w head fed piece used h =
    let first = fed ++ take used piece in
    ap (λ x. known_after m w (tokens_after head x)) (whole_of fed piece used)
    ∙ ap (known_after m w) (rest_tokens head first (drop used piece))
    ∙ known-faulty m w (tokens_after head first)
    (tokens_from (length head + length first) (open_run_from (open_run head) first) (drop used piece)) h

pub told_there : (m : ValueRules) (w : Wiring) (head fed piece : List ℕ) (used : ℕ)
    → is_some (known_after m w (tokens_after head (fed ++ take used piece))).fault ≡ true
    → told_after m w (tokens_after head (fed ++ piece))
    ≡ told_after m w (tokens_after head (fed ++ take used piece))
told_there m w head fed piece used h =
    let first = fed ++ take used piece in
    ap (λ x. told_after m w (tokens_after head x)) (whole_of fed piece used)
    ∙ ap (told_after m w) (rest_tokens head first (drop used piece))
    ∙ told-faulty m w (tokens_after head first)
    (tokens_from (length head + length first) (open_run_from (open_run head) first) (drop used piece)) h

-- the fault of a machine is that of its tokens
pub fault_took : (start now : ValueReader) (ts : List Token) → Keeps start now → Took now ts
    → now.machine.fault ≡ (known_after (rules_of start) (wiring_of start) ts).fault
fault_took start now ts keeps took =
    ap (λ (s : DumpState Wiring). s.fault) took.state
    ∙ (λ i. (known_after (keeps.rules i) (keeps.wiring i) ts).fault)

-- what further bytes of a piece tell, behind the first ones
pub told_on : (start now new : ValueReader) (head fed piece : List ℕ) (used len : ℕ) → Keeps start now
    → Appends (told_after (rules_of start) (wiring_of start) (tokens_after head fed))
    (told_after (rules_of start) (wiring_of start) (tokens_after head (fed ++ take used piece)))
    (events_of start) (events_of now)
    → Appends (told_after (rules_of now) (wiring_of now) (tokens_after head (fed ++ take used piece)))
    (told_after (rules_of now) (wiring_of now)
    (tokens_after head ((fed ++ take used piece) ++ take len (take (length piece - used) (drop used piece)))))
    (events_of now) (events_of new)
    → Appends (told_after (rules_of start) (wiring_of start) (tokens_after head fed))
    (told_after (rules_of start) (wiring_of start) (tokens_after head (fed ++ take (used + len) piece)))
    (events_of start) (events_of new)
told_on start now new head fed piece used len keeps first more =
    let m = rules_of start in
    let w = wiring_of start in
    let before = tokens_after head (fed ++ take used piece) in
    let all = tokens_after head (fed ++ take (used + len) piece) in
    let there : Appends (told_after m w before) (told_after m w all) (events_of now) (events_of new) = record {
      added = more.added;
      appended = more.appended;
      complete =
          (λ i. told_after (sym keeps.rules i) (sym keeps.wiring i) (tokens_after head (sym (more_of fed piece used len) i)))
          ∙ more.complete
          ∙ (λ i. told_after (keeps.rules i) (keeps.wiring i) before ++ more.added);
    } in
    appends_more (told_after m w (tokens_after head fed)) (told_after m w before) (told_after m w all)
    (events_of start) (events_of now) (events_of new) first there

-- ---- the end of a text

-- the last token
pub took_last : (old new : ValueReader) (head fed : List ℕ) (ts : List Token) → Keeps old new
    → Took old (tokens_after head fed) → last_tokens_after head fed ≡ tokens_after head fed ++ ts
    → state_told new.machine ≡ erased (state_after (wired (rules_of old)) (state_told old.machine) ts)
    → open_in new.machine
    ≡ after_happenings (open_in old.machine) (happenings_in (wired (rules_of old)) (state_told old.machine) ts)
    → Took new (last_tokens_after head fed)
took_last old new head fed ts keeps took more state opened =
    let m = rules_of old in
    let w = wiring_of old in
    let s = known_after m w (tokens_after head fed) in
    let past = past-behind (wired m) (begun w) (tokens_after head fed) refl in
    let known : state_told new.machine ≡ erased (known_after m w (last_tokens_after head fed)) =
    state ∙ ap (λ s. erased (state_after (wired m) s ts)) took.state ∙ state-alike (wired m) s ts past
    ∙ ap (λ (x : DumpState Wiring). erased x)
    (sym (known-append m w (tokens_after head fed) ts) ∙ ap (known_after m w) (sym more)) in
    let block : open_in new.machine ≡ open_after m w (last_tokens_after head fed) =
    opened ∙ (λ i. after_happenings (took.opened i) (happenings_in (wired m) (took.state i) ts))
    ∙ ap (after_happenings (open_after m w (tokens_after head fed))) (happenings-alike (wired m) s ts past)
    ∙ sym (open-tokens m w (tokens_after head fed) ts) ∙ ap (open_after m w) (sym more) in
    record {
      state = known ∙ (λ i. erased (known_after (sym keeps.rules i) (sym keeps.wiring i) (last_tokens_after head fed)));
      opened = block ∙ (λ i. open_after (sym keeps.rules i) (sym keeps.wiring i) (last_tokens_after head fed));
    }

pub told_last : (old new : ValueReader) (head fed : List ℕ) (ts : List Token)
    → Took old (tokens_after head fed) → last_tokens_after head fed ≡ tokens_after head fed ++ ts
    → events_of new ≡ events_of old
    ++ told_in (rules_of old) (open_in old.machine) (happenings_in (wired (rules_of old)) (state_told old.machine) ts)
    → Appends (told_after (rules_of old) (wiring_of old) (tokens_after head fed))
    (told_after (rules_of old) (wiring_of old) (last_tokens_after head fed)) (events_of old) (events_of new)
told_last old new head fed ts took more told =
    let m = rules_of old in
    let w = wiring_of old in
    record {
      added = told_in m (open_in old.machine) (happenings_in (wired m) (state_told old.machine) ts);
      appended = told;
      complete = ap (told_after m w) more ∙ told-tokens m w (tokens_after head fed) ts
          ∙ sym ((λ i. told_after m w (tokens_after head fed)
          ++ told_in m (took.opened i) (happenings_in (wired m) (took.state i) ts))
          ∙ ap (λ hs. told_after m w (tokens_after head fed) ++ told_in m (open_after m w (tokens_after head fed)) hs)
          (happenings-alike (wired m) (known_after m w (tokens_after head fed)) ts
          (past-behind (wired m) (begun w) (tokens_after head fed) refl)));
    }

-- what ends with the text
pub fault_last : (start now : ValueReader) (ts : List Token) (place : ℕ) → Keeps start now → Took now ts
    → fault_at_end (state_told now.machine).fault (state_told now.machine).spot place
    ≡ fault_behind (rules_of start) (wiring_of start) ts place
fault_last start now ts place keeps took =
    ap (λ (s : DumpState Wiring). fault_at_end s.fault s.spot place) took.state
    ∙ end-alike (known_after (rules_of now) (wiring_of now) ts).fault (known_after (rules_of now) (wiring_of now) ts).spot
    place
    ∙ (λ i. fault_behind (keeps.rules i) (keeps.wiring i) ts place)

pub told_all : (start now : ValueReader) (before new : List DumpEvent) (old : List DumpEvent) (ts : List Token)
    → Keeps start now → Took now ts
    → Appends before (told_after (rules_of start) (wiring_of start) ts) old (events_of now)
    → new ≡ events_of now ++ ended_in (rules_of now) (open_in now.machine)
    → Appends before (all_told_after (rules_of start) (wiring_of start) ts) old new
told_all start now before new old ts keeps took first more =
    let last = ended_in (rules_of now) (open_in now.machine) in
    let same : ended_in (rules_of start) (open_after (rules_of start) (wiring_of start) ts) ≡ last =
    (λ i. ended_in (sym keeps.rules i) (open_after (sym keeps.rules i) (sym keeps.wiring i) ts))
    ∙ ap (ended_in (rules_of now)) (sym took.opened) in
    record {
      added = first.added ++ last;
      appended = more ∙ ap (λ x. x ++ last) first.appended ∙ append_assoc old first.added last;
      complete = (λ i. first.complete i ++ same i) ∙ append_assoc before first.added last;
    }

-- the reader has shown no fault
pub sound-first : (start : ValueReader) (head fed : List ℕ) → Works start head fed
    → (known_after (rules_of start) (wiring_of start) (tokens_after head fed)).fault ≡ None
sound-first start head fed w =
    sym (fault_took start start (tokens_after head fed) (record { rules = refl; wiring = refl }) w.reads.took) ∙ w.faultless

-- the fault at the end of the text, as the machine says it
pub end-fault : (start now : ValueReader) (head fed : List ℕ) (place : ℕ) (answer : Option VcdFault) → Keeps start now
    → Took now (last_tokens_after head fed) → place ≡ length (head ++ fed)
    → answer ≡ fault_at_end (state_told now.machine).fault (state_told now.machine).spot place
    → fault_of (rules_of start) (wiring_of start) head fed ≡ answer
end-fault start now head fed place answer keeps took at is =
    sym (is ∙ ap (fault_at_end (state_told now.machine).fault (state_told now.machine).spot) at
    ∙ fault_last start now (last_tokens_after head fed) (length (head ++ fed)) keeps took)

-- whether it is let pass, as the machine says it
pub end-lets : (start now : ValueReader) (head fed : List ℕ) (answer : Bool) → Keeps start now
    → Took now (last_tokens_after head fed)
    → answer ≡ ((rules_of now).ends_early && not (hides_stamp (state_told now.machine).spot))
    → lets_end (rules_of start) (wiring_of start) head fed ≡ answer
end-lets start now head fed answer keeps took is =
    let ts = last_tokens_after head fed in
    sym (is ∙ (λ i. (rules_of now).ends_early && not (hides_stamp (took.state i).spot))
    ∙ ap (λ b. (rules_of now).ends_early && not b)
    (hides-alike (known_after (rules_of now) (wiring_of now) ts).spot)
    ∙ (λ i. (keeps.rules i).ends_early && not (hides_stamp (known_after (keeps.rules i) (keeps.wiring i) ts).spot)))

-- where what stands open there begins
pub end-open : (start now : ValueReader) (head fed : List ℕ) (answer : Option ℕ) → Keeps start now
    → Took now (last_tokens_after head fed) → answer ≡ open_from (state_told now.machine).spot
    → open_from (known_after (rules_of start) (wiring_of start) (last_tokens_after head fed)).spot ≡ answer
end-open start now head fed answer keeps took is =
    let ts = last_tokens_after head fed in
    sym (is ∙ ap (λ (s : DumpState Wiring). open_from s.spot) took.state
    ∙ open-alike (known_after (rules_of now) (wiring_of now) ts).spot
    ∙ (λ i. open_from (known_after (keeps.rules i) (keeps.wiring i) ts).spot))
