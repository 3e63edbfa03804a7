-- Behind a fault: it stays, no sample is decided, and the marks may still come.
use Rattle.std.proofs.Common.{◌≡◌, ℕ, Bool, true, false, not, ◌&&◌, ◌==◌, List, [], ◌∷◌, ◌++◌, length, nat_lt, Option, Some, None, is_some, is_none, Result, Ok, Err}
use Rattle.std.proofs.Common.{if◌then◌else◌, refl, sym, ap, ◌∙◌, arith}
use Rattle.std.proofs.lemmas.Bool.{ltb-true}
use Rattle.fsb_signal.specs.declared.marks.Marks.{Marks}
use Rattle.fsb_signal.specs.declared.sample.Sample.{Sample}
use Rattle.vcd_grammar.specs.declared.fault.VcdFault.{VcdFault}
use Rattle.vcd_grammar.specs.Tokens.{Token, tokens_from, ended_at, tokens_of}
use Rattle.vcd_grammar.specs.Judging.{Known, Mode, TokenTurn, goes_to, mode_behind, turn, behind, nothing, known_marks}
use Rattle.vcd_grammar.specs.Reading.{marks_so_far, marks_at_end, marks_of, or_cut, cut_in}
use Rattle.vcd_grammar.specs.Reading.{first_fault, samples_before_end}
use Rattle.vcd_grammar.specs.Judging.{Header, Variable, Skipped, Closing, Values, Pending, Beside, Passed, marks_of_lines}
use Rattle.vcd_grammar.proofs.Interface.{marks-first, marks-longer, marks-ended}
use Rattle.vcd_read.specs.declared.scan.Scan.{Scan}
use Rattle.vcd_read.specs.declared.reader.Reader.{Reader}
use Rattle.vcd_read.specs.declared.stop.VcdStop.{VcdStop}
use Rattle.vcd_read.specs.declared.stop.VcdStop.TheVariants as stops
use Rattle.vcd_read.specs.Taking.{Taken, untaken, decided_of, take_token, take_tokens, samples_in_tokens, pushed}
use Rattle.vcd_read.specs.Scanning.{Reading, reading, after_bytes, samples_in_bytes, ended_taken, ended_samples}
use Rattle.vcd_read.specs.Scanning.{end_fault, open_samples}
use Rattle.vcd_read.specs.Lines.{sample_of_end}
use Rattle.std.specs.Result.{OnOk, IsOk}
use Rattle.vcd_read.specs.Standing.{Scanned, Works, Stands, Behind, GoesOn, refusal_of, marks_told, is_followed}
use Rattle.vcd_read.specs.Answers.{result_of, fault_or, TellsMarks, is_memory, end_stop, stop_at_end}
use Rattle.vcd_read.proofs.Standings.{scanned_decided, scanned_more}
use Rattle.vcd_read.proofs.Law.{known_behind}
use Rattle.vcd_read.proofs.Endings.{ended_is}

-- a token that follows a fault
faulty_turn : (s : Taken) (t : Token) → is_some s.known.fault ≡ true
    → turn s.known t ≡ goes_to s.known (mode_behind s.known.mode t)
unfolding turn
faulty_turn s t h = rw h refl

faulty_token : (s : Taken) (t : Token) → is_some s.known.fault ≡ true
    → is_some (take_token s t).known.fault ≡ true
faulty_token s t h = ap (λ (x : TokenTurn). is_some x.known.fault) (faulty_turn s t h) ∙ h

-- the fault stays
pub faulty_tokens : (s : Taken) (ts : List Token) → is_some s.known.fault ≡ true
    → is_some (take_tokens s ts).known.fault ≡ true
faulty_tokens s [] h = h
faulty_tokens s (t ∷ ts) h = faulty_tokens (take_token s t) ts (faulty_token s t h)

pub faulty_bytes : (r n : Reading) (bytes : List ℕ) → n ≡ after_bytes r bytes → is_some r.taken.known.fault ≡ true
    → is_some n.taken.known.fault ≡ true
faulty_bytes r n bytes e h = ap (λ (x : Reading). is_some x.taken.known.fault) e
    ∙ faulty_tokens r.taken (tokens_from r.at r.run bytes) h

-- no sample is decided
quiet_tokens : (s : Taken) (ts : List Token) → is_some s.known.fault ≡ true → samples_in_tokens s ts ≡ []
quiet_tokens s [] h = refl
quiet_tokens s (t ∷ ts) h =
    ap (λ (x : TokenTurn). decided_of s x ++ samples_in_tokens (take_token s t) ts) (faulty_turn s t h)
    ∙ quiet_tokens (take_token s t) ts (faulty_token s t h)

-- so none is appended
pub quiet_bytes : (r : Reading) (bytes : List ℕ) (limit decided : ℕ) (old new : List Sample)
    → is_some r.taken.known.fault ≡ true → new ≡ pushed limit decided old (samples_in_bytes r bytes) → new ≡ old
quiet_bytes r bytes limit decided old new h e =
    e ∙ ap (pushed limit decided old) (quiet_tokens r.taken (tokens_from r.at r.run bytes) h)

-- a piece that was refused has told the marks, or there is a fault
pub goes_on : (s : Scan) (fed : List ℕ) (limit : ℕ) (marks : Option Marks) → Scanned s fed → marks ≡ marks_so_far fed
    → GoesOn (result_of (if nat_lt limit s.machine.decided then Some stops.TooLong else fault_or s.machine.fault None))
    marks s fed
goes_on s fed limit marks scanned is = by (nat_lt limit s.machine.decided) s.machine.fault refl refl
  where
    by : (b : Bool) (fault : Option VcdFault) → nat_lt limit s.machine.decided ≡ b → s.machine.fault ≡ fault
        → GoesOn (result_of (if b then Some stops.TooLong else fault_or fault None)) marks s fed
    by true fault many f = λ none.
        let no_sample = marks-first fed (sym is ∙ none) in
        let nothing_decided = scanned_decided s fed scanned ∙ ap length no_sample in
        absurd (omega (arith, ltb-true limit s.machine.decided many, nothing_decided))
    by false None many f = tt
    by false (Some fault) many f = λ none. record { scanned = scanned; faulty = rw f refl }

-- the marks of a whole text
pub ended_marks : (s : Scan) (fed : List ℕ) → Scanned s fed
    → known_marks (ended_taken (reading s)).known ≡ marks_at_end fed
unfolding marks_at_end
ended_marks s fed h = ap (λ (t : Taken). known_marks t.known) (ended_is s fed h)
    ∙ ap known_marks (known_behind untaken (tokens_of fed))

-- the end of the text leaves a fault
pub faulty_cut : (fault : Option VcdFault) (mode : Mode) (place : ℕ) → is_some fault ≡ true
    → is_some (or_cut fault mode place) ≡ true
faulty_cut None mode place h = absurd (let no : ⊥ = cc in no)
faulty_cut (Some fault) mode place h = refl

-- ---- what a reader stands for

-- behind a piece that was not refused
pub live_stands : (r : Reader) (all : List ℕ) → refusal_of r ≡ None → is_followed r ≡ true → Works r all
    → marks_told r ≡ marks_so_far all → Stands r all
live_stands r all none followed works marked = record {
  works = λ _. works;
  followed = λ _. followed;
  marked = λ _. marked;
  behind = λ stop is f m. let no : ◌≡◌ {A = Option VcdStop} None (Some stop) = sym none ∙ is in absurd (let n : ⊥ = cc in n);
}

no_refusal : {P : Type 0} (r : Reader) (stop : VcdStop) → refusal_of r ≡ Some stop → refusal_of r ≡ None → P
no_refusal r stop is none =
    let no : ◌≡◌ {A = Option VcdStop} None (Some stop) = sym none ∙ is in absurd (let n : ⊥ = cc in n)

-- behind one that was
pub refused_stands : (r : Reader) (all : List ℕ) (stop : VcdStop) (before : Option Marks) → refusal_of r ≡ Some stop
    → is_followed r ≡ not (is_memory stop) → TellsMarks (Err stop) (marks_so_far all) before (marks_told r)
    → GoesOn (Err stop) (marks_told r) r.scan all → Stands r all
refused_stands r all stops.Memory before is followed told goes = record {
  works = no_refusal r stops.Memory is;
  followed = no_refusal r stops.Memory is;
  marked = λ f. let no : false ≡ true = sym followed ∙ f in absurd (let n : ⊥ = cc in n);
  behind = λ stop same f m. let no : false ≡ true = sym followed ∙ f in absurd (let n : ⊥ = cc in n);
}
refused_stands r all stops.TooLong before is followed told goes = record {
  works = no_refusal r stops.TooLong is;
  followed = no_refusal r stops.TooLong is;
  marked = λ f. told;
  behind = λ stop same f m. goes m;
}
refused_stands r all (stops.Bad fault) before is followed told goes = record {
  works = no_refusal r (stops.Bad fault) is;
  followed = no_refusal r (stops.Bad fault) is;
  marked = λ f. told;
  behind = λ stop same f m. goes m;
}

-- once it is refused and its marks stay
pub over_stands : (r : Reader) (all : List ℕ) (stop : VcdStop) → refusal_of r ≡ Some stop → is_followed r ≡ false
    → Stands r all
over_stands r all stop is over = record {
  works = no_refusal r stop is;
  followed = no_refusal r stop is;
  marked = λ f. let no : false ≡ true = sym over ∙ f in absurd (let n : ⊥ = cc in n);
  behind = λ stop same f m. let no : false ≡ true = sym over ∙ f in absurd (let n : ⊥ = cc in n);
}

-- a refused reader that has told its marks reads no further
pub still_stands : (r : Reader) (fed piece : List ℕ) (stop : VcdStop) → refusal_of r ≡ Some stop
    → is_none (marks_told r) ≡ false → Stands r fed → Stands r (fed ++ piece)
still_stands r fed piece stop is told stood = record {
  works = no_refusal r stop is;
  followed = no_refusal r stop is;
  marked = λ f. by (marks_told r) refl f;
  behind = λ s same f none. let no : true ≡ false = rw none at told in absurd (let n : ⊥ = cc in n);
}
  where
    by : (o : Option Marks) → marks_told r ≡ o → is_followed r ≡ true → marks_told r ≡ marks_so_far (fed ++ piece)
    by None e f = let no : true ≡ false = rw e at told in absurd (let n : ⊥ = cc in n)
    by (Some m) e f = e ∙ sym (marks-longer fed piece m (sym (stood.marked f) ∙ e))

-- one that reads on
pub further_stands : (new : Reader) (fed piece : List ℕ) (stop : VcdStop) → refusal_of new ≡ Some stop
    → Behind new.scan (fed ++ piece) → marks_told new ≡ marks_so_far (fed ++ piece) → Stands new (fed ++ piece)
further_stands new fed piece stop is behind marked = record {
  works = no_refusal new stop is;
  followed = no_refusal new stop is;
  marked = λ f. marked;
  behind = λ s same f none. behind;
}

-- what was told is what the whole text tells
pub told_at_end : (r : Reader) (fed : List ℕ) → is_followed r ≡ true → is_none (marks_told r) ≡ false
    → Stands r fed → marks_told r ≡ marks_at_end fed
told_at_end r fed f told stood = by (marks_told r) refl
  where
    by : (o : Option Marks) → marks_told r ≡ o → marks_told r ≡ marks_at_end fed
    by None e = let no : true ≡ false = rw e at told in absurd (let n : ⊥ = cc in n)
    by (Some m) e = e ∙ sym (marks-ended fed m (sym (stood.marked f) ∙ e))

-- ---- behind a fault the scan answers Ok

pub on_ok_of : {T E P : Type 0} (r : Result T E) → IsOk r → OnOk r P → P
on_ok_of (Ok x) ok p = p
on_ok_of (Err e) ok p = absurd (let n : ⊥ = cc in n)

-- and appends nothing at the end
pub quiet_end : (r : Reading) (limit decided : ℕ) (old new : List Sample) → is_some r.taken.known.fault ≡ true
    → new ≡ pushed limit decided old (ended_samples r ++ open_samples (end_fault r) (ended_taken r).lines) → new ≡ old
quiet_end r limit decided old new h e =
    let last = ended_at r.at r.run in
    let fault = faulty_cut (ended_taken r).known.fault (ended_taken r).known.mode r.at (faulty_tokens r.taken last h) in
    e ∙ ap (pushed limit decided old)
    (ap (λ xs. xs ++ open_samples (end_fault r) (ended_taken r).lines) (quiet_tokens r.taken last h)
    ∙ ap (λ b. if b then [] else sample_of_end (ended_taken r).lines) fault)

-- a fault stays as bytes come
pub behind_more : (s t : Scan) (fed piece : List ℕ) → Behind s fed → reading t ≡ after_bytes (reading s) piece
    → Behind t (fed ++ piece)
behind_more s t fed piece b state = record {
  scanned = scanned_more s t fed piece b.scanned state;
  faulty = faulty_bytes (reading s) (reading t) piece state b.faulty;
}

-- ---- the end of a text that was not refused before

-- what the end answers tells the marks
pub told_end : (limit decided : ℕ) (fault : Option VcdFault) (more : Bool) (text old new : Option Marks) → new ≡ text
    → TellsMarks (result_of (end_stop limit decided fault more)) text old new
unfolding end_stop
told_end limit decided fault more text old new h = by (nat_lt limit decided) fault (more && (decided == limit))
  where
    by : (b : Bool) (f : Option VcdFault) (d : Bool)
        → TellsMarks (result_of (if b then Some stops.TooLong else fault_or f (if d then Some stops.TooLong else None)))
        text old new
    by true f d = h
    by false (Some f) d = h
    by false None true = h
    by false None false = h

-- a text with no fault has its marks
faultless_marks : (k : Known) (place : ℕ) → or_cut k.fault k.mode place ≡ None
    → known_marks k ≡ Some (marks_of_lines k.lines)
faultless_marks k place h = by k.fault k.mode refl refl
  where
    no : {P : Type 0} (f : VcdFault) → ◌≡◌ {A = Option VcdFault} (Some f) None → P
    no f e = absurd (let n : ⊥ = cc in n)

    cut : (m : Mode) → k.mode ≡ m → cut_in m place ≡ None → known_marks k ≡ Some (marks_of_lines k.lines)
    cut Header e c = no _ c
    cut (Variable d) e c = no _ c
    cut Skipped e c = no _ c
    cut (Closing p) e c = no _ c
    cut Values e c = rw e refl
    cut (Pending p digits) e c = no _ c
    cut Beside e c = no _ c
    cut Passed e c = no _ c

    by : (f : Option VcdFault) (m : Mode) → k.fault ≡ f → k.mode ≡ m → known_marks k ≡ Some (marks_of_lines k.lines)
    by (Some f) m is at = no f (rw (is) at h)
    by None m is at = cut m at (rw (is, at) at h)

pub read_marks : (text : List ℕ) (limit : ℕ) → stop_at_end limit text ≡ None → marks_at_end text ≡ Some (marks_of text)
unfolding stop_at_end first_fault marks_at_end marks_of
read_marks text limit h = by (nat_lt limit (length (samples_before_end text))) (first_fault text) refl refl
  where
    no : {P : Type 0} (s : VcdStop) → ◌≡◌ {A = Option VcdStop} (Some s) None → P
    no s e = absurd (let n : ⊥ = cc in n)

    by : (b : Bool) (f : Option VcdFault) → nat_lt limit (length (samples_before_end text)) ≡ b → first_fault text ≡ f
        → marks_at_end text ≡ Some (marks_of text)
    by true f t e = no stops.TooLong (rw t at h)
    by false (Some f) t e = no (stops.Bad f) (rw (t, e) at h)
    by false None t e = faultless_marks (behind nothing (tokens_of text)) (length text) e
