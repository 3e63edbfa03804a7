-- The end of a header among the bytes that are read.
use Rattle.std.proofs.Common.{◌≡◌, ℕ, ◌+◌, ◌-◌, Bool, true, false, ◌||◌, ◌==◌, if◌then◌else◌, List, [], ◌∷◌, ◌++◌, length, take, drop, get_or, ◌^◌}
use Rattle.std.proofs.Common.{◌⊎◌, inl, inr, Option, Some, None, Result, Ok, Err, refl, sym, ap, subst, ◌∙◌}
use Rattle.std.proofs.Common.{append-nil, append_assoc, length-append, arith, suc, zero, ◌≤◌, ◌<◌}
use Rattle.std.proofs.Math.Seq.{take-suc}
use Rattle.std.proofs.lemmas.List.{take-append-drop, drop-take}
use Rattle.vcd_grammar.specs.declared.fault.VcdFault.{VcdFault}
use Rattle.vcd_grammar.specs.Tokens.{Token, is_white, is_long, longest, ended_at, grown_at, counted, tokens_so_far, tokens_of, open_run}
use Rattle.vcd_way.specs.Declarations.{Declaration}
use Rattle.vcd_way.specs.Ways.{ValueRules}
use Rattle.vcd_way.specs.Wide.{wide_rules}
use Rattle.vcd_way.specs.Steps.{Spot, AtPreface, AtHeader, InSection, AtValues, AtCode, AtOtherCode, InRemark, DumpState, is_past_header_at}
use Rattle.vcd_way.specs.Answers.{fault_at_end}
use Rattle.vcd_way.proofs.Interface.{tokens_longer}
use Rattle.vcd_header.specs.declared.gathered.Stage.{Stage}
use Rattle.vcd_header.specs.declared.gathered.Stage.TheVariants as stages
use Rattle.vcd_header.specs.declared.declared.Section.{Section}
use Rattle.vcd_header.specs.declared.reader.HeaderReader.{HeaderReader}
use Rattle.vcd_header.specs.Told.{spot_told, is_over}
use Rattle.vcd_header.specs.Gathering.{FitsRules, gathered_so_far, gathered_of, header_fault_of}
use Rattle.vcd_header.specs.Standing.{Stands, is_over_of, rules_of, refusal_of}
use Rattle.vcd_joined.specs.Behind.{IsHeader, gathered_in}
use Rattle.vcd_header.specs.declared.stop.HeaderStop.{HeaderStop}
use Rattle.vcd_header.specs.declared.stop.HeaderStop.TheVariants as stops
use Rattle.scope_watch.specs.declared.header.Begun.{Begun}
use Rattle.scope_watch.specs.declared.stop.ScopeStop.{ScopeStop}
use Rattle.scope_watch.specs.declared.stop.ScopeStop.TheVariants as watched
use Rattle.scope_watch.specs.Stops.{IsStopOfReading}
use Rattle.scope_watch.specs.Heading.{any_header, Holds, Opens, FedByte, Fed, ShowsFault, HasEnded, IsEnded}
use Rattle.scope_watch.specs.Heading.{HasBegun, IsBegunWith, BeginsBy, ShowsInHeader, IsTooLong, IsReadUp}
use Rattle.scope_watch.specs.Prefaces.{is_no_dump}

-- ---- one more token

-- no token, or one
abbrev IsFew : List Token → Type 0
IsFew ts = (ts ≡ []) ⊎ ((t : Token) × (ts ≡ t ∷ []))

few-if : (b : Bool) (t : Token) → IsFew (if b then [] else t ∷ [])
few-if true t = inl refl
few-if false t = inr (t, refl)

few-other : (b : Bool) (t : Token) → IsFew (if b then t ∷ [] else [])
few-other true t = inr (t, refl)
few-other false t = inl refl

few-ended : (at : ℕ) (run : List ℕ) → IsFew (ended_at at run)
unfolding ended_at
few-ended at run = few-if ((length run == 0) || is_long run) (record { place = at - length run; word = run })

few-grown : (at : ℕ) (run : List ℕ) (b : ℕ) → IsFew (grown_at at run b)
unfolding grown_at
few-grown at run b = few-other (length run == longest) (record { place = at - longest; word = run ++ b ∷ [] })

few-branch : (b : Bool) (xs ys : List Token) → IsFew xs → IsFew ys → IsFew (if b then xs else ys)
few-branch true xs ys p q = p
few-branch false xs ys p q = q

few-counted : (at : ℕ) (run : List ℕ) (b : ℕ) → IsFew (counted at run b)
few-counted at run b =
    few-branch (is_white b) (ended_at at run) (grown_at at run b) (few-ended at run) (few-grown at run b)

-- ---- the token with which a header is over

not-both : (b : Bool) → b ≡ false → b ≡ true → ⊥
not-both b f t = cc

header-one : (m : ValueRules) (old new ts : List Token) → new ≡ old ++ ts → IsFew ts
    → is_past_header_at (gathered_in m old).spot ≡ false → is_past_header_at (gathered_in m new).spot ≡ true
    → IsHeader m new
header-one m old new ts e (inl none) early over =
    absurd (not-both (is_past_header_at (gathered_in m old).spot) early
    (ap (λ x. is_past_header_at (gathered_in m x).spot) (sym (append-nil old) ∙ ap (λ x. old ++ x) (sym none) ∙ sym e)
    ∙ over))
header-one m old new ts e (inr one) early over = record {
  before = old;
  last = one.0;
  whole = e ∙ ap (λ x. old ++ x) one.1;
  not_over = early;
  over = over;
}

-- with one more byte
pub header-byte : (m : ValueRules) (fed : List ℕ) (b : ℕ) → is_past_header_at (gathered_so_far m fed).spot ≡ false
    → is_past_header_at (gathered_so_far m (fed ++ b ∷ [])).spot ≡ true → IsHeader m (tokens_so_far (fed ++ b ∷ []))
header-byte m fed b early over =
    let ts = counted (length fed) (open_run fed) b in
    header-one m (tokens_so_far fed) (tokens_so_far (fed ++ b ∷ [])) ts
    (tokens_longer fed (b ∷ []) ∙ ap (λ x. tokens_so_far fed ++ x) (append-nil ts))
    (few-counted (length fed) (open_run fed) b) early over

-- at the end of a text
pub header-end : (m : ValueRules) (fed : List ℕ) → is_past_header_at (gathered_so_far m fed).spot ≡ false
    → is_past_header_at (gathered_of m fed).spot ≡ true → IsHeader m (tokens_of fed)
header-end m fed early over =
    header-one m (tokens_so_far fed) (tokens_of fed) (ended_at (length fed) (open_run fed)) refl
    (few-ended (length fed) (open_run fed)) early over

past-by : (f : Option VcdFault) (spot : Spot) (n : ℕ)
    → (if is_past_header_at spot then None else fault_at_end f spot n) ≡ None → is_past_header_at spot ≡ true
past-by f AtValues n h = refl
past-by f (AtCode place digits) n h = refl
past-by f (AtOtherCode place) n h = refl
past-by f (InRemark section) n h = refl
past-by None AtPreface n h = absurd (let no : ⊥ = cc in no)
past-by None AtHeader n h = absurd (let no : ⊥ = cc in no)
past-by None (InSection section) n h = absurd (let no : ⊥ = cc in no)
past-by (Some fault) AtPreface n h = absurd (let no : ⊥ = cc in no)
past-by (Some fault) AtHeader n h = absurd (let no : ⊥ = cc in no)
past-by (Some fault) (InSection section) n h = absurd (let no : ⊥ = cc in no)

-- a text without a fault of its header has one
pub past-end : (m : ValueRules) (fed : List ℕ) → header_fault_of m fed ≡ None
    → is_past_header_at (gathered_of m fed).spot ≡ true
past-end m fed h = past-by (gathered_of m fed).fault (gathered_of m fed).spot (length fed) h

-- ---- a reader

over-told : (stage : Stage) (section : Section) → is_past_header_at (spot_told stage section) ≡ is_over stage
over-told stages.Preface section = refl
over-told stages.Between section = refl
over-told stages.Inside section = refl
over-told stages.Over section = refl

fits-any : (r : HeaderReader) → rules_of r ≡ any_header → FitsRules wide_rules (rules_of r)
fits-any r e =
    subst (λ x. FitsRules wide_rules x) (sym e) (record { widest = refl; skips_preface = refl })

-- the header of one that stands open is not over
pub open-reader : (r : HeaderReader) (fed : List ℕ) → Opens r fed → is_over_of r ≡ false
open-reader r fed o =
    let told = (o.holds.stands.works o.holds.fresh).reads.gathered wide_rules (fits-any r o.holds.rules) in
    sym (over-told r.gathered.stage r.gathered.section)
    ∙ ap (λ (s : DumpState (List Declaration)). is_past_header_at s.spot) told
    ∙ o.early wide_rules (record { widest = refl; skips_preface = refl })

-- before the first byte
pub open-first : (m : ValueRules) → FitsRules m any_header → is_past_header_at (gathered_so_far m []).spot ≡ false
open-first m f = ap (λ b. is_past_header_at (if b then AtPreface else AtHeader)) f.skips_preface

-- ---- one more byte

-- a header that is not over takes the whole byte
pub byte-used : (m : ValueRules) (fed : List ℕ) (b used : ℕ) (over : Bool) → used ≤ 1 → (used < 1 → over ≡ true)
    → over ≡ is_past_header_at (gathered_so_far m (fed ++ take used (b ∷ []))).spot
    → is_past_header_at (gathered_so_far m fed).spot ≡ false → used ≡ 1
byte-used m fed b zero over few all e early =
    absurd (not-both over (e ∙ ap (λ x. is_past_header_at (gathered_so_far m x).spot) (append-nil fed) ∙ early)
    (all (omega arith)))
byte-used m fed b (suc zero) over few all e early = refl
byte-used m fed b (suc (suc n)) over few all e early = absurd (omega (arith, few))

-- a reader of a header that is not over, after one more byte
pub byte-read : (new : HeaderReader) (fed : List ℕ) (b used : ℕ) (over : Bool)
    → ((m : ValueRules) → FitsRules m any_header → is_past_header_at (gathered_so_far m fed).spot ≡ false)
    → Stands new (fed ++ take used (b ∷ [])) → refusal_of new ≡ None → rules_of new ≡ any_header
    → used ≤ 1 → (used < 1 → over ≡ true)
    → ((m : ValueRules) → FitsRules m any_header
    → over ≡ is_past_header_at (gathered_so_far m (fed ++ take used (b ∷ []))).spot)
    → FedByte (Ok over) new (fed ++ b ∷ [])
byte-read new fed b used over early stands fresh rules few all told = by over refl
  where
    any : FitsRules wide_rules any_header
    any = record { widest = refl; skips_preface = refl }

    one : used ≡ 1
    one = byte-used wide_rules fed b used over few all (told wide_rules any) (early wide_rules any)

    same : fed ++ take used (b ∷ []) ≡ fed ++ b ∷ []
    same = ap (λ n. fed ++ take n (b ∷ [])) one

    holds : Holds new (fed ++ b ∷ [])
    holds = record { stands = subst (λ x. Stands new x) same stands; fresh = fresh; rules = rules }

    past : (m : ValueRules) → FitsRules m any_header → over ≡ is_past_header_at (gathered_so_far m (fed ++ b ∷ [])).spot
    past m f = told m f ∙ ap (λ x. is_past_header_at (gathered_so_far m x).spot) same

    by : (o : Bool) → over ≡ o → FedByte (Ok o) new (fed ++ b ∷ [])
    by true e = record {
      holds = holds;
      header = λ m f. header-byte m fed b (early m f) (sym (past m f) ∙ e);
    }
    by false e = record { holds = holds; early = λ m f. sym (past m f) ∙ e }

-- ---- a piece

-- a fault with one of the bytes of a piece
pub byte-fault : (e : HeaderStop) (r : HeaderReader) (fed piece : List ℕ) (at b d : ℕ) → at < length piece
    → b ≡ get_or piece at d → FedByte (Err e) r ((fed ++ take at piece) ++ b ∷ []) → Fed (Err e) r fed piece
byte-fault stops.Memory r fed piece at b d less same h = tt
byte-fault (stops.Bad fault) r fed piece at b d less same h =
    let now : take (suc at) piece ≡ take at piece ++ b ∷ [] =
    take-suc piece at d less ∙ ap (λ x. take at piece ++ x ∷ []) (sym same) in
    record {
      some = (fed ++ take at piece) ++ b ∷ [];
      more = drop (suc at) piece;
      whole = ap (λ x. fed ++ x) (sym (take-append-drop (suc at) piece) ∙ ap (λ x. x ++ drop (suc at) piece) now)
          ∙ sym (append_assoc fed (take at piece ++ b ∷ []) (drop (suc at) piece))
          ∙ ap (λ x. x ++ drop (suc at) piece) (sym (append_assoc fed (take at piece) (b ∷ [])));
      first = h;
    }

-- ---- a source

-- a stop of a source
pub headed-stop : (stop : ScopeStop) (text left : List ℕ) → IsStopOfReading stop
    → (stop ≡ watched.TooLong → IsTooLong text) → IsReadUp (Err stop) text left
headed-stop (watched.Bad fault) text left h long = absurd h
headed-stop watched.NoHeader text left h long = absurd h
headed-stop watched.ReadFault text left h long = tt
headed-stop watched.TooLong text left h long = long refl
headed-stop watched.TooMany text left h long = h
headed-stop watched.WriteFault text left h long = h
headed-stop watched.Memory text left h long = absurd h

-- more bytes came than are taken
pub long-text : (text fed left : List ℕ) (taken : ℕ) → text ≡ fed ++ left → length fed ≡ taken
    → 2 ^ 40 < taken + length left → 2 ^ 40 < length text
long-text text fed left taken e size long =
    let sum : length text ≡ length fed + length left = ap length e ∙ length-append fed left in
    omega (arith, long, size, sum)

-- ---- the end of a header

ended-by : (b : Begun) (text : List ℕ) (taken : ℕ) (m : ValueRules) → FitsRules m any_header → taken ≡ length text
    → is_no_dump text ≡ false → HasEnded b text taken → BeginsBy m b text []
ended-by b text taken m f size dump h = record {
  tokens = tokens_of text;
  stands = record {
    header = h.header m f;
    head = [];
    cutter = h.cutter;
    place = inr (record { tokens = refl; none = refl; no_rest = h.rest; nothing = refl });
    taken = omega (arith, h.taken, size);
  };
  shows = h.shows m f;
  is_dump = dump;
}

ended-in : (answer : Result Begun ScopeStop) (text : List ℕ) (taken : ℕ) → IsEnded answer text taken → taken ≡ length text
    → is_no_dump text ≡ false → IsReadUp answer text []
ended-in (Ok b) text taken h size dump = λ m f. ended-by b text taken m f size dump h
ended-in (Err (watched.Bad fault)) text taken h size dump = (inr h, dump)
ended-in (Err watched.NoHeader) text taken h size dump = absurd h
ended-in (Err watched.ReadFault) text taken h size dump = tt
ended-in (Err watched.TooLong) text taken h size dump = absurd h
ended-in (Err watched.TooMany) text taken h size dump = h
ended-in (Err watched.WriteFault) text taken h size dump = h
ended-in (Err watched.Memory) text taken h size dump = tt

-- the header of a text that was read to its end
pub headed-end : (answer : Result Begun ScopeStop) (fed text left : List ℕ) (taken : ℕ) → IsEnded answer fed taken
    → text ≡ fed → left ≡ [] → taken ≡ length fed → is_no_dump fed ≡ false → IsReadUp answer text left
headed-end answer fed text left taken h e none size dump =
    subst (λ x. IsReadUp answer x left) (sym e) (subst (λ x. IsReadUp answer fed x) (sym none)
    (ended-in answer fed taken h size dump))

begun-by : (b : Begun) (head rest text left : List ℕ) (taken : ℕ) (m : ValueRules) → FitsRules m any_header
    → text ≡ head ++ (rest ++ left) → taken + length left ≡ length text → is_no_dump text ≡ false
    → HasBegun b head rest taken → BeginsBy m b text left
begun-by b head rest text left taken m f e size dump h = record {
  tokens = tokens_so_far head;
  stands = record {
    header = h.header m f;
    head = head;
    cutter = h.cutter;
    place = inl (record { tokens = refl; whole = e ∙ ap (λ x. head ++ (x ++ left)) (sym h.rest) });
    taken = ap (λ n. n + length left) h.taken ∙ size;
  };
  shows = h.shows m f;
  is_dump = dump;
}

-- the header of a text that goes on behind it
pub headed-inside : (answer : Result Begun ScopeStop) (head rest text left : List ℕ) (taken : ℕ)
    → IsBegunWith answer head rest taken → text ≡ head ++ (rest ++ left) → taken + length left ≡ length text
    → is_no_dump text ≡ false → IsReadUp answer text left
headed-inside (Ok b) head rest text left taken h e size dump =
    λ m f. begun-by b head rest text left taken m f e size dump h
headed-inside (Err watched.Memory) head rest text left taken h e size dump = tt
headed-inside (Err (watched.Bad fault)) head rest text left taken h e size dump = absurd h
headed-inside (Err watched.NoHeader) head rest text left taken h e size dump = absurd h
headed-inside (Err watched.ReadFault) head rest text left taken h e size dump = tt
headed-inside (Err watched.TooLong) head rest text left taken h e size dump = absurd h
headed-inside (Err watched.TooMany) head rest text left taken h e size dump = h
headed-inside (Err watched.WriteFault) head rest text left taken h e size dump = h

-- a fault that a piece shows
pub headed-fault : (fed piece text left : List ℕ) (fault : VcdFault) → ShowsFault (fed ++ piece) fault
    → text ≡ (fed ++ piece) ++ left → ShowsInHeader text fault
headed-fault fed piece text left fault h e = inl (record {
  some = h.some;
  more = h.more ++ left;
  whole = e ∙ ap (λ x. x ++ left) h.whole ∙ append_assoc h.some h.more left;
  first = h.first;
})

-- one more piece of a source
pub piece-taken : (text fed old piece new : List ℕ) → text ≡ fed ++ old → old ≡ piece ++ new → text ≡ (fed ++ piece) ++ new
piece-taken text fed old piece new e f = e ∙ ap (λ x. fed ++ x) f ∙ sym (append_assoc fed piece new)

-- a piece that is cut in two
pub piece-cut : (room : List ℕ) (count used : ℕ) → used ≤ count
    → take count room ≡ take used (take count room) ++ take (count - used) (drop used room)
piece-cut room count used few =
    let sum : count ≡ used + (count - used) = omega (arith, few) in
    sym (take-append-drop used (take count room))
    ∙ ap (λ x. take used (take count room) ++ x)
    (ap (λ n. drop used (take n room)) sum ∙ drop-take used (count - used) room)
