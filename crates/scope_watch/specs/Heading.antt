-- What was read of a header.
use Rattle.std.specs.Prelude.{◌≡◌, ◌≤◌, ◌<◌, ◌+◌, ◌^◌, ◌⊎◌, ℕ, Bool, true, false, List, [], ◌++◌, map, length, take}
use Rattle.std.specs.Prelude.{Option, Some, None, Result, Ok, Err}
use Rattle.vcd_grammar.specs.declared.fault.VcdFault.{VcdFault}
use Rattle.vcd_grammar.specs.Tokens.{Token, tokens_so_far, tokens_of}
use Rattle.vcd_way.specs.Ways.{ValueRules}
use Rattle.vcd_way.specs.Declarations.{Declaration}
use Rattle.vcd_joined.specs.Choosing.{Choice, choosing}
use Rattle.vcd_way.specs.Answers.{first_fault_by}
use Rattle.vcd_joined.specs.Behind.{IsHeader, gathered_in}
use Rattle.vcd_way.specs.Steps.{DumpState, is_past_header_at}
use Rattle.vcd_header.specs.declared.rules.HeaderRules.{HeaderRules}
use Rattle.vcd_header.specs.declared.stop.HeaderStop.{HeaderStop}
use Rattle.vcd_header.specs.declared.stop.HeaderStop.TheVariants as stops
use Rattle.vcd_header.specs.declared.reader.HeaderReader.{HeaderReader}
use Rattle.vcd_header.specs.Gathering.{FitsRules, gathered_so_far, gathered_of, header_fault_so_far, header_fault_of}
use Rattle.vcd_header.specs.Standing.{Stands, refusal_of, rules_of, declared_of, remarks_of}
use Rattle.vcd_header.specs.Told.{sections_told}
use Rattle.vcd_cut.specs.Standing.{Stands as CutterStands}
use Rattle.scope_way.specs.Variables.{shown_by, shown_from}
use Rattle.scope_watch.specs.declared.header.Header.{Header}
use Rattle.scope_watch.specs.declared.header.Behind.{Behind}
use Rattle.scope_watch.specs.declared.header.Begun.{Begun}
use Rattle.scope_watch.specs.declared.stop.ScopeStop.{ScopeStop}
use Rattle.scope_watch.specs.declared.stop.ScopeStop.TheVariants as watched
use Rattle.scope_watch.specs.Prefaces.{is_no_dump}

-- what is let pass in the header of any tool's dump
abbrev pub any_header : HeaderRules
any_header = record { widest = 4294967295; skips_preface = true }

-- a reader by these rules stands for these bytes, and has refused nothing
pub record Holds (r : HeaderReader) (fed : List ℕ) : Type 0 where
  pub stands : Stands r fed
  pub fresh : refusal_of r ≡ None
  pub rules : rules_of r ≡ any_header

-- the same, where the bytes hold no whole header
pub record Opens (r : HeaderReader) (fed : List ℕ) : Type 0 where
  pub holds : Holds r fed
  pub early : (m : ValueRules) → FitsRules m any_header → is_past_header_at (gathered_so_far m fed).spot ≡ false

-- the same, where the header is over with the last of the bytes
pub record Closes (r : HeaderReader) (head : List ℕ) : Type 0 where
  pub holds : Holds r head
  pub header : (m : ValueRules) → FitsRules m any_header → IsHeader m (tokens_so_far head)

-- one more byte was read; these are all bytes with it
abbrev pub FedByte : Result Bool HeaderStop → HeaderReader → List ℕ → Type 0
FedByte (Ok true) r fed = Closes r fed
FedByte (Ok false) r fed = Opens r fed
FedByte (Err (stops.Bad fault)) r fed =
    (m : ValueRules) → FitsRules m any_header → header_fault_so_far m fed ≡ Some fault
FedByte (Err stops.Memory) r fed = Unit {0}

-- some of the first bytes show this fault
pub record ShowsFault (fed : List ℕ) (fault : VcdFault) : Type 0 where
  pub some : List ℕ
  pub more : List ℕ
  pub whole : fed ≡ some ++ more
  pub first : (m : ValueRules) → FitsRules m any_header → header_fault_so_far m some ≡ Some fault

-- a piece was read up to the end of the header: so many of its bytes, or all of them where the header is not over
abbrev pub Fed : Result (Option ℕ) HeaderStop → HeaderReader → List ℕ → List ℕ → Type 0
Fed (Ok None) r fed piece = Opens r (fed ++ piece)
Fed (Ok (Some used)) r fed piece = (used ≤ length piece) × Closes r (fed ++ take used piece)
Fed (Err (stops.Bad fault)) r fed piece = ShowsFault (fed ++ piece) fault
Fed (Err stops.Memory) r fed piece = Unit {0}

-- ---- what is told of a header

-- these are the variables and the sections of a header of which this is known
pub record Shows (h : Header) (s : DumpState (List Declaration)) : Type 0 where
  pub variables : map shown_by h.variables.items ≡ map shown_from s.header
  pub remarks : sections_told h.remarks.items ≡ s.remarks

-- the same, of what a reader has gathered
pub record HasCopied (r : HeaderReader) (h : Header) : Type 0 where
  pub variables : map shown_by h.variables.items ≡ map shown_from (declared_of r)
  pub remarks : sections_told h.remarks.items ≡ remarks_of r

-- ---- where the reading stands

-- the cutter has read the bytes of a header, and not too many were taken
pub record IsReady (b : Behind) : Type 0 where
  pub head : List ℕ
  pub cutter : CutterStands b.cutter head
  pub few : length head + length b.rest.items ≤ b.taken
  pub limit : b.taken ≤ 2 ^ 40

-- the header is the first bytes of a text, these; behind them come those that were taken too, and those that are left
pub record IsInside (b : Behind) (ts : List Token) (text left head : List ℕ) : Type 0 where
  pub tokens : ts ≡ tokens_so_far head
  pub whole : text ≡ head ++ (b.rest.items ++ left)

-- the header is the whole text, and nothing is left
pub record IsWhole (b : Behind) (ts : List Token) (text left head : List ℕ) : Type 0 where
  pub tokens : ts ≡ tokens_of text
  pub none : head ≡ []
  pub no_rest : b.rest.items ≡ []
  pub nothing : left ≡ []

-- a header of these tokens was read of a text, of which these bytes are left in the source
pub record StandsBehind (m : ValueRules) (b : Behind) (ts : List Token) (text left : List ℕ) : Type 0 where
  pub header : IsHeader m ts
  pub head : List ℕ
  pub cutter : CutterStands b.cutter head
  pub place : IsInside b ts text left head ⊎ IsWhole b ts text left head
  pub taken : b.taken + length left ≡ length text

-- by these rules a header of a text was read, and these bytes are left in the source
pub record BeginsBy (m : ValueRules) (b : Begun) (text left : List ℕ) : Type 0 where
  pub tokens : List Token
  pub stands : StandsBehind m b.behind tokens text left
  pub shows : Shows b.header (gathered_in m tokens)
  pub is_dump : is_no_dump text ≡ false

-- the text has this fault in its header: some of its first bytes show it, or it ends there
abbrev pub ShowsInHeader : List ℕ → VcdFault → Type 0
ShowsInHeader text fault =
    ShowsFault text fault ⊎ ((m : ValueRules) → FitsRules m any_header → header_fault_of m text ≡ Some fault)

-- the text is too long, and is not seen before to be no dump
abbrev pub IsTooLong : List ℕ → Type 0
IsTooLong text = (2 ^ 40 < length text) × (is_no_dump text ≡ false)

-- what was answered of the header of a text, of which these bytes are left in the source
abbrev pub IsReadUp : Result Begun ScopeStop → List ℕ → List ℕ → Type 0
IsReadUp (Ok begun) text left = (m : ValueRules) → FitsRules m any_header → BeginsBy m begun text left
IsReadUp (Err (watched.Bad fault)) text left = ShowsInHeader text fault × (is_no_dump text ≡ false)
IsReadUp (Err watched.NoHeader) text left = is_no_dump text ≡ true
IsReadUp (Err watched.TooLong) text left = IsTooLong text
IsReadUp (Err watched.ReadFault) text left = Unit {0}
IsReadUp (Err watched.Memory) text left = Unit {0}
IsReadUp (Err watched.TooMany) text left = ⊥
IsReadUp (Err watched.WriteFault) text left = ⊥

-- the text has this fault in its header: its first bytes show it there or it ends there, in each way that keeps
-- declarations it is the first one, and the text is not seen before to be no dump
abbrev pub IsHeaderFault : List ℕ → VcdFault → Type 0
IsHeaderFault text fault =
    ShowsInHeader text fault
    × ((c : Choice) (m : ValueRules) → FitsRules m any_header → first_fault_by (choosing c m) text ≡ Some fault)
    × (is_no_dump text ≡ false)

-- what is told of the header of a text, of which these bytes are left in the source
abbrev pub IsHeaded : Result Begun ScopeStop → List ℕ → List ℕ → Type 0
IsHeaded (Ok begun) text left = (m : ValueRules) → FitsRules m any_header → BeginsBy m begun text left
IsHeaded (Err (watched.Bad fault)) text left = IsHeaderFault text fault
IsHeaded (Err watched.NoHeader) text left = is_no_dump text ≡ true
IsHeaded (Err watched.TooLong) text left = IsTooLong text
IsHeaded (Err watched.ReadFault) text left = Unit {0}
IsHeaded (Err watched.Memory) text left = Unit {0}
IsHeaded (Err watched.TooMany) text left = ⊥
IsHeaded (Err watched.WriteFault) text left = ⊥

-- ---- parts of it

-- the header is these bytes, and these stand behind it in its piece
pub record HasBegun (b : Begun) (head piece : List ℕ) (count : ℕ) : Type 0 where
  pub cutter : CutterStands b.behind.cutter head
  pub rest : b.behind.rest.items ≡ piece
  pub taken : b.behind.taken ≡ count
  pub header : (m : ValueRules) → FitsRules m any_header → IsHeader m (tokens_so_far head)
  pub shows : (m : ValueRules) → FitsRules m any_header → Shows b.header (gathered_so_far m head)

-- the same, unless memory lacks
abbrev pub IsBegunWith : Result Begun ScopeStop → List ℕ → List ℕ → ℕ → Type 0
IsBegunWith (Ok b) head rest taken = HasBegun b head rest taken
IsBegunWith (Err watched.Memory) head rest taken = Unit {0}
IsBegunWith (Err _) head rest taken = ⊥

-- the header is the whole text
pub record HasEnded (b : Begun) (text : List ℕ) (count : ℕ) : Type 0 where
  pub cutter : CutterStands b.behind.cutter []
  pub rest : b.behind.rest.items ≡ []
  pub taken : b.behind.taken ≡ count
  pub header : (m : ValueRules) → FitsRules m any_header → IsHeader m (tokens_of text)
  pub shows : (m : ValueRules) → FitsRules m any_header → Shows b.header (gathered_of m text)

-- the header of a text that ends where its header was not over before
abbrev pub IsEnded : Result Begun ScopeStop → List ℕ → ℕ → Type 0
IsEnded (Ok b) text taken = HasEnded b text taken
IsEnded (Err (watched.Bad fault)) text taken =
    (m : ValueRules) → FitsRules m any_header → header_fault_of m text ≡ Some fault
IsEnded (Err watched.Memory) text taken = Unit {0}
IsEnded (Err _) text taken = ⊥
