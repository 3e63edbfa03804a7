-- What a text tells in a way to read it: its header, its events, and its first fault; the same for
-- its first bytes.
use Rattle.std.specs.Prelude.{◌≡◌, ℕ, Bool, not, ◌&&◌, if◌then◌else◌, List, length, Option, Some, None, is_some, option_map}
use Rattle.vcd_grammar.specs.declared.fault.VcdFault.{VcdFault}
use Rattle.vcd_grammar.specs.declared.fault.VcdCause.TheVariants as causes
use Rattle.vcd_grammar.specs.Tokens.{Token, tokens_of, tokens_so_far}
use Rattle.vcd_grammar.specs.Heading.{is_header_over}
use Rattle.vcd_way.specs.Ways.{Way}
use Rattle.vcd_way.specs.Pieces.{Piece, pieces_of, over}
use Rattle.vcd_way.specs.Events.{DumpEvent, course_at_first, events_from}
use Rattle.vcd_way.specs.Steps.{Spot, AtValues, DumpState, first_state, state_after, happenings_in, is_past_header_at, open_from, hides_stamp}

-- what is known after the first tokens of a text
abbrev pub state_of : {W : Type 0} → Way W → List Token → DumpState W
state_of way tokens = state_after way (first_state way) tokens

-- the pieces of the first tokens of a text
abbrev pub pieces_in : {W : Type 0} → Way W → List Token → List Piece
pieces_in way tokens = pieces_of (happenings_in way (first_state way) tokens)

-- what pieces tell from the first one on
abbrev pub events_in_pieces : {W : Type 0} → Way W → List Piece → List DumpEvent
events_in_pieces way pieces = events_from way.rules course_at_first pieces

-- the fault of a text that ends here: it may end between values alone
abbrev pub cut_at : Spot → ℕ → Option VcdFault
cut_at AtValues place = None
cut_at _ place = Some (record { place = place; cause = causes.Cut })

-- the first fault of a text that ends at a place: a fault of a token, or that the text may not end
-- there
abbrev pub fault_at_end : Option VcdFault → Spot → ℕ → Option VcdFault
fault_at_end (Some fault) spot place = Some fault
fault_at_end None spot place = cut_at spot place

-- the first fault of a text all of whose tokens count
abbrev pub whole_fault : {W : Type 0} → Way W → List ℕ → Option VcdFault
whole_fault way text =
    let s = state_of way (tokens_of text) in fault_at_end s.fault s.spot (length text)

-- the text ends early: up to its last white space it has a whole header and no fault, and its end
-- is a fault that the way lets pass. An open section that holds a stamp is not let pass: it would
-- hide the samples after it
abbrev pub is_early : {W : Type 0} → Way W → List ℕ → Bool
is_early way text =
    let s = state_of way (tokens_so_far text) in
    way.rules.ends_early && not (is_some s.fault)
    && (is_past_header_at s.spot && not (hides_stamp (state_of way (tokens_of text)).spot))
    && is_some (whole_fault way text)

-- the first fault of a text
unfoldable pub first_fault_by : {W : Type 0} → Way W → List ℕ → Option VcdFault
first_fault_by way text = if is_early way text then None else whole_fault way text

-- an early end: the fault that it would be, and the place where the section or the value begins
-- that stands open there
pub record EarlyEnd : Type 0 where
  pub fault : VcdFault
  pub open_from : Option ℕ

-- the early end of a text, where it has one
unfoldable pub early_end_by : {W : Type 0} → Way W → List ℕ → Option EarlyEnd
early_end_by way text =
    if is_early way text then
    option_map
    (λ fault. record { fault = fault; open_from = open_from (state_of way (tokens_of text)).spot })
    (whole_fault way text)
    else None

-- what the first bytes of a text tell: of the pieces that are over
unfoldable pub events_so_far_by : {W : Type 0} → Way W → List ℕ → List DumpEvent
events_so_far_by way fed = events_in_pieces way (over (pieces_in way (tokens_so_far fed)))

-- what a text tells, where its end ends the last block; of one that ends early, the pieces that are
-- over
unfoldable pub events_by : {W : Type 0} → Way W → List ℕ → List DumpEvent
events_by way text =
    if is_early way text then events_so_far_by way text
    else events_in_pieces way (pieces_in way (tokens_of text))

-- what a text tells up to its last time stamp
unfoldable pub events_before_end_by : {W : Type 0} → Way W → List ℕ → List DumpEvent
events_before_end_by way text = events_in_pieces way (over (pieces_in way (tokens_of text)))

-- the first fault that the tokens show which count in some first bytes of a text
unfoldable pub fault_so_far_by : {W : Type 0} → Way W → List ℕ → Option VcdFault
fault_so_far_by way fed = (state_of way (tokens_so_far fed)).fault

-- what a way keeps of a header, once it is over among the first tokens of a text; after a fault no
-- more is kept
abbrev pub header_in : {W : Type 0} → Way W → List Token → Option W
header_in way tokens = if is_header_over tokens then Some (state_of way tokens).header else None

-- what the way keeps of the header of a text
unfoldable pub header_by : {W : Type 0} → Way W → List ℕ → W
header_by way text = (state_of way (tokens_of text)).header

-- what first bytes of a text show of its header: nothing until its `$enddefinitions` has its `$end`
unfoldable pub header_so_far_by : {W : Type 0} → Way W → List ℕ → Option W
header_so_far_by way fed = header_in way (tokens_so_far fed)

-- what a whole text shows of its header, whose last token counts too
unfoldable pub header_at_end_by : {W : Type 0} → Way W → List ℕ → Option W
header_at_end_by way text = header_in way (tokens_of text)

-- the text is a dump in this way, declares this, and tells these events
abbrev pub ReadsBy : {W : Type 0} → Way W → List ℕ → W → List DumpEvent → Type 0
ReadsBy way text header events =
    (first_fault_by way text ≡ None) × (header ≡ header_by way text) × (events ≡ events_by way text)

-- the text is no dump in this way, and this is its first fault
abbrev pub FirstFaultBy : {W : Type 0} → Way W → List ℕ → VcdFault → Type 0
FirstFaultBy way text fault = first_fault_by way text ≡ Some fault
