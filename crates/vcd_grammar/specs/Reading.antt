-- The trace that a whole text says, its marks, and its first fault; the same for the first bytes of a text.
use Rattle.std.specs.Prelude.{◌≡◌, ℕ, List, length, Option, Some, None}
use Rattle.fsb_signal.specs.declared.marks.Marks.{Marks}
use Rattle.fsb_signal.specs.declared.sample.Sample.{Sample}
use Rattle.vcd_grammar.specs.declared.fault.VcdFault.{VcdFault}
use Rattle.vcd_grammar.specs.declared.fault.VcdCause.TheVariants as causes
use Rattle.vcd_grammar.specs.Tokens.{tokens_of, tokens_so_far}
use Rattle.vcd_grammar.specs.Blocks.{blocks_of, ended}
use Rattle.vcd_grammar.specs.Values.{at_first, samples_in}
use Rattle.vcd_grammar.specs.Judging.{Mode, Values, nothing, behind, events_in, marks_of_lines, known_marks}

-- the fault of a text that ends where this is known
abbrev pub cut_in : Mode → ℕ → Option VcdFault
cut_in Values place = None
cut_in _ place = Some (record { place = place; cause = causes.Cut })

-- the first fault of a text that ends at a place: a fault of a token, or that the text may not end there
abbrev pub or_cut : Option VcdFault → Mode → ℕ → Option VcdFault
or_cut (Some fault) mode place = Some fault
or_cut None mode place = cut_in mode place

-- the first fault of a text
unfoldable pub first_fault : List ℕ → Option VcdFault
first_fault text =
    let known = behind nothing (tokens_of text) in or_cut known.fault known.mode (length text)

-- one sample for each block with a rise, where the end of the text ends the last block
unfoldable pub samples_of : List ℕ → List Sample
samples_of text = samples_in at_first (blocks_of (events_in nothing (tokens_of text)))

-- the samples of a text up to its last time stamp: those of the blocks that a greater time has ended
unfoldable pub samples_before_end : List ℕ → List Sample
samples_before_end text = samples_in at_first (ended (blocks_of (events_in nothing (tokens_of text))))

-- the marks of a text: which of the two parity lines its header declares
unfoldable pub marks_of : List ℕ → Marks
marks_of text = marks_of_lines (behind nothing (tokens_of text)).lines

-- the text is a dump, has these marks, and says this trace
abbrev pub Reads : List ℕ → Marks → List Sample → Type 0
Reads text marks w = (first_fault text ≡ None) × (marks ≡ marks_of text) × (w ≡ samples_of text)

-- the text is no dump, and this is its first fault
abbrev pub FirstFault : List ℕ → VcdFault → Type 0
FirstFault text fault = first_fault text ≡ Some fault

-- the first fault that the tokens show which count in some first bytes of a text
unfoldable pub fault_so_far : List ℕ → Option VcdFault
fault_so_far fed = (behind nothing (tokens_so_far fed)).fault

-- the samples that are decided in some first bytes of a text: those of the blocks that a greater time has ended
unfoldable pub samples_so_far : List ℕ → List Sample
samples_so_far fed = samples_in at_first (ended (blocks_of (events_in nothing (tokens_so_far fed))))

-- the marks that the tokens show which count in some first bytes of a text: none until the `$enddefinitions` has its
-- `$end`, and from then on those of the lines that were declared before the first fault
unfoldable pub marks_so_far : List ℕ → Option Marks
marks_so_far fed = known_marks (behind nothing (tokens_so_far fed))

-- the marks that a whole text shows, whose last token counts too: none where its `$enddefinitions` has no `$end`
unfoldable pub marks_at_end : List ℕ → Option Marks
marks_at_end text = known_marks (behind nothing (tokens_of text))
