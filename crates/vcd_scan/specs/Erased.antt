-- What a value reader keeps of the sections behind a header: where the open one began, whether it holds
-- what looks like a time stamp, and whether it says that a limit is exceeded; and where the first one that
-- was read past began which says so.
use Rattle.std.specs.Prelude.{ℕ, Bool, true, false, not, ◌&&◌, ◌||◌, if◌then◌else◌, List, [], ◌∷◌, ◌++◌, codes, Option, Some, None}
use Rattle.std.specs.List.{list_any}
use Rattle.vcd_grammar.specs.Tokens.{is_long}
use Rattle.vcd_grammar.specs.Words.{is_dollar, is_read_past}
use Rattle.vcd_way.specs.Declarations.{DumpSection}
use Rattle.vcd_way.specs.Steps.{Spot, AtPreface, AtHeader, InSection, AtValues, AtCode, AtOtherCode, InRemark, DumpState, is_like_stamp}
use Rattle.vcd_scan.specs.declared.heard.Heard.{Heard}
use Rattle.vcd_scan.specs.Limits.{is_limit, is_exceeded, first_limit}

-- the words of a section have these among them
abbrev pub heard_in : List (List ℕ) → Heard
heard_in words = record {
  stamp = list_any is_like_stamp words;
  limit = list_any is_limit words;
  exceeded = list_any is_exceeded words;
}

-- a word, where there is one
abbrev pub word_if : Bool → List ℕ → List (List ℕ)
word_if there word = if there then word ∷ [] else []

-- one word of each kind that was heard, for any number of them
abbrev pub words_heard : Heard → List (List ℕ)
words_heard h =
    word_if h.stamp (codes "#0") ++ (word_if h.limit (codes "limit") ++ word_if h.exceeded (codes "exceeded"))

-- a section at a place, and what was heard in it
abbrev pub section_from : ℕ → Heard → DumpSection
section_from place heard = record { place = place; keyword = []; words = words_heard heard }

-- a section, of which no more is kept
abbrev pub section_erased : DumpSection → DumpSection
section_erased section = section_from section.place (heard_in section.words)

-- where the next token stands, with what is kept of a section behind the header
abbrev pub spot_erased : Spot → Spot
spot_erased AtPreface = AtPreface
spot_erased AtHeader = AtHeader
spot_erased (InSection section) = InSection section
spot_erased AtValues = AtValues
spot_erased (AtCode from digits) = AtCode from digits
spot_erased (AtOtherCode from) = AtOtherCode from
spot_erased (InRemark section) = InRemark (section_erased section)

-- the first section that says that a limit is exceeded, for all that were read past
abbrev pub remarks_from : Option ℕ → List DumpSection
remarks_from None = []
remarks_from (Some place) = section_from place (record { stamp = false; limit = true; exceeded = true }) ∷ []

-- what is known, with what is kept of sections
abbrev pub erased : {W : Type 0} → DumpState W → DumpState W
erased s = record s { spot = spot_erased s.spot; remarks = remarks_from (first_limit s.remarks) }

-- what was heard, and a further word
abbrev pub heard_with : Heard → List ℕ → Heard
heard_with h word = record {
  stamp = h.stamp || is_like_stamp word;
  limit = h.limit || is_limit word;
  exceeded = h.exceeded || is_exceeded word;
}

-- a word between values that opens a section
abbrev pub opens_remark : List ℕ → Bool
opens_remark word = is_dollar word && not (is_long word || is_read_past word)
