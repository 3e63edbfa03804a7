-- What stands in the sink of a dump.
use Rattle.std.specs.Prelude.{◌≡◌, ◌⊎◌, ℕ, List, [], Option, Some, None}
use Rattle.fsb_io.specs.Appends.{AppendsPart}

-- the sink was begun under the name and holds the whole text
pub record HasText (text name held : List ℕ) (begun_as : Option (List ℕ)) : Type 0 where
  pub whole : held ≡ text
  pub named : begun_as ≡ Some name

-- the same, where a dump has a name; without one nothing is said
abbrev pub HasDump : List ℕ → Option (List ℕ) → List ℕ → Option (List ℕ) → Type 0
HasDump text None held begun_as = Unit {0}
HasDump text (Some name) held begun_as = HasText text name held begun_as

-- the sink was begun under the name and holds a first part of the text
pub record HasPart (text name held : List ℕ) (begun_as : Option (List ℕ)) : Type 0 where
  pub part : AppendsPart text [] held
  pub named : begun_as ≡ Some name

-- the sink is as it was: it could not be begun
pub record IsAsBefore (before held : List ℕ) (was_begun_as begun_as : Option (List ℕ)) : Type 0 where
  pub held_stays : held ≡ before
  pub name_stays : begun_as ≡ was_begun_as

-- the sink holds a first part of the text, or is as it was
abbrev pub HasDumpPart : List ℕ → Option (List ℕ) → List ℕ → Option (List ℕ) → List ℕ → Option (List ℕ) → Type 0
HasDumpPart text None before was_begun_as held begun_as = IsAsBefore before held was_begun_as begun_as
HasDumpPart text (Some name) before was_begun_as held begun_as =
    HasPart text name held begun_as ⊎ IsAsBefore before held was_begun_as begun_as
