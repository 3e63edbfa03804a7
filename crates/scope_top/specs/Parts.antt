-- The parts of a dump that an order names.
use Rattle.std.specs.Prelude.{◌≡◌, ◌⊎◌, ℕ, List, Option, Some, None, Ok}
use Rattle.scope_check.specs.declared.part.Part.{Part}
use Rattle.scope_parts.specs.declared.plan.Plan.{Plan}
use Rattle.scope_time.specs.Parts.{part_in}
use Rattle.scope_time.specs.Scales.{scale_of}
use Rattle.scope_watch.specs.declared.header.Begun.{Begun}
use Rattle.scope_watch.specs.Heading.{IsHeaded}
use Rattle.scope_words.specs.declared.order.Part.{Part as Words}

-- the header of the dump was read, and this is what it shows
pub record HasHeader (dumped : List ℕ) (begun : Begun) : Type 0 where
  pub left : List ℕ
  pub is_headed : IsHeaded (Ok begun) dumped left

-- the words name this part, or none, in steps of the dump's `$timescale`
pub record NamesScaled (words : Words) (dumped : List ℕ) (part : Option Part) : Type 0 where
  pub begun : Begun
  pub has_header : HasHeader dumped begun
  pub part_is : part_in (scale_of begun.header.remarks.items) words ≡ part

-- the words name this part: without a time, or in steps of the dump's `$timescale`
abbrev pub NamesPart : Words → List ℕ → Part → Type 0
NamesPart words dumped part = (part_in None words ≡ Some part) ⊎ NamesScaled words dumped (Some part)

-- the parts that are judged: the first, and those that begin again behind so many quiet clocks
abbrev pub plan_of : Words → Part → Plan
plan_of words first = record { first = first; quiet = words.quiet; most = words.most }
