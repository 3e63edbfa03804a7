-- A table is of all of its dump.
use Rattle.std.proofs.Common.{ℕ, List, Option}
use Rattle.fsb_calls.specs.FileSays.{HasTable}
use Rattle.fsb_top.specs.Complete.{IsDumpWithin}
use Rattle.fsb_top.specs.declared.status.Status.{Status}
use Rattle.fsb_headline.specs.Refusals.{WasReadWhole}

-- a table
pub tabled : (status : Status) (name held left : List ℕ) (begun_as : Option (List ℕ))
    → HasTable status name held left begun_as
    → WasReadWhole 268435456 name held left begun_as × IsDumpWithin 268435456 200000 held
tabled status name held left begun_as h = (
  record { named = h.read.named; all = h.read.all; short = h.read.short },
  record { short = h.read.short; marks = h.marks; trace = h.trace; reads = h.reads; few = h.few },
)
