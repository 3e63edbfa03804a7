-- The signal table: the lines and words of the bus as a dump names them.
use Rattle.std.specs.Prelude.{ℕ, Bool, true, false, nat_eq, List, [], ◌∷◌, Option, codes}
use Rattle.std.specs.List.{position}
use Rattle.std.specs.Cmp.Lexicographic.{pointwise}
use Rattle.fsb_signal.specs.declared.signal.Signal.{Signal}

-- an entry of the table: its name as bytes, how many lines it has, and whether a dump must declare it
pub record TableEntry : Type 0 where
  pub name : List ℕ
  pub width : ℕ
  pub needed : Bool

-- an entry that a dump must declare
abbrev pub needed : List ℕ → ℕ → TableEntry
needed name width = record { name = name; width = width; needed = true }

-- an entry that reads as never asserted where a dump does not declare it
abbrev pub optional : List ℕ → ℕ → TableEntry
optional name width = record { name = name; width = width; needed = false }

-- the table; the place of an entry is the number of its signal
abbrev pub table : List TableEntry
table =
    needed (codes "BCLK") 1
    ∷ needed (codes "BREQ0_n") 1
    ∷ optional (codes "BREQ1_n") 1
    ∷ optional (codes "BREQ2_n") 1
    ∷ optional (codes "BREQ3_n") 1
    ∷ optional (codes "BPRI_n") 1
    ∷ optional (codes "LOCK_n") 1
    ∷ optional (codes "BNR_n") 1
    ∷ needed (codes "ADS_n") 1
    ∷ needed (codes "REQ_n") 5
    ∷ needed (codes "A_n") 33
    ∷ optional (codes "AERR_n") 1
    ∷ needed (codes "HIT_n") 1
    ∷ needed (codes "HITM_n") 1
    ∷ optional (codes "DEFER_n") 1
    ∷ needed (codes "RS_n") 3
    ∷ needed (codes "TRDY_n") 1
    ∷ needed (codes "DBSY_n") 1
    ∷ needed (codes "DRDY_n") 1
    ∷ needed (codes "D_n") 64
    ∷ optional (codes "AP_n") 2
    ∷ optional (codes "RP_n") 1
    ∷ []

-- what the table says of a signal
abbrev pub table_entry_of : Signal → TableEntry
table_entry_of s = record { name = s.name.now; width = s.width; needed = s.needed }

-- the number of the first entry of this name, if there is one; no two entries have one name
unfoldable pub signal_number : List ℕ → Option ℕ
signal_number name = position (λ e. pointwise nat_eq e.name name) table
