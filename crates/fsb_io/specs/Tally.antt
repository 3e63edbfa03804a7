-- The calls of a source or a sink in memory, and which of them fail.
use Rattle.std.specs.Prelude.{ℕ, List, Bool, if◌then◌else◌}
use Rattle.std.specs.List.{Contains}
use Rattle.fsb_io.specs.Faults.{one_more}

-- which calls fail, by their numbers from 0; how many calls were made; how many of them failed
pub record Tally : Type 0 where
  pub fails : List ℕ
  pub calls : ℕ
  pub faults : ℕ

-- no call was made
abbrev pub tally_of : List ℕ → Tally
tally_of fails = record { fails = fails; calls = 0; faults = 0 }

-- the next call is listed as one that fails
abbrev pub IsListed : Tally → Type 0
IsListed t = Contains t.fails t.calls

-- the tally after one more call
abbrev pub after_call : Bool → Tally → Tally
after_call failed t = record {
  fails = t.fails;
  calls = one_more t.calls;
  faults = (if failed then one_more t.faults else t.faults);
}
