-- The text of an audit.
use Rattle.std.specs.Prelude.{ℕ, List, ◌++◌, Some, Result, Ok, Err, codes}
use Rattle.std.specs.Fmt.{decimal}
use Rattle.fsb_io.specs.NumberText.{hexadecimal}
use Rattle.fsb_report.specs.VerdictText.{verdict_text}
use Rattle.fsb_audit.specs.declared.finding.FoulAt.{FoulAt}
use Rattle.fsb_audit.specs.declared.finding.Finding.{Finding}
use Rattle.fsb_audit.specs.declared.finding.Finding.TheVariants as findings

-- a foul clock: `foul clock=<clock> addr=<address in hexadecimal>`
abbrev pub foul_text : FoulAt → List ℕ
foul_text foul = codes "foul clock=" ++ decimal foul.clock ++ codes " addr=" ++ hexadecimal foul.addr

-- the line of so many clocks of which none is foul, with so many chunks moved
abbrev pub clean_text : ℕ → ℕ → List ℕ
clean_text clocks chunks = codes "clean clocks=" ++ decimal clocks ++ codes " chunks=" ++ decimal chunks ++ codes "\n"

-- the line of an audit of so many clocks: how many chunks are moved where nothing is found, else what is found first; a
-- broken rule as a check tells it
abbrev pub audit_text : ℕ → Result ℕ Finding → List ℕ
audit_text clocks (Ok chunks) = clean_text clocks chunks
audit_text clocks (Err (findings.Broken broken)) = verdict_text clocks (Some broken)
audit_text clocks (Err (findings.Foul foul)) = foul_text foul ++ codes "\n"
