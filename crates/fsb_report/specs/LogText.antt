-- The text of the printed log.
use Rattle.std.specs.Prelude.{ℕ, List, ◌++◌, length, codes}
use Rattle.std.specs.Fmt.{decimal}
use Rattle.std.specs.List.{flat_map}
use Rattle.fsb_io.specs.NumberText.{hexadecimal}
use Rattle.fsb_access.specs.declared.access.Access.{Access}
use Rattle.fsb_access.specs.declared.access.Access.TheVariants.{Load, Store}
use Rattle.fsb_access.specs.declared.log.Done.{Done}

-- what an access does, between two spaces and its address: ` ld <size> <addr>` or ` st <size> <addr>`
unfoldable pub logged_access_text : Access → List ℕ
logged_access_text (Load size addr) = codes " ld " ++ decimal size ++ codes " " ++ hexadecimal addr
logged_access_text (Store size addr value) = codes " st " ++ decimal size ++ codes " " ++ hexadecimal addr

-- the line of one completed access: `<clock> <agent> <item> ld|st <size> <addr> = <value>`
unfoldable pub log_line_text : Done → List ℕ
log_line_text done =
    decimal done.clock ++ codes " " ++ decimal done.agent ++ codes " " ++ decimal done.item
    ++ logged_access_text done.access ++ codes " = " ++ hexadecimal done.value ++ codes "\n"

-- the last line: `end clocks=<clocks> done=<done> of=<of>`
unfoldable pub end_line_text : ℕ → ℕ → ℕ → List ℕ
end_line_text clocks done of =
    codes "end clocks=" ++ decimal clocks ++ codes " done=" ++ decimal done ++ codes " of=" ++ decimal of ++ codes "\n"

-- the whole log: a line for each entry in order, then the last line with the counts of clocks, entries and accesses
unfoldable pub log_text : ℕ → ℕ → List Done → List ℕ
log_text clocks of log = flat_map log_line_text log ++ end_line_text clocks (length log) of
