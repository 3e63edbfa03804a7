use Rattle.fsb_calls.specs.Calls.{held, left_of, named_as}
use Rattle.fsb_calls.specs.StatusSays.{TellsFound}
use Rattle.fsb_headline.proofs.InPieces.{whole-of}
use Rattle.fsb_headline.proofs.WholeDumps.{tabled}
use Rattle.fsb_top.specs.Looks.{look_at}
use Rattle.fsb_headline.proofs.laws.looks_are_of_whole_dumps.Goals as goal

pub returns-clause-pieces : goal.returns-clause-pieces
returns-clause-pieces g c call ends tells form name pieces e runs =
    whole-of call.words form name (held call) (left_of call) (named_as call) call.status
    (λ asked. TellsFound (look_at asked))
    (λ dump asked is. c.files_are_read_as_told.ensures.looked call ends tells dump asked is runs) pieces e

pub returns-clause-table : goal.returns-clause-table
returns-clause-table g c call ends tells name e runs =
    tabled call.status name (held call) (left_of call) (named_as call)
    (c.files_are_read_as_told.ensures.tabled call ends tells name e runs)
