-- The rows of a drawing.
use Rattle.std.specs.Prelude.{◌+◌, Bool, not, ◌==◌, List, [], ◌∷◌}
use Rattle.std.specs.Int.RustNames.{bit_and}
use Rattle.fsb_signal.specs.declared.lines.Lines.{Lines}
use Rattle.fsb_signal.specs.declared.lines.TheConstants.Lines.{BREQ0, BREQ1, BREQ2, BREQ3, BPRI, LOCK, BNR, ADS, AERR, HIT, HITM, DEFER, RS0, RS1, RS2, TRDY, DBSY, DRDY, AP0, AP1, RP}
use Rattle.reason_lines.specs.declared.named.NamedLines.{NamedLines}
use Rattle.scope_draw.specs.declared.rows.Row.{Row}
use Rattle.scope_draw.specs.declared.rows.Row.TheVariants.{Line, Request, Address, Response, Data}

-- all rows, from the top
abbrev pub all_rows : List Row
all_rows =
    Line BREQ0 ∷ Line BREQ1 ∷ Line BREQ2 ∷ Line BREQ3 ∷ Line BPRI ∷ Line LOCK ∷ Line BNR ∷ Line ADS
    ∷ Request ∷ Address ∷ Line AERR ∷ Line HIT ∷ Line HITM ∷ Line DEFER ∷ Response
    ∷ Line TRDY ∷ Line DBSY ∷ Line DRDY ∷ Data ∷ Line AP0 ∷ Line AP1 ∷ Line RP ∷ []

-- one of these lines is among the others
abbrev pub has_one : Lines → Lines → Bool
has_one a b = not (bit_and a.0 b.0 == 0)

-- RS[2:0]#
abbrev pub response_lines : Lines
response_lines = record { 0 = RS0.0 + RS1.0 + RS2.0 }

-- the row shows one of the named lines
unfoldable pub is_named : NamedLines → Row → Bool
is_named n (Line line) = has_one line n.lines
is_named n Request = n.has_request
is_named n Address = n.has_address
is_named n Response = has_one response_lines n.lines
is_named n Data = n.has_data
