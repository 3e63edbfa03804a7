-- The five request lines among sets of lines.
use Rattle.std.specs.Prelude.{Bool, ◌&&◌, ◌||◌, not}
use Rattle.fsb_signal.specs.declared.lines.Lines.{Lines}
use Rattle.fsb_signal.specs.declared.lines.TheConstants.Lines.{BREQ0, BREQ1, BREQ2, BREQ3, BPRI}
use Rattle.fsb_arbiter.specs.Order.{is_in}

-- one of the five request lines is among the lines
unfoldable pub has_request_line_by : Lines → Bool
has_request_line_by lines = is_in lines BREQ0 || is_in lines BREQ1 || is_in lines BREQ2 || is_in lines BREQ3 || is_in lines BPRI

-- the line is among the lines of a clock, and not among those of the next
unfoldable pub is_dropped_by : Lines → Lines → Lines → Bool
is_dropped_by was now line = is_in was line && not (is_in now line)

-- one of the five request lines is
unfoldable pub is_some_dropped_by : Lines → Lines → Bool
is_some_dropped_by was now =
    is_dropped_by was now BREQ0 || is_dropped_by was now BREQ1 || is_dropped_by was now BREQ2
    || is_dropped_by was now BREQ3 || is_dropped_by was now BPRI
