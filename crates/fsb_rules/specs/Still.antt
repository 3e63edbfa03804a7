-- Samples with which mostly nothing happens to the requests.
use Rattle.std.specs.Prelude.{Bool, ◌&&◌, not, is_none, Option}
use Rattle.fsb_signal.specs.declared.lines.TheConstants.Lines.{HIT, HITM, DEFER, RS0, RS1, RS2, TRDY, DBSY, DRDY, AERR}
use Rattle.fsb_signal.specs.declared.sample.Sample.{Sample}
use Rattle.fsb_signal.specs.Samples.{has_line}
use Rattle.fsb_trace.specs.At.{Trace}
use Rattle.fsb_laws.specs.Progress.{transfer_of}
use Rattle.fsb_rules.specs.declared.live.LiveRequest.{LiveRequest}

-- no line is asserted that tells of a snoop, a response or data, or cancels
unfoldable pub is_still : Sample → Bool
is_still x =
    not (has_line x HIT) && not (has_line x HITM) && not (has_line x DEFER)
    && not (has_line x RS0) && not (has_line x RS1) && not (has_line x RS2)
    && not (has_line x TRDY) && not (has_line x DBSY) && not (has_line x DRDY) && not (has_line x AERR)

-- no data are on the way after h, and no request is begun, with a sample in which no line tells of one
unfoldable pub is_quiet : Trace → Sample → Option LiveRequest → Bool
is_quiet h x begun = is_none begun && (is_none (transfer_of h) && is_still x)
