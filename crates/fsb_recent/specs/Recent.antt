-- For which traces the last requests that were over are kept.
use Rattle.std.specs.Prelude.{◌≡◌}
use Rattle.fsb_trace.specs.At.{Trace}
use Rattle.fsb_recent.specs.declared.recent.Recent.{Recent}
use Rattle.fsb_recent.specs.declared.recent.Around.{Around}
use Rattle.fsb_recent.specs.Over.{flight_of, past_of}

-- it was shown the rows of these samples, sample by sample
pub record Stands (recent : Recent) (h : Trace) : Type 0 where
  pub past : recent.past.items ≡ past_of h
  pub room : recent.past.capacity ≡ 10

-- they are the rows around the end of h: of the last ten requests that were over, and of those in flight
pub record AreAround (around : Around) (h : Trace) : Type 0 where
  pub past : around.past.items ≡ past_of h
  pub flight : around.flight.items ≡ flight_of h
