-- A run that keeps no order: its one request is answered before its snoop end.
use Rattle.std.specs.Prelude.{None, [], false, ◌∷◌}
use Rattle.fsb_hazard.specs.Choice.{quiet_choice}
use Rattle.fsb_signal.specs.declared.lines.TheConstants.Lines.{ADS, RS0}
use Rattle.fsb_signal.specs.Samples.{known_sample}
use Rattle.fsb_timely.specs.Runs.{Run}

-- ADS# at clock 0 and a response at clock 1, and then nothing up to clock 4, which is the snoop end
abbrev pub disordered : Run
disordered = record {
  plan = record {
    scripts = [];
    clocks = 5;
    cache = 64;
    ahead = 1;
    profile = 1;
    bridge = None;
    mem = [];
    hazards = [];
  };
  choices = quiet_choice ∷ [];
  holds = false ∷ false ∷ false ∷ false ∷ false ∷ [];
  trace = known_sample ADS.0 0 0 0 ∷ known_sample RS0.0 0 0 0 ∷ known_sample 0 0 0 0 ∷ known_sample 0 0 0 0
      ∷ known_sample 0 0 0 0 ∷ [];
  log = [];
}
