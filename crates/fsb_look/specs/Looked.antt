-- What is seen in a dump.
use Rattle.std.specs.Prelude.{◌≡◌, ◌≤◌, ◌-◌, ◌^◌, ℕ, List, length, option_map}
use Rattle.fsb_signal.specs.declared.marks.Marks.{Marks}
use Rattle.fsb_signal.specs.declared.sample.Sample.{Sample}
use Rattle.fsb_trigger.specs.Match.{least_match}
use Rattle.fsb_trigger.specs.TriggerSteps.{StepView}
use Rattle.fsb_watch.specs.Watched.{IsSeen}
use Rattle.fsb_wave.specs.Wave.{Stands}
use Rattle.fsb_wave.specs.declared.wave.Wave.{Wave}
use Rattle.vcd_grammar.specs.Reading.{Reads}
use Rattle.fsb_look.specs.declared.find.Search.{Search}

-- the text is the dump of a trace of so many clocks, and the clocks that were found are those of the least match of these steps
abbrev pub IsSearch : List StepView → Search → List ℕ → Type 0
IsSearch steps search text =
    IsSeen (λ marks w. option_map (λ found. found.clocks) search.found ≡ least_match steps w) search.clocks text

-- the text is the dump of a trace of fewer than 2^32 samples, and this is its wave over the clocks from `from` to `to`
pub record IsWave (from to : ℕ) (wave : Wave) (text : List ℕ) : Type 0 where
  pub marks : Marks
  pub trace : List Sample
  pub reads : Reads text marks trace
  pub few : length trace ≤ 2 ^ 32 - 1
  pub drawn : Stands wave from to trace
