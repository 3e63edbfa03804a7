-- What is found of a dump whose first clock is known.
use Rattle.std.specs.Prelude.{◌≡◌, ℕ, Bool, true, List, [], ◌∷◌, Option, None}
use Rattle.fsb_signal.specs.declared.sample.Sample.{Sample}
use Rattle.fsb_signal.specs.Samples.{has_known_lines}
use Rattle.fsb_rules.specs.declared.broken.Broken.{Broken}
use Rattle.scope_check.specs.declared.finding.Judged.{Judged}
use Rattle.scope_check.specs.declared.part.Begin.TheVariants.{Known}
use Rattle.scope_check.specs.declared.part.Part.{Part}
use Rattle.scope_check.specs.Findings.{Says}

-- in the first sample of a trace, if there is one, no control line is unknown
abbrev pub begins_known : List Sample → Bool
begins_known [] = true
begins_known (sample ∷ w) = has_known_lines sample

-- the part that is judged where no option names one
abbrev pub whole_part : Part
whole_part = record { begin = Known; to = None }

-- all clocks of a dump were judged, so many, from the first one on, and this was found
pub record IsJudgedWhole (f : Judged) (clocks : ℕ) (broken : Option Broken) : Type 0 where
  pub start : f.start ≡ 0
  pub judged : f.judged ≡ clocks
  pub clocks_are : f.clocks ≡ clocks
  pub says : Says 0 clocks broken f.verdict
