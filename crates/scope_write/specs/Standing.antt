-- What a writer of a dump has written.
use Rattle.std.specs.Prelude.{◌≡◌, Bool, List, [], ◌∷◌, length, Option, Some, None}
use Rattle.fsb_signal.specs.declared.sample.Sample.{Sample}
use Rattle.scope_write.specs.declared.writer.DumpWriter.{DumpWriter}

-- the last of some samples, behind another
abbrev pub last_behind : Option Sample → List Sample → Option Sample
last_behind before [] = before
last_behind before (now ∷ w) = last_behind (Some now) w

-- the writer has written these samples, of which these lines are there
pub record Stands (writer : DumpWriter) (there : List Bool) (w : List Sample) : Type 0 where
  pub there_are : writer.there ≡ there
  pub clock_is : writer.clock ≡ length w
  pub before_is : writer.before ≡ last_behind None w
