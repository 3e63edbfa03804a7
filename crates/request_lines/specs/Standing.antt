-- For which traces lines were handed out.
use Rattle.std.specs.Prelude.{◌≡◌, ◌<◌, ◌^◌, Bool, ◌&&◌, is_none, nat_le, None, [], ◌∷◌, ◌++◌}
use Rattle.fsb_signal.specs.declared.marks.Marks.{Marks}
use Rattle.fsb_signal.specs.declared.sample.Sample.{Sample}
use Rattle.fsb_trace.specs.At.{Trace}
use Rattle.fsb_trace.specs.Verdict.{verdict}
use Rattle.fsb_laws.specs.Orderly.{Orderly}
use Rattle.fsb_rules.specs.Checker.{Stands as CheckerStands, as_broken}
use Rattle.fsb_owner_feed.specs.Table.{Stands as TableStands, fed}
use Rattle.row_texts.specs.declared.line.Form.{Form}
use Rattle.request_lines.specs.declared.lines.RequestLines.{RequestLines}
use Rattle.request_lines.specs.Tables.{sound_part}

-- it was made with this form and these marks, and fed these samples
pub record Stands (lines : RequestLines) (form : Form) (m : Marks) (w : Trace) : Type 0 where
  pub formed : lines.form ≡ form
  pub found : lines.found ≡ as_broken (verdict m w)
  pub checker : lines.found ≡ None → CheckerStands lines.checker m w
  pub table : TableStands lines.table (sound_part m w)
  pub orderly : Orderly (sound_part m w)
  pub few : fed lines.table < 2 ^ 32

-- so many samples were fed that no more are counted
abbrev pub is_full : RequestLines → Bool
is_full lines = is_none lines.found && nat_le 4294967280 (fed lines.table)

-- no rule is broken with one sample more, which the judge of the rules was fed alone
pub record IsSound (lines : RequestLines) (form : Form) (m : Marks) (w : Trace) (next : Sample) : Type 0 where
  pub formed : lines.form ≡ form
  pub none : lines.found ≡ None
  pub before : verdict m w ≡ None
  pub after : verdict m (w ++ next ∷ []) ≡ None
  pub checker : CheckerStands lines.checker m (w ++ next ∷ [])
  pub table : TableStands lines.table w
  pub orderly : Orderly w
  pub still : Orderly (w ++ next ∷ [])
