-- The report of a dump.
use Rattle.std.specs.Prelude.{◌≡◌, ◌++◌, ◌∷◌, [], ℕ, List, Option, Some, None, codes}
use Rattle.serde_json.specs.Data.{Data, null, array, boolean, object, string, Members, no_members, put}
use Rattle.serde_json.specs.Find.{get}
use Rattle.serde_json.specs.Written.{IsInOrder}
use Rattle.reason_facts.specs.Values.{count, maybe, with_count}
use Rattle.scope_check.specs.declared.finding.Verdict.{Verdict}
use Rattle.scope_json.specs.Parts.{parts_data, verdict_word}
use Rattle.scope_json.specs.Places.{unit_name}
use Rattle.scope_parts.specs.declared.finding.PartsFound.{PartsFound}
use Rattle.scope_report.specs.declared.ending.Ending.{Ending}
use Rattle.scope_report.specs.Endings.{ending_after, status_of, verdict_over}
use Rattle.scope_time.specs.declared.scale.Scale.{Scale}
use Rattle.scope_time.specs.Scales.{factor_of}
use Rattle.scope_words.specs.declared.order.Edge.{Edge}
use Rattle.scope_words.specs.declared.order.Edge.TheVariants as edges

-- how long a step of the dump is, or null
unfoldable pub scale_data : Option Scale → Data
scale_data None = null
scale_data (Some scale) = object
    (put (codes "unit") (string (unit_name scale.unit)) (with_count (codes "factor") (factor_of scale.factor) no_members))

-- with what each report begins with: the number of this form, the file, and the exit status
abbrev pub with_head : List ℕ → Ending → Members → Members
with_head file ending ms =
    with_count (codes "status") (status_of ending)
    (put (codes "file") (string file) (with_count (codes "schema") 1 ms))

-- with the verdict, and how many clocks and parts there are and are judged
abbrev pub with_verdict : PartsFound → Members → Members
with_verdict found ms =
    put (codes "parts") (parts_data found.first.items)
    (with_count (codes "broken_count") found.broken (with_count (codes "part_count") found.parts
    (with_count (codes "judged") found.judged (with_count (codes "clocks") found.clocks
    (put (codes "verdict") (string (verdict_word (verdict_over found))) ms)))))

-- the text of a value, and a line feed
pub record IsLineOf (text : List ℕ) (d : Data) : Type 0 where
  pub line : List ℕ
  pub ends : text ≡ line ++ 10 ∷ []
  pub writes : IsInOrder line d
