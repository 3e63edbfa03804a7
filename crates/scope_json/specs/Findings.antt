-- What was found, part by part.
use Rattle.std.specs.Prelude.{◌≡◌, ℕ, Bool, List, Option, map, codes}
use Rattle.serde_json.specs.Data.{Data, Items, no_items, item, null, array, object, string, Members, no_members, put}
use Rattle.serde_json.specs.View.{items_of}
use Rattle.fsb_reasons.specs.RuleOf.{rule_of}
use Rattle.reason_facts.specs.Facts.{facts}
use Rattle.reason_facts.specs.Kinds.{kind_of}
use Rattle.reason_facts.specs.Values.{count, with_count}
use Rattle.reason_texts.specs.declared.sentence.Sentence.{Sentence}
use Rattle.scope_check.specs.declared.finding.Verdict.{Verdict}
use Rattle.scope_check.specs.declared.finding.Verdict.TheVariants as verdicts
use Rattle.scope_json.specs.Places.{with_place}
use Rattle.scope_parts.specs.declared.finding.PartFound.{PartFound}
use Rattle.scope_time.specs.declared.scale.Scale.{Scale}
use Rattle.vcd_course.specs.declared.event.Stamp.{Stamp}

-- a rule by its number, and with its title
abbrev pub with_rule : ℕ → List ℕ → Members → Members
with_rule rule title ms = put (codes "title") (string title) (with_count (codes "rule") rule ms)

-- a reason with this sentence, of a rule with this title
unfoldable pub reason_data : Sentence → List ℕ → List ℕ → Data
reason_data s sentence title = object
    (put (codes "facts") (object (facts s.clock s.reason)) (put (codes "sentence") (string sentence)
    (put (codes "kind") (string (kind_of s.reason)) (with_rule (rule_of s.reason) title no_members))))

-- a rule that is broken at this clock of a part that begins there, with a title and these reasons
unfoldable pub broken_at : Option Scale → ℕ → ℕ → ℕ → Option Stamp → List ℕ → Data → Data
broken_at scale start clock rule stamp title reasons = object
    (put (codes "reasons") reasons (with_place scale stamp (with_rule rule title
    (with_count (codes "clock") clock (with_count (codes "part_start") start no_members)))))

-- what is broken of a part, with a title and these reasons
abbrev pub broken_data : Option Scale → ℕ → Verdict → List ℕ → Data → Data
broken_data scale start verdicts.Nothing title reasons = null
broken_data scale start verdicts.Accepted title reasons = null
broken_data scale start (verdicts.Broken clock rule stamp) title reasons =
    broken_at scale start clock rule stamp title reasons
