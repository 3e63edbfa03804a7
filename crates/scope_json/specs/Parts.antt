-- The parts that were judged.
use Rattle.std.specs.Prelude.{ℕ, List, map, not, codes}
use Rattle.serde_json.specs.Data.{Data, array, boolean, object, string, no_members, put}
use Rattle.serde_json.specs.View.{items_of}
use Rattle.reason_facts.specs.Values.{with_count, with_flag}
use Rattle.scope_check.specs.declared.finding.Verdict.{Verdict}
use Rattle.scope_check.specs.declared.finding.Verdict.TheVariants as verdicts
use Rattle.scope_parts.specs.declared.finding.End.{End}
use Rattle.scope_parts.specs.declared.finding.End.TheVariants as ends
use Rattle.scope_parts.specs.declared.finding.PartFound.{PartFound}

-- the word for a verdict
abbrev pub verdict_word : Verdict → List ℕ
verdict_word verdicts.Nothing = codes "nothing"
verdict_word verdicts.Accepted = codes "accepted"
verdict_word (verdicts.Broken clock rule stamp) = codes "rejected"

-- the word for why a part ended
abbrev pub end_word : End → List ℕ
end_word ends.Dump = codes "dump"
end_word ends.Hole = codes "hole"
end_word ends.Broken = codes "broken"
end_word ends.Reply = codes "reply"

-- a part: its first clock, how many are judged, whether it is known what came before, its verdict, and why it ended
unfoldable pub part_data : PartFound → Data
part_data part = object
    (put (codes "end") (string (end_word part.end))
    (put (codes "verdict") (string (verdict_word part.verdict))
    (with_flag (codes "is_history_known") (not part.is_later)
    (with_count (codes "judged") part.judged (with_count (codes "start") part.start no_members)))))

-- parts, in order
abbrev pub parts_data : List PartFound → Data
parts_data parts = array (items_of (map part_data parts))
