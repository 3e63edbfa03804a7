-- What is told of a dump when it ends.
use Rattle.std.proofs.Common.{◌≡◌, ◌∙◌, ◌++◌, ◌∷◌, [], List, if◌then◌else◌, refl, sym, ap, append-nil}
use Rattle.fsb_signal.specs.declared.marks.Marks.{Marks}
use Rattle.vcd_way.specs.Events.{DumpEvent}
use Rattle.scope_check.specs.declared.finding.Judged.{Judged}
use Rattle.scope_check.specs.declared.part.Part.{Part}
use Rattle.scope_check.specs.Findings.{IsFoundIn}
use Rattle.scope_check.specs.Parts.{clocks_of}
use Rattle.scope_parts.specs.declared.finding.End.{End}
use Rattle.scope_parts.specs.declared.finding.End.TheVariants as ends
use Rattle.scope_parts.specs.declared.finding.PartsFound.{PartsFound}
use Rattle.scope_parts.specs.declared.judge.PartsJudge.{PartsJudge}
use Rattle.scope_parts.specs.declared.plan.Plan.{Plan}
use Rattle.scope_parts.specs.declared.tally.Tally.{Tally}
use Rattle.scope_parts.specs.Segments.{Segment, all_of, events_in}
use Rattle.scope_parts.specs.Endings.{breaks_one}
use Rattle.scope_parts.specs.Findings.{IsJudgedInParts}
use Rattle.scope_parts.specs.Standing.{Stands, Tallies}
use Rattle.scope_parts.proofs.Clocks.{clocks-counted}
use Rattle.scope_parts.proofs.Sums.{events_in-snoc}

-- the last segment
abbrev pub last_at : List DumpEvent → Judged → End → Segment
last_at es found end = record { events = es; reply = []; found = found; end = end }

pub last_clocks : (f : Judged) (p : Part) (m : Marks) (es : List DumpEvent) (end : End) → IsFoundIn f p m es
    → f.clocks ≡ clocks_of (all_of (last_at es f end))
last_clocks f p m es end h = clocks-counted f p m es h ∙ ap clocks_of (sym (append-nil es))

-- what a judge tells with the sums of all segments
abbrev pub told_by : PartsJudge → Tally → PartsFound
told_by j t = record {
  plan = j.plan;
  clocks = j.counts.clocks;
  judged = t.judged;
  parts = t.kept.parts;
  broken = t.kept.broken;
  first = t.kept.first;
  faults = t.kept.faults;
  holes = j.counts.holes;
  first_hole = j.counts.first_hole;
}

pub judged_in_parts : (j : PartsJudge) (t : Tally) (p : Plan) (m : Marks) (es : List DumpEvent) (s : Stands j p m es)
    → (end : End) → end ≡ (if breaks_one j.latest.found.verdict then ends.Broken else ends.Dump)
    → Tallies t (s.segments ++ last_at s.open_events j.latest.found end ∷ []) → IsJudgedInParts (told_by j t) p m es
judged_in_parts j t p m es s end ends_so tallied =
    let last = last_at s.open_events j.latest.found end in
    record {
      segments = s.segments;
      last = last;
      whole = s.whole ∙ ap (λ xs. events_in s.segments ++ xs) (sym (append-nil s.open_events))
          ∙ sym (events_in-snoc s.segments last);
      over = s.over;
      is_last = record { unended = s.unended; reply = refl; found = s.latest.found; end = ends_so };
      asked = s.planned;
      clocks = s.counted.clocks;
      tells = record {
        judged = tallied.judged;
        parts = tallied.kept.parts_are;
        broken = tallied.kept.broken;
        first = tallied.kept.first;
        faults = tallied.kept.faults;
      };
      holes = s.counted.holes;
      first_hole = s.counted.first_hole;
    }
