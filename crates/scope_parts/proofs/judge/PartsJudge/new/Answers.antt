use Rattle.std.proofs.Common.{[], refl}
use Rattle.scope_parts.proofs.judge.PartsJudge.new.Goals as goal

pub returns : goal.returns
returns c = record {
  segments = [];
  open_events = [];
  planned = refl;
  marked = refl;
  whole = refl;
  over = tt;
  unended = tt;
  judging = c.new-judging.ensures;
  latest = c.first-latest.ensures c.args.plan.first c.args.marks
      (c.judged.ensures c.args.plan.first c.args.marks [] c.new-judging.ensures);
  tallied = c.new-2.ensures;
  counted = c.new.ensures;
}
