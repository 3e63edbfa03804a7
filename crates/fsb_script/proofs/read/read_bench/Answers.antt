use Rattle.std.proofs.Common.{◌+◌, ◌<◌, length, arith, ◌∙◌, sym, ap, length-drop}
use Rattle.fsb_script.specs.Parsing.{Fails, stop_at}
use Rattle.fsb_script.specs.TextWords.{line_len, text_lines}
use Rattle.fsb_script.specs.Drafts.{plan_from}
use Rattle.fsb_script.specs.View.{progress}
use Rattle.fsb_script.proofs.KeptLemmas.{not_empty}
use Rattle.fsb_script.proofs.LinesLemmas.{plan_begins, plan_more, plan_stops}
use Rattle.fsb_script.proofs.read.read_bench.Goals as goal

pub loop-rest-init : goal.loop-rest-init
loop-rest-init c = record { ahead = plan_begins c.args.text.now _ c.new-draft.ensures; few = omega arith }

pub returns-in-Err : goal.returns-in-Err
returns-in-Err c =
    let some : 0 < length c.loop-rest.rest.now = not_empty _ c.is_empty.result c.is_empty.ensures
    c.loop-rest-test.true in
    let fails = rw c.split_line.ensures.line at c.in-Err.ensures.gives in
    let stops : Fails (stop_at c.loop-rest.number c.in-Err.stop)
    (plan_from c.loop-rest.number (progress c.loop-rest.draft) (text_lines c.loop-rest.rest.now)) =
    plan_stops c.loop-rest.number (progress c.loop-rest.draft) c.loop-rest.rest.now c.in-Err.stop some fails in
    rw c.stop_at.ensures (rw (← c.loop-rest.invariant.ahead) stops)

pub loop-rest-preserved : goal.loop-rest-preserved
loop-rest-preserved c =
    let some : 0 < length c.loop-rest.rest.now = not_empty _ c.is_empty.result c.is_empty.ensures
    c.loop-rest-test.true in
    let taken = rw c.split_line.ensures.line at c.in-Ok.ensures.gives in
    let more = plan_more c.loop-rest.number (progress c.loop-rest.draft)
    (progress c.take.new.self) c.loop-rest.rest.now some taken in
    record {
      ahead = rw c.split_line.ensures.after (sym more ∙ c.loop-rest.invariant.ahead);
      few = omega (
        arith,
        c.loop-rest.invariant.few,
        ap length c.split_line.ensures.after,
        length-drop
            (line_len c.loop-rest.rest.now + 1) c.loop-rest.rest.now,
        some,
      );
    }
