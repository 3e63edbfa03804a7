use Rattle.std.proofs.Common.{◌≤◌, ◌||◌, ◌∙◌, ap, arith, length}
use Rattle.std.proofs.lemmas.List.{take_all}
use Rattle.std.specs.Prelude.{◌==◌}
use Rattle.std.specs.List.{list_any}
use Rattle.fsb_memory.specs.Controller.{is_in_line}
use Rattle.fsb_memory.proofs.LineMaps.{line_in-same, named-one_more}
use Rattle.fsb_memory.proofs.controller.Controller.new.Goals as goal

pub loop-line-preserved : goal.loop-line-preserved
loop-line-preserved c =
    let l = c.loop-line in
    let kept = c.in_ok-keep.ensures in
    record {
      bytes = λ line. line_in-same l.controller c.keep.new.self _ _ c.line-bytes.ensures.bytes kept.kept
          kept.others line ∙ l.invariant.bytes line;
      named = λ line. named-one_more _ _ _ c.args.lines.now l.line-index line c.loop-line-test.true
          (l.invariant.named line) (kept.named line);
    }

pub returns-clause-named : goal.returns-clause-named
returns-clause-named c = λ line.
    let past : length c.args.lines.now ≤ c.loop-line.line-index = omega (arith, c.loop-line-test.false) in
    c.loop-line.invariant.named line
    ∙ ap (λ lines. list_any (is_in_line line) c.args.sets.now || list_any (λ other. other == line) lines)
    (take_all c.loop-line.line-index c.args.lines.now past)
