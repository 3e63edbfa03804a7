use Rattle.std.proofs.Common.{◌≤◌, ◌∙◌, ap, arith, length, length-drop}
use Rattle.std.proofs.lemmas.List.{take_rest, take_all}
use Rattle.std.specs.Prelude.{replicate}
use Rattle.fsb_memory.specs.Controller.{set_bytes}
use Rattle.fsb_memory.proofs.SetLines.{bytes-more, named-more}
use Rattle.fsb_memory.proofs.StartLines.{start_bytes-set}
use Rattle.fsb_memory.proofs.controller.Controller.of_settings.Goals as goal

pub loop-done-preserved : goal.loop-done-preserved
loop-done-preserved c =
    let l = c.loop-done in
    let put = c.in_ok-done.ensures in
    record {
      within = omega (arith, l.invariant.within, put.within, length-drop l.done c.args.sets.now);
      bytes = λ line. bytes-more line _ _ _ c.args.sets.now l.done _ (l.invariant.bytes line)
          (rw take_rest at (put.bytes line));
      named = λ line. named-more line _ _ c.args.sets.now l.done _ (l.invariant.named line)
          (rw take_rest at (put.named line));
    }

pub returns-clause-bytes : goal.returns-clause-bytes
returns-clause-bytes c = λ line.
    let past : length c.args.sets.now ≤ c.loop-done.done = omega (arith, c.loop-done-test.false) in
    c.loop-done.invariant.bytes line
    ∙ ap (λ settings. set_bytes line (replicate 32 0) settings) (take_all c.loop-done.done c.args.sets.now past)
    ∙ start_bytes-set c.args.sets.now line
