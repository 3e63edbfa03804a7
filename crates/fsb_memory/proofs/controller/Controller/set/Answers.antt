use Rattle.std.proofs.Common.{◌∙◌, refl, arith, length-set}
use Rattle.fsb_memory.proofs.SetLines.{bytes_so_far-none, bytes_so_far-more, names_so_far-more, in_line-more}
use Rattle.fsb_memory.proofs.controller.Controller.set.Goals as goal

pub loop-count-init : goal.loop-count-init
loop-count-init c = record {
  within = omega arith;
  in_line = omega arith;
  all = c.line-bytes.ensures.all;
  bytes = bytes_so_far-none _ _ _ c.line-bytes.ensures.bytes;
  named = λ other. refl;
}

pub loop-count-preserved : goal.loop-count-preserved
loop-count-preserved c =
    let l = c.loop-count in
    let sets = c.args.sets.now in
    record {
      within = omega (arith, c.loop-count-test.true);
      in_line = omega (
        arith,
        l.invariant.in_line,
        in_line-more _ sets l.count c.loop-count-test.true c.if-sets-count.true,
      );
      all = length-set _ _ _ ∙ l.invariant.all;
      bytes = bytes_so_far-more _ _ l.bytes sets l.count _ l.invariant.bytes c.loop-count-test.true
          refl c.if-sets-count.true;
      named = names_so_far-more _ sets l.count _ l.invariant.named c.loop-count-test.true refl
          c.if-sets-count.true;
    }
