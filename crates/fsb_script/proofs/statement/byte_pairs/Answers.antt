use Rattle.std.proofs.Common.{◌+◌, ◌*◌, ◌<◌, length, arith}
use Rattle.fsb_script.proofs.Pairs.{byte_more}
use Rattle.fsb_script.proofs.statement.byte_pairs.Goals as goal

pub loop-i-preserved : goal.loop-i-preserved
loop-i-preserved c =
    let inside : 2 * c.loop-i.i + 1 < length c.args.word.now = omega arith in
    record {
      rest = rw c.push.ensures.items (rw (byte_more c.loop-i.bytes.items c.args.word.now c.loop-i.i _ _ inside
          c.in_ok-high.ensures.value c.in_ok-low.ensures.value) c.loop-i.invariant.rest);
      len = omega (arith, c.push.ensures.len, c.loop-i.invariant.len);
    }
