use Rattle.std.proofs.Common.{◌≡◌, ◌-◌, ◌++◌, ◌∙◌, length, replicate, ap, arith}
use Rattle.fsb_wave.proofs.Texts.{filled-more}
use Rattle.fsb_wave.proofs.text.drawn_name.Goals as goal

pub loop-line-preserved : goal.loop-line-preserved
loop-line-preserved c = record {
  filled = filled-more c.args.name.now c.loop-line.line.items c.push.new.self.items
      c.loop-line.invariant.filled c.push.ensures.items c.loop-line.invariant.least;
  least = omega (arith, c.push.ensures.len, c.loop-line.invariant.least);
  most = omega (arith, c.push.ensures.len, c.len.ensures, c.loop-line-test.true);
}

pub returns-clause-items : goal.returns-clause-items
returns-clause-items c =
    let all : length c.loop-line.line.items ≡ 6 =
    omega (arith, c.loop-line.invariant.most, c.len.ensures, c.loop-line-test.false) in
    c.loop-line.invariant.filled ∙ ap (λ n. c.args.name.now ++ replicate (n - length c.args.name.now) 32) all
