use Rattle.std.proofs.Common.{◌∷◌, [], sym, arith, length-append}
use Rattle.std.specs.Prelude.{None}
use Rattle.scope_write.proofs.Growing.{text-grows, last-grows}
use Rattle.scope_write.proofs.writer.DumpWriter.put.Goals as goal

pub returns-clause-whole : goal.returns-clause-whole
returns-clause-whole g c tells there w begun stands held =
    text-grows _ _ begun _ _ _ there w c.args.sample.now stands.there_are stands.clock_is stands.before_is held
    (c.in_ok-put_clock.ensures.whole tells)

pub returns-clause-stands : goal.returns-clause-stands
returns-clause-stands g c there w stands = record {
  there_are = stands.there_are;
  clock_is = omega (arith, stands.clock_is, length-append w (c.args.sample.now ∷ []));
  before_is = sym (last-grows None w c.args.sample.now);
}
