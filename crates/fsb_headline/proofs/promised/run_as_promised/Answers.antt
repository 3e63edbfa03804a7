use Rattle.fsb_command.specs.Form.{form_of}
use Rattle.fsb_headline.proofs.promised.run_as_promised.Goals as goal

pub returns : goal.returns
returns g c tells prints dumps file name e done =
    c.runs_are_as_promised.ensures (record {
      was = c.args.source.now;
      now = c.bench.new.source;
      before = c.args.out.now;
      after = c.bench.new.out;
      first = c.args.dump.now;
      last = c.bench.new.dump;
      told = _;
      weights = _;
      words = form_of c.args.words.now;
      status = c.bench.result;
    }) c.bench.ensures.ends tells prints dumps file name e done
