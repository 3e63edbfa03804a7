use Rattle.vcd_laws.proofs.Whole.{reads-back}
use Rattle.vcd_laws.proofs.its_dump_reads_back.Goals as goal

pub returns : goal.returns
returns c =
    reads-back c.args.profile c.args.samples.now
    (record {
      profile = c.requires.profile;
      known = c.requires.known;
      parity = c.requires.parity;
      within = c.data_has_64_lines.ensures;
      few = c.requires.few;
    })
