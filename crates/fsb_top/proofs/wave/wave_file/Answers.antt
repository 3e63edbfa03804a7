use Rattle.std.proofs.Common.{inl, inr, refl}
use Rattle.fsb_look.specs.Looked.{IsWave}
use Rattle.fsb_top.proofs.Stops.{stopped_pieces}
use Rattle.fsb_top.proofs.wave.wave_file.Goals as goal

pub returns-in-Ok-clause-ends : goal.returns-in-Ok-clause-ends
returns-in-Ok-clause-ends g c = inr (record {
  found = tt;
  ends = c.tell_wave.ensures.ends;
  told = λ tells.
      let read = c.in-Ok.ensures.read tells in
      record {
        marks = read.1.marks;
        trace = read.1.trace;
        read = record { named = c.in-Ok.ensures.named tells tt; short = read.0.short; all = read.0.all };
        reads = read.1.reads;
        few = read.1.few;
        is_found = refl;
        printed = λ prints. c.tell_wave.ensures.text prints _ _ read.1.trace read.1.drawn;
      };
})

pub returns-in-Err-clause-ends : goal.returns-in-Err-clause-ends
returns-in-Err-clause-ends g c =
    inl (
      stopped_pieces g.S.Source c.args.name.now c.args.source.now c.wave_of_dump.new.source
          (IsWave c.args.range.now.from c.args.range.now.to) c.in-Err.stop c.from.result c.from.ensures
          c.in-Err.ensures.read c.in-Err.ensures.named (λ tells is. c.in-Err.ensures.not_read tells (cc))
          (λ is. c.in-Err.ensures.read_fault (cc)),
      refl,
    )
