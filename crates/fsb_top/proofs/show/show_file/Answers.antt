use Rattle.std.proofs.Common.{inl, inr, map, refl, subst}
use Rattle.fsb_show.specs.Showing.{IsShown}
use Rattle.fsb_top.proofs.Stops.{stopped_whole}
use Rattle.fsb_top.proofs.Tables.{shown_text}
use Rattle.fsb_top.specs.BenchEnds.{IsWritten}
use Rattle.fsb_top.proofs.show.show_file.Goals as goal

pub returns-in-Ok-clause-ends : goal.returns-in-Ok-clause-ends
returns-in-Ok-clause-ends g c = inr (record {
  found = c.in-Ok.shown.broken;
  ends = c.tell_table.ensures.ends;
  told = λ tells.
      let read = c.in-Ok.ensures.shown tells in
      record {
        marks = read.1.marks;
        trace = read.1.trace;
        read = record { named = c.in-Ok.ensures.named tells tt; short = read.0.short; all = read.0.all };
        reads = read.1.reads;
        few = read.1.few;
        is_found = read.1.of_trace.broken;
        printed = λ prints.
            subst (λ t. IsWritten c.tell_table.result t (g.O.Sink.holds c.args.out.now)
            (g.O.Sink.holds c.tell_table.new.out))
            (shown_text _ _ c.in-Ok.shown read.1.marks read.1.trace read.1.of_trace)
            (c.tell_table.ensures.text prints);
      };
})

pub returns-in-Err-clause-ends : goal.returns-in-Err-clause-ends
returns-in-Err-clause-ends g c =
    inl (
      stopped_whole g.S.Source c.args.name.now c.args.source.now c.show_dump.new.source
          (IsShown (map (λ b. (goal.Probe-dyn g (b.vtable, b.value)).weight b.value) c.args.probes.now)
          (map (λ b. (goal.Probe-dyn g (b.vtable, b.value)).counted b.value) c.show_dump.new.probes)) c.in-Err.stop
          c.from.result c.from.ensures c.in-Err.ensures.shown c.in-Err.ensures.named
          (λ tells is. c.in-Err.ensures.not_read tells (cc)) (λ is. c.in-Err.ensures.read_fault (cc)),
      refl,
    )
