use Rattle.std.proofs.Common.{◌∙◌, ap, inl, inr, length, refl, subst}
use Rattle.fsb_audit_dump.specs.AuditText.{audit_text}
use Rattle.fsb_audit_dump.specs.Audited.{IsAudited}
use Rattle.fsb_top.proofs.Stops.{stopped_pieces}
use Rattle.fsb_top.specs.BenchEnds.{IsWritten}
use Rattle.fsb_top.specs.CallEnds.{EndsTold}
use Rattle.fsb_top.proofs.audit.audit_file.Goals as goal

pub returns-in-Ok-clause-ends : goal.returns-in-Ok-clause-ends
returns-in-Ok-clause-ends g c = inr (record {
  found = c.in-Ok.audited.found;
  ends = subst (λ s. EndsTold g.O.Sink c.args.out.now c.tell_line.new.out s c.tell_line.result)
      c.status_of_audit.ensures c.tell_line.ensures.ends;
  told = λ tells.
      let read = c.in-Ok.ensures.audited tells in
      record {
        marks = read.1.marks;
        trace = read.1.trace;
        read = record { named = c.in-Ok.ensures.named tells tt; short = read.0.short; all = read.0.all };
        reads = read.1.reads;
        few = read.1.few;
        is_found = read.1.seen_all;
        printed = λ prints.
            subst (λ t. IsWritten c.tell_line.result t (g.O.Sink.holds c.args.out.now)
            (g.O.Sink.holds c.tell_line.new.out))
            (c.audit_line-line.ensures ∙ ap (λ n. audit_text n c.in-Ok.audited.found) read.1.clocks_are
            ∙ ap (λ f. audit_text (length read.1.trace) f) read.1.seen_all) (c.tell_line.ensures.text prints);
      };
})

pub returns-in-Err-clause-ends : goal.returns-in-Err-clause-ends
returns-in-Err-clause-ends g c =
    inl (
      stopped_pieces g.S.Source c.args.name.now c.args.source.now c.audit_dump.new.source IsAudited c.in-Err.stop
          c.from.result c.from.ensures c.in-Err.ensures.audited c.in-Err.ensures.named
          (λ tells is. c.in-Err.ensures.not_read tells (cc)) (λ is. c.in-Err.ensures.read_fault (cc)),
      refl,
    )
