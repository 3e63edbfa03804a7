use Rattle.std.proofs.Common.{◌∙◌, ap, inl, inr, option_map, refl, subst}
use Rattle.fsb_look.specs.Looked.{IsSearch}
use Rattle.fsb_look.specs.SearchText.{search_text}
use Rattle.fsb_trigger.specs.Hunt.{steps_in}
use Rattle.fsb_trigger.specs.Match.{least_match}
use Rattle.fsb_top.proofs.Stops.{stopped_pieces}
use Rattle.fsb_top.specs.BenchEnds.{IsWritten}
use Rattle.fsb_top.specs.CallEnds.{EndsTold}
use Rattle.fsb_top.proofs.find.find_file.Goals as goal

pub returns-in-Ok-clause-ends : goal.returns-in-Ok-clause-ends
returns-in-Ok-clause-ends g c = inr (record {
  found = option_map (λ found. found.clocks) c.in-Ok.search.found;
  ends = subst (λ s. EndsTold g.O.Sink c.args.out.now c.tell_line.new.out s c.tell_line.result)
      c.status_of_search.ensures c.tell_line.ensures.ends;
  told = λ tells.
      let read = c.in-Ok.ensures.read tells in
      record {
        marks = read.1.marks;
        trace = read.1.trace;
        read = record { named = c.in-Ok.ensures.named tells tt; short = read.0.short; all = read.0.all };
        reads = read.1.reads;
        few = read.1.few;
        is_found = read.1.seen_all;
        printed = λ prints.
            subst (λ t. IsWritten c.tell_line.result t (g.O.Sink.holds c.args.out.now)
            (g.O.Sink.holds c.tell_line.new.out))
            (c.search_line-line.ensures ∙ ap (λ f. search_text f c.in-Ok.search.clocks) read.1.seen_all
            ∙ ap (λ n. search_text (least_match (steps_in c.args.trigger) read.1.trace) n) read.1.clocks_are)
            (c.tell_line.ensures.text prints);
      };
})

pub returns-in-Err-clause-ends : goal.returns-in-Err-clause-ends
returns-in-Err-clause-ends g c =
    inl (
      stopped_pieces g.S.Source c.args.name.now c.args.source.now c.find_in_dump.new.source
          (IsSearch (steps_in c.args.trigger)) c.in-Err.stop c.from.result c.from.ensures c.in-Err.ensures.read
          c.in-Err.ensures.named (λ tells is. c.in-Err.ensures.not_read tells (cc))
          (λ is. c.in-Err.ensures.read_fault (cc)),
      refl,
    )
