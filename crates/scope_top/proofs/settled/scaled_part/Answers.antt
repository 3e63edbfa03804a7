use Rattle.std.proofs.Common.{inl}
use Rattle.scope_top.proofs.Settling.{scaled_named}
use Rattle.scope_top.proofs.settled.scaled_part.Goals as goal

pub returns-in-Err-clause-named : goal.returns-in-Err-clause-named
returns-in-Err-clause-named g c = λ tells. inl (record {
  stop = c.in-Err.stop;
  left = g.S.Source.left c.read_header.new.source;
  is_headed = c.in-Err.ensures.read tells;
  ends = c.in_ok-stop_answer-in-Err.ensures.ends;
})

pub returns-clause-named : goal.returns-clause-named
returns-clause-named g c = λ tells.
    scaled_named c.args.words.now (g.S.Source.holds c.args.dump.now) c.in-Ok.begun
    (g.S.Source.left c.read_header.new.source) (c.in-Ok.ensures.read tells) c.in_ok-part_by-in-Ok.field-0
    c.in_ok-part_by-in-Ok.ensures
