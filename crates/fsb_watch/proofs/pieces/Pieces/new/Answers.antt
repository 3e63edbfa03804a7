use Rattle.std.proofs.Common.{refl}
use Rattle.vcd_grammar.specs.Reading.{marks_so_far, samples_so_far, fault_so_far}
use Rattle.vcd_read.specs.Answers.{stop_so_far}
use Rattle.fsb_watch.proofs.pieces.Pieces.new.Goals as goal

pub returns : goal.returns
unfolding stop_so_far marks_so_far samples_so_far fault_so_far
returns c = record {
  reader = c.in_ok-new.ensures.stands;
  limit = c.in_ok-new.ensures.limit;
  refused = c.in_ok-new.ensures.fresh;
  told = λ none. refl;
  count = λ none. refl;
}
