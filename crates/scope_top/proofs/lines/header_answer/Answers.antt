use Rattle.scope_top.proofs.lines.header_answer.Goals as goal

pub returns : goal.returns
returns c = record {
  choice = c.plain_choice-choice.result;
  plain = c.plain_choice-choice.ensures;
  picking = c.in_ok-picking.picking;
  picked = rw c.deref.ensures.value at c.in_ok-picking.ensures;
  ends = c.ending_picked.ensures;
}
