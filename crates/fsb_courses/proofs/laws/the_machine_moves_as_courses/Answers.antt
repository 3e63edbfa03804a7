use Rattle.fsb_courses.proofs.Machine.{coherent_writes, drops_move, others_move, snoops_move, stores_move}
use Rattle.fsb_courses.proofs.laws.the_machine_moves_as_courses.Goals as goal

pub returns : goal.returns
returns c = record {
  snoops = snoops_move;
  stores = stores_move;
  drops = drops_move;
  others = others_move;
  one_writer = coherent_writes;
}
