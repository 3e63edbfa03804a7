use Rattle.fsb_courses.proofs.Writers.{empty_coherent, from_writer, to_writer, unknown_coherent}
use Rattle.fsb_courses.proofs.laws.first_states_are_coherent.Goals as goal

pub returns : goal.returns
returns c = record {
  one_writer = λ joint. (λ h. from_writer joint h, λ k. to_writer joint k);
  empty = empty_coherent;
  unknown = unknown_coherent;
}
