-- The digits that are left go on from the bytes so far.
use Rattle.std.proofs.Common.{◌≡◌, ◌*◌, [], drop}
use Rattle.arrayvec.specs.ArrayVec.{array_vec_len}
use Rattle.fsb_script.specs.Statements.{bytes_from}
use Rattle.fsb_script.proofs.statement.byte_pairs.Given as goal

abbrev pub invariant-loop-i : goal.invariant-loop-i
invariant-loop-i l = record {
  rest : bytes_from l.bytes.items (drop (2 * l.i) l.word) ≡ bytes_from [] l.word;
  len : array_vec_len l.bytes ≡ l.i;
}
