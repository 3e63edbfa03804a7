-- The digits that are left go on from the number so far, which fits as many digits as were read.
use Rattle.std.proofs.Common.{◌≡◌, ◌<◌, ◌^◌, drop}
use Rattle.fsb_script.specs.TextWords.{decimal_from}
use Rattle.fsb_script.proofs.word.decimal_digits.Given as goal

abbrev pub invariant-loop-byte : goal.invariant-loop-byte
invariant-loop-byte l = record {
  rest : decimal_from l.number (drop l.byte-index l.word) ≡ decimal_from 0 l.word;
  below : l.number < 10 ^ l.byte-index;
}
