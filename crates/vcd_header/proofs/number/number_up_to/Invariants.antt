-- The bytes so far are digits, and those that are left go on to the number of them all.
use Rattle.std.proofs.Common.{◌≡◌, drop, take, true}
use Rattle.std.specs.List.{list_all}
use Rattle.vcd_grammar.specs.Digits.{is_digit, number_from}
use Rattle.vcd_header.proofs.number.number_up_to.Given as goal

abbrev pub invariant-loop-byte : goal.invariant-loop-byte
invariant-loop-byte l = record {
  digits : list_all is_digit (take l.byte-index l.word) ≡ true;
  value : number_from l.number (drop l.byte-index l.word) ≡ number_from 0 l.word;
}
