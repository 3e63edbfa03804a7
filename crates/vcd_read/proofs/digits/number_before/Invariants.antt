-- The bytes so far are digits, which are the number, and four bits hold each.
use Rattle.std.proofs.Common.{◌≡◌, ◌<◌, ◌≤◌, ◌*◌, ◌^◌, take, true}
use Rattle.std.specs.List.{list_all}
use Rattle.vcd_grammar.specs.Digits.{is_digit, number_from}
use Rattle.vcd_read.proofs.digits.number_before.Given as goal

abbrev pub invariant-loop-i : goal.invariant-loop-i
invariant-loop-i l = record {
  few : l.i ≤ 15;
  digits : list_all is_digit (take l.i l.text) ≡ true;
  value : number_from 0 (take l.i l.text) ≡ l.number;
  small : l.number < 2 ^ (4 * l.i);
}
