-- The digits that are left go on from the number so far; as many digits as were read make a number below this.
use Rattle.std.proofs.Common.{◌≡◌, ◌<◌, ◌^◌, drop}
use Rattle.fsb_trigger.specs.Grammar.{number_behind, decimal_value}
use Rattle.fsb_trigger.proofs.decimal.decimal_digits.Given as goal

abbrev pub invariant-loop-digit : goal.invariant-loop-digit
invariant-loop-digit l = record {
  rest : number_behind 10 decimal_value l.number (drop l.digit-index l.digits)
      ≡ number_behind 10 decimal_value 0 l.digits;
  below : l.number < 10 ^ l.digit-index;
}
