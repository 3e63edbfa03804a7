use Rattle.std.proofs.Common.{ap}
use Rattle.vcd_read.specs.CodesView.{are_keys, are_places}
use Rattle.vcd_read.proofs.CodeTables.{none_single}
use Rattle.vcd_read.proofs.LongCodes.{kept_none}
use Rattle.vcd_read.proofs.codes.Codes.new.Goals as goal

pub invariant_of-result : goal.invariant_of-result
invariant_of-result c =
    record {
      agree = record { tells = λ byte number h. absurd (none_single 128 byte number h) };
      keys = ap (λ es. are_keys c.new.result.entries es) c.new-2.ensures;
      apart = kept_none c.new.result.entries c.new.ensures.empty;
      places = ap (λ es. are_places c.new-3.result.items es) c.new-2.ensures;
    }
