use Rattle.std.proofs.Common.{[], arith, refl}
use Rattle.vcd_grammar.specs.Reading.{samples_so_far, fault_so_far, marks_so_far}
use Rattle.vcd_read.proofs.Standings.{reading_scanned}
use Rattle.vcd_read.proofs.reader.Reader.up_to.Goals as goal

pub returns-clause-stands : goal.returns-clause-stands
unfolding samples_so_far fault_so_far marks_so_far
returns-clause-stands c =
    record {
      works = λ _. record {
        scanned = reading_scanned c.in_ok-scan.scan [] c.in_ok-scan.ensures;
        faultless = refl;
        few = omega arith;
      };
      followed = λ _. refl;
      marked = λ _. refl;
      behind = λ stop is f none. absurd (let no : ⊥ = cc in no);
    }
