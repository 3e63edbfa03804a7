use Rattle.std.proofs.Common.{refl, sym, ◌∙◌}
use Rattle.fsb_rules.proofs.Interface.{as_broken-none}
use Rattle.fsb_show.proofs.Traces.{broken_not}
use Rattle.fsb_show.proofs.show.show_trace.Goals as goal

pub returns-in-Some-clause-of_trace : goal.returns-in-Some-clause-of_trace
returns-in-Some-clause-of_trace g c =
    let told = sym c.in-Some.is ∙ c.judge.ensures in
    record {
      clocks = refl;
      broken = told;
      rows = λ none. absurd (broken_not _ _ _ told none);
      weighed = λ none. absurd (broken_not _ _ _ told none);
    }

pub table-requires-clause-accepted : goal.table-requires-clause-accepted
table-requires-clause-accepted g c = as_broken-none _ (sym c.judge.ensures ∙ c.in-None.is)
