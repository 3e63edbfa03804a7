use Rattle.std.proofs.Common.{arith, refl, rules}
use Rattle.scope_explain.proofs.Following.{none-first}
use Rattle.scope_explain.proofs.explaining.Explaining.new.Goals as goal

pub returns : goal.returns
returns c =
    let fed = c.in_ok-requests.ensures.1 in
    record {
      unbroken = none-first c.args.marks;
      checker = c.new-2.ensures;
      why = c.new-3.ensures;
      requests = c.in_ok-requests.ensures.0;
      count = refl;
      few = omega (arith, fed);
      no_reasons = search rules;
    }
