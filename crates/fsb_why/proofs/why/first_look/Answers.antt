use Rattle.std.proofs.Common.{refl, sym, arith, [], ◌∷◌}
use Rattle.std.proofs.lemmas.Bool.{lt-ltb}
use Rattle.fsb_count.specs.Clocks.{last_where}
use Rattle.fsb_trace.specs.Winner.{winner_at, last_agent, requesters_before, no_requesters}
use Rattle.fsb_trace.proofs.Interface.{winner_after-low}
use Rattle.fsb_why.specs.Look.{sample_back}
use Rattle.fsb_why.proofs.why.first_look.Goals as goal

pub returns : goal.returns
unfolding sample_back winner_at last_agent requesters_before no_requesters last_where
returns c =
    let v = c.args.sample.now ∷ [] in
    let low = winner_after-low v 0 (requesters_before v 0) (lt-ltb 0 2 (omega arith)) in
    record {
      marked = refl;
      size = refl;
      here = refl;
      one = refl;
      two = refl;
      three = refl;
      winner = sym low;
      before = sym low;
      last = refl;
      request = refl;
    }
