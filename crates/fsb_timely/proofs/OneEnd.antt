-- A clock is the snoop end of one live request at most.
use Rattle.std.proofs.Common.{ℕ, ◌<◌, ◌≡◌, Some, arith}
use Rattle.fsb_trace.specs.At.{Trace}
use Rattle.fsb_trace.specs.Snoop.{snoop_end_of}
use Rattle.fsb_trace.proofs.Interface.{snoop_end_of-rises}

-- the snoop end of an earlier live request is another clock
apart : (w : Trace) (s i j : ℕ) → i < j → snoop_end_of w i ≡ Some s → snoop_end_of w j ≡ Some s → ⊥
apart w s i j l e f =
    let before = snoop_end_of-rises w i j s l f in
    grind arith

pub one_end : (w : Trace) (s i j : ℕ) → snoop_end_of w i ≡ Some s → snoop_end_of w j ≡ Some s → i ≡ j
one_end w s i j e f = grind (arith, apart)
