use Rattle.std.proofs.Common.{◌≡◌, ◌≤◌, ◌+◌, ◌-◌, ◌++◌, IsTrue, vec_len}
use Rattle.fsb_io.proofs.read.read_all.Given as goal

abbrev pub invariant-loop-bytes : goal.invariant-loop-bytes
invariant-loop-bytes g l = record {
  within : vec_len l.bytes ≤ l.limit + 1;
  taken : IsTrue g.S.Source.tells → l.bytes.items ++ g.S.Source.left l.src ≡ g.S.Source.left l.fn.src;
  later : g.S.Source.faults l.fn.src ≤ g.S.Source.faults l.src;
  name_stays : IsTrue g.S.Source.tells → g.S.Source.begun_as l.src ≡ g.S.Source.begun_as l.fn.src;
  holds_stays : IsTrue g.S.Source.tells → g.S.Source.holds l.src ≡ g.S.Source.holds l.fn.src;
}

abbrev pub decreases-loop-bytes : goal.decreases-loop-bytes
decreases-loop-bytes g l = l.limit + 1 - vec_len l.bytes
