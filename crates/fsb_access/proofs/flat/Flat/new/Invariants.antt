use Rattle.std.proofs.Common.{◌≡◌, ◌≤◌, ◌-◌, take, length}
use Rattle.fsb_access.specs.FlatView.{state_of}
use Rattle.fsb_access.specs.Replay.{start_of}
use Rattle.fsb_access.proofs.flat.Flat.new.Given as goal

-- the memory of the settings so far
abbrev pub invariant-loop-done : goal.invariant-loop-done
invariant-loop-done l = record {
  within : l.done ≤ length l.sets;
  stands : state_of l.flat ≡ start_of (take l.done l.sets);
}

abbrev pub decreases-loop-done : goal.decreases-loop-done
decreases-loop-done l = length l.sets - l.done
