-- The bytes that were read show no fault.
use Rattle.std.proofs.Common.{◌≡◌, ◌-◌, ◌≤◌, ◌++◌, ℕ, List, length, take}
use Rattle.vcd_header.specs.Standing.{Works, refusal_of, rules_of}
use Rattle.vcd_header.proofs.reader.HeaderReader.absorb.Given as goal

abbrev pub invariant-loop-used : goal.invariant-loop-used
invariant-loop-used l = record {
  within : l.used ≤ length l.piece;
  works : (fed : List ℕ) → Works l.initial.self fed → Works l.self (fed ++ take l.used l.piece);
  rules : rules_of l.self ≡ rules_of l.initial.self;
  refusal : refusal_of l.self ≡ refusal_of l.initial.self;
}

abbrev pub decreases-loop-used : goal.decreases-loop-used
decreases-loop-used l = length l.piece - l.used
