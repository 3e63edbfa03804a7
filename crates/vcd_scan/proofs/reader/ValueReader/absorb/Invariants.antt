-- The bytes that were read show no fault, and what they tell was kept.
use Rattle.std.proofs.Common.{◌≡◌, ◌-◌, ◌≤◌, ◌++◌, ℕ, List, length, take}
use Rattle.vcd_scan.specs.Standing.{Works, Keeps, Appends, refusal_of, rules_of, wiring_of, events_of, tokens_after, told_after}
use Rattle.vcd_scan.proofs.reader.ValueReader.absorb.Given as goal

abbrev pub invariant-loop-used : goal.invariant-loop-used
invariant-loop-used l = record {
  within : l.used ≤ length l.piece;
  works : (head fed : List ℕ) → Works l.initial.self head fed → Works l.self head (fed ++ take l.used l.piece);
  told : (head fed : List ℕ) → Works l.initial.self head fed
      → Appends (told_after (rules_of l.initial.self) (wiring_of l.initial.self) (tokens_after head fed))
      (told_after (rules_of l.initial.self) (wiring_of l.initial.self)
      (tokens_after head (fed ++ take l.used l.piece)))
      (events_of l.initial.self) (events_of l.self);
  keeps : Keeps l.initial.self l.self;
  refusal : refusal_of l.self ≡ refusal_of l.initial.self;
}

abbrev pub decreases-loop-used : goal.decreases-loop-used
decreases-loop-used l = length l.piece - l.used
