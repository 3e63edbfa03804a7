-- What the laws cite to take a line apart, and lines that are the same in each field.
use Rattle.std.proofs.Common.{◌≡◌}
use Rattle.fsb_line.specs.Line.{MemoryLine, SameFields}
use Rattle.fsb_line.proofs.Theorem.{after-copy, run-now}

-- the names that the laws cite
pub ruleset flat = (run-now)

pub ruleset without = (after-copy)

-- lines that are the same in each field are the same
pub same_line : (x y : MemoryLine) → SameFields x y → x ≡ y
same_line x y s = λ i. record {
  state = λ a. s.state a i;
  copy = λ a. s.copy a i;
  ask = λ a. s.ask a i;
  chain = s.chain i;
  deferral = s.deferral i;
  memory = s.memory i;
  pushed = s.pushed i;
  moved = s.moved i;
  now = s.now i;
}
