use Rattle.std.proofs.Common.{◌≡◌, ℕ, drop}
use Rattle.fsb_trace.specs.At.{Trace}
use Rattle.fsb_owner_judge.specs.Lines.{ShowWaits, ShowsClock, is_kept_spoiled, is_waiting, kept_of, walked}
use Rattle.fsb_owner_judge.proofs.lines.OwnerLines.close.Given as goal

-- the lines that are left are still to be walked
abbrev pub invariant-loop-wait : goal.invariant-loop-wait
invariant-loop-wait l = record {
  spoiled : (line : ℕ) → is_kept_spoiled l.self line ≡ is_kept_spoiled l.initial.self line;
  shown : (v : Trace) (c : ℕ) → ShowsClock v c l.begun l.ended l.waits → ShowWaits v c (drop l.wait-index l.waits);
  walked : (v : Trace) (c : ℕ) → ShowsClock v c l.begun l.ended l.waits → (line : ℕ)
      → walked v c line (is_waiting (drop l.wait-index l.waits) line) (kept_of l.self line)
      ≡ walked v c line (is_waiting l.waits line) (kept_of l.initial.self line);
}
