use Rattle.std.proofs.Common.{◌≡◌, ℕ, ◌+◌, ◌-◌, ◌≤◌, length, List, ◌++◌, take, drop, arith, length-append, length-drop}
use Rattle.std.proofs.lemmas.List.{length-take}
use Rattle.rows_headers.proofs.headers.read.Goals as goal

-- the bytes read with those of one more piece
further : (fed piece : List ℕ) (read used : ℕ) → length fed ≡ read → used ≤ length piece
    → length (fed ++ take used piece) ≡ read + used
further fed piece read used h k =
    omega (arith, length-append fed (take used piece), length-take used piece)

-- no more are read than were fed
within : (bytes : List ℕ) (at end read used : ℕ) → used ≤ length (take (end - at) (drop at bytes))
    → read ≤ at → at ≤ end → read + used ≤ end
within bytes at end read used k l m =
    omega (arith, length-take (end - at) (drop at bytes), length-drop at bytes)

pub loop-at-preserved : goal.loop-at-preserved
loop-at-preserved c =
    let before = c.loop-at.invariant in (
      _,
      c.in_ok-read.ensures.stands before.0 before.1,
      further before.0
          (take (c.min-end.result - c.loop-at.at) (drop c.loop-at.at c.as_bytes-bytes.result.now))
          c.loop-at.read c.in_ok-read.field-0 before.2 c.in_ok-read.ensures.within,
      within c.as_bytes-bytes.result.now c.loop-at.at c.min-end.result
          c.loop-at.read c.in_ok-read.field-0 c.in_ok-read.ensures.within
          (omega arith) (omega arith),
      omega arith,
    )
