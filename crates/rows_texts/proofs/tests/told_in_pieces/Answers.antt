use Rattle.std.proofs.Common.{◌≡◌, ℕ, ◌-◌, ◌≤◌, length, List, ◌++◌, take, drop, arith, length-append, length-drop}
use Rattle.std.proofs.lemmas.List.{length-take}
use Rattle.rows_texts.proofs.tests.told_in_pieces.Goals as goal

-- the bytes fed with one more piece
further : (fed bytes : List ℕ) (at end : ℕ) → length fed ≡ at → at ≤ end → end ≤ length bytes
    → length (fed ++ take (end - at) (drop at bytes)) ≡ end
further fed bytes at end h k l =
    omega (
      arith,
      length-append fed (take (end - at) (drop at bytes)),
      length-take (end - at) (drop at bytes),
      length-drop at bytes,
    )

pub loop-at-preserved : goal.loop-at-preserved
loop-at-preserved c =
    let before = c.loop-at.invariant in (
      _,
      c.feed.ensures.stands before.0 before.1,
      further before.0 c.args.bytes.now c.loop-at.at c.min-end.result
          before.2 (omega arith) (omega arith),
      omega arith,
    )
