-- The bytes so far hold no whole header.
use Rattle.std.proofs.Common.{◌++◌, ℕ, List, take}
use Rattle.scope_watch.specs.Heading.{Opens}
use Rattle.scope_watch.proofs.feed.feed.Given as goal

abbrev pub invariant-loop-at : goal.invariant-loop-at
invariant-loop-at l =
    (fed : List ℕ) → Opens l.initial.reader fed → Opens l.reader (fed ++ take l.at l.piece)
