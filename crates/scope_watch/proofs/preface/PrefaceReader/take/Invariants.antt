-- The bytes so far were read.
use Rattle.std.proofs.Common.{◌++◌, ℕ, List, take}
use Rattle.scope_watch.specs.Prefaces.{HasRead}
use Rattle.scope_watch.proofs.preface.PrefaceReader.take.Given as goal

abbrev pub invariant-loop-at : goal.invariant-loop-at
invariant-loop-at l = (fed : List ℕ) → HasRead l.initial.self fed → HasRead l.self (fed ++ take l.at l.piece)
