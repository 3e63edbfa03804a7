use Rattle.std.proofs.Common.{◌≡◌, ◌++◌, take, drop}
use Rattle.fsb_linebuf.specs.Buffers.{promised_to}
use Rattle.fsb_linebuf.proofs.buffers.LineBuffers.promise.Given as goal

-- the fills before the place have their promise
abbrev pub invariant-loop-fill : goal.invariant-loop-fill
invariant-loop-fill l =
    l.fill-items ≡ promised_to l.line l.to (take l.fill-index l.initial.fill-items)
    ++ drop l.fill-index l.initial.fill-items
