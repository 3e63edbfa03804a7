use Rattle.std.proofs.Common.{◌+◌, [], ◌∷◌, ◌++◌, take, drop, get_or, subst}
use Rattle.vcd_read.specs.Scanning.{reading, samples_in_bytes, Part}
use Rattle.vcd_read.proofs.Absorbing.{err_anyway, part_first, span_split}
use Rattle.vcd_read.proofs.scan.Scan.any_span.Goals as goal

pub returns-in_err-closed-clause-part : goal.returns-in_err-closed-clause-part
returns-in_err-closed-clause-part c =
    let s = c.args.self.now in
    let bytes = c.args.bytes.now in
    let len = c.span_len-len.result in
    let part = c.in_err-closed.ensures.part (get_or bytes len 0) (c.span_len-len.ensures.white c.if-len-bytes.true) in
    err_anyway c.from_residual.result
    (subst (λ w. Part c.args.limit s.machine.decided (samples_in_bytes (reading s) w) c.args.to.now.items
    c.closed.new.to.items) (span_split bytes len c.if-len-bytes.true)
    (part_first (reading s) (take len bytes ++ get_or bytes len 0 ∷ []) (drop (len + 1) bytes) c.args.limit
    c.args.to.now.items c.closed.new.to.items part))
