use Rattle.std.proofs.Common.{◌≡◌, sym, subst}
use Rattle.vcd_read.specs.Taking.{pushed}
use Rattle.vcd_read.specs.Scanning.{reading, samples_in_bytes}
use Rattle.vcd_read.proofs.DirectTokens.{scalar_sampled}
use Rattle.vcd_read.proofs.DirectVectors.{vector_sampled}
use Rattle.vcd_read.proofs.scan.Scan.span.Goals as goal

pub returns-in-Some-clause-samples : goal.returns-in-Some-clause-samples
returns-in-Some-clause-samples c =
    let s = c.args.self.now in
    let to = c.args.to.now.items in
    let change = c.in-Some.change in
    let begins = c.in-Some.ensures in
    let ready = c.is_ready.ensures c.if-is_ready.true in
    subst (λ bytes. to ≡ pushed c.args.limit s.machine.decided to (samples_in_bytes (reading s) bytes))
    (sym begins.begins)
    (scalar_sampled (reading s) begins.white change.digit change.code change.number c.args.limit to ready
    begins.digit begins.code begins.line begins.behind)

pub returns-in-Some-vector_in-clause-samples : goal.returns-in-Some-vector_in-clause-samples
returns-in-Some-vector_in-clause-samples c =
    vector_sampled (reading c.args.self.now) c.args.bytes.now c.in-Some-vector_in.change
    (c.is_ready.ensures c.if-is_ready.true) c.in-Some-vector_in.ensures c.args.limit c.args.to.now.items
