use Rattle.std.proofs.Common.{sym, subst}
use Rattle.std.proofs.lemmas.Bool.{false≢true}
use Rattle.std.proofs.lemmas.List.{take_rest}
use Rattle.vcd_read.specs.Scanning.{reading}
use Rattle.vcd_read.proofs.Absorbing.{Absorbed, err_anyway, absorbed-fits, absorbed-part, absorbed-more}
use Rattle.vcd_read.proofs.Behind.{faulty_bytes}
use Rattle.vcd_read.proofs.scan.Scan.absorb.Goals as goal

pub span-requires-clause-fits : goal.span-requires-clause-fits
span-requires-clause-fits c =
    absorbed-fits c.args.limit (reading c.args.self.now) (reading c.loop-rest.self) c.args.piece.now
    c.loop-rest.rest.now c.args.to.now.items c.loop-rest.to.items c.loop-rest.invariant c.requires.fits

pub returns-in_err-len-clause-part : goal.returns-in_err-len-clause-part
returns-in_err-len-clause-part c =
    err_anyway c.from_residual.result
    (absorbed-part c.args.limit (reading c.args.self.now) (reading c.loop-rest.self) c.args.piece.now
    c.loop-rest.rest.now c.args.to.now.items c.loop-rest.to.items c.span.new.to.items c.loop-rest.invariant
    c.in_err-len.ensures.part)

pub loop-rest-preserved : goal.loop-rest-preserved
loop-rest-preserved c =
    let rest = c.loop-rest.rest.now in
    let len = c.in_ok-len.len in
    subst (λ w. Absorbed c.args.limit (reading c.args.self.now) (reading c.span.new.self) c.args.piece.now w
    c.args.to.now.items c.span.new.to.items) (sym (take_rest rest len))
    (absorbed-more c.args.limit (reading c.args.self.now) (reading c.loop-rest.self) (reading c.span.new.self)
    c.args.piece.now rest len c.args.to.now.items c.loop-rest.to.items c.span.new.to.items
    c.loop-rest.invariant c.in_ok-len.ensures.state c.in_ok-len.ensures.samples)

pub returns-in_err-len-clause-behind : goal.returns-in_err-len-clause-behind
returns-in_err-len-clause-behind c = λ faulty.
    absurd (false≢true (c.in_err-len.ensures.behind
    (faulty_bytes (reading c.args.self.now) (reading c.loop-rest.self) c.loop-rest.invariant.done
    c.loop-rest.invariant.read faulty)))
