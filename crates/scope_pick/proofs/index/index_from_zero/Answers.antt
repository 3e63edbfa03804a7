use Rattle.std.proofs.Common.{◌∙◌, sym}
use Rattle.scope_pick.proofs.Indices.{index_on, index_off, index_end}
use Rattle.scope_pick.proofs.index.index_from_zero.Goals as goal

pub loop-byte-preserved : goal.loop-byte-preserved
loop-byte-preserved c =
    rw c.from.ensures (index_on c.loop-byte.number c.args.word.now c.loop-byte.byte-index c.loop-byte-test.true
    (sym c.fits_on.ensures.value ∙ c.if-not-fits_on.false) ∙ c.loop-byte.invariant)

pub returns-then-not-fits_on : goal.returns-then-not-fits_on
returns-then-not-fits_on c =
    sym (sym c.loop-byte.invariant ∙ index_off c.loop-byte.number c.args.word.now c.loop-byte.byte-index
    c.loop-byte-test.true (sym c.fits_on.ensures.value ∙ c.if-not-fits_on.true))

pub returns : goal.returns
returns c =
    sym (index_end c.loop-byte.number c.args.word.now c.loop-byte.byte-index c.loop-byte-test.false)
    ∙ c.loop-byte.invariant
