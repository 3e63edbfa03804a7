use Rattle.std.proofs.Common.{◌<◌, arith, length-set, ◌∙◌}
use Rattle.fsb_io.proofs.HexDigits.{hex_before-start, hex_before-step, hex_before-first, room_before, fits_before}
use Rattle.fsb_io.proofs.number.write_hex.Goals as goal

pub loop-left-init : goal.loop-left-init
loop-left-init c = record {
  within = omega arith;
  sixteen = c.told-digits;
  fits = omega arith;
  written = hex_before-start c.args.n c.args.digits.now c.told-digits;
}

pub loop-left-preserved : goal.loop-left-preserved
loop-left-preserved c =
    let l = c.loop-left in
    let some : 0 < l.start = room_before l.left l.start c.loop-left-test.true l.invariant.fits in
    record {
      within = omega arith;
      sixteen = length-set l.digits l.start c.hex_digit.result ∙ l.invariant.sixteen;
      fits = fits_before l.left l.start some l.invariant.fits;
      written = hex_before-step c.args.n l.left l.start c.hex_digit.result l.digits (omega arith) some
          c.loop-left-test.true c.hex_digit.ensures l.invariant.written;
    }

pub returns-clause-written : goal.returns-clause-written
returns-clause-written c =
    let l = c.loop-left in
    hex_before-first c.args.n l.left l.start c.hex_digit-2.result l.digits (omega arith) (omega arith)
    (c.hex_digit-2.ensures) l.invariant.written
