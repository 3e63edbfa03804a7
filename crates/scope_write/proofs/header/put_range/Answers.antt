use Rattle.std.proofs.Common.{◌≡◌, ◌+◌, ◌-◌, sym, arith, append-nil, codes, decimal}
use Rattle.fsb_signal.specs.DumpText.{lowest_of}
use Rattle.scope_write.proofs.HeaderText.{range_text-word, range_text-single, append_five}
use Rattle.scope_write.proofs.header.put_range.Goals as goal

pub returns-then-width-gt1-clause-items : goal.returns-then-width-gt1-clause-items
returns-then-width-gt1-clause-items g c =
    let number = c.args.number in
    let width = c.args.width in
    rw (
      c.put_text.ensures.items,
      c.put_decimal-then-width-gt1.ensures.items,
      c.push-then-width-gt1.ensures.items,
      c.put_decimal.ensures.items,
      c.push.ensures.items,
      c.from.ensures,
      c.from-then-width-gt1.ensures,
      c.lowest_line-lowest.ensures.value,
      range_text-word number width c.requires.width c.if-width-gt1.true,
    )
    (append_five c.args.text.now.items
    (codes "[") (decimal (lowest_of number + width - 1)) (codes ":") (decimal (lowest_of number)) (codes "] "))

pub returns-else-width-gt1-clause-items : goal.returns-else-width-gt1-clause-items
returns-else-width-gt1-clause-items g c =
    let one : c.args.width ≡ 1 = omega (arith, c.if-width-gt1.false, c.requires.some) in
    rw (range_text-single c.args.number c.args.width c.requires.width one) (sym (append-nil _))
