use Rattle.std.proofs.Common.{rules, ◌≤◌, ◌+◌, ◌∷◌, [], length, codes, decimal, arith}
use Rattle.fsb_signal.specs.Table.{table_entry_of}
use Rattle.fsb_signal.specs.DumpText.{range_text}
use Rattle.scope_write.proofs.HeaderText.{declaration_text-entry, entry_name-short, append_nine}
use Rattle.scope_write.proofs.header.put_declaration.Goals as goal

pub put_text-requires-3 : goal.put_text-requires-3
put_text-requires-3 g c =
    let short : length c.signal_at-signal.result.now.name.now ≤ 7 =
    entry_name-short c.args.number (table_entry_of c.signal_at-signal.result.now) c.signal_at-signal.ensures in (
      search rules,
      omega (
        arith,
        short,
        c.requires.room,
        c.put_text.ensures.len,
        c.put_decimal.ensures.at_most,
        c.push.ensures.len,
        c.push-2.ensures.len,
        c.push-3.ensures.len,
        c.put_text-2.ensures.len,
        c.push-4.ensures.len,
        c.put_range.ensures.len,
      ),
    )

pub returns-clause-items : goal.returns-clause-items
returns-clause-items g c =
    let signal = c.signal_at-signal.result.now in
    rw (
      c.put_text-3.ensures.items,
      c.put_range.ensures.items,
      c.push-4.ensures.items,
      c.put_text-2.ensures.items,
      c.push-3.ensures.items,
      c.push-2.ensures.items,
      c.push.ensures.items,
      c.put_decimal.ensures.items,
      c.put_text.ensures.items,
      c.from.ensures,
      declaration_text-entry _ _ c.signal_at-signal.ensures,
    )
    (append_nine c.args.text.now.items (codes "$var wire ") (decimal signal.width) (codes " ")
    ((33 + c.args.number) ∷ []) (codes " ") signal.name.now (codes " ") (range_text c.args.number) (codes "$end\n"))

pub returns-clause-len : goal.returns-clause-len
returns-clause-len g c =
    let short : length c.signal_at-signal.result.now.name.now ≤ 7 =
    entry_name-short c.args.number (table_entry_of c.signal_at-signal.result.now) c.signal_at-signal.ensures in
    omega (
      arith,
      short,
      c.requires.room,
      c.put_text.ensures.len,
      c.put_decimal.ensures.at_most,
      c.push.ensures.len,
      c.push-2.ensures.len,
      c.push-3.ensures.len,
      c.put_text-2.ensures.len,
      c.push-4.ensures.len,
      c.put_range.ensures.len,
      c.put_text-3.ensures.len,
    )
