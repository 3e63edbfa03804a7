use Rattle.std.proofs.Common.{refl}
use Rattle.fsb_signal.specs.DumpText.{header_text}
use Rattle.vcd_write.proofs.header.text_of_header.Goals as goal

pub returns : goal.returns
unfolding header_text
returns c = rw (
  c.put_text-3.ensures.items,
  c.put_values.ensures.items,
  c.put_text-2.ensures.items,
  c.put_declarations.ensures.items,
  c.put_text.ensures.items,
  c.new-text.ensures,
) refl
