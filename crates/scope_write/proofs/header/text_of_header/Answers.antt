use Rattle.std.proofs.Common.{refl}
use Rattle.scope_write.specs.Text.{shown_header}
use Rattle.scope_write.proofs.header.text_of_header.Goals as goal

pub returns : goal.returns
unfolding shown_header
returns c = rw (
  c.put_text-2.ensures.items,
  c.put_declarations.ensures.items,
  c.put_text.ensures.items,
  c.new-text.ensures,
) refl
