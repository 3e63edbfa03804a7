-- The header of a text, as the readers of it and of its values see it.
use Rattle.std.specs.Prelude.{ℕ, List}
use Rattle.vcd_grammar.specs.Tokens.{tokens_so_far, tokens_of}
use Rattle.vcd_way.specs.Ways.{ValueRules}
use Rattle.vcd_scan.specs.Wired.{Wiring}
use Rattle.vcd_joined.specs.Choosing.{Choice, IsTaken}
use Rattle.vcd_joined.specs.Behind.{gathered_in, IsHeader}

-- first bytes of a text are its header, and these wires are taken of what it declares
pub record IsHeadWith (c : Choice) (m : ValueRules) (w : Wiring) (head : List ℕ) : Type 0 where
  pub header : IsHeader m (tokens_so_far head)
  pub taken : IsTaken c (gathered_in m (tokens_so_far head)).header w

-- the same of a text that is a header, whose last token counts too
pub record IsWholeWith (c : Choice) (m : ValueRules) (w : Wiring) (text : List ℕ) : Type 0 where
  pub header : IsHeader m (tokens_of text)
  pub taken : IsTaken c (gathered_in m (tokens_of text)).header w
