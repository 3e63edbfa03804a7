-- The limit that a dump tells behind its header.
use Rattle.std.specs.Prelude.{◌≡◌, ℕ, List, ◌++◌, length, drop, Option}
use Rattle.vcd_grammar.specs.Tokens.{Token, tokens_of}
use Rattle.vcd_way.specs.Declarations.{Declaration}
use Rattle.vcd_way.specs.Ways.{Way}
use Rattle.vcd_way.specs.Answers.{state_of}
use Rattle.vcd_scan.specs.Limits.{first_limit}
use Rattle.vcd_joined.specs.Behind.{IsHeader}

-- where the first section behind the header of a text begins that says that a limit is exceeded, of those that are read
-- past in a way
pub record IsLimit (way : Way (List Declaration)) (text : List ℕ) (limit : Option ℕ) : Type 0 where
  pub header : List Token
  pub more : List Token
  pub whole : tokens_of text ≡ header ++ more
  pub is_header : IsHeader way.rules header
  pub limit_is : limit
      ≡ first_limit (drop (length (state_of way header).remarks) (state_of way (tokens_of text)).remarks)
