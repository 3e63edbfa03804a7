-- Dumps that are read alike by the strict way and by wires.
use Rattle.std.specs.Prelude.{◌≡◌, ℕ, Bool, not, List, codes, length}
use Rattle.std.specs.List.{list_all}
use Rattle.vcd_grammar.specs.Tokens.{Token, tokens_of}
use Rattle.vcd_grammar.specs.Words.{same}
use Rattle.vcd_way.specs.Ways.{ValueRules}
use Rattle.vcd_way.specs.Events.{samples_among}
use Rattle.vcd_way.specs.Answers.{events_by}
use Rattle.scope_wiring.specs.declared.wire.Wire.{Wire}
use Rattle.scope_way.specs.Wired.{wired_way}
use Rattle.scope_both.specs.Taking.{TakesStrictly}

-- no word of the text says that the dump stops for a time
abbrev pub never_stops : List ℕ → Bool
never_stops text = list_all (λ (t : Token). not (same (codes "$dumpoff") t.word)) (tokens_of text)

-- by these wires the text tells samples alone, and no hole
abbrev pub TellsNoHole : List Wire → ValueRules → List ℕ → Type 0
TellsNoHole ws m text =
    length (events_by (wired_way ws m) text) ≡ length (samples_among (events_by (wired_way ws m) text))

-- the wires take what the strict way takes, and tell of no hole
pub record IsReadAlike (ws : List Wire) (m : ValueRules) (text : List ℕ) : Type 0 where
  pub takes : TakesStrictly ws m text
  pub no_hole : TellsNoHole ws m text
