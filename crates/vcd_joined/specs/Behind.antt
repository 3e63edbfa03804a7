-- What is known at the end of a header, and behind it.
use Rattle.std.specs.Prelude.{◌≡◌, true, false, List, [], ◌∷◌, ◌++◌}
use Rattle.vcd_grammar.specs.Tokens.{Token}
use Rattle.vcd_way.specs.Declarations.{Declaration}
use Rattle.vcd_way.specs.Ways.{ValueRules}
use Rattle.vcd_way.specs.Steps.{DumpState, is_past_header_at}
use Rattle.vcd_way.specs.Answers.{state_of}
use Rattle.vcd_header.specs.Gathering.{gathering}
use Rattle.vcd_scan.specs.Wired.{Wiring}

-- what is known after the first tokens of a text, where declarations are only gathered
abbrev pub gathered_in : ValueRules → List Token → DumpState (List Declaration)
gathered_in m ts = state_of (gathering m) ts

-- these are the tokens of a header: it is over with the last of them, and not before
pub record IsHeader (m : ValueRules) (ts : List Token) : Type 0 where
  pub before : List Token
  pub last : Token
  pub whole : ts ≡ before ++ last ∷ []
  pub not_over : is_past_header_at (gathered_in m before).spot ≡ false
  pub over : is_past_header_at (gathered_in m ts).spot ≡ true

-- what is known behind a header, of which one thing is known, where a reader of values knows another
abbrev pub behind : DumpState (List Declaration) → DumpState Wiring → DumpState (List Declaration)
behind g r = record {
  fault = r.fault;
  spot = r.spot;
  path = g.path;
  header = g.header;
  time = r.time;
  is_off = r.is_off;
  remarks = g.remarks ++ r.remarks;
}
