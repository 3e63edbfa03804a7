-- What is taken at once: a vector of digits 0 and 1, and the code behind it.
use Rattle.std.specs.Prelude.{◌≡◌, ℕ, true, false, List, [], ◌∷◌, Some}
use Rattle.std.specs.List.{list_all}
use Rattle.vcd_grammar.specs.Tokens.{Token}
use Rattle.vcd_way.specs.declared.tap.Tap.{Tap}
use Rattle.vcd_way.specs.Steps.{DumpState, state_after, happenings_in, is_too_wide_for, is_unreadable}
use Rattle.vcd_way.specs.Pieces.{Happening, Gets}
use Rattle.vcd_way.specs.Events.{is_known_digit}
use Rattle.vcd_course.specs.Opening.{after_happening}
use Rattle.vcd_scan.specs.Wired.{Wiring, taps_in, wires_told}
use Rattle.vcd_scan.specs.Told.{state_told, open_in, way_in, token_at}
use Rattle.vcd_scan.specs.declared.machine.Machine.{Machine}

-- a word at a place, and one behind it
abbrev pub vector_tokens : ℕ → List ℕ → ℕ → List ℕ → List Token
vector_tokens place word behind code = token_at place word ∷ token_at behind code ∷ []

-- what is known of a machine after tokens
abbrev pub known_in : Machine → List Token → DumpState Wiring
known_in m ts = state_after (way_in m) (state_told m) ts

-- what happens to the lines in them
abbrev pub happened_in : Machine → List Token → List Happening
happened_in m ts = happenings_in (way_in m) (state_told m) ts

-- the taps of the code get the digits, which are 0 and 1 and fit all of them
pub record GetsKnown (old new : Machine) (digits code : List ℕ) : Type 0 where
  pub taps : List Tap
  pub found : taps_in (wires_told old.wires).codes code ≡ Some taps
  pub readable : is_unreadable digits ≡ false
  pub known : list_all is_known_digit digits ≡ true
  pub narrow : is_too_wide_for taps digits ≡ false
  pub opened : open_in new ≡ after_happening (open_in old) (Gets (record { taps = taps; digits = digits }))
