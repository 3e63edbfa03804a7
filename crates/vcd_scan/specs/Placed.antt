-- Where the first wire of a code stands.
use Rattle.std.specs.Prelude.{◌≡◌, ℕ, suc, List, [], ◌∷◌, Option, Some, None, option_map, if◌then◌else◌}
use Rattle.vcd_grammar.specs.Words.{same}
use Rattle.vcd_scan.specs.declared.wire.Wire.{Wire}
use Rattle.vcd_scan.specs.declared.places.CodePlaces.{CodePlaces}
use Rattle.vcd_scan.specs.CodePlaces.{place_by}

-- the place of the first wire of this code
abbrev pub first_place : List Wire → List ℕ → Option ℕ
first_place [] code = None
first_place (w ∷ ws) code = if same w.code.items code then Some 0 else option_map (λ place. suc place) (first_place ws code)

-- each code has the place of its first wire, and another code has none
abbrev pub FirstPlaces : CodePlaces → List Wire → Type 0
FirstPlaces places wires = (code : List ℕ) → place_by places code ≡ first_place wires code
