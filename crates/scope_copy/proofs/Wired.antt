-- A line is wired where it is among the lines of wires.
use Rattle.std.proofs.Common.{◌≡◌, ℕ, ◌||◌, nat_eq, List, [], ◌∷◌, refl, ap}
use Rattle.vcd_grammar.specs.Judging.{is_declared}
use Rattle.scope_wiring.specs.declared.wire.Wire.{Wire}
use Rattle.scope_wiring.specs.Wirings.{is_wired}
use Rattle.scope_way.specs.Wired.{wired_lines}

pub line-wired : (ws : List Wire) (line : ℕ) → is_wired ws line ≡ is_declared (wired_lines ws) line
unfolding is_wired wired_lines
line-wired [] line = refl
line-wired (w ∷ ws) line = ap (λ b. nat_eq w.tap.line line || b) (line-wired ws line)
