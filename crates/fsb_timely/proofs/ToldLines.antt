-- What hazard lines choose for a request depends on its number alone.
use Rattle.std.proofs.Common.{ℕ, ◌≡◌, List, [], ◌∷◌, map, refl, ap, arith}
use Rattle.std.specs.List.{filter, fold}
use Rattle.fsb_encode.specs.declared.request.Request.{Request}
use Rattle.fsb_hazard.specs.declared.choice.Ask.TheVariants.{Begun}
use Rattle.fsb_hazard.specs.declared.line.HazardLine.{HazardLine}
use Rattle.fsb_hazard.specs.Choice.{quiet_choice, join}
use Rattle.fsb_hazard.specs.Entry.{is_asked, choice_of, entry}

asked-same : (k : ℕ) (a b : Request) (line : HazardLine) → is_asked (Begun k a) line ≡ is_asked (Begun k b) line
asked-same k a b line = grind arith

lines-same : (k : ℕ) (a b : Request) (lines : List HazardLine)
    → filter (is_asked (Begun k a)) lines ≡ filter (is_asked (Begun k b)) lines
lines-same k a b [] = refl
lines-same k a b (line ∷ lines) = grind arith

pub entry-same : (lines : List HazardLine) (k : ℕ) (a b : Request) → entry lines (Begun k a) ≡ entry lines (Begun k b)
entry-same lines k a b = ap (λ asked. fold join quiet_choice (map choice_of asked)) (lines-same k a b lines)
