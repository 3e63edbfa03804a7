-- The lines of a scope, found once.
use Rattle.std.proofs.Common.{◌≡◌, ◌∙◌, ◌+◌, ◌<◌, ℕ, List, [], ◌∷◌, Option, Some, None, map, option_map, slice_get, refl, sym, ap, arith, suc, zero}
use Rattle.std.specs.List.{filter_map, range_with_len, enumerate_from}
use Rattle.std.proofs.lemmas.Option.{slice_get-map}
use Rattle.scope_pick.specs.declared.variable.Variable.{Variable}
use Rattle.scope_pick.specs.declared.split.Bit.{Bit}
use Rattle.scope_pick.specs.declared.wires.Named.{Named}
use Rattle.scope_pick.specs.Scopes.{found_in, lines}
use Rattle.scope_wiring.specs.declared.cause.Cause.{Cause}
use Rattle.scope_wiring.specs.declared.home.Home.TheVariants.{Nowhere, At, Refused}
use Rattle.scope_wiring.specs.Wirings.{wire_in, wire_at, found_wires}

at_range : (a n k : ℕ) → k < n → slice_get (range_with_len a n) k ≡ Some (a + k)
at_range a zero k h = absurd (omega (arith, h))
at_range a (suc n) zero h = ap Some (omega arith)
at_range a (suc n) (suc k) h = at_range (a + 1) n k (omega (arith, h)) ∙ ap Some (omega arith)

line_at : (line : ℕ) → line < 22 → slice_get lines line ≡ Some line
line_at line h = at_range 0 22 line h ∙ ap Some (omega arith)

abbrev got : Option (Option Named) → Option Named → Option Named
got None other = other
got (Some name) other = name

pub found_is : (found : List (Option Named)) (ns : List Named) (scope line : ℕ) (name : Option Named)
    → found ≡ map (found_in ns scope) lines → line < 22 → slice_get found line ≡ Some name
    → name ≡ found_in ns scope line
found_is found ns scope line name table h is =
    ap (λ o. got o name)
    (sym is
    ∙ ap (λ l. slice_get l line) table
    ∙ slice_get-map (found_in ns scope) lines line
    ∙ ap (option_map (found_in ns scope)) (line_at line h))

nothing : {X Y : Type 0} (xs : List X) → filter_map {X = X} {Y = Y} (λ x. None) xs ≡ []
nothing [] = refl
nothing (x ∷ xs) = nothing xs

pub found_nowhere : (vs : List Variable) (bs : List Bit) (ns : List Named) (settled : List ℕ)
    → found_wires vs bs ns settled Nowhere ≡ []
unfolding found_wires wire_at
found_nowhere vs bs ns settled = nothing (enumerate_from 0 vs)

pub found_refused : (vs : List Variable) (bs : List Bit) (ns : List Named) (settled : List ℕ) (cause : Cause)
    → found_wires vs bs ns settled (Refused cause) ≡ []
unfolding found_wires wire_at
found_refused vs bs ns settled cause = nothing (enumerate_from 0 vs)

pub found_at_home : (vs : List Variable) (bs : List Bit) (ns : List Named) (settled : List ℕ) (scope : ℕ)
    → found_wires vs bs ns settled (At scope)
    ≡ filter_map (λ p. wire_in vs bs ns settled scope p.0 p.1) (enumerate_from 0 vs)
unfolding found_wires wire_at
found_at_home vs bs ns settled scope = refl
