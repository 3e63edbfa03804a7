-- None of sixteen digits 1 is 0.
use Rattle.std.proofs.Common.{◌≡◌, ℕ, ◌+◌, ◌*◌, ◌≤◌, true, false, ◌==◌, List, [], ◌∷◌, length}
use Rattle.std.proofs.Common.{take, drop, cond, refl, sym, ap, ◌∙◌, arith}
use Rattle.std.proofs.lemmas.Bool.{eqb-true, and_parts}
use Rattle.std.proofs.lemmas.List.{get_or-drop, length-drop}
use Rattle.std.specs.List.{list_all}
use Rattle.vcd_grammar.specs.Levels.{bits_from, is_low}
use Rattle.vcd_read.specs.Lanes.{IsRunOf}
use Rattle.vcd_read.proofs.LaneRuns.{more_pass}

not_low : (d : ℕ) → (d == 49) ≡ true → is_low d ≡ false
not_low d h = ap (λ x. x == 48) (eqb-true d 49 h)

none_low : (ds : List ℕ) → list_all (λ b. b == 49) ds ≡ true → bits_from is_low 0 ds ≡ 0
none_low [] h = refl
none_low (d ∷ ds) h =
    let p = and_parts _ _ h in
    ap (λ b. bits_from is_low (2 * 0 + cond b 1 0) ds) (not_low d p.0) ∙ none_low ds p.1

module _ (text : List ℕ) (at run : ℕ) (room : at + 16 ≤ length text) (ones : IsRunOf (λ b. b == 49) text at run)
    (whole : run ≡ 16) where
  pub ones_read : 0 ≡ bits_from is_low 0 (take 16 (drop at text))
  ones_read = sym (none_low (take 16 (drop at text))
      (more_pass (λ b. b == 49) (drop at text) 0 16 (omega (arith, length-drop at text, room)) refl
      (λ k from to. ap (λ b. b == 49) (get_or-drop at text k 0)
      ∙ ones.passes (at + k) (omega arith) (omega (arith, to, whole)))))
