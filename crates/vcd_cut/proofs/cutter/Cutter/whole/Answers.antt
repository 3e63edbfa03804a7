use Rattle.std.proofs.Common.{◌<◌, [], ◌∷◌, length, sym, ◌∙◌, arith}
use Rattle.std.proofs.lemmas.Bool.{eqb-true, eqb-false}
use Rattle.std.proofs.lemmas.List.{take_all}
use Rattle.vcd_cut.specs.Cutting.{cutting}
use Rattle.vcd_cut.proofs.Cutting.{empty_counted, whole_counted}
use Rattle.vcd_cut.proofs.cutter.Cutter.whole.Goals as goal

pub returns-then-is_empty-clause-tokens : goal.returns-then-is_empty-clause-tokens
returns-then-is_empty-clause-tokens c =
    empty_counted (cutting c.args.self.now) c.args.bytes.now c.requires.empty
    (eqb-true (length c.args.bytes.now) 0 (sym c.is_empty.ensures ∙ c.if-is_empty.true))

pub returns-clause-tokens : goal.returns-clause-tokens
returns-clause-tokens c =
    let bs = c.args.bytes.now in
    let none = eqb-false (length bs) 0 (sym c.is_empty.ensures ∙ c.if-is_empty.false) in
    let some : 0 < length bs = omega (arith, none) in
    whole_counted (cutting c.args.self.now) bs c.requires.empty c.requires.dark some c.requires.short
    ∙ (λ i. record { place = c.args.self.now.at; word = sym (take_all (length bs) bs (omega arith)) i } ∷ [])
