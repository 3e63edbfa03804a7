use Rattle.std.proofs.Common.{◌-◌, not, sym, ap, ◌∙◌, [], ◌∷◌, ◌++◌, length}
use Rattle.fsb_laws.proofs.Interface.{one_more}
use Rattle.fsb_rules.proofs.StartRules.{identity_some, identity_none}
use Rattle.fsb_rules.proofs.checker.Checker.is_identity_wrong.Goals as goal

pub returns-in-Some : goal.returns-in-Some
returns-in-Some c = λ h x f e lawful.
    let p = identity_some f (one_more h x) (sym e ∙ c.in-Some.is) in
    ap not (c.is_identified.ensures (length h - 1) p.0 p.1) ∙ sym p.2

pub returns-in-None : goal.returns-in-None
returns-in-None c = λ h x f e lawful.
    sym (identity_none (h ++ x ∷ []) (length h) lawful (sym e ∙ c.in-None.is))
