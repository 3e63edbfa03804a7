use Rattle.std.proofs.Common.{◌≡◌, inl, inr, sym, ap, ◌∙◌, arith}
use Rattle.std.proofs.lemmas.Bool.{cases_lt}
use Rattle.fsb_trace.specs.Rules.{breaks}
use Rattle.fsb_trace.proofs.RuleSteps.{breaks-none, breaks-past}
use Rattle.fsb_trace.proofs.judge.breaks.Goals as goal

pub returns-in_default : goal.returns-in_default
returns-in_default c =
    elim (cases_lt 20 c.args.j) [
      | inl past ↦ sym (breaks-past c.args.marks c.args.v.now c.args.c c.args.j past)
      | inr within ↦
          let none : c.args.j ≡ 0 = omega arith in
          sym (ap (breaks c.args.marks c.args.v.now c.args.c) none ∙ breaks-none c.args.marks c.args.v.now c.args.c)
    ]
