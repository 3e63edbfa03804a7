use Rattle.std.proofs.Common.{◌≡◌, ℕ, ◌∙◌, Option, Some, None, slice_get, sym, subst}
use Rattle.scope_parts.specs.Findings.{IsFirstFault}
use Rattle.scope_parts.proofs.Faults.{among-none, among-there, clock-fits, is-first}
use Rattle.scope_parts.proofs.judge.PartsJudge.first_fault.Goals as goal

pub returns-in-Some-clause-same : goal.returns-in-Some-clause-same
returns-in-Some-clause-same c p m es s =
    let j = c.args.self.now in
    let part = c.in-Some.part.now in
    let got : slice_get j.tally.kept.faults.items 0 ≡ Some part = cc (c.as_slice.ensures.value, c.in-Some.ensures.value) in
    c.broken_clock.ensures
    ∙ among-there j.tally.kept.faults.items j.tally.clocks j.latest.found.verdict part got

pub returns-in-None-clause-same : goal.returns-in-None-clause-same
returns-in-None-clause-same c p m es s =
    let j = c.args.self.now in
    let got : slice_get j.tally.kept.faults.items 0 ≡ None = cc (c.as_slice.ensures.value, c.in-None.ensures.value) in
    c.broken_behind.ensures (clock-fits j p m es s)
    ∙ among-none j.tally.kept.faults.items j.tally.clocks j.latest.found.verdict got

pub returns-in-Some-clause-first : goal.returns-in-Some-clause-first
returns-in-Some-clause-first c p m es s =
    subst (λ (o : Option ℕ). IsFirstFault o p m es) (sym (returns-in-Some-clause-same c p m es s))
    (is-first c.args.self.now p m es s)

pub returns-in-None-clause-first : goal.returns-in-None-clause-first
returns-in-None-clause-first c p m es s =
    subst (λ (o : Option ℕ). IsFirstFault o p m es) (sym (returns-in-None-clause-same c p m es s))
    (is-first c.args.self.now p m es s)
