use Rattle.std.proofs.Common.{◌≡◌, Some, None, [], ◌∷◌, ◌++◌, length, slice_get, sym, ◌∙◌}
use Rattle.fsb_laws.proofs.Interface.{one_more}
use Rattle.fsb_heads.specs.Heads.{snooped_count}
use Rattle.fsb_rules.proofs.Queue.{asks_first}
use Rattle.fsb_rules.proofs.QueueGoes.{ends_none}
use Rattle.fsb_rules.proofs.QueueRules.{ended_now, fits_silent, fits_unended, rule_12}
use Rattle.fsb_rules.proofs.in_flight.InFlight.is_snoop_result_unfit.Goals as goal

pub returns-then-ends_snoop : goal.returns-then-ends_snoop
returns-then-ends_snoop c = λ h a.
    let e : slice_get c.args.self.now.asking.items 0 ≡ Some c.in-Some.request.now =
    sym (rw (c.in-Some.is, c.as_slice.ensures.value) at c.first.ensures.value) in
    let p = ended_now a c.args.sample.now (sym (c.ends_snoop.ensures h a) ∙ c.if-ends_snoop.true)
    (asks_first a.stands e) in
    c.is_unfit.ensures (h ++ c.args.sample.now ∷ []) (length h) (snooped_count h) p.0 p.1
    (one_more h c.args.sample.now).last ∙ sym (rule_12 a c.args.sample.now)

pub returns-else-ends_snoop : goal.returns-else-ends_snoop
returns-else-ends_snoop c = λ h a.
    c.if-ends_snoop.false
    ∙ sym (fits_unended a c.args.sample.now (sym (c.ends_snoop.ensures h a) ∙ c.if-ends_snoop.false))

pub returns-in-None : goal.returns-in-None
returns-in-None c = λ h a.
    let e : slice_get c.args.self.now.asking.items 0 ≡ None =
    sym (rw (c.in-None.is, c.as_slice.ensures.value) at c.first.ensures.value) in
    sym (fits_unended a c.args.sample.now (ends_none a c.args.sample.now e))

pub returns-else-has_snoop_line : goal.returns-else-has_snoop_line
returns-else-has_snoop_line c = λ h a.
    sym (fits_silent a c.args.sample.now (sym c.has_snoop_line.ensures ∙ c.if-has_snoop_line.false))
