use Rattle.fsb_why.proofs.Alone.{explains-at, unexplained}
use Rattle.fsb_why.proofs.look.Look.why.Goals as goal

pub returns-then-rule-eq1 : goal.returns-then-rule-eq1
returns-then-rule-eq1 c = λ m v s.
    explains-at m v c.args.self.now.clock c.args.rule 1 _ c.if-rule-eq1.true (c.unknown_lines.ensures m v s)

pub returns-then-rule-eq2 : goal.returns-then-rule-eq2
returns-then-rule-eq2 c = λ m v s.
    explains-at m v c.args.self.now.clock c.args.rule 2 _ c.if-rule-eq2.true (c.spacing.ensures m v s)

pub returns-then-rule-eq3 : goal.returns-then-rule-eq3
returns-then-rule-eq3 c = λ m v s.
    explains-at m v c.args.self.now.clock c.args.rule 3 _ c.if-rule-eq3.true (c.code.ensures m v s)

pub returns-then-rule-eq5 : goal.returns-then-rule-eq5
returns-then-rule-eq5 c = λ m v s.
    explains-at m v c.args.self.now.clock c.args.rule 5 _ c.if-rule-eq5.true (c.blocked.ensures m v s)

pub returns-then-rule-eq6 : goal.returns-then-rule-eq6
returns-then-rule-eq6 c = λ m v s.
    explains-at m v c.args.self.now.clock c.args.rule 6 _ c.if-rule-eq6.true (c.arbitration.ensures m v s)

pub returns-then-rule-eq7 : goal.returns-then-rule-eq7
returns-then-rule-eq7 c = λ m v s.
    explains-at m v c.args.self.now.clock c.args.rule 7 _ c.if-rule-eq7.true (c.identity.ensures m v s)

pub returns-then-rule-eq8 : goal.returns-then-rule-eq8
returns-then-rule-eq8 c = λ m v s.
    explains-at m v c.args.self.now.clock c.args.rule 8 _ c.if-rule-eq8.true (c.asking.ensures m v s)

pub returns-then-rule-eq9 : goal.returns-then-rule-eq9
returns-then-rule-eq9 c = λ m v s.
    explains-at m v c.args.self.now.clock c.args.rule 9 _ c.if-rule-eq9.true (c.lock.ensures m v s)

pub returns-then-rule-eq10 : goal.returns-then-rule-eq10
returns-then-rule-eq10 c = λ m v s.
    explains-at m v c.args.self.now.clock c.args.rule 10 _ c.if-rule-eq10.true (c.address_error.ensures m v s)

pub returns-then-rule-eq17 : goal.returns-then-rule-eq17
returns-then-rule-eq17 c = λ m v s.
    explains-at m v c.args.self.now.clock c.args.rule 17 _ c.if-rule-eq17.true (c.unknown_data.ensures m v s)

pub returns-then-rule-eq19 : goal.returns-then-rule-eq19
returns-then-rule-eq19 c = λ m v s.
    explains-at m v c.args.self.now.clock c.args.rule 19 _ c.if-rule-eq19.true (c.address_parity.ensures m v s)

pub returns-then-rule-eq20 : goal.returns-then-rule-eq20
returns-then-rule-eq20 c = λ m v s.
    explains-at m v c.args.self.now.clock c.args.rule 20 _ c.if-rule-eq20.true (c.request_parity.ensures m v s)

pub returns-else-rule-eq20 : goal.returns-else-rule-eq20
returns-else-rule-eq20 c = λ m v s.
    unexplained m v c.args.self.now.clock c.args.rule c.if-rule-eq1.false c.if-rule-eq2.false c.if-rule-eq3.false c.if-rule-eq5.false c.if-rule-eq6.false c.if-rule-eq7.false c.if-rule-eq8.false c.if-rule-eq9.false c.if-rule-eq10.false c.if-rule-eq17.false c.if-rule-eq19.false c.if-rule-eq20.false
