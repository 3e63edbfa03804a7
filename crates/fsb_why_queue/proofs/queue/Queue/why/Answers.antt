use Rattle.std.proofs.Common.{subst, ◌∙◌, [], ◌∷◌, ◌++◌, length}
use Rattle.fsb_why.specs.Explains.{Explains}
use Rattle.fsb_why_queue.proofs.Early.{explains-at, unexplained}
use Rattle.fsb_why_queue.proofs.queue.Queue.why.Goals as goal

pub returns-then-rule-eq4 : goal.returns-then-rule-eq4
returns-then-rule-eq4 c = λ m h s o.
    let clock = c.clock-clock.ensures ∙ (s.table).clock in
    explains-at m (h ++ c.args.sample.now ∷ []) (length h) c.args.rule 4 c.queue_depth.result c.if-rule-eq4.true
    (subst (λ n. Explains m (h ++ c.args.sample.now ∷ []) n 4 c.queue_depth.result) clock
    (c.queue_depth.ensures m h (record { stands = s.table; orderly = o; clock = clock })))

pub returns-then-rule-eq11 : goal.returns-then-rule-eq11
returns-then-rule-eq11 c = λ m h s o.
    let clock = c.clock-clock.ensures ∙ (s.table).clock in
    explains-at m (h ++ c.args.sample.now ∷ []) (length h) c.args.rule 11 c.snoop_line.result c.if-rule-eq11.true
    (subst (λ n. Explains m (h ++ c.args.sample.now ∷ []) n 11 c.snoop_line.result) clock
    (c.snoop_line.ensures m h (record { stands = s; orderly = o; clock = clock })))

pub returns-then-rule-eq12 : goal.returns-then-rule-eq12
returns-then-rule-eq12 c = λ m h s o.
    let clock = c.clock-clock.ensures ∙ (s.table).clock in
    explains-at m (h ++ c.args.sample.now ∷ []) (length h) c.args.rule 12 c.snoop_result.result c.if-rule-eq12.true
    (subst (λ n. Explains m (h ++ c.args.sample.now ∷ []) n 12 c.snoop_result.result) clock
    (c.snoop_result.ensures m h (record { stands = s; orderly = o; clock = clock })))

pub returns-then-rule-eq13 : goal.returns-then-rule-eq13
returns-then-rule-eq13 c = λ m h s o.
    let clock = c.clock-clock.ensures ∙ (s.table).clock in
    explains-at m (h ++ c.args.sample.now ∷ []) (length h) c.args.rule 13 c.response_timing.result c.if-rule-eq13.true
    (subst (λ n. Explains m (h ++ c.args.sample.now ∷ []) n 13 c.response_timing.result) clock
    (c.response_timing.ensures m h (record { stands = s; orderly = o; clock = clock })))

pub returns-then-rule-eq14 : goal.returns-then-rule-eq14
returns-then-rule-eq14 c = λ m h s o.
    let clock = c.clock-clock.ensures ∙ (s.table).clock in
    explains-at m (h ++ c.args.sample.now ∷ []) (length h) c.args.rule 14 c.response_code.result c.if-rule-eq14.true
    (subst (λ n. Explains m (h ++ c.args.sample.now ∷ []) n 14 c.response_code.result) clock
    (c.response_code.ensures m h (record { stands = s; orderly = o; clock = clock })))

pub returns-then-rule-eq15 : goal.returns-then-rule-eq15
returns-then-rule-eq15 c = λ m h s o.
    let clock = c.clock-clock.ensures ∙ (s.table).clock in
    explains-at m (h ++ c.args.sample.now ∷ []) (length h) c.args.rule 15 c.target_ready.result c.if-rule-eq15.true
    (subst (λ n. Explains m (h ++ c.args.sample.now ∷ []) n 15 c.target_ready.result) clock
    (c.target_ready.ensures m h (record { stands = s; orderly = o; clock = clock })))

pub returns-then-rule-eq16 : goal.returns-then-rule-eq16
returns-then-rule-eq16 c = λ m h s o.
    let clock = c.clock-clock.ensures ∙ (s.table).clock in
    explains-at m (h ++ c.args.sample.now ∷ []) (length h) c.args.rule 16 c.data_transfer.result c.if-rule-eq16.true
    (subst (λ n. Explains m (h ++ c.args.sample.now ∷ []) n 16 c.data_transfer.result) clock
    (c.data_transfer.ensures m h (record { stands = s; orderly = o; clock = clock })))

pub returns-then-rule-eq18 : goal.returns-then-rule-eq18
returns-then-rule-eq18 c = λ m h s o.
    let clock = c.clock-clock.ensures ∙ (s.table).clock in
    explains-at m (h ++ c.args.sample.now ∷ []) (length h) c.args.rule 18 c.outstanding.result c.if-rule-eq18.true
    (subst (λ n. Explains m (h ++ c.args.sample.now ∷ []) n 18 c.outstanding.result) clock
    (c.outstanding.ensures m h (record { stands = s.table; orderly = o; clock = clock })))

pub returns-else-rule-eq18 : goal.returns-else-rule-eq18
returns-else-rule-eq18 c = λ m h s o.
    unexplained m (h ++ c.args.sample.now ∷ []) (length h) c.args.rule c.if-rule-eq4.false c.if-rule-eq11.false
    c.if-rule-eq12.false c.if-rule-eq13.false c.if-rule-eq14.false c.if-rule-eq15.false c.if-rule-eq16.false
    c.if-rule-eq18.false
