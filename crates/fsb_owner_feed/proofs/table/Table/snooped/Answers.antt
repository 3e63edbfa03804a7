use Rattle.std.proofs.Common.{subst, sym, ◌∙◌}
use Rattle.fsb_owner_feed.specs.Table.{SaysAsking}
use Rattle.fsb_owner_feed.proofs.Happening.{none_asks, snooped_none, snooped_row}
use Rattle.fsb_owner_feed.proofs.table.Table.snooped.Goals as goal

pub returns-then-ends_snoop : goal.returns-then-ends_snoop
returns-then-ends_snoop c =
    record {
      reached = λ h g e.
          let a = subst (SaysAsking h) c.in-Some.is (c.asking.ensures h g.stands g.before) in
          snooped_row g c.in-Some.row a (sym (c.ends_snoop.ensures h g.stands a e) ∙ c.if-ends_snoop.true);
      there = λ h g e.
          let a = subst (SaysAsking h) c.in-Some.is (c.asking.ensures h g.stands g.before) in
          sym (sym (c.ends_snoop.ensures h g.stands a e) ∙ c.if-ends_snoop.true);
    }

pub returns-else-ends_snoop : goal.returns-else-ends_snoop
returns-else-ends_snoop c =
    record {
      reached = λ h g e.
          let a = subst (SaysAsking h) c.in-Some.is (c.asking.ensures h g.stands g.before) in
          snooped_none g (sym (c.ends_snoop.ensures h g.stands a e) ∙ c.if-ends_snoop.false);
      there = λ h g e.
          let a = subst (SaysAsking h) c.in-Some.is (c.asking.ensures h g.stands g.before) in
          sym (sym (c.ends_snoop.ensures h g.stands a e) ∙ c.if-ends_snoop.false);
    }

pub returns-in-None : goal.returns-in-None
returns-in-None c =
    record {
      reached = λ h g e.
          snooped_none g (none_asks g (subst (SaysAsking h) c.in-None.is (c.asking.ensures h g.stands g.before)));
      there = λ h g e.
          sym (none_asks g (subst (SaysAsking h) c.in-None.is (c.asking.ensures h g.stands g.before)));
    }
