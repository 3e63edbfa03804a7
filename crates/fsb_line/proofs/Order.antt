-- The order of a line does not look at its bytes; a retry keeps it.
use Rattle.std.proofs.Common.{◌≡◌, ℕ, true, arith}
use Rattle.std.proofs.lemmas.Bool.Decides.{nat_tests}
use Rattle.fsb_line.specs.Coherence.{IsPending, Ordered}
use Rattle.fsb_line.specs.Events.{MaySettle, effect, settled}
use Rattle.fsb_line.specs.Events.Event.{IsRetried}
use Rattle.fsb_line.specs.Line.{MemoryLine, put, trimmed}
use Rattle.fsb_line.specs.States.{asks_line}
use Rattle.fsb_line.specs.declared.purpose.Purpose.{Purpose}
use Rattle.fsb_line.proofs.LinkFacts.{}
use Rattle.fsb_line.proofs.StateFacts.{modified_is_sole, snoop_held, snoop_not_sole, snoop_suits, snoop_unheld}

-- the order of a line doesn't look at its bytes
pub Ordered-trimmed : (x : MemoryLine) → Ordered x → Ordered (trimmed x)
unfolding trimmed
Ordered-trimmed x o = record {
  alone = o.alone;
  suited = o.suited;
  apart = o.apart;
  first = o.first;
  pending = λ d e. let p : IsPending x d = o.pending d e in record {
    gets = p.gets;
    no_ask = p.no_ask;
    no_link = p.no_link;
    nobody_sole = p.nobody_sole;
    unshared = p.unshared;
    unseen = p.unseen;
  };
  sole_is_newest = o.sole_is_newest;
  modified_owns = o.modified_owns;
  newest_owner = o.newest_owner;
  chained = o.chained;
  holds_on = o.holds_on;
  no_late_upgrade = o.no_late_upgrade;
}

pub Ordered-IsRetried : (x : MemoryLine) (a : ℕ) (kind : Purpose) → Ordered x
    → MaySettle x a kind × (asks_line kind ≡ true) → Ordered (effect x (IsRetried a kind))
unfolding effect settled put
Ordered-IsRetried x a kind o m = record {
  alone = λ b h c n. grind (arith, nat_tests, o.alone b, m.0.clean, snoop_held, snoop_unheld, snoop_not_sole);
  suited = λ b k e. grind (arith, nat_tests, o.suited b, m.0.clean b, snoop_suits);
  apart = λ b k e. grind (arith, nat_tests, o.apart b k);
  first = λ b c j k e f. grind (arith, nat_tests, o.first b c j k);
  pending = λ d e. record {
    gets = (o.pending d e).gets;
    no_ask = grind (arith, nat_tests, (o.pending d e).no_ask);
    no_link = (o.pending d e).no_link;
    nobody_sole = λ b. grind (arith, nat_tests, (o.pending d e).nobody_sole b, snoop_not_sole);
    unshared = λ h b n. grind (arith, nat_tests, (o.pending d e).unshared h b n, snoop_unheld);
    unseen = λ h b n. grind (arith, nat_tests, (o.pending d e).unseen h b n, snoop_unheld);
  };
  sole_is_newest = λ b l h e. grind (arith, nat_tests, o.sole_is_newest b l, snoop_not_sole);
  modified_owns = λ b l h e. grind (arith, nat_tests, o.modified_owns b l, snoop_not_sole, modified_is_sole);
  newest_owner = λ l e h. grind (arith, nat_tests, o.newest_owner l e h, m.0.clean l.agent);
  chained = o.chained;
  holds_on = λ b h. grind (arith, nat_tests, o.holds_on b, snoop_held);
  no_late_upgrade = o.no_late_upgrade;
}
