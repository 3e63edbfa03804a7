-- A store, a drop, a begin and a cancellation keep the order of a line.
use Rattle.std.proofs.Common.{◌≡◌, ℕ, true, false, inl, inr, None, [], ap, subst, arith}
use Rattle.std.proofs.lemmas.Bool.Decides.{nat_tests}
use Rattle.fsb_line.specs.Coherence.{Ordered}
use Rattle.fsb_line.specs.Events.{IsReady, MayBegin, effect}
use Rattle.fsb_line.specs.Events.Event.{Begins, Drops, IsCancelled, Stores}
use Rattle.fsb_line.specs.Line.{Bytes, MemoryLine, put}
use Rattle.fsb_line.specs.Links.{is_linked, newest}
use Rattle.fsb_line.specs.States.{is_modified, is_sole}
use Rattle.fsb_line.specs.declared.purpose.Purpose.{Purpose}
use Rattle.fsb_line.proofs.LinkFacts.{newest_cases, newest_is_linked}
use Rattle.fsb_line.proofs.StateFacts.{dropped_suits, sole_is_held, sole_suits}

-- who has the line alone and awaits no link sees an empty chain: no store changes the bytes under a chain
pub sole_unlinked : (x : MemoryLine) (a : ℕ) → Ordered x → is_sole (x.state a) ≡ true
    → is_linked a x.chain ≡ false → x.chain ≡ []
sole_unlinked x a o s u =
    elim (newest_cases x.chain) [
      | inl e ↦ e
      | inr p ↦ absurd (let e = o.sole_is_newest a p.0 s p.1 in let h = newest_is_linked x.chain p.0 p.1 in
          let g : is_linked a x.chain ≡ true = subst (λ b. is_linked b x.chain ≡ true) e h in cc)
    ]

pub Ordered-Stores : (x : MemoryLine) (a : ℕ) (change : Bytes → Bytes) → Ordered x
    → IsReady x a × (is_sole (x.state a) ≡ true) → Ordered (effect x (Stores a change))
unfolding effect put
Ordered-Stores x a change o m =
    let e0 : newest x.chain ≡ None = ap newest (sole_unlinked x a o m.1 m.0.no_link) in
    record {
      alone = λ b h c n. grind (arith, nat_tests, o.alone b, o.alone a m.1, m.1, sole_is_held);
      suited = λ b k e. grind (arith, nat_tests, o.suited b k, sole_suits, m.1);
      apart = o.apart;
      first = o.first;
      pending = λ d e. absurd (let h = (o.pending d e).nobody_sole a in let g = m.1 in cc);
      sole_is_newest = λ b l h e. absurd (cc);
      modified_owns = λ b l h e. absurd (cc);
      newest_owner = λ l e h. absurd (cc);
      chained = o.chained;
      holds_on = λ b h. grind (arith, nat_tests, o.holds_on b, m.0.held);
      no_late_upgrade = o.no_late_upgrade;
    }

pub Ordered-Drops : (x : MemoryLine) (a : ℕ) → Ordered x → is_modified (x.state a) ≡ false
    → Ordered (effect x (Drops a))
unfolding effect put
Ordered-Drops x a o m = record {
  alone = λ b h c n. grind (arith, nat_tests, o.alone b);
  suited = λ b k e. grind (arith, nat_tests, o.suited b k, dropped_suits, m);
  apart = o.apart;
  first = o.first;
  pending = λ d e. let p = o.pending d e in record {
    gets = p.gets;
    no_ask = p.no_ask;
    no_link = p.no_link;
    nobody_sole = λ b. grind (arith, nat_tests, p.nobody_sole b);
    unshared = λ h b n. grind (arith, nat_tests, p.unshared h b n);
    unseen = λ h b n. grind (arith, nat_tests, p.unseen h b n);
  };
  sole_is_newest = λ b l h e. grind (arith, nat_tests, o.sole_is_newest b l);
  modified_owns = λ b l h e. grind (arith, nat_tests, o.modified_owns b l);
  newest_owner = λ l e h. grind (arith, nat_tests, o.newest_owner l e h, m);
  chained = o.chained;
  holds_on = λ b h. grind (arith, nat_tests, o.holds_on b);
  no_late_upgrade = o.no_late_upgrade;
}

pub Ordered-Begins : (x : MemoryLine) (a : ℕ) (kind : Purpose) (number : ℕ) → Ordered x
    → MayBegin x a kind number → Ordered (effect x (Begins a kind number))
unfolding effect put
Ordered-Begins x a kind number o m = record {
  alone = o.alone;
  suited = λ b k e. grind (arith, nat_tests, o.suited b k, m.suited);
  apart = λ b k e. grind (arith, nat_tests, o.apart b k, m.no_link);
  first = λ b c j k e f n h. grind (
    arith,
    nat_tests,
    o.first b c j k,
    m.newest b j,
    m.newest c k,
    m.not_held_off c,
    m.no_ask,
  );
  pending = λ d e. let p = o.pending d e in record {
    gets = p.gets;
    no_ask = grind (arith, nat_tests, p.no_ask, m.no_deferral d e);
    no_link = p.no_link;
    nobody_sole = p.nobody_sole;
    unshared = p.unshared;
    unseen = p.unseen;
  };
  sole_is_newest = o.sole_is_newest;
  modified_owns = o.modified_owns;
  newest_owner = o.newest_owner;
  chained = o.chained;
  holds_on = o.holds_on;
  no_late_upgrade = o.no_late_upgrade;
}

pub Ordered-IsCancelled : (x : MemoryLine) (a : ℕ) → Ordered x → Ordered (effect x (IsCancelled a))
unfolding effect put
Ordered-IsCancelled x a o = record {
  alone = o.alone;
  suited = λ b k e. grind (arith, nat_tests, o.suited b k);
  apart = λ b k e. grind (arith, nat_tests, o.apart b k);
  first = λ b c j k e f n h. grind (arith, nat_tests, o.first b c j k);
  pending = λ d e. let p = o.pending d e in record {
    gets = p.gets;
    no_ask = grind (arith, nat_tests, p.no_ask);
    no_link = p.no_link;
    nobody_sole = p.nobody_sole;
    unshared = p.unshared;
    unseen = p.unseen;
  };
  sole_is_newest = o.sole_is_newest;
  modified_owns = o.modified_owns;
  newest_owner = o.newest_owner;
  chained = o.chained;
  holds_on = o.holds_on;
  no_late_upgrade = o.no_late_upgrade;
}
