-- A response and the end of the oldest link keep the order of a line.
use Rattle.std.proofs.Common.{◌≡◌, ◌==◌, ℕ, Bool, true, false, ◌||◌, Some, List, [], ◌∷◌, sym, ◌∙◌, ap, subst}
use Rattle.fsb_line.specs.Coherence.{Ordered}
use Rattle.fsb_line.specs.Events.{arrived, responded}
use Rattle.fsb_line.specs.Line.{Bytes, MemoryLine}
use Rattle.fsb_line.specs.Links.{IsChained, has_late_upgrade, is_linked, is_overtaken, newest}
use Rattle.fsb_line.specs.declared.link.Link.{Link}
use Rattle.fsb_line.proofs.LinkFacts.{IsChained-tail, newest-tail}

pub Ordered-Responds : (x : MemoryLine) (ls : List Link) → Ordered x → Ordered (responded x ls)
unfolding responded
Ordered-Responds x [] o = o
Ordered-Responds x (l ∷ ls) o = record {
  alone = o.alone;
  suited = o.suited;
  apart = o.apart;
  first = o.first;
  pending = λ d e. let p = o.pending d e in record {
    gets = p.gets;
    no_ask = p.no_ask;
    no_link = p.no_link;
    nobody_sole = p.nobody_sole;
    unshared = p.unshared;
    unseen = p.unseen;
  };
  sole_is_newest = o.sole_is_newest;
  modified_owns = o.modified_owns;
  newest_owner = o.newest_owner;
  chained = o.chained;
  holds_on = o.holds_on;
  no_late_upgrade = o.no_late_upgrade;
}

or_false_right : (p q : Bool) → (p || q) ≡ false → q ≡ false
or_false_right true q h = absurd (cc)
or_false_right false q h = h

pub Ordered-Ends : (x : MemoryLine) (l : Link) (ls : List Link) (change : Bytes → Bytes) (bytes : Bytes)
    → x.chain ≡ l ∷ ls → Ordered x → Ordered (arrived x l ls change bytes)
unfolding arrived
Ordered-Ends x l ls change bytes e o =
    let newest_before : (k : Link) → newest ls ≡ Some k → newest x.chain ≡ Some k = λ k h. ap newest e
    ∙ newest-tail l ls k h in
    let no_link : (b : ℕ) → is_linked b x.chain ≡ false
    → is_linked b ls ≡ false = λ b h. or_false_right (l.agent == b) (is_linked b ls)
    (sym (ap (is_linked b) e) ∙ h) in
    record {
      alone = o.alone;
      suited = o.suited;
      apart = λ b k f. no_link b (o.apart b k f);
      first = o.first;
      pending = λ d f. let p = o.pending d f in record {
        gets = p.gets;
        no_ask = p.no_ask;
        no_link = no_link d.agent p.no_link;
        nobody_sole = p.nobody_sole;
        unshared = p.unshared;
        unseen = p.unseen;
      };
      sole_is_newest = λ a k h f. o.sole_is_newest a k h (newest_before k f);
      modified_owns = λ a k h f. o.modified_owns a k h (newest_before k f);
      newest_owner = λ k f h. o.newest_owner k (newest_before k f) h;
      chained = IsChained-tail l ls (subst IsChained e o.chained);
      holds_on = λ a h. or_false_right _ (is_overtaken a ls) (sym (ap (is_overtaken a) e) ∙ o.holds_on a h);
      no_late_upgrade = or_false_right _ (has_late_upgrade ls) (sym (ap has_late_upgrade e) ∙ o.no_late_upgrade);
    }
