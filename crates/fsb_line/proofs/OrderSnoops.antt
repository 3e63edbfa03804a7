-- The outcomes of a snoop end, and a deferred reply, keep the order of a line.
use Rattle.std.proofs.Common.{◌≡◌, ℕ, Bool, true, false, inl, inr, Option, Some, None, is_some, [], ◌∷◌, ◌++◌, sym, ap}
use Rattle.std.proofs.Common.{subst, arith}
use Rattle.std.proofs.lemmas.Bool.{false_from_ne_true, and_right}
use Rattle.std.proofs.lemmas.Bool.Decides.{nat_tests}
use Rattle.fsb_line.specs.Coherence.{IsPending, Ordered}
use Rattle.fsb_line.specs.Events.{IsOldest, MayGrant, MayHand, MayLose, MayUpgrade, NobodyElseModified, effect, given}
use Rattle.fsb_line.specs.Events.{linked, replied, settled}
use Rattle.fsb_line.specs.Events.Event.{IsDeferred, IsGranted, IsHanded, IsLost, IsUpgraded, IsWritten}
use Rattle.fsb_line.specs.Line.{OpenRequest, LineDeferral, MemoryLine, put}
use Rattle.fsb_line.specs.Links.{any_owns, giver_after, is_linked, newest, owns}
use Rattle.fsb_line.specs.States.{asks_line, gets_line, is_held, is_modified, is_sole}
use Rattle.fsb_line.specs.declared.purpose.Purpose.{Purpose}
use Rattle.fsb_line.specs.declared.purpose.Purpose.TheVariants.{Upgrade, WriteBack}
use Rattle.fsb_line.specs.declared.link.Link.{Link}
use Rattle.fsb_line.proofs.LinkFacts.{IsChained-end, any_owns-unlinked, has_late_upgrade-end, is_linked-end}
use Rattle.fsb_line.proofs.LinkFacts.{is_overtaken-end, newest-end, newest_is_linked}
use Rattle.fsb_line.proofs.OrderHits.{sole_unlinked}
use Rattle.fsb_line.proofs.StateFacts.{asker_not_sole, unheld_unmodified, gets_asks, gets_no_upgrade, gets_owns}
use Rattle.fsb_line.proofs.StateFacts.{granted_alone, granted_owns, granted_sole, modified_is_sole, modified_suits}
use Rattle.fsb_line.proofs.StateFacts.{same_agent, snoop_held, snoop_not_sole, snoop_suits, snoop_unheld, snoop_unowned}
use Rattle.fsb_line.proofs.StateFacts.{sole_is_held}

-- where nobody else has the line Modified, the newest link owns nothing, for an agent that awaits no link
pub newest_reads : (x : MemoryLine) (a : ℕ) (k : Link) → Ordered x → NobodyElseModified x a
    → is_linked a x.chain ≡ false → newest x.chain ≡ Some k → owns k ≡ false
newest_reads x a k o clean u e =
    false_from_ne_true (owns k) (λ h.
    let held = o.newest_owner k e h in
    let linked = newest_is_linked x.chain k e in
    elim (same_agent k.agent a) [
      | inl same ↦ let g : is_linked a x.chain ≡ true = subst (λ b. is_linked b x.chain ≡ true) same linked in cc
      | inr other ↦ let g = clean k.agent other in cc
    ])

pub giver_after-reader : (k : Link) → owns k ≡ false → giver_after k ≡ None
giver_after-reader k h = rw h

pub Ordered-IsGranted : (x : MemoryLine) (a : ℕ) (kind : Purpose) (shared : Bool) → Ordered x
    → MayGrant x a kind shared → Ordered (effect x (IsGranted a kind shared))
unfolding effect settled linked put
Ordered-IsGranted x a kind shared o m =
    let asked = m.settles.oldest.asked in
    let u : is_linked a x.chain ≡ false = o.apart a _ asked in
    let asks : asks_line kind ≡ true = gets_asks kind m.gets in
    let l : Link = record { agent = a; kind = kind; giver = None } in
    let end : newest (x.chain ++ l ∷ []) ≡ Some l = newest-end x.chain l in
    record {
      alone = λ b h c n. grind (
        arith,
        nat_tests,
        granted_alone kind shared (x.state c),
        m.unseen,
        snoop_not_sole,
        snoop_unheld,
      );
      suited = λ b k e. grind (arith, nat_tests, o.suited b k, m.settles.clean b, snoop_suits);
      apart = λ b k e. rw is_linked-end (grind (arith, nat_tests, o.apart b k));
      first = λ b c j k e f. grind (arith, nat_tests, o.first b c j k);
      pending = λ d e. absurd (let h = m.not_pending in cc);
      sole_is_newest = λ b k h e. grind (arith, nat_tests, snoop_not_sole);
      modified_owns = λ b k h e. grind (arith, nat_tests, snoop_not_sole, modified_is_sole, granted_owns);
      newest_owner = λ k e h. grind (arith, nat_tests, granted_owns);
      chained = IsChained-end x.chain l o.chained
          (λ k e. sym (giver_after-reader k (newest_reads x a k o m.settles.clean u e)));
      holds_on = λ b h. rw is_overtaken-end (grind (arith, nat_tests, o.holds_on b, snoop_held, snoop_unowned));
      no_late_upgrade = rw has_late_upgrade-end (grind (arith, o.no_late_upgrade, gets_no_upgrade, and_right));
    }

pub Ordered-IsUpgraded : (x : MemoryLine) (a : ℕ) → Ordered x → MayUpgrade x a → Ordered (effect x (IsUpgraded a))
unfolding effect settled linked put
Ordered-IsUpgraded x a o m =
    let asked = m.settles.oldest.asked in
    let u : is_linked a x.chain ≡ false = o.apart a _ asked in
    let held : is_held (x.state a) ≡ true = m.held in
    let none : any_owns x.chain ≡ false = any_owns-unlinked a x.chain u (o.holds_on a m.held) in
    let l : Link = record { agent = a; kind = Upgrade; giver = None } in
    let end : newest (x.chain ++ l ∷ []) ≡ Some l = newest-end x.chain l in
    record {
      alone = λ b h c n. grind (arith, nat_tests);
      suited = λ b k e. grind (arith, nat_tests, o.suited b k, m.settles.clean b, snoop_suits);
      apart = λ b k e. rw is_linked-end (grind (arith, nat_tests, o.apart b k));
      first = λ b c j k e f. grind (arith, nat_tests, o.first b c j k);
      pending = λ d e. absurd (let h = m.not_pending in cc);
      sole_is_newest = λ b k h e. grind (arith, nat_tests);
      modified_owns = λ b k h e. grind (arith, nat_tests);
      newest_owner = λ k e h. grind (arith, nat_tests);
      chained = IsChained-end x.chain l o.chained
          (λ k e. sym (giver_after-reader k (newest_reads x a k o m.settles.clean u e)));
      holds_on = λ b h. rw is_overtaken-end (grind (arith, nat_tests));
      no_late_upgrade = rw has_late_upgrade-end (grind (arith, o.no_late_upgrade));
    }

-- whoever has the line Modified has no open request that is younger than another's: a write-back is older than
-- every other
owner_asks_nothing : (x : MemoryLine) (a : ℕ) (kind : Purpose) (owner : ℕ) → Ordered x → MayHand x a kind owner
    → (k : OpenRequest) → x.ask owner ≡ Some k → ⊥
owner_asks_nothing x a kind owner o m k e =
    let back : k.kind ≡ WriteBack = modified_suits k.kind (x.state owner) (o.suited owner k e) m.modified in
    let older = o.first owner a k _ e m.oldest.asked m.other back in
    let younger = m.oldest.oldest owner k e in
    absurd (omega arith)

pub Ordered-IsHanded : (x : MemoryLine) (a : ℕ) (kind : Purpose) (owner : ℕ) → Ordered x
    → MayHand x a kind owner → Ordered (effect x (IsHanded a kind owner))
unfolding effect settled linked given put
Ordered-IsHanded x a kind owner o m =
    let u : is_linked a x.chain ≡ false = o.apart a _ m.oldest.asked in
    let sole : is_sole (x.state owner) ≡ true = modified_is_sole _ m.modified in
    let l : Link = record { agent = a; kind = kind; giver = Some owner } in
    let end : newest (x.chain ++ l ∷ []) ≡ Some l = newest-end x.chain l in
    record {
      alone = λ b h c n. grind (
        arith,
        nat_tests,
        granted_alone kind true (x.state c),
        m.asks,
        snoop_not_sole,
        snoop_unheld,
      );
      suited = λ b k e. grind (
        arith,
        nat_tests,
        o.suited b k,
        o.alone owner sole b,
        owner_asks_nothing x a kind owner o m,
        unheld_unmodified,
        snoop_suits,
      );
      apart = λ b k e. rw is_linked-end (grind (arith, nat_tests, o.apart b k));
      first = λ b c j k e f. grind (arith, nat_tests, o.first b c j k);
      pending = λ d e. absurd (let h = (o.pending d e).nobody_sole owner in cc);
      sole_is_newest = λ b k h e. grind (arith, nat_tests, m.asks, snoop_not_sole);
      modified_owns = λ b k h e. grind (arith, nat_tests, m.asks, snoop_not_sole, modified_is_sole, granted_owns);
      newest_owner = λ k e h. grind (arith, nat_tests, granted_owns);
      chained = IsChained-end x.chain l o.chained
          (λ k e. giver_after-owner k owner (o.modified_owns owner k m.modified e) (o.sole_is_newest owner k sole e));
      holds_on = λ b h. rw is_overtaken-end (grind (arith, nat_tests, m.asks, o.holds_on b, snoop_held, snoop_unowned));
      no_late_upgrade = rw has_late_upgrade-end (grind (arith, o.no_late_upgrade, and_right));
    }
  where
    giver_after-owner : (k : Link) (owner : ℕ) → owns k ≡ true → k.agent ≡ owner → Some owner ≡ giver_after k
    giver_after-owner k owner h e = rw h (ap Some (sym e))

pub Ordered-IsWritten : (x : MemoryLine) (a : ℕ) → Ordered x → IsOldest x a WriteBack → Ordered (effect x (IsWritten a))
unfolding effect settled linked given put
Ordered-IsWritten x a o m =
    let u : is_linked a x.chain ≡ false = o.apart a _ m.asked in
    let modified : is_modified (x.state a) ≡ true = o.suited a _ m.asked in
    let sole : is_sole (x.state a) ≡ true = modified_is_sole _ modified in
    let empty : x.chain ≡ [] = sole_unlinked x a o sole u in
    let none : newest x.chain ≡ None = ap newest empty in
    let l : Link = record { agent = a; kind = WriteBack; giver = Some a } in
    let end : newest (x.chain ++ l ∷ []) ≡ Some l = newest-end x.chain l in
    record {
      alone = λ b h c n. grind (arith, nat_tests, o.alone a sole b, sole_is_held);
      suited = λ b k e. grind (arith, nat_tests, o.suited b k);
      apart = λ b k e. rw is_linked-end (grind (arith, nat_tests, o.apart b k));
      first = λ b c j k e f. grind (arith, nat_tests, o.first b c j k);
      pending = λ d e. absurd (let h = (o.pending d e).nobody_sole a in cc);
      sole_is_newest = λ b k h e. grind (arith, nat_tests, o.alone a sole b, sole_is_held);
      modified_owns = λ b k h e. grind (arith, nat_tests, o.alone a sole b, sole_is_held, modified_is_sole);
      newest_owner = λ k e h. grind (arith, nat_tests);
      chained = IsChained-end x.chain l o.chained (λ k e. absurd (cc));
      holds_on = λ b h. grind (arith, nat_tests, o.alone a sole b);
      no_late_upgrade = rw has_late_upgrade-end (grind (arith, o.no_late_upgrade, and_right));
    }

pub Ordered-IsLost : (x : MemoryLine) (a : ℕ) → Ordered x → MayLose x a → Ordered (effect x (IsLost a))
unfolding effect settled put
Ordered-IsLost x a o m =
    let lost : is_held (x.state a) ≡ false = m.lost in
    record {
      alone = λ b h c n. grind (arith, nat_tests);
      suited = λ b k e. grind (arith, nat_tests, o.suited b k, m.settles.clean b, snoop_suits);
      apart = λ b k e. grind (arith, nat_tests, o.apart b k);
      first = λ b c j k e f. grind (arith, nat_tests, o.first b c j k);
      pending = λ d e. let p = o.pending d e in record {
        gets = p.gets;
        no_ask = grind (arith, nat_tests, p.no_ask);
        no_link = p.no_link;
        nobody_sole = λ b. grind (arith, nat_tests);
        unshared = λ h b n. grind (arith, nat_tests);
        unseen = λ h b n. grind (arith, nat_tests);
      };
      sole_is_newest = λ b l h e. grind (arith, nat_tests);
      modified_owns = λ b l h e. grind (arith, nat_tests);
      newest_owner =
          λ l e h. grind (arith, nat_tests, o.newest_owner l e h, m.settles.clean l.agent, unheld_unmodified);
      chained = o.chained;
      holds_on = λ b h. grind (arith, nat_tests);
      no_late_upgrade = o.no_late_upgrade;
    }

pub Ordered-IsDeferred : (x : MemoryLine) (a : ℕ) (kind : Purpose) (shared : Bool) → Ordered x
    → MayGrant x a kind shared → Ordered (effect x (IsDeferred a kind shared))
unfolding effect settled put
Ordered-IsDeferred x a kind shared o m =
    let asked = m.settles.oldest.asked in
    let asks : asks_line kind ≡ true = gets_asks kind m.gets in
    let not_sole : is_sole (x.state a) ≡ false = asker_not_sole kind (x.state a) asks (o.suited a _ asked) in
    let u : is_linked a x.chain ≡ false = o.apart a _ asked in
    let y = effect x (IsDeferred a kind shared) in
    let this : LineDeferral = record { agent = a; kind = kind; shared = shared } in
    let p : IsPending y this = record {
      gets = m.gets;
      no_ask = grind (arith, nat_tests);
      no_link = u;
      nobody_sole = λ b. grind (arith, nat_tests, snoop_not_sole);
      unshared = λ h b n. grind (arith, nat_tests);
      unseen = λ h b n. grind (arith, nat_tests, m.unseen, snoop_unheld);
    } in
    record {
      alone = λ b h c n. grind (arith, nat_tests, snoop_not_sole);
      suited = λ b k e. grind (arith, nat_tests, o.suited b k, m.settles.clean b, snoop_suits);
      apart = λ b k e. grind (arith, nat_tests, o.apart b k);
      first = λ b c j k e f. grind (arith, nat_tests, o.first b c j k);
      pending = λ d e. let same : this ≡ d = cc in subst (λ d. IsPending y d) same p;
      sole_is_newest = λ b l h e. grind (arith, nat_tests, snoop_not_sole);
      modified_owns = λ b l h e. grind (arith, nat_tests, snoop_not_sole, modified_is_sole);
      newest_owner = λ l e h. grind (arith, nat_tests, o.newest_owner l e h, m.settles.clean l.agent);
      chained = o.chained;
      holds_on = λ b h. grind (arith, nat_tests, o.holds_on b, snoop_held);
      no_late_upgrade = o.no_late_upgrade;
    }

pub Ordered-IsReplied : (x : MemoryLine) (od : Option LineDeferral) → x.deferral ≡ od → is_some od ≡ true
    → Ordered x → Ordered (replied x od)
unfolding replied settled linked put
Ordered-IsReplied x None e h o = o
Ordered-IsReplied x (Some d) e h o =
    let p : IsPending x d = o.pending d e in
    let gets : gets_line d.kind ≡ true = p.gets in
    let l : Link = record { agent = d.agent; kind = d.kind; giver = None } in
    let end : newest (x.chain ++ l ∷ []) ≡ Some l = newest-end x.chain l in
    let clean : NobodyElseModified x d.agent =
    λ b n. false_from_ne_true (is_modified (x.state b)) (λ g. let f = p.nobody_sole b in
    let g = modified_is_sole (x.state b) g in cc) in
    record {
      alone = λ b h c n. grind (arith, nat_tests, p.nobody_sole b, p.unshared, p.unseen, granted_sole, gets_owns);
      suited = λ b k e. grind (arith, nat_tests, o.suited b k);
      apart = λ b k e. rw is_linked-end (grind (arith, nat_tests, o.apart b k));
      first = λ b c j k e f. grind (arith, nat_tests, o.first b c j k);
      pending = λ d e. absurd (cc);
      sole_is_newest = λ b k h e. grind (arith, nat_tests, p.nobody_sole b);
      modified_owns = λ b k h e. grind (arith, nat_tests, p.nobody_sole b, modified_is_sole, granted_owns);
      newest_owner = λ k e h. grind (arith, nat_tests, granted_owns);
      chained = IsChained-end x.chain l o.chained
          (λ k e. sym (giver_after-reader k (newest_reads x d.agent k o clean p.no_link e)));
      holds_on = λ b h. rw is_overtaken-end
          (grind (arith, nat_tests, o.holds_on b, p.unshared, gets_owns, false_from_ne_true));
      no_late_upgrade = rw has_late_upgrade-end (grind (arith, o.no_late_upgrade, gets_no_upgrade, and_right));
    }
