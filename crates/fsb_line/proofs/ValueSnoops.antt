-- The outcomes of a snoop end that make links, and a deferred reply, keep the bytes of a line.
use Rattle.std.proofs.Common.{◌≡◌, ℕ, Bool, true, false, inl, inr, Option, Some, None, is_some, List, [], ◌∷◌, ◌++◌}
use Rattle.std.proofs.Common.{refl, ap, subst, arith}
use Rattle.std.proofs.lemmas.Bool.{false_from_ne_true, and_right, true_from_ne_false}
use Rattle.std.proofs.lemmas.Bool.Decides.{nat_tests}
use Rattle.fsb_line.specs.Coherence.{IsPending, Ordered, Valued}
use Rattle.fsb_line.specs.Events.{IsOldest, MayGrant, MayHand, MayUpgrade, effect, given, linked, replied, settled}
use Rattle.fsb_line.specs.Events.Event.{IsGranted, IsHanded, IsUpgraded, IsWritten}
use Rattle.fsb_line.specs.Line.{LineDeferral, MemoryLine, has_copy, source}
use Rattle.fsb_line.specs.Links.{is_linked}
use Rattle.fsb_line.specs.States.{asks_line, is_modified, is_sole}
use Rattle.fsb_line.specs.declared.purpose.Purpose.{Purpose}
use Rattle.fsb_line.specs.declared.purpose.Purpose.TheVariants.{Upgrade, WriteBack}
use Rattle.fsb_line.specs.declared.link.Link.{Link}
use Rattle.fsb_line.proofs.LinkFacts.{end_not_empty, end_oldest, has_won-end, is_linked-end, won_is_linked}
use Rattle.fsb_line.proofs.OrderHits.{sole_unlinked}
use Rattle.fsb_line.proofs.StateFacts.{asker_not_sole, gets_asks, gets_no_upgrade, modified_is_sole, snoop_held}
use Rattle.fsb_line.proofs.StateFacts.{sole_is_held}
use Rattle.fsb_line.proofs.Values.{ready_has_copy}

not_sole_unmodified : (x : MemoryLine) (a : ℕ) → is_sole (x.state a) ≡ false → is_modified (x.state a) ≡ false
not_sole_unmodified x a h = false_from_ne_true (is_modified (x.state a))
    (λ g. let f = modified_is_sole (x.state a) g in cc)

pub Valued-IsGranted : (x : MemoryLine) (a : ℕ) (kind : Purpose) (shared : Bool) → Ordered x → Valued x
    → MayGrant x a kind shared → Valued (effect x (IsGranted a kind shared))
unfolding effect settled linked
Valued-IsGranted x a kind shared o v m =
    let asked = m.settles.oldest.asked in
    let u : is_linked a x.chain ≡ false = o.apart a _ asked in
    let asks : asks_line kind ≡ true = gets_asks kind m.gets in
    let clean : is_modified (x.state a) ≡ false =
    not_sole_unmodified x a (asker_not_sole kind (x.state a) asks (o.suited a _ asked)) in
    let l : Link = record { agent = a; kind = kind; giver = None } in
    record {
      copies = λ b h. v.copies b (let h = rw (has_won-end, is_linked-end) at h in
          grind (arith, nat_tests, snoop_held, gets_no_upgrade, won_is_linked));
      rests = λ f g. absurd (end_not_empty x.chain l f);
      oldest = λ k ks f. elim (end_oldest x.chain l k ks f) [
        | inl p ↦ let e = v.rests p.0 (λ b. grind (arith, nat_tests, m.settles.clean b)) in rw (← p.1) (ap Some e)
        | inr p ↦ v.oldest k p.0 p.1
      ];
      carried = v.carried;
      quiet = λ f. absurd (end_not_empty x.chain l f);
    }

pub Valued-IsUpgraded : (x : MemoryLine) (a : ℕ) → Ordered x → Valued x → MayUpgrade x a
    → Valued (effect x (IsUpgraded a))
unfolding effect settled linked
Valued-IsUpgraded x a o v m =
    let asked = m.settles.oldest.asked in
    let u : is_linked a x.chain ≡ false = o.apart a _ asked in
    let clean : is_modified (x.state a) ≡ false =
    not_sole_unmodified x a (asker_not_sole Upgrade (x.state a) refl (o.suited a _ asked)) in
    let l : Link = record { agent = a; kind = Upgrade; giver = None } in
    let own : has_copy x a ≡ true = ready_has_copy x a m.held u in
    record {
      copies = λ b h. v.copies b (let h = rw (has_won-end, is_linked-end) at h in grind (arith, nat_tests, own));
      rests = λ f g. absurd (end_not_empty x.chain l f);
      oldest = λ k ks f. elim (end_oldest x.chain l k ks f) [
        | inl p ↦ let e = v.rests p.0 (λ b. grind (arith, nat_tests, m.settles.clean b)) in rw (← p.1) (ap Some e)
        | inr p ↦ v.oldest k p.0 p.1
      ];
      carried = v.carried;
      quiet = λ f. absurd (end_not_empty x.chain l f);
    }

-- the source of the oldest link after a new one is handed over: the owner has given, or what was given before stays
oldest_given : (x : MemoryLine) (owner : ℕ) (l k : Link) (ks : List Link) → Ordered x → Valued x
    → is_sole (x.state owner) ≡ true → l.giver ≡ Some owner → x.chain ++ l ∷ [] ≡ k ∷ ks
    → source (given x owner) k ≡ Some x.now
unfolding given
oldest_given x owner l k ks o v sole giver f =
    elim (end_oldest x.chain l k ks f) [
      | inl p ↦
          let unlinked : is_linked owner x.chain ≡ false = ap (is_linked owner) p.0 in
          let e = v.copies owner (ready_has_copy x owner (sole_is_held (x.state owner) sole) unlinked) in
          let g : k.giver ≡ Some owner = subst (λ m. m.giver ≡ Some owner) p.1 giver in
          rw (g, unlinked) (ap Some e)
      | inr p ↦
          let awaits : is_linked owner x.chain ≡ true =
          true_from_ne_false (is_linked owner x.chain) (λ u. let empty = sole_unlinked x owner o sole u in
          let q = p.1 in cc) in
          rw awaits (v.oldest k p.0 p.1)
    ]

pub Valued-IsHanded : (x : MemoryLine) (a : ℕ) (kind : Purpose) (owner : ℕ) → Ordered x → Valued x
    → MayHand x a kind owner → Valued (effect x (IsHanded a kind owner))
unfolding effect settled linked given
Valued-IsHanded x a kind owner o v m =
    let u : is_linked a x.chain ≡ false = o.apart a _ m.oldest.asked in
    let sole : is_sole (x.state owner) ≡ true = modified_is_sole _ m.modified in
    let l : Link = record { agent = a; kind = kind; giver = Some owner } in
    record {
      copies = λ b h. v.copies b (let h = rw (has_won-end, is_linked-end) at h in
          grind (arith, nat_tests, snoop_held, and_right, won_is_linked));
      rests = λ f g. absurd (end_not_empty x.chain l f);
      oldest = λ k ks f. unfold given in oldest_given x owner l k ks o v sole refl f;
      carried = v.carried;
      quiet = λ f. absurd (end_not_empty x.chain l f);
    }

pub Valued-IsWritten : (x : MemoryLine) (a : ℕ) → Ordered x → Valued x → IsOldest x a WriteBack
    → Valued (effect x (IsWritten a))
unfolding effect settled linked given
Valued-IsWritten x a o v m =
    let u : is_linked a x.chain ≡ false = o.apart a _ m.asked in
    let sole : is_sole (x.state a) ≡ true = modified_is_sole _ (o.suited a _ m.asked) in
    let l : Link = record { agent = a; kind = WriteBack; giver = Some a } in
    record {
      copies = λ b h. v.copies b (let h = rw (has_won-end, is_linked-end) at h in
          grind (arith, nat_tests, snoop_held, and_right, won_is_linked));
      rests = λ f g. absurd (end_not_empty x.chain l f);
      oldest = λ k ks f. unfold given in oldest_given x a l k ks o v sole refl f;
      carried = v.carried;
      quiet = λ f. absurd (end_not_empty x.chain l f);
    }

pub Valued-IsReplied : (x : MemoryLine) (od : Option LineDeferral) → x.deferral ≡ od → is_some od ≡ true
    → Ordered x → Valued x → Valued (replied x od)
unfolding replied settled linked
Valued-IsReplied x None e h o v = v
Valued-IsReplied x (Some d) e h o v =
    let p : IsPending x d = o.pending d e in
    let l : Link = record { agent = d.agent; kind = d.kind; giver = None } in
    record {
      copies = λ b h. v.copies b (let h = rw (has_won-end, is_linked-end) at h in let u = p.no_link in
          let q = gets_no_upgrade d.kind p.gets in grind (arith, nat_tests, won_is_linked));
      rests = λ f g. absurd (end_not_empty x.chain l f);
      oldest = λ k ks f. elim (end_oldest x.chain l k ks f) [
        | inl q ↦ let e = v.rests q.0 (λ b. not_sole_unmodified x b (p.nobody_sole b)) in rw (← q.1) (ap Some e)
        | inr q ↦ v.oldest k q.0 q.1
      ];
      carried = v.carried;
      quiet = λ f. absurd (end_not_empty x.chain l f);
    }
