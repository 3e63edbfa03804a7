-- What an agent wants suits what it has, and lies in a cache set of which it has asked for no line.
use Rattle.fsb_tied.proofs.Words
use Words.{ℕ, ◌≡◌, ◌⊎◌, Bool, true, false, ◌&&◌, List, Option, Some, None, refl, inl, inr, arith, and_from, and_parts}
use Words.{both_ways, false_from_ne_true, not-true, Kind, Request, Purpose, is_write_back_kind, Owing, Past, holds_line}
use Words.{is_exclusive, is_rival, is_dirty, is_met, Need, is_asked_for, is_missing, is_same_set, kind_needed}
use Words.{may_upgrade, owed, request_of_kind, victim_of, want_for, want_of, write_back_of, find-passes, missing-parts}
use Words.{purpose_of, suits_holder}
use Rattle.fsb_line.specs.declared.purpose.Purpose.TheVariants as purposes
use Rattle.fsb_tied.proofs.Victims.{a-victim, exclusive-held, no-victim, not-asked, rival-set, same-set}

-- what an agent wants: it suits what the agent has of the line; no request that it has outstanding is for a line of the
-- set; and no rival of the line is dirty, unless it is the line itself that is
pub record IsWanting (p : Past) (a c : ℕ) (request : Request) : Type 0 where
  pub purpose : Purpose
  pub asks : purpose_of request.kind ≡ Some purpose
  pub suited : suits_holder p a request.line c purpose ≡ true
  pub apart : (line : ℕ) → is_same_set p request.line line ≡ true → is_asked_for (owed p a c) line ≡ false
  pub drops : ((line : ℕ) → is_rival p request.line line ≡ true → is_dirty p a line c ≡ false)
      ⊎ (is_dirty p a request.line c ≡ true)

not-own : (p : Past) (a c line : ℕ) → (holds_line p a line c && is_exclusive p a line c) ≡ false
    → is_exclusive p a line c ≡ false
not-own p a c line k = false_from_ne_true _ (λ t. both_ways _ k (and_from _ _ (exclusive-held p a line c t) t))

-- what is needed and missing suits what its agent has
suits-needed : (p : Past) (a c : ℕ) (need : Need) (alone up : Bool) → need.alone ≡ alone
    → may_upgrade p a c need.line ≡ up → is_met p a c need ≡ false
    → (purpose : Purpose) × (purpose_of (kind_needed p a c need) ≡ Some purpose)
    × (suits_holder p a need.line c purpose ≡ true)
unfolding kind_needed purpose_of suits_holder is_met
suits-needed p a c need false up e f g = grind arith
suits-needed p a c need true true e f g = grind (arith, not-own)
suits-needed p a c need true false e f g = grind (arith, not-own)

-- what is missing is not met
missing-unmet : (p : Past) (a c : ℕ) (owings : List Owing) (need : Need) → is_missing p a c owings need ≡ true
    → is_met p a c need ≡ false
unfolding is_missing
missing-unmet p a c owings need e = not-true _ (and_parts _ _ (and_parts _ _ e).0).0

want-for : (p : Past) (a c : ℕ) (need : Need) (o : Option ℕ) → victim_of p a c need.line ≡ o
    → is_missing p a c (owed p a c) need ≡ true → IsWanting p a c (want_for p a c (owed p a c) need)
unfolding want_for request_of_kind write_back_of purpose_of suits_holder
want-for p a c need None e missing =
    let unmet = missing-unmet p a c (owed p a c) need missing in
    let suits = suits-needed p a c need need.alone (may_upgrade p a c need.line) refl refl unmet in
    let set = (missing-parts p a c (owed p a c) need missing).1 in
    rw (e, want_for) (record {
      purpose = suits.0;
      asks = suits.1;
      suited = suits.2;
      apart = λ line s. not-asked p need.line line (owed p a c) set s;
      drops = inl (λ line rival. no-victim p a c need.line e line rival);
    })
want-for p a c need (Some victim) e missing =
    let v = a-victim p a c need.line victim e in
    let set = (missing-parts p a c (owed p a c) need missing).1 in
    rw (e, want_for) (record {
      purpose = purposes.WriteBack;
      asks = refl;
      suited = v.1;
      apart = λ line s.
          not-asked p need.line line (owed p a c) set
          (same-set p victim need.line line (rival-set p victim need.line v.0) s);
      drops = inr v.1;
    })

-- what an agent wants suits what it has
pub want-is : (p : Past) (a c : ℕ) (request : Request) → want_of p a c ≡ Some request → IsWanting p a c request
unfolding want_of
want-is p a c request e = grind (arith, find-passes, want-for)

-- a request that asks for a write-back is one
pub write-back-kind : (kind : Kind) → purpose_of kind ≡ Some purposes.WriteBack → is_write_back_kind kind ≡ true
unfolding purpose_of is_write_back_kind
write-back-kind kind h1 = grind arith
