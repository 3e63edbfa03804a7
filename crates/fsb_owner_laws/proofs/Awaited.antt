-- What agents may have of a line while one of them waits for the reply to its request.
use Rattle.std.proofs.Common.{ℕ, ◌<◌, ◌≡◌, Bool, true, false, ◌&&◌, ◌||◌, not, nat_eq, length, ◌⊎◌}
use Rattle.std.proofs.Common.{refl, sym, ap, ◌∙◌, arith, inl, inr, if◌then◌else◌}
use Rattle.std.specs.List.{list_any}
use Rattle.std.specs.Prelude.{slice_index_or}
use Rattle.std.proofs.lemmas.Bool.{and_parts, both_ways, cases_Bool, eq-eqb, eqb-true, false_from_ne_true, not-true}
use Rattle.std.proofs.lemmas.List.Folds.{list_any_at, list_any_none}
use Rattle.fsb_count.specs.Clocks.{each_where}
use Rattle.fsb_count.proofs.Interface.{each_where-at}
use Rattle.fsb_line.specs.declared.purpose.Purpose.{Purpose}
use Rattle.fsb_line.specs.declared.purpose.Purpose.TheVariants.{Own, Read, Upgrade, WriteBack}
use Rattle.fsb_line.specs.declared.purpose.Settled.{Settled}
use Rattle.fsb_line.specs.declared.purpose.Settled.TheVariants.{Deferred, Granted, Handed, Replied, Retried, Upgraded, Written}
use Rattle.fsb_line.specs.declared.state.Mesi.{Mesi}
use Rattle.fsb_line.specs.declared.state.Mesi.TheVariants.{Exclusive, Invalid, Modified, Shared}
use Rattle.fsb_line.specs.States.{after_other, after_snoop, asks_line, is_held, is_modified, is_sole, state_after}
use Rattle.fsb_owners.specs.Joint.{Joint, agents, alone, has_other_holder, has_other_owner, is_after_drops}
use Rattle.fsb_owners.specs.Joint.{is_after_snoop_end, is_after_stores}
use Rattle.fsb_owners.specs.Joint.{is_kept_or_dropped, is_same_state, state_at}
use Rattle.fsb_owners.specs.Possible.{fits_answer, may_ask}
use Rattle.fsb_owner_laws.specs.Losses.{fits_reply, has_other_sole}
use Rattle.fsb_owner_laws.proofs.Members.{below_four, state_then}
use Rattle.fsb_owner_laws.proofs.Quiet.{IsStore, drop_each, held_there, kept, same_states, store_parts}
use Rattle.fsb_owner_laws.proofs.StepLosses.{fits_end}

none_of : (a b c d : Bool) → (a && false || (b && false || (c && false || (d && false || false)))) ≡ false
none_of true true true true = refl
none_of true true true false = refl
none_of true true false true = refl
none_of true true false false = refl
none_of true false true true = refl
none_of true false true false = refl
none_of true false false true = refl
none_of true false false false = refl
none_of false true true true = refl
none_of false true true false = refl
none_of false true false true = refl
none_of false true false false = refl
none_of false false true true = refl
none_of false false true false = refl
none_of false false false true = refl
none_of false false false false = refl

without : (held hit hitm : Bool) → (if held then hit && not hitm else not hit && not hitm) ≡ true → hitm ≡ false
without held hit false e = refl
without true true true e = absurd (cc)
without true false true e = absurd (cc)
without false true true e = absurd (cc)
without false false true e = absurd (cc)

silent : (owner held : Bool)
    → (if owner then false && not false else (if held then false && not false else not false && not false)) ≡ true
    → held ≡ false
silent owner false e = refl
silent true true e = absurd (cc)
silent false true e = absurd (cc)

agent_is : (b : ℕ) → b < 4 → slice_index_or agents b 0 ≡ b
agent_is = below_four (λ b. slice_index_or agents b 0 ≡ b) refl refl refl refl

below_agents : (k d : ℕ) → k < length agents → slice_index_or agents k d < 4
below_agents k d l =
    below_four (λ k. (d : ℕ) → slice_index_or agents k d < 4) (λ d. omega arith) (λ d. omega arith) (λ d. omega arith) (λ d. omega arith) k l d

off_at : (test : ℕ → Bool) (asker b : ℕ) → (nat_eq b asker ≡ false → test b ≡ false) → (not (nat_eq b asker) && test b) ≡ false
off_at test asker b h =
    elim (cases_Bool (nat_eq b asker)) [
      | inl t ↦ rw t refl
      | inr f ↦ rw (f, h f) refl
    ]

-- the agent may not store
abbrev pub IsKeptOut : ℕ → Joint → Type 0
IsKeptOut a x = is_sole (state_at x a) ≡ false

-- the state of another agent, while a request of this kind with HIT# or without waits for its reply
abbrev pub suits_wait : Bool → Purpose → Mesi → Bool
suits_wait hit Read s = if hit then not (is_sole s) else not (is_held s)
suits_wait hit Own s = not (is_held s)
suits_wait hit Upgrade s = not (is_held s)
suits_wait hit WriteBack s = not (is_held s)

-- the agent waits for the reply: it may not store itself, and the others leave the line to it
pub record IsAwaited (hit : Bool) (a : ℕ) (kind : Purpose) (x : Joint) : Type 0 where
  pub own : IsKeptOut a x
  pub others : (b : ℕ) → b < 4 → nat_eq b a ≡ false → suits_wait hit kind (state_at x b) ≡ true

suits_none : (hit : Bool) (kind : Purpose) → suits_wait hit kind Invalid ≡ true
suits_none true Read = refl
suits_none false Read = refl
suits_none hit Own = refl
suits_none hit Upgrade = refl
suits_none hit WriteBack = refl

suits_sole : (hit : Bool) (kind : Purpose) (s : Mesi) → suits_wait hit kind s ≡ true → is_sole s ≡ false
suits_sole hit kind Invalid e = refl
suits_sole hit kind Shared e = refl
suits_sole true Read Exclusive e = absurd (cc)
suits_sole false Read Exclusive e = absurd (cc)
suits_sole hit Own Exclusive e = absurd (cc)
suits_sole hit Upgrade Exclusive e = absurd (cc)
suits_sole hit WriteBack Exclusive e = absurd (cc)
suits_sole true Read Modified e = absurd (cc)
suits_sole false Read Modified e = absurd (cc)
suits_sole hit Own Modified e = absurd (cc)
suits_sole hit Upgrade Modified e = absurd (cc)
suits_sole hit WriteBack Modified e = absurd (cc)

not_modified : (s : Mesi) → is_sole s ≡ false → is_modified s ≡ false
not_modified Invalid e = refl
not_modified Shared e = refl
not_modified Exclusive e = refl
not_modified Modified e = absurd (cc)

-- after another's snoop end nobody may store who could not before
snooped_out : (s : Mesi) (kind : Purpose) → is_sole s ≡ false → is_sole (after_snoop s kind) ≡ false
snooped_out Invalid Read e = refl
snooped_out Shared Read e = refl
snooped_out Exclusive Read e = refl
snooped_out Modified Read e = refl
snooped_out s Own e = refl
snooped_out s Upgrade e = refl
snooped_out s WriteBack e = e

pub kept_out : (s : Mesi) (kind : Purpose) (settled : Settled) → is_sole s ≡ false → is_sole (after_other s kind settled) ≡ false
kept_out s kind Granted e = snooped_out s kind e
kept_out s kind Handed e = snooped_out s kind e
kept_out s kind Upgraded e = snooped_out s kind e
kept_out s kind Retried e = snooped_out s kind e
kept_out s kind Deferred e = snooped_out s kind e
kept_out s kind Written e = snooped_out s kind e
kept_out s kind Replied e = e

snoop_suits : (hit : Bool) (k : Purpose) (s : Mesi) (kind : Purpose) → suits_wait hit k s ≡ true
    → suits_wait hit k (after_snoop s kind) ≡ true
snoop_suits hit k s WriteBack e = e
snoop_suits hit k s Own e = suits_none hit k
snoop_suits hit k s Upgrade e = suits_none hit k
snoop_suits hit k Invalid Read e = suits_none hit k
snoop_suits hit k Shared Read e = e
snoop_suits true Read Exclusive Read e = refl
snoop_suits true Read Modified Read e = refl
snoop_suits false Read Exclusive Read e = absurd (cc)
snoop_suits false Read Modified Read e = absurd (cc)
snoop_suits hit Own Exclusive Read e = absurd (cc)
snoop_suits hit Own Modified Read e = absurd (cc)
snoop_suits hit Upgrade Exclusive Read e = absurd (cc)
snoop_suits hit Upgrade Modified Read e = absurd (cc)
snoop_suits hit WriteBack Exclusive Read e = absurd (cc)
snoop_suits hit WriteBack Modified Read e = absurd (cc)

-- drops
drop_out : (may : Bool) (s t : Mesi) → is_kept_or_dropped may s t ≡ true → is_sole s ≡ false → is_sole t ≡ false
unfolding is_kept_or_dropped is_same_state
drop_out may s Invalid e f = refl
drop_out may s Shared e f = refl
drop_out true Invalid Exclusive e f = absurd (cc)
drop_out false Invalid Exclusive e f = absurd (cc)
drop_out true Shared Exclusive e f = absurd (cc)
drop_out false Shared Exclusive e f = absurd (cc)
drop_out may Exclusive Exclusive e f = absurd (cc)
drop_out may Modified Exclusive e f = absurd (cc)
drop_out true Invalid Modified e f = absurd (cc)
drop_out false Invalid Modified e f = absurd (cc)
drop_out true Shared Modified e f = absurd (cc)
drop_out false Shared Modified e f = absurd (cc)
drop_out may Exclusive Modified e f = absurd (cc)
drop_out may Modified Modified e f = absurd (cc)

drop_kept : (may : Bool) (s t : Mesi) → is_kept_or_dropped may s t ≡ true
    → (is_same_state s t ≡ true) ⊎ (is_same_state Invalid t ≡ true)
unfolding is_kept_or_dropped
drop_kept may s t e =
    elim (cases_Bool (is_same_state s t)) [
      | inl same ↦ inl same
      | inr other ↦ inr (and_parts (may && not (is_modified s)) (is_same_state Invalid t) (let h = rw other at e in h)).1
    ]

pub out_after_drops : (a : ℕ) → a < 4 → (may : ℕ → Bool) (x y : Joint) → IsKeptOut a x
    → is_after_drops may x y ≡ true → IsKeptOut a y
out_after_drops a l may x y h e =
    drop_out (may a) (state_at x a) (state_at y a) (each_where-at (kept may x y) 4 (drop_each may x y e) a l) h

suits_after_drop : (hit : Bool) (kind : Purpose) (may : Bool) (s t : Mesi) → is_kept_or_dropped may s t ≡ true
    → suits_wait hit kind s ≡ true → suits_wait hit kind t ≡ true
suits_after_drop hit kind may s t e f =
    elim (drop_kept may s t e) [
      | inl same ↦ ap (suits_wait hit kind) (sym (same_states s t same)) ∙ f
      | inr none ↦ ap (suits_wait hit kind) (sym (same_states Invalid t none)) ∙ suits_none hit kind
    ]

pub awaited_after_drops : (hit : Bool) (a : ℕ) (kind : Purpose) → a < 4 → (may : ℕ → Bool) (x y : Joint) → IsAwaited hit a kind x
    → is_after_drops may x y ≡ true → IsAwaited hit a kind y
awaited_after_drops hit a kind l may x y h e = record {
  own = out_after_drops a l may x y h.own e;
  others = λ b lb n. suits_after_drop hit kind (may b) (state_at x b) (state_at y b)
      (each_where-at (kept may x y) 4 (drop_each may x y e) b lb) (h.others b lb n);
}

-- stores
exclusive_there : (a : ℕ) → a < 4 → state_at (alone Exclusive a) a ≡ Exclusive
exclusive_there a l =
    same_states (state_at (alone Exclusive a) a) Exclusive
    (each_where-at (λ a. is_same_state (state_at (alone Exclusive a) a) Exclusive) 4 held_there a l)

none_elsewhere : each_where (λ a. each_where (λ b. nat_eq a b || is_same_state (state_at (alone Modified b) a) Invalid) 4) 4 ≡ true
unfolding each_where is_same_state state_at alone
none_elsewhere = refl

other_side : (a b : Bool) → (a || b) ≡ true → a ≡ false → b ≡ true
other_side a b e f = let h = rw f at e in h

invalid_elsewhere : (a b : ℕ) → a < 4 → b < 4 → nat_eq a b ≡ false → state_at (alone Modified b) a ≡ Invalid
invalid_elsewhere a b la lb n =
    same_states (state_at (alone Modified b) a) Invalid
    (other_side (nat_eq a b) (is_same_state (state_at (alone Modified b) a) Invalid)
    (each_where-at (λ b. nat_eq a b || is_same_state (state_at (alone Modified b) a) Invalid) 4
    (each_where-at (λ a. each_where (λ b. nat_eq a b || is_same_state (state_at (alone Modified b) a) Invalid) 4) 4 none_elsewhere a la) b lb) n)

stored_out : (ready : ℕ → Bool) (x y : Joint) (a b : ℕ) → a < 4 → IsKeptOut a x → IsStore ready x y b → IsKeptOut a y
stored_out ready x y a b l h k =
    elim (cases_Bool (nat_eq a b)) [
      | inl t ↦ absurd (both_ways (is_sole (state_at x a)) h
          (ap (λ j. is_sole (state_at j a)) k.from ∙ ap (λ n. is_sole (state_at (alone Exclusive b) n)) (eqb-true a b t)
          ∙ ap (λ s. is_sole s) (exclusive_there b k.agent)))
      | inr f ↦ ap (λ j. is_sole (state_at j a)) k.to ∙ ap (λ s. is_sole s) (invalid_elsewhere a b l k.agent f)
    ]

pub out_after_stores : (a : ℕ) → a < 4 → (ready : ℕ → Bool) (x y : Joint) → IsKeptOut a x
    → is_after_stores ready x y ≡ true → IsKeptOut a y
out_after_stores a l ready x y h e =
    elim (store_parts ready x y e) [
      | inl same ↦ rw same at h
      | inr k ↦ stored_out ready x y a k.0 l h k.1
    ]

no_store : (hit : Bool) (kind : Purpose) (ready : ℕ → Bool) (x y : Joint) (a b : ℕ) → IsAwaited hit a kind x
    → IsStore ready x y b → ⊥
no_store hit kind ready x y a b h k =
    let there : is_sole (state_at x b) ≡ true =
    ap (λ j. is_sole (state_at j b)) k.from ∙ ap (λ s. is_sole s) (exclusive_there b k.agent) in
    elim (cases_Bool (nat_eq b a)) [
      | inl t ↦ both_ways (is_sole (state_at x b)) (ap (λ n. is_sole (state_at x n)) (eqb-true b a t) ∙ h.own) there
      | inr f ↦ both_ways (is_sole (state_at x b)) (suits_sole hit kind (state_at x b) (h.others b k.agent f)) there
    ]

pub awaited_after_stores : (hit : Bool) (a : ℕ) (kind : Purpose) → (ready : ℕ → Bool) (x y : Joint) → IsAwaited hit a kind x
    → is_after_stores ready x y ≡ true → IsAwaited hit a kind y
awaited_after_stores hit a kind ready x y h e =
    elim (store_parts ready x y e) [
      | inl same ↦ rw same at h
      | inr k ↦ absurd (no_store hit kind ready x y a k.0 h k.1)
    ]

-- snoop ends of others
pub out_after_end : (asker : ℕ) (kind : Purpose) (settled : Settled) (shared : Bool) (a : ℕ) → a < 4 → nat_eq a asker ≡ false
    → (x y : Joint) → IsKeptOut a x → is_after_snoop_end asker kind settled shared x y ≡ true → IsKeptOut a y
out_after_end asker kind settled shared a l n x y h e =
    ap (λ s. is_sole s) (state_then asker kind settled shared x y a l e ∙ ap (λ m. state_after (state_at x a) m kind settled shared) n)
    ∙ kept_out (state_at x a) kind settled h

turned_suits : (hit : Bool) (k : Purpose) (s : Mesi) (mine : Bool) (kind : Purpose) (shared : Bool) → suits_wait hit k s ≡ true
    → suits_wait hit k (state_after s mine kind Retried shared) ≡ true
turned_suits hit k s true kind shared e = e
turned_suits hit k s false kind shared e = snoop_suits hit k s kind e

-- of one that is to be made again or answered later
pub awaited_after_turn : (asker : ℕ) (kind : Purpose) (shared hit : Bool) (a : ℕ) (k : Purpose) → a < 4 → nat_eq a asker ≡ false
    → (x y : Joint) → IsAwaited hit a k x → is_after_snoop_end asker kind Retried shared x y ≡ true → IsAwaited hit a k y
awaited_after_turn asker kind shared hit a k l n x y h e = record {
  own = out_after_end asker kind Retried shared a l n x y h.own e;
  others = λ b lb m. ap (suits_wait hit k) (state_then asker kind Retried shared x y b lb e)
      ∙ turned_suits hit k (state_at x b) (nat_eq b asker) kind shared (h.others b lb m);
}

written_suits : (hit : Bool) (k : Purpose) (s : Mesi) (mine shared : Bool) → suits_wait hit k s ≡ true
    → suits_wait hit k (state_after s mine WriteBack Replied shared) ≡ true
written_suits hit k s true shared e = suits_none hit k
written_suits hit k s false shared e = e

-- of a reply to a write-back
pub awaited_after_written : (asker : ℕ) (shared hit : Bool) (a : ℕ) (k : Purpose) → a < 4 → nat_eq a asker ≡ false
    → (x y : Joint) → IsAwaited hit a k x → is_after_snoop_end asker WriteBack Replied shared x y ≡ true → IsAwaited hit a k y
awaited_after_written asker shared hit a k l n x y h e = record {
  own = out_after_end asker WriteBack Replied shared a l n x y h.own e;
  others = λ b lb m. ap (suits_wait hit k) (state_then asker WriteBack Replied shared x y b lb e)
      ∙ written_suits hit k (state_at x b) (nat_eq b asker) shared (h.others b lb m);
}

-- no agent has the line Modified meanwhile
unmodified : (hit : Bool) (a : ℕ) (k : Purpose) (x : Joint) → IsAwaited hit a k x → (b : ℕ) → b < 4
    → is_modified (state_at x b) ≡ false
unmodified hit a k x h b l =
    elim (cases_Bool (nat_eq b a)) [
      | inl t ↦ ap (λ n. is_modified (state_at x n)) (eqb-true b a t) ∙ not_modified (state_at x a) h.own
      | inr f ↦ not_modified (state_at x b) (suits_sole hit k (state_at x b) (h.others b l f))
    ]

no_owner : (asker : ℕ) (x : Joint) → ((b : ℕ) → b < 4 → is_modified (state_at x b) ≡ false) → has_other_owner asker x ≡ false
unfolding has_other_owner
no_owner asker x h = rw (h 0 (omega arith), h 1 (omega arith), h 2 (omega arith), h 3 (omega arith)) (none_of (not (nat_eq 0 asker)) (not (nat_eq 1 asker)) (not (nat_eq 2 asker)) (not (nat_eq 3 asker)))

quiet_answer : (hit hitm : Bool) (asker : ℕ) (x : Joint) → has_other_owner asker x ≡ false → fits_answer hit hitm asker x ≡ true
    → hitm ≡ false
unfolding fits_answer
quiet_answer hit hitm asker x n e = without (has_other_holder asker x) hit hitm (let h = rw n at e in h)

-- so HITM# fits no snoop end, nor does a write-back
pub waits_fit : (hit shared hitm : Bool) (asker a : ℕ) (k kind : Purpose) (x : Joint) → asker < 4 → IsAwaited hit a k x
    → fits_end shared hitm asker kind x ≡ true → (hitm ≡ false) × (asks_line kind ≡ true)
unfolding fits_end
waits_fit hit shared hitm asker a k Read x l h e =
    (quiet_answer shared hitm asker x (no_owner asker x (unmodified hit a k x h)) e, refl)
waits_fit hit shared hitm asker a k Own x l h e =
    (quiet_answer shared hitm asker x (no_owner asker x (unmodified hit a k x h)) e, refl)
waits_fit hit shared hitm asker a k Upgrade x l h e =
    (quiet_answer shared hitm asker x (no_owner asker x (unmodified hit a k x h)) e, refl)
waits_fit hit shared hitm asker a k WriteBack x l h e =
    absurd (both_ways (is_modified (state_at x asker)) (unmodified hit a k x h asker l) e)

-- the snoop end of the request itself, with DEFER# and without HITM#
no_holder : (asker : ℕ) (x : Joint) → has_other_holder asker x ≡ false → (b : ℕ) → b < 4 → nat_eq b asker ≡ false
    → is_held (state_at x b) ≡ false
unfolding has_other_holder
no_holder asker x e b l n =
    false_from_ne_true (is_held (state_at x b)) (λ t.
    both_ways (list_any (λ a. not (nat_eq a asker) && is_held (state_at x a)) agents) e
    (list_any_at (λ a. not (nat_eq a asker) && is_held (state_at x a)) agents b 0 l
    (ap (λ m. not (nat_eq m asker) && is_held (state_at x m)) (agent_is b l) ∙ rw (n, t) refl)))

unheld_then : (s : Mesi) → is_held s ≡ false → is_held (after_snoop s Read) ≡ false
unheld_then Invalid e = refl
unheld_then Shared e = absurd (cc)
unheld_then Exclusive e = absurd (cc)
unheld_then Modified e = absurd (cc)

read_kept_out : (s : Mesi) → is_sole (after_snoop s Read) ≡ false
read_kept_out Invalid = refl
read_kept_out Shared = refl
read_kept_out Exclusive = refl
read_kept_out Modified = refl

without_hit : (asker : ℕ) (x : Joint) → fits_answer false false asker x ≡ true → has_other_holder asker x ≡ false
unfolding fits_answer
without_hit asker x e = silent (has_other_owner asker x) (has_other_holder asker x) e

begins_wait : (hit : Bool) (asker : ℕ) (kind : Purpose) (x : Joint) (b : ℕ) → asks_line kind ≡ true
    → fits_end hit false asker kind x ≡ true
    → b < 4 → nat_eq b asker ≡ false → suits_wait hit kind (after_snoop (state_at x b) kind) ≡ true
unfolding fits_end
begins_wait true asker Read x b t e l n = ap not (read_kept_out (state_at x b))
begins_wait false asker Read x b t e l n =
    ap not (unheld_then (state_at x b) (no_holder asker x (without_hit asker x e) b l n))
begins_wait hit asker Own x b t e l n = refl
begins_wait hit asker Upgrade x b t e l n = refl
begins_wait hit asker WriteBack x b t e l n = absurd (cc)

pub awaited_from : (hit : Bool) (asker : ℕ) (kind : Purpose) → asker < 4 → asks_line kind ≡ true
    → (x y : Joint) → IsKeptOut asker x → fits_end hit false asker kind x ≡ true
    → is_after_snoop_end asker kind Retried hit x y ≡ true → IsAwaited hit asker kind y
awaited_from hit asker kind l t x y h f e = record {
  own = ap (λ s. is_sole s) (state_then asker kind Retried hit x y asker l e
      ∙ ap (λ m. state_after (state_at x asker) m kind Retried hit) (eq-eqb asker asker refl)) ∙ h;
  others = λ b lb n. ap (suits_wait hit kind) (state_then asker kind Retried hit x y b lb e
      ∙ ap (λ m. state_after (state_at x b) m kind Retried hit) n) ∙ begins_wait hit asker kind x b t f lb n;
}

-- the reply then fits
no_sole : (asker : ℕ) (x : Joint) → ((b : ℕ) → b < 4 → nat_eq b asker ≡ false → is_sole (state_at x b) ≡ false)
    → has_other_sole asker x ≡ false
unfolding has_other_sole
no_sole asker x h = list_any_none (λ a. not (nat_eq a asker) && is_sole (state_at x a)) agents
    (λ k d l. off_at (λ a. is_sole (state_at x a)) asker (slice_index_or agents k d) (h (slice_index_or agents k d) (below_agents k d l)))

no_held : (asker : ℕ) (x : Joint) → ((b : ℕ) → b < 4 → nat_eq b asker ≡ false → is_held (state_at x b) ≡ false)
    → has_other_holder asker x ≡ false
unfolding has_other_holder
no_held asker x h = list_any_none (λ a. not (nat_eq a asker) && is_held (state_at x a)) agents
    (λ k d l. off_at (λ a. is_held (state_at x a)) asker (slice_index_or agents k d) (h (slice_index_or agents k d) (below_agents k d l)))

pub reply_fits : (hit : Bool) (asker : ℕ) (kind : Purpose) (x : Joint) → asks_line kind ≡ true → IsAwaited hit asker kind x
    → fits_reply hit asker kind x ≡ true
unfolding fits_reply
reply_fits true asker Read x t h =
    ap not (no_sole asker x (λ b l n. not-true (is_sole (state_at x b)) (h.others b l n)))
reply_fits false asker Read x t h =
    ap not (no_held asker x (λ b l n. not-true (is_held (state_at x b)) (h.others b l n)))
reply_fits hit asker Own x t h =
    ap not (no_held asker x (λ b l n. not-true (is_held (state_at x b)) (h.others b l n)))
reply_fits hit asker Upgrade x t h =
    ap not (no_held asker x (λ b l n. not-true (is_held (state_at x b)) (h.others b l n)))
reply_fits hit asker WriteBack x t h = absurd (cc)

-- an agent that asks may not store
pub asks_out : (kind : Purpose) (s : Mesi) → asks_line kind ≡ true → may_ask kind s ≡ true → is_sole s ≡ false
unfolding may_ask
asks_out kind Invalid t e = refl
asks_out kind Shared t e = refl
asks_out Read Exclusive t e = absurd (cc)
asks_out Own Exclusive t e = absurd (cc)
asks_out Upgrade Exclusive t e = absurd (cc)
asks_out WriteBack Exclusive t e = absurd (cc)
asks_out Read Modified t e = absurd (cc)
asks_out Own Modified t e = absurd (cc)
asks_out Upgrade Modified t e = absurd (cc)
asks_out WriteBack Modified t e = absurd (cc)
