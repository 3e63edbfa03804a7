-- A want is a locked one exactly where the agent's next item is, and the want is no write-back.
use Rattle.fsb_agent_run.proofs.Words
use Words.{ℕ, zero, suc, ◌+◌, ◌≡◌, ◌&&◌, Bool, true, false, not, Option, Some, None, List, [], ◌∷◌, ◌++◌, map, drop}
use Words.{slice_get, if◌then◌else◌, refl, sym, ap, ◌∙◌, arith, find, list_all, option_map, option_map_or, Access, Item}
use Words.{One, Locked, Idle, AgentView, number_by, free_id_by, is_missing_by, kind_by, missing_by, victim_by, want_by}
use Words.{want_for_by, Want, is_some_and, Request, Past, Need, is_locked, items_of, locked_need, needs_after}
use Words.{needs_from, needs_of, next_item, next_number, plain_items, plain_need, window_from, request_of_kind, want_of}
use Words.{write_back_of, is_write_back, is_write_back_kind, place_of, IsViewAfterHit}
use Rattle.std.proofs.lemmas.Option.{slice_get_within}
use Rattle.fsb_timely.specs.BusLock.{wants_lock}
use Rattle.fsb_agent_run.proofs.WantsMade.{want-by}

-- the need is locked so
abbrev is_locked_so : Bool → Need → Bool
is_locked_so b need = if b then need.locked else not need.locked

all-both : (f : Need → Bool) (xs ys : List Need) → list_all f xs ≡ true → list_all f ys ≡ true
    → list_all f (xs ++ ys) ≡ true
all-both f [] ys h k = k
all-both f (x ∷ xs) ys h k = grind (arith, all-both f xs ys)

all-found : (f g : Need → Bool) (xs : List Need) (x : Need) → list_all f xs ≡ true → find g xs ≡ Some x → f x ≡ true
all-found f g [] x h e = absurd (let no : ⊥ = cc in no)
all-found f g (y ∷ ys) x h e = grind (arith, all-found f g ys x)

-- an item that is not locked has no locked need, and neither have the plain items
plain-after : (earlier : List ℕ) (item : Item) → is_locked item ≡ false
    → list_all (is_locked_so false) (needs_after earlier item) ≡ true
unfolding needs_after plain_need is_locked
plain-after earlier item h1 = grind arith

plain-from : (earlier : List ℕ) (n : ℕ) (items : List Item)
    → list_all (is_locked_so false) (needs_from earlier (plain_items n items)) ≡ true
unfolding needs_from plain_items is_locked
plain-from earlier zero items = refl
plain-from earlier (suc n) [] = refl
plain-from earlier (suc n) (One access ∷ items) =
    all-both (is_locked_so false) (needs_after earlier (One access))
    (needs_from (earlier ++ map (λ need. need.line) (needs_of (One access))) (plain_items n items))
    (plain-after earlier (One access) refl)
    (plain-from (earlier ++ map (λ need. need.line) (needs_of (One access))) n items)
plain-from earlier (suc n) (Locked group ∷ items) = refl
plain-from earlier (suc n) (Idle clocks ∷ items) = refl

locked-map : (earlier : List ℕ) (group rest : List Access)
    → list_all (is_locked_so true) (map (locked_need earlier group) rest) ≡ true
unfolding locked_need
locked-map earlier group [] = refl
locked-map earlier group (access ∷ rest) = locked-map earlier group rest

-- the needs of a window are locked as its first item is
pub window-locked : (ahead : ℕ) (item : Item) (items : List Item)
    → list_all (is_locked_so (is_locked item)) (needs_from [] (window_from ahead item items)) ≡ true
unfolding window_from needs_from needs_after is_locked
window-locked ahead item items = grind (arith, all-both, plain-after, plain-from, locked-map)

so-same : (b : Bool) (need : Need) → is_locked_so b need ≡ true → need.locked ≡ b
so-same b need h1 = grind arith

-- a need of a window that begins in a script is locked as the item there
need-locked : (ahead : ℕ) (items : List Item) (n : ℕ) (f : Need → Bool) (need : Need) (o : Option Item)
    → slice_get items n ≡ o
    → find f (needs_from [] (option_map_or (λ item. window_from ahead item (drop (n + 1) items)) o [])) ≡ Some need
    → (item : Item) × (o ≡ Some item) × (need.locked ≡ is_locked item)
unfolding needs_from
need-locked ahead items n f need None at e = absurd (let no : ⊥ = cc in no)
need-locked ahead items n f need (Some item) at e = (
  item,
  refl,
  so-same (is_locked item) need
      (all-found (is_locked_so (is_locked item)) f (needs_from [] (window_from ahead item (drop (n + 1) items))) need
      (window-locked ahead item (drop (n + 1) items)) e),
)

-- the item at the place of a view is the next item
next-there : (p : Past) (a c n : ℕ) (item : Item) (o : Option ℕ) → next_number p a c ≡ o → n ≡ place_of (items_of p a) o
    → slice_get (items_of p a) n ≡ Some item → next_item p a c ≡ Some item
unfolding next_item
next-there p a c n item o h1 h2 h3 = grind (arith, slice_get_within)

-- the want for a need, where this is the victim
abbrev want_with : AgentView → Need → Option ℕ → Want
want_with v need (Some victim) = record { request = write_back_of victim (free_id_by v); locked = false }
want_with v need None = record { request = request_of_kind (kind_by v need) need (free_id_by v); locked = need.locked }

-- a write-back is not locked, and another want is as the need
want-locked : (v : AgentView) (need : Need) (o : Option ℕ)
    → (want_with v need o).locked ≡ (need.locked && not (is_write_back_kind (want_with v need o).request.kind))
unfolding request_of_kind write_back_of is_write_back_kind
want-locked v need o = grind arith

silent-none : (v : AgentView) (c : ℕ) (want : Want) → want_by v c ≡ Some want
    → (need : Need) × (missing_by v c ≡ Some need) × (want_for_by v need ≡ want)
silent-none v c want e = grind arith

lock-told : (p : Past) (a c : ℕ) (item : Item) (request : Request) → next_item p a c ≡ Some item
    → want_of p a c ≡ Some request
    → wants_lock p a c ≡ (is_locked item && not (is_write_back_kind request.kind))
unfolding wants_lock is_write_back is_some_and
lock-told p a c item request e f = rw (e, f, wants_lock, is_write_back, is_some_and) refl

-- a want of a view after the hits
pub locked-by : (p : Past) (a c : ℕ) (w : AgentView) (want : Want) → IsViewAfterHit p a c w → want_by w c ≡ Some want
    → want.locked ≡ wants_lock p a c
locked-by p a c w want view e =
    let k = silent-none w c want e in
    let items = view.agent.items in
    let n = number_by w c in
    let there = need-locked w.ahead w.items n (is_missing_by w) k.0 (slice_get w.items n) refl k.1 in
    let at : slice_get (items_of p a) n ≡ Some there.0 = ap (λ xs. slice_get xs n) (sym items) ∙ there.1 in
    let next = next-there p a c n there.0 (next_number p a c) refl view.placed.item.item at in
    let told = sym (want-by p a c w view) ∙ ap (option_map (λ (want : Want). want.request)) e in
    ap (λ (want : Want). want.locked) (sym k.2) ∙ want-locked w k.0 (victim_by w k.0.line)
    ∙ (λ i. there.2 i && not (is_write_back_kind (k.2 i).request.kind))
    ∙ sym (lock-told p a c there.0 want.request next told)
