-- What begins in a run whose plan keeps the bounds of a bench file is a lawful request.
use Rattle.fsb_lawful.proofs.Words
use Words.{ℕ, zero, suc, ◌-◌, ◌^◌, ◌≡◌, Bool, true, false, ◌&&◌, List, [], ◌∷◌, ◌++◌, map, Option, Some, drop, nat_lt}
use Words.{refl, arith, if◌then◌else◌, filter, filter_map, find, list_all, option_map_or, and_from, and_parts, Item}
use Words.{is_lawful_item, Need, first_chunk, is_locked, locked_need, needs_after, needs_from, needs_of, plain_items}
use Words.{plain_need, window_from}
use Rattle.std.proofs.Common.{slice_get}
use Rattle.fsb_access.specs.declared.access.Access.{Access}
use Rattle.fsb_access.specs.declared.item.Item.TheVariants.{One, Locked, Idle}
use Rattle.fsb_access.specs.Access.{accessed_line, addr_of, chunk_of, is_lawful_access}

-- the line and the chunk of a need have their bits
abbrev pub is_fit : Need → Bool
is_fit need = nat_lt need.line (2 ^ 31) && nat_lt need.chunk 4

-- an access lies below 2^36
abbrev pub is_low : Access → Bool
is_low access = nat_lt (addr_of access) (2 ^ 36)

low-access : (access : Access) → is_lawful_access access ≡ true → is_low access ≡ true
low-access access h1 = grind arith

line-fits : (access : Access) → is_low access ≡ true → nat_lt (accessed_line access) (2 ^ 31) ≡ true
line-fits access e = grind arith

chunk-if : (o : Option Access) → nat_lt (option_map_or chunk_of o 0) 4 ≡ true
chunk-if o = grind arith

all-append : {X : Type 0} (f : X → Bool) (xs ys : List X) → list_all f xs ≡ true → list_all f ys ≡ true
    → list_all f (xs ++ ys) ≡ true
all-append f [] ys e g = g
all-append f (x ∷ xs) ys e g = grind (arith, all-append f xs ys)

pub all-drop : {X : Type 0} (f : X → Bool) (n : ℕ) (xs : List X) → list_all f xs ≡ true
    → list_all f (drop n xs) ≡ true
all-drop f zero xs e = e
all-drop f (suc n) [] e = refl
all-drop f (suc n) (x ∷ xs) e = all-drop f n xs (and_parts (f x) (list_all f xs) e).1

pub all-filter : {X : Type 0} (f g : X → Bool) (xs : List X) → list_all f xs ≡ true
    → list_all f (filter g xs) ≡ true
all-filter f g [] e = refl
all-filter f g (x ∷ xs) e = grind (arith, all-filter f g xs)

pub all-given : {X Y : Type 0} (f : Y → Bool) (g : X → Option Y) (xs : List X)
    → ((x : X) (y : Y) → g x ≡ Some y → f y ≡ true) → list_all f (filter_map g xs) ≡ true
all-given f g [] h = refl
all-given {Y = Y} f g (x ∷ xs) h = step (g x) refl (all-given f g xs h)
  where
    step : (o : Option Y) → g x ≡ o → list_all f (filter_map g xs) ≡ true → list_all f (filter_map g (x ∷ xs)) ≡ true
    step o h1 h2 = grind arith

pub all-at : {X : Type 0} (f : X → Bool) (xs : List X) (k : ℕ) (x : X) → list_all f xs ≡ true
    → slice_get xs k ≡ Some x → f x ≡ true
all-at f [] k x e g = absurd (let no : ⊥ = cc in no)
all-at f (y ∷ xs) zero x e g = grind arith
all-at f (y ∷ xs) (suc k) x e g = all-at f xs k x (and_parts (f y) (list_all f xs) e).1 g

pub all-found : {X : Type 0} (f g : X → Bool) (xs : List X) (x : X) → list_all f xs ≡ true → find g xs ≡ Some x
    → f x ≡ true
all-found f g [] x e h = absurd (let no : ⊥ = cc in no)
all-found f g (y ∷ xs) x e h = grind (arith, all-found f g xs x)

-- the needs of an item fit
locked-fit : (earlier : List ℕ) (group accesses : List Access) → list_all is_lawful_access accesses ≡ true
    → list_all is_fit (map (locked_need earlier group) accesses) ≡ true
unfolding locked_need first_chunk
locked-fit earlier group [] e = refl
locked-fit earlier group (access ∷ accesses) e =
    grind (arith, and_parts, and_from, line-fits, low-access, chunk-if, locked-fit earlier group accesses)

needs-fit : (earlier : List ℕ) (cache : ℕ) (item : Item) → is_lawful_item cache item ≡ true
    → list_all is_fit (needs_after earlier item) ≡ true
unfolding needs_after plain_need
needs-fit earlier cache item h1 = grind (arith, locked-fit)

-- those of a window do
pub window-fits : (earlier : List ℕ) (cache : ℕ) (items : List Item)
    → list_all (is_lawful_item cache) items ≡ true → list_all is_fit (needs_from earlier items) ≡ true
unfolding needs_from
window-fits earlier cache [] e = refl
window-fits earlier cache (item ∷ items) e =
    let a = and_parts (is_lawful_item cache item) (list_all (is_lawful_item cache) items) e in
    all-append is_fit (needs_after earlier item)
    (needs_from (earlier ++ map (λ need. need.line) (needs_of item)) items)
    (needs-fit earlier cache item a.0)
    (window-fits (earlier ++ map (λ need. need.line) (needs_of item)) cache items a.1)

-- the items of a window are items of the script
plain-lawful : (cache n : ℕ) (items : List Item) → list_all (is_lawful_item cache) items ≡ true
    → list_all (is_lawful_item cache) (plain_items n items) ≡ true
unfolding plain_items
plain-lawful cache zero items e = refl
plain-lawful cache (suc n) [] e = refl
plain-lawful cache (suc n) (One access ∷ items) e = grind (arith, plain-lawful cache n items)
plain-lawful cache (suc n) (Locked group ∷ items) e = refl
plain-lawful cache (suc n) (Idle clocks ∷ items) e = refl

pub window-lawful : (cache ahead : ℕ) (item : Item) (items : List Item) → is_lawful_item cache item ≡ true
    → list_all (is_lawful_item cache) items ≡ true
    → list_all (is_lawful_item cache) (window_from ahead item items) ≡ true
unfolding window_from
window-lawful cache ahead item items e f = and_from (is_lawful_item cache item) _ e (rest (is_locked item))
  where
    rest : (b : Bool) → list_all (is_lawful_item cache) (if b then [] else plain_items (ahead - 1) items) ≡ true
    rest true = refl
    rest false = plain-lawful cache (ahead - 1) items f
