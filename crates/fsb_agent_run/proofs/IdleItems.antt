-- The next item behind a place of a script, and the clocks that are idled before it.
use Rattle.fsb_agent_run.proofs.Words
use Words.{ℕ, zero, suc, ◌+◌, ◌-◌, ◌<◌, ◌≤◌, ◌≡◌, Bool, true, false, not, List, [], ◌∷◌, length, drop, Option, Some}
use Words.{refl, ap, ◌∙◌, inl, inr, arith, zero-add, option_map_or, cases_lt, le-leb, lt-leb, length-drop, first_where}
use Words.{is_some_and, first_where-at, first_where-off, Item, One, Locked, Idle, idle_clocks, idle_count, is_idle}
use Words.{get-there, idle_clocks_in_front, idle_count_in_front, idle_from, is_idle_item, place_from, busy_from}
use Words.{place_of}
use Rattle.std.specs.List.{slice_get}

-- there is an item of this number, and it is not idle
abbrev pub is_busy : List Item → ℕ → Bool
is_busy items n = is_some_and (slice_get items n) (λ item. not (is_idle item))

-- the items that stand in front are idle, and are items of the list
front-idle : (items : List Item) (j : ℕ) → j < idle_count_in_front items → is_idle_item items j ≡ true
unfolding is_idle
front-idle [] j l = absurd (omega arith)
front-idle (One access ∷ items) j l = absurd (omega arith)
front-idle (Locked group ∷ items) j l = absurd (omega arith)
front-idle (Idle clocks ∷ items) zero l = refl
front-idle (Idle clocks ∷ items) (suc j) l = front-idle items j (omega arith)

front-within : (items : List Item) → idle_count_in_front items ≤ length items
front-within [] = omega arith
front-within (One access ∷ items) = omega arith
front-within (Locked group ∷ items) = omega arith
front-within (Idle clocks ∷ items) = let rest = front-within items in omega arith

-- an item behind the first ones
item-behind : (n j : ℕ) (items : List Item) → slice_get items (n + j) ≡ slice_get (drop n items) j
item-behind zero j items = ap (slice_get items) (zero-add j)
item-behind (suc n) j [] = refl
item-behind (suc n) j (item ∷ items) = grind (arith, item-behind n j items)

-- no item is both idle and busy, and one that is there is one of them
idle-not-busy : (o : Option Item) → option_map_or is_idle o false ≡ true
    → is_some_and o (λ item. not (is_idle item)) ≡ false
unfolding is_some_and
idle-not-busy o h1 = grind arith

there-busy : (o : Option Item) (item : Item) → o ≡ Some item → option_map_or is_idle o false ≡ false
    → is_some_and o (λ item. not (is_idle item)) ≡ true
unfolding is_some_and
there-busy o item h1 h2 = grind arith

-- the first number that passes, where none below k does, and from k on those of the busy items
pub next-from : (test : ℕ → Bool) (items : List Item) (k : ℕ) → k ≤ length items
    → ((n : ℕ) → n < k → test n ≡ false) → ((n : ℕ) → k ≤ n → test n ≡ is_busy items n)
    → place_of items (first_where test (length items)) ≡ place_from items k
next-from test items k l below from = elim (cases_lt (place_from items k) (length items)) [
  | inl within ↦
      let there = get-there items (place_from items k) within in
      let busy : test (place_from items k) ≡ true =
      from (place_from items k) (omega arith)
      ∙ there-busy (slice_get items (place_from items k)) there.0 there.1 (busy_from items k) in
      ap (place_of items) (first_where-at test (length items) (place_from items k) within busy quiet)
  | inr end ↦
      let last : length items ≡ place_from items k =
      (let front = front-within (drop k items) in let size = length-drop k items in omega arith) in
      ap (place_of items) (first_where-off test (length items) (λ n m. quiet n (omega arith))) ∙ last
]
  where
    behind : (n : ℕ) → k ≤ n → n < place_from items k → test n ≡ false
    behind n m early =
        let at : k + (n - k) ≡ n = omega arith in
        let item : slice_get items n ≡ slice_get (drop k items) (n - k) = grind (arith, item-behind) in
        from n m ∙ idle-not-busy (slice_get items n)
        (ap (λ o. option_map_or is_idle o false) item ∙ front-idle (drop k items) (n - k) (omega arith))

    quiet : (n : ℕ) → n < place_from items k → test n ≡ false
    quiet n early = elim (cases_lt n k) [ inl less ↦ below n less | inr more ↦ behind n more early ]

-- the clocks that the first items of a list idle together
abbrev idles_in : List Item → ℕ → ℕ
idles_in items zero = 0
idles_in items (suc j) = idles_in items j + option_map_or idle_count (slice_get items j) 0

idle-none : (items : List Item) (from n : ℕ) → n ≤ from → idle_clocks items from n ≡ 0
unfolding idle_clocks
idle-none items from zero l = refl
idle-none items from (suc n) l = rw (idle-none items from n (omega arith), lt-leb from n (omega arith)) refl

idle-behind : (items : List Item) (k j : ℕ) → idle_clocks items k (k + j) ≡ idles_in (drop k items) j
unfolding idle_clocks
idle-behind items k zero = grind (arith, idle-none)
idle-behind items k (suc j) =
    let at : k + suc j ≡ suc (k + j) = omega arith in
    let here : idle_clocks items k (suc (k + j))
    ≡ idle_clocks items k (k + j) + option_map_or idle_count (slice_get items (k + j)) 0 =
    rw (le-leb k (k + j) (omega arith)) refl in
    let rest = idle-behind items k j in
    let item = item-behind k j items in
    ap (idle_clocks items k) at ∙ here ∙ (λ i. rest i + option_map_or idle_count (item i) 0)

idles-more : (item : Item) (items : List Item) (j : ℕ)
    → idles_in (item ∷ items) (suc j) ≡ idle_count item + idles_in items j
idles-more item items zero = omega arith
idles-more item items (suc j) = let rest = idles-more item items j in omega arith

idles-front : (items : List Item) → idles_in items (idle_count_in_front items) ≡ idle_clocks_in_front items
unfolding idle_count
idles-front [] = refl
idles-front (One access ∷ items) = refl
idles-front (Locked group ∷ items) = refl
idles-front (Idle clocks ∷ items) = grind (arith, idles-more, idles-front items)

-- the clocks that are idled from an item on, before the first that is busy
pub idles-from : (items : List Item) (k : ℕ) → idle_clocks items k (place_from items k) ≡ idle_from items k
idles-from items k = idle-behind items k (idle_count_in_front (drop k items)) ∙ idles-front (drop k items)
