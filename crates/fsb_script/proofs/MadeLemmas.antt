-- A plan that the generator makes keeps the bounds of a plan.
use Rattle.std.proofs.Common.{◌≡◌, ℕ, zero, suc, ◌+◌, ◌*◌, ◌/◌, ◌%◌, ◌^◌, ◌<◌, ◌≤◌, Bool, true, false, cond, [], ◌∷◌}
use Rattle.std.proofs.Common.{length, Option, Some, None, refl, ◌∙◌, arith, lit<, length-append, IsTrue}
use Rattle.std.specs.Prelude.{◌&&◌, nat_lt, nat_le, nat_eq, ◌==◌}
use Rattle.std.specs.List.{list_all}
use Rattle.std.proofs.lemmas.Bool.{lt-ltb, le-leb, eq-eqb, and_from}
use Rattle.std.proofs.lemmas.Nat.{mod_below}
use Rattle.std.proofs.lemmas.List.Folds.{list_all-append}
use Rattle.fsb_access.specs.declared.item.Item.TheVariants.{One, Locked, Idle}
use Rattle.fsb_access.specs.Access.{is_size, is_place, fits, is_lawful_access}
use Rattle.fsb_hazard.specs.declared.line.HazardLine.{HazardLine}
use Rattle.fsb_hazard.specs.declared.line.HazardLine.TheVariants.{Stall, Trdy, Resp, Gap, Retry, Defer, Aerr}
use Rattle.fsb_hazard.specs.Seed.{next_state, drawn_below, line_drawn, seed_line}
use Rattle.fsb_script.specs.Bounds.{is_lock_size, is_lock_apart, names_line, is_lawful_item, is_lawful_script}
use Rattle.fsb_script.specs.Bounds.{is_lawful_hazard, are_lawful_hazards}
use Rattle.fsb_script.specs.Made.{state_behind, drawn_size, drawn_addr, drawn_load, drawn_store, count_up, item_of_kind}
use Rattle.fsb_script.specs.Made.{drawn_item, state_behind_items, drawn_items, state_behind_scripts, drawn_scripts}
use Rattle.fsb_script.specs.Made.{some_line, seed_lines}

below : (m state : ℕ) → 0 < m → drawn_below m state < m
below m state some = mod_below (next_state state / 2 ^ 33) m some

-- ---- accesses

some_parts : (t : ℕ) → t < 4 → 0 < 32 / 2 ^ t
some_parts zero h = lit< tt
some_parts (suc zero) h = lit< tt
some_parts (suc (suc zero)) h = lit< tt
some_parts (suc (suc (suc zero))) h = lit< tt
some_parts (suc (suc (suc (suc t)))) h = absurd (omega arith)

place_of : (size addr : ℕ) → is_size size ≡ true → addr < 2 ^ 36 → addr % size ≡ 0 → is_place size addr ≡ true
place_of size addr a b c = and_from (is_size size && nat_lt addr (2 ^ 36)) (addr % size == 0)
    (and_from (is_size size) (nat_lt addr (2 ^ 36)) a (lt-ltb addr (2 ^ 36) b)) (eq-eqb (addr % size) 0 c)

lawful_place : (t line place : ℕ) → t < 4 → line < 64 → place < 32 / 2 ^ t
    → is_place (2 ^ t) (line * 32 + place * 2 ^ t) ≡ true
lawful_place zero line place h low inside = place_of 1 (line * 32 + place * 1) refl (omega arith) (omega arith)
lawful_place (suc zero) line place h low inside = place_of 2 (line * 32 + place * 2) refl (omega arith) (omega arith)
lawful_place (suc (suc zero)) line place h low inside =
    place_of 4 (line * 32 + place * 4) refl (omega arith) (omega arith)
lawful_place (suc (suc (suc zero))) line place h low inside =
    place_of 8 (line * 32 + place * 8) refl (omega arith) (omega arith)
lawful_place (suc (suc (suc (suc t)))) line place h low inside = absurd (omega arith)

byte_fits : (t n : ℕ) → t < 4 → n < 256 → fits (2 ^ t) n ≡ true
byte_fits zero n h small = lt-ltb n (2 ^ 8) (omega arith)
byte_fits (suc zero) n h small = lt-ltb n (2 ^ 16) (omega arith)
byte_fits (suc (suc zero)) n h small = lt-ltb n (2 ^ 32) (omega arith)
byte_fits (suc (suc (suc zero))) n h small = lt-ltb n (2 ^ 64) (omega arith)
byte_fits (suc (suc (suc (suc t)))) n h small = absurd (omega arith)

drawn_place : (state next : ℕ) → is_place (drawn_size state) (drawn_addr (drawn_size state) next) ≡ true
unfolding drawn_size drawn_addr
drawn_place state next =
    let t : drawn_below 4 state < 4 = below 4 state (lit< tt) in
    lawful_place (drawn_below 4 state) (drawn_below 64 next)
    (drawn_below (32 / 2 ^ drawn_below 4 state) (next_state next)) t (below 64 next (lit< tt))
    (below (32 / 2 ^ drawn_below 4 state) (next_state next) (some_parts (drawn_below 4 state) t))

lawful_load : (state : ℕ) → is_lawful_access (drawn_load state) ≡ true
unfolding drawn_load
lawful_load state = drawn_place state (next_state state)

drawn_fits : (state n : ℕ) → n < 256 → fits (drawn_size state) n ≡ true
unfolding drawn_size
drawn_fits state n small = byte_fits (drawn_below 4 state) n (below 4 state (lit< tt)) small

lawful_store : (state : ℕ) → is_lawful_access (drawn_store state) ≡ true
unfolding drawn_store
lawful_store state =
    and_from (is_place (drawn_size state) (drawn_addr (drawn_size state) (next_state state)))
    (fits (drawn_size state) (drawn_below 256 (state_behind 3 state)))
    (drawn_place state (next_state state)) (drawn_fits state (drawn_below 256 (state_behind 3 state))
    (below 256 (state_behind 3 state) (lit< tt)))

-- ---- items and scripts

lawful_idle : (n : ℕ) → n < 8 → is_lawful_item 16 (Idle (1 + n)) ≡ true
lawful_idle n few = and_from (nat_le 1 (1 + n)) (nat_le (1 + n) 200000) (le-leb 1 (1 + n) (omega arith))
    (le-leb (1 + n) 200000 (omega arith))

lawful_count_up : is_lawful_item 16 (Locked count_up) ≡ true
unfolding is_lock_size is_lock_apart names_line
lawful_count_up = refl

lawful_kind : (kind state : ℕ) → is_lawful_item 16 (item_of_kind kind state) ≡ true
unfolding item_of_kind
lawful_kind kind state = by (nat_lt kind 7) (nat_lt kind 13) (kind == 13)
  where
    by : (a b c : Bool) → is_lawful_item 16 (cond a (One (drawn_load state))
        (cond b (One (drawn_store state)) (cond c (Idle (1 + drawn_below 8 state)) (Locked count_up)))) ≡ true
    by true b c = lawful_load state
    by false true c = lawful_store state
    by false false true = lawful_idle (drawn_below 8 state) (below 8 state (lit< tt))
    by false false false = lawful_count_up

lawful_drawn : (state : ℕ) → is_lawful_item 16 (drawn_item state) ≡ true
unfolding drawn_item
lawful_drawn state = lawful_kind (drawn_below 16 state) (next_state state)

lawful_items : (n state : ℕ) → list_all (is_lawful_item 16) (drawn_items n state) ≡ true
lawful_items zero state = refl
lawful_items (suc n) state =
    list_all-append (is_lawful_item 16) (drawn_items n state) (drawn_item (state_behind_items n state) ∷ [])
    ∙ and_from (list_all (is_lawful_item 16) (drawn_items n state))
    (is_lawful_item 16 (drawn_item (state_behind_items n state)) && true) (lawful_items n state)
    (and_from (is_lawful_item 16 (drawn_item (state_behind_items n state))) true
    (lawful_drawn (state_behind_items n state)) refl)

count_items : (n state : ℕ) → length (drawn_items n state) ≡ n
count_items zero state = refl
count_items (suc n) state = omega (
  arith,
  length-append (drawn_items n state)
      (drawn_item (state_behind_items n state) ∷ []),
  count_items n state,
)

lawful_script : (n state : ℕ) → n ≤ 4096 → is_lawful_script 16 (drawn_items n state) ≡ true
unfolding is_lawful_script
lawful_script n state few =
    and_from (nat_le (length (drawn_items n state)) 4096) (list_all (is_lawful_item 16) (drawn_items n state))
    (le-leb (length (drawn_items n state)) 4096 (omega (arith, count_items n state))) (lawful_items n state)

pub made_scripts : (items n state : ℕ) → items ≤ 4096
    → IsTrue (list_all (is_lawful_script 16) (drawn_scripts items n state))
made_scripts items zero state few = refl
made_scripts items (suc n) state few =
    list_all-append (is_lawful_script 16) (drawn_scripts items n state)
    (drawn_items items (state_behind_scripts items n state) ∷ [])
    ∙ and_from (list_all (is_lawful_script 16) (drawn_scripts items n state))
    (is_lawful_script 16 (drawn_items items (state_behind_scripts items n state)) && true)
    (made_scripts items n state few)
    (and_from (is_lawful_script 16 (drawn_items items (state_behind_scripts items n state))) true
    (lawful_script items (state_behind_scripts items n state) few) refl)

pub count_scripts : (items n state : ℕ) → length (drawn_scripts items n state) ≡ n
count_scripts items zero state = refl
count_scripts items (suc n) state = omega (
  arith,
  length-append (drawn_scripts items n state)
      (drawn_items items (state_behind_scripts items n state) ∷ []),
  count_scripts items n state,
)

-- ---- hazards

lawful_line : (k number : ℕ) → k ≤ 199999 → list_all is_lawful_hazard (some_line (line_drawn k number)) ≡ true
unfolding line_drawn
lawful_line k number few = by (nat_eq number 0) (nat_eq number 1) (nat_eq number 2) (nat_eq number 3)
    (nat_eq number 4) (nat_eq number 5) (nat_eq number 6)
  where
    below_all : nat_le k 199999 ≡ true
    below_all = le-leb k 199999 few

    by : (a b c d e f g : Bool) → list_all is_lawful_hazard
        (some_line (cond a (Some (Stall k 1)) (cond b (Some (Retry k))
        (cond c (Some (Defer k 5)) (cond d (Some (Aerr k))
        (cond e (Some (Resp k 2)) (cond f (Some (Trdy k 1)) (cond g (Some (Gap k 1)) None)))))))) ≡ true
    by true b c d e f g = rw below_all refl
    by false true c d e f g = rw below_all refl
    by false false true d e f g = rw below_all refl
    by false false false true e f g = rw below_all refl
    by false false false false true f g = rw below_all refl
    by false false false false false true g = rw below_all refl
    by false false false false false false true = rw below_all refl
    by false false false false false false false = refl

lawful_lines : (seed n : ℕ) → n ≤ 4096 → list_all is_lawful_hazard (seed_lines seed n) ≡ true
lawful_lines seed zero few = refl
lawful_lines seed (suc k) few =
    list_all-append is_lawful_hazard (seed_lines seed k) (some_line (seed_line seed k))
    ∙ and_from (list_all is_lawful_hazard (seed_lines seed k))
    (list_all is_lawful_hazard (some_line (seed_line seed k))) (lawful_lines seed k (omega arith))
    (lawful_line k (drawn_below 16 ((seed + k) % 2 ^ 64)) (omega arith))

one_line : (line : Option HazardLine) → length (some_line line) ≤ 1
one_line None = omega arith
one_line (Some line) = omega arith

few_lines : (seed n : ℕ) → length (seed_lines seed n) ≤ n
few_lines seed zero = omega arith
few_lines seed (suc k) = omega (
  arith,
  length-append (seed_lines seed k) (some_line (seed_line seed k)),
  one_line
      (seed_line seed k),
  few_lines seed k,
)

pub made_hazards : (seed n : ℕ) → n ≤ 4096 → IsTrue (are_lawful_hazards (seed_lines seed n))
unfolding are_lawful_hazards
made_hazards seed n few =
    and_from (nat_le (length (seed_lines seed n)) 4096) (list_all is_lawful_hazard (seed_lines seed n))
    (le-leb (length (seed_lines seed n)) 4096 (omega (arith, few_lines seed n))) (lawful_lines seed n few)
