-- The stores of each clock of a timely run are made in the order of its log: first those of hits, then the others.
use Rattle.fsb_tied.proofs.Words
use Words.{ℕ, ◌<◌, ◌≡◌, Bool, true, false, not, ◌&&◌, ◌||◌, List, [], ◌∷◌, Option, Some, length, nat_eq, refl, ap, ◌∙◌}
use Words.{inl, inr, arith, and_parts, cases_Bool, or_from, or_parts, filter, list_all, list_any, is_some_and, Done}
use Words.{owns, ended_requests, is_hit, Past, Run, past_of, is_load, Timely, Awaited, awaited_at, does_end_on}
use Words.{awaiting_stores, entries_on, is_awaited_for, is_brought_to, is_of_other_line, stores_of}
use Rattle.fsb_tied.proofs.HitsFirst.{hits-first}
use Rattle.fsb_tied.proofs.StoredClocks.{StoresInOrder}
use Rattle.fsb_tied.proofs.AwaitedAccesses.{awaiting-agents, awaiting-loads, one-end}

-- what these say of entries
none-beside : (p : Past) (line n a : ℕ) (entries : List Done) → is_brought_to p line n a ≡ true
    → list_all (λ done. is_hit p done.agent n || nat_eq done.agent a) entries ≡ true
    → filter (is_of_other_line p line n) entries ≡ []
unfolding is_of_other_line
none-beside p line n a [] e h = refl
none-beside p line n a (done ∷ entries) e h = grind (arith, none-beside p line n a entries e)

-- the stores that await the end are those that are no hits
all-awaiting : (p : Past) (n a : ℕ) (entries : List Done)
    → list_all (λ done. is_hit p done.agent n || nat_eq done.agent a) entries ≡ true
    → filter (λ done. nat_eq done.agent a && not (is_hit p a n) && not (is_load done.access)) entries
    ≡ stores_of (filter (λ done. not (is_hit p done.agent n)) entries)
all-awaiting p n a [] h = refl
all-awaiting p n a (done ∷ entries) h =
    let parts = and_parts (is_hit p done.agent n || nat_eq done.agent a)
    (list_all (λ (d : Done). is_hit p d.agent n || nat_eq d.agent a) entries) h in
    let rest = all-awaiting p n a entries parts.1 in
    elim (cases_Bool (nat_eq done.agent a)) [
      | inr other ↦
          let hit = only (is_hit p done.agent n) (nat_eq done.agent a) other parts.0 in
          rw (other, hit) rest
      | inl same ↦
          let agent : is_hit p a n ≡ is_hit p done.agent n = grind arith in
          elim (cases_Bool (is_hit p done.agent n)) [
            | inl hit ↦ let here : is_hit p a n ≡ true = agent ∙ hit in rw (same, here, hit) rest
            | inr none ↦
                let here : is_hit p a n ≡ false = agent ∙ none in
                elim (cases_Bool (is_load done.access)) [
                  | inl load ↦ rw (same, here, none, load) rest
                  | inr store ↦ rw (same, here, none, store) (ap (λ ds. done ∷ ds) rest)
                ]
          ]
    ]
  where
    only : (b c : Bool) → c ≡ false → (b || c) ≡ true → b ≡ true
    only b c h1 h2 = grind arith

no-stores : (p : Past) (n : ℕ) (entries : List Done)
    → list_all (λ done. is_hit p done.agent n || is_load done.access) entries ≡ true
    → stores_of (filter (λ done. not (is_hit p done.agent n)) entries) ≡ []
no-stores p n [] h = refl
no-stores p n (done ∷ entries) h = grind (arith, no-stores p n entries)

-- where no end is awaited on the line nobody is brought it
brought-nowhere : (p : Past) (line n a : ℕ) (qs : List ℕ)
    → list_any (λ q. is_some_and (awaited_at p n q) (λ awaited. nat_eq awaited.line line)) qs ≡ false
    → list_any (λ q. is_some_and (awaited_at p n q) (is_awaited_for a line)) qs ≡ false
unfolding is_awaited_for is_some_and
brought-nowhere p line n a [] e = refl
brought-nowhere p line n a (q ∷ qs) e =
    let parts = or_parts (is_some_and (awaited_at p n q) (λ (x : Awaited). nat_eq x.line line))
    (list_any (λ k. is_some_and (awaited_at p n k) (λ (x : Awaited). nat_eq x.line line)) qs) e in
    or_from (is_some_and (awaited_at p n q) (is_awaited_for a line))
    (list_any (λ k. is_some_and (awaited_at p n k) (is_awaited_for a line)) qs)
    (here (awaited_at p n q) parts.0) (brought-nowhere p line n a qs parts.1)
  where
    here : (o : Option Awaited) → is_some_and o (λ (x : Awaited). nat_eq x.line line) ≡ false
        → is_some_and o (is_awaited_for a line) ≡ false
    here o h1 = grind arith

beside-all : (p : Past) (line n : ℕ) (entries : List Done) → ((a : ℕ) → is_brought_to p line n a ≡ false)
    → filter (is_of_other_line p line n) entries ≡ filter (λ done. not (is_hit p done.agent n)) entries
unfolding is_of_other_line
beside-all p line n [] none = refl
beside-all p line n (done ∷ entries) none = grind arith

brought-here : (p : Past) (line n q : ℕ) (awaited : Awaited) → ended_requests p n ≡ q ∷ []
    → awaited_at p n q ≡ Some awaited → awaited.line ≡ line → is_brought_to p line n awaited.agent ≡ true
unfolding is_brought_to is_awaited_for is_some_and
brought-here p line n q awaited e f names = grind arith

-- the stores of each clock of a timely run are made in the order of its log
pub stores-in-order : (r : Run) (line n : ℕ) → Timely r → n < length r.trace → StoresInOrder (past_of r) line n
unfolding awaiting_stores does_end_on is_brought_to
stores-in-order r line n h l =
    let p : Past = past_of r in
    record {
      hits_first = hits-first r line n h l;
      awaited = λ q awaited e f names.
          let agents = awaiting-agents r line n (one-end r line n q awaited h l e f names) in (
            none-beside p line n awaited.agent (entries_on p line n) (brought-here p line n q awaited e f names) agents,
            all-awaiting p n awaited.agent (entries_on p line n) agents,
          );
      owned = λ q awaited link links e f names chain. elim (cases_Bool (owns link)) [
        | inl t ↦ inl t
        | inr none ↦
            inr (no-stores p n (entries_on p line n)
            (awaiting-loads r line n link links (one-end r line n q awaited h l e f names) chain none))
      ];
      others = λ none. beside-all p line n (entries_on p line n)
          (λ a. brought-nowhere p line n a (ended_requests p n) none);
    }
