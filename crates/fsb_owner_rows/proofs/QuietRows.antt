-- A line that no row names.
use Rattle.std.proofs.Common.{ℕ, ◌+◌, ◌-◌, ◌<◌, ◌≡◌, Bool, true, false, ◌&&◌, ◌||◌, ◌⊎◌, nat_eq, Option, Some, None, List, [], ◌∷◌}
use Rattle.std.proofs.Common.{length, refl, sym, ap, ◌∙◌, arith, inl, inr}
use Rattle.std.specs.List.{find, list_any}
use Rattle.std.proofs.lemmas.Bool.{and_parts, both_ways, cases_Bool, eq-eqb, eqb-true, false_from_ne_true, or_cases, or_left, or_right}
use Rattle.std.specs.Option.{option_map}
use Rattle.fsb_count.specs.Options.{is_at, is_before, is_some_and}
use Rattle.fsb_count.proofs.Interface.{any_where-at, first_where-found, is_at-some, is_before-parts}
use Rattle.fsb_trace.specs.At.{Trace}
use Rattle.fsb_trace.specs.Requests.{is_reply, live_clock_of, live_count}
use Rattle.fsb_trace.specs.Response.{end_of}
use Rattle.fsb_trace.specs.Snoop.{snoop_end_of}
use Rattle.fsb_owners.specs.Shown.{is_coming, is_for_line, is_upgrading, names, origin_clock_of, snooped_at}
use Rattle.fsb_owner_table.specs.Rows.{reached, row_at}
use Rattle.fsb_owner_table.proofs.Reached.{reached-parts}
use Rattle.fsb_owner_table.specs.declared.row.Row.{Row}
use Rattle.fsb_owner_rows.specs.Kept.{AreKeptAt}
use Rattle.fsb_owner_rows.specs.OfRow.{is_named_line, row_asks, row_comes, row_names, row_origin, row_upgrades}
use Rattle.fsb_owner_rows.proofs.AnyRow.{Agrees, any_rows}
use Rattle.fsb_owner_rows.proofs.ComingRows.{coming}
use Rattle.fsb_owner_rows.proofs.UpgradeRows.{closed_late, upgrading}
use Rattle.fsb_owner_rows.proofs.FoundRows.{snoop_event, snooped}
use Rattle.fsb_owner_rows.proofs.LiveTests.{live_there}
use Rattle.fsb_owner_rows.proofs.Origins.{origin_is}
use Rattle.fsb_owner_rows.proofs.RowWords.{clock_of, names_ads, names_is, numbered}

-- a row with a given test is in the list where another test finds it there
found_passes : (p n : Row → Bool) (rows : List Row) (row : Row) → find p rows ≡ Some row → n row ≡ true → list_any n rows ≡ true
found_passes p n [] row e t = absurd (let no : ⊥ = cc in no)
found_passes p n (x ∷ rows) row e t =
    elim (cases_Bool (p x)) [
      | inl holds ↦
          let k = rw holds at e in
          let same : x ≡ row = cc in or_left _ _ (ap n same ∙ t)
      | inr fails ↦ or_right _ _ (found_passes p n rows row (rw fails at e) t)
    ]

second_off : (a b : Bool) → (a || b) ≡ false → b ≡ false
second_off a b f = grind arith

-- what no row passes no row passes together with more
none_passes : (n p : Row → Bool) (rows : List Row) → ((row : Row) → p row ≡ true → n row ≡ true) → list_any n rows ≡ false
    → list_any p rows ≡ false
none_passes n p [] imp f = refl
none_passes n p (x ∷ rows) imp f =
    false_from_ne_true _ (λ t.
    elim (or_cases (p x) (list_any p rows) t) [
      | inl here ↦ both_ways _ f (or_left _ _ (imp x here))
      | inr later ↦ both_ways _ (none_passes n p rows imp (second_off (n x) (list_any n rows) f)) later
    ])

-- a row passes the test of one of its requests, itself or the one that it answers
origin_named : (all : List Row) (line : ℕ) (row origin : Row) → row_origin all row ≡ Some origin → row_names line origin ≡ true
    → (row_names line row ≡ true) ⊎ (list_any (row_names line) all ≡ true)
origin_named all line row origin e t =
    elim (cases_Bool (is_reply row.seen.request)) [
      | inl reply ↦ inr (found_passes _ (row_names line) all origin (rw reply at e) t)
      | inr plain ↦
          let k = rw plain at e in
          let same : row ≡ origin = cc in inl (ap (row_names line) same ∙ t)
    ]

some_origin : (all : List Row) (line : ℕ) (row : Row) (test : Row → Bool) (o : Option Row) → row_origin all row ≡ o
    → ((origin : Row) → test origin ≡ true → row_names line origin ≡ true) → is_some_and o test ≡ true
    → (row_names line row ≡ true) ⊎ (list_any (row_names line) all ≡ true)
unfolding is_some_and
some_origin all line row test None e imp t = absurd (let no : ⊥ = cc in no)
some_origin all line row test (Some origin) e imp t = origin_named all line row origin e (imp origin t)

module _ (all : List Row) (line a c : ℕ) (none : list_any (row_names line) all ≡ false) where
  comes_named : (row : Row) → row_comes all line a c row ≡ true → row_names line row ≡ true
  comes_named row t =
      let p = and_parts _ _ t in
      elim (some_origin all line row _ (row_origin all row) refl
      (λ origin s. (and_parts _ _ (and_parts (row_asks line a origin) _ s).0).0) p.0) [
        | inl named ↦ named
        | inr some ↦ absurd (both_ways _ none some)
      ]

  pub none_comes : list_any (row_comes all line a c) all ≡ false
  none_comes = none_passes (row_names line) (row_comes all line a c) all comes_named none

  pub none_upgrades : list_any (row_upgrades line a c) all ≡ false
  none_upgrades =
      none_passes (row_names line) (row_upgrades line a c) all
      (λ row t. (and_parts _ _ (and_parts _ _ (and_parts _ _ t).0).0).0) none

pub not_coming : (rows : List Row) (v : Trace) (line a c : ℕ) → AreKeptAt rows v c → is_named_line rows line ≡ false
    → is_coming v line a c ≡ false
not_coming rows v line a c k f = sym (coming rows v line a c k) ∙ none_comes rows line a c f

pub not_upgrading : (rows : List Row) (v : Trace) (line a c : ℕ) → AreKeptAt rows v c → c + 1 < length v
    → is_named_line rows line ≡ false → is_upgrading v line a c ≡ false
not_upgrading rows v line a c k l f = sym (upgrading rows v line a c k l) ∙ none_upgrades rows line a c f

-- a request for the line that begins at c

begun_agrees : (rows : List Row) (v : Trace) (line c : ℕ) → AreKeptAt rows v c
    → Agrees (λ row. row_names line row && nat_eq row.seen.clock c) (λ q. names v line q && nat_eq q c) v
begun_agrees rows v line c k = record {
  same = λ q t. rw (names_is v line q t, clock_of v q) refl;
  asks = λ q t. names_ads v line q (and_parts _ _ t).0;
  going = λ q t.
      let same : q ≡ c = eqb-true q c (and_parts (names v line q) _ t).1 in
      closed_late v q (length v - 3) k.orderly (omega (arith, same, k.late));
}

pub not_begun : (rows : List Row) (v : Trace) (line c : ℕ) → AreKeptAt rows v c → c + 1 < length v
    → is_named_line rows line ≡ false → names v line c ≡ false
not_begun rows v line c k l f =
    false_from_ne_true _ (λ t.
    let none = none_passes (row_names line) (λ row. row_names line row && nat_eq row.seen.clock c) rows
    (λ row s. (and_parts (row_names line row) _ s).0) f in
    let some = any_where-at (λ q. names v line q && nat_eq q c) (length v - 1) c (omega (arith, l)) (rw (t, eq-eqb c c refl) refl) in
    both_ways _ none
    (ap (list_any (λ row. row_names line row && nat_eq row.seen.clock c)) k.kept
    ∙ any_rows (begun_agrees rows v line c k) (length v - 1) ∙ some))

-- a snoop that ends at c

snooped_found : (v : Trace) (c j : ℕ) → snooped_at v c ≡ Some j → (j < live_count v) × (snoop_end_of v j ≡ Some c)
unfolding snooped_at
snooped_found v c j e =
    let p = first_where-found (λ i. is_at (snoop_end_of v i) c) (live_count v) j e in (p.0, is_at-some (snoop_end_of v j) c p.1)

-- the row of the request whose snoop ends
row_found : (rows : List Row) (v : Trace) (c j q : ℕ) → AreKeptAt rows v c → snooped_at v c ≡ Some j → live_clock_of v j ≡ Some q
    → find (λ row. is_some_and row.snoop (λ s. nat_eq s.clock c)) rows ≡ Some (row_at v q)
row_found rows v c j q k e f = snooped rows v c k ∙ (rw (e, f) refl)

some_clock : (o : Option ℕ) (test : ℕ → Bool) → is_some_and o test ≡ true → (p : ℕ) × (o ≡ Some p) × (test p ≡ true)
unfolding is_some_and
some_clock None test t = absurd (let no : ⊥ = cc in no)
some_clock (Some p) test t = (p, refl, t)

for_line : (v : Trace) (line j : ℕ) → is_for_line v line j ≡ true
    → (p : ℕ) × (origin_clock_of v j ≡ Some p) × (names v line p ≡ true)
unfolding is_for_line
for_line v line j t = some_clock (origin_clock_of v j) (names v line) t

module _ (rows : List Row) (v : Trace) (line c j : ℕ) (k : AreKeptAt rows v c) (e : snooped_at v c ≡ Some j) where
  named_of : is_for_line v line j ≡ true → is_named_line rows line ≡ true
  named_of t =
      let s = snooped_found v c j e in
      let q = live_there v j s.0 in
      let n = numbered v j q.0 q.1 in
      let p = for_line v line j t in
      let going : is_before (reached end_of v q.0) c ≡ false =
      false_from_ne_true _ (λ b.
      let d = is_before-parts (reached end_of v q.0) c b in
      let r = reached-parts end_of v q.0 d.0 d.1 in
      let bound = (snoop_event v c k.orderly).ends j d.0 s.1 (ap (end_of v) (sym n.2) ∙ r.1) in omega (arith, bound, d.2)) in
      let origin : row_origin rows (row_at v q.0) ≡ Some (row_at v p.0) =
      origin_is rows v c q.0 k n.1 going ∙ ap (λ i. option_map (row_at v) (origin_clock_of v i)) n.2 ∙ (rw p.1 refl) in
      let named : row_names line (row_at v p.0) ≡ true = names_is v line p.0 (names_ads v line p.0 p.2) ∙ p.2 in
      elim (origin_named rows line (row_at v q.0) (row_at v p.0) origin named) [
        | inl own ↦ found_passes _ (row_names line) rows (row_at v q.0) (row_found rows v c j q.0 k e q.1) own
        | inr some ↦ some
      ]

pub not_snooped : (rows : List Row) (v : Trace) (line c j : ℕ) → AreKeptAt rows v c → is_named_line rows line ≡ false
    → snooped_at v c ≡ Some j → is_for_line v line j ≡ false
not_snooped rows v line c j k f e = false_from_ne_true _ (λ t. both_ways _ f (named_of rows v line c j k e t))
