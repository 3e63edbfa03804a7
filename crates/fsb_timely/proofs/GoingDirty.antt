-- On which lines an agent is dirty rests on the past below the clock, and on the entries of the clock's own hits.
use Rattle.std.proofs.Common.{ℕ, ◌≤◌, ◌<◌, ◌≡◌, Bool, true, false, not, ◌&&◌, ◌||◌, nat_eq, nat_lt, nat_le, List, []}
use Rattle.std.proofs.Common.{◌∷◌, refl, sym, ap, subst, ◌∙◌, inl, inr, arith}
use Rattle.std.proofs.Math.Bool.{or-false}
use Rattle.std.proofs.lemmas.Bool.{cases_lt, and_parts, or_parts, leb-true, eqb-true, le-ltb}
use Rattle.std.proofs.lemmas.List.Folds.{list_any-append}
use Rattle.std.specs.List.{list_any, list_all}
use Rattle.fsb_count.specs.Options.{is_some_and}
use Rattle.fsb_access.specs.declared.log.Done.{Done}
use Rattle.fsb_access.specs.Access.{accessed_line}
use Rattle.fsb_timely.specs.Past.{Past}
use Rattle.fsb_timely.specs.Growth.{GoesOn, GoesOnAfterHits}
use Rattle.fsb_timely.specs.Grants.{is_ended}
use Rattle.fsb_timely.specs.Scripts.{is_load, is_done_at}
use Rattle.fsb_timely.specs.Hits.{is_hit, is_store_on, is_counted, is_stored_since, is_dirty}
use Rattle.fsb_timely.proofs.GoingOn.{going-alike, ended-same, latest_grant-same, is_exclusive-same}
use Rattle.fsb_timely.proofs.GoingScripts.{is_hit-alike}

-- of the entries that come none is at c and of the agent, where it has a hit there
abbrev pub HitIsDone : Past → ℕ → ℕ → List Done → Type 0
HitIsDone p a c entries = is_hit p a c ≡ true → list_any (is_done_at a c) entries ≡ false

-- an entry that counts is not above the clock
counted-below : (k c : ℕ) (h : Bool) → (nat_lt k c || (nat_eq k c && h)) ≡ true → k ≤ c
counted-below k c h e = grind arith

quiet-entry : (a s l e b c h : Bool) → b ≡ false → (h ≡ true → (a && c) ≡ false)
    → ((((a && s) && l) && e) && (b || (c && h))) ≡ false
quiet-entry a s l e b c h h1 h2 = grind arith

-- no entry that comes counts as a store
none-stored : (q : Past) (n a line c first : ℕ) (entries : List Done) → c ≤ n
    → list_all (λ done. nat_le n done.clock) entries ≡ true → HitIsDone q a c entries
    → list_any (λ done. is_store_on a line done && is_ended q done.clock first && is_counted q a c done) entries ≡ false
unfolding is_store_on is_counted is_done_at
none-stored q n a line c first [] l e quiet = refl
none-stored q n a line c first (done ∷ entries) l e quiet =
    let parts = and_parts (nat_le n done.clock) (list_all (λ d. nat_le n d.clock) entries) e in
    let later : n ≤ done.clock = leb-true n done.clock parts.0 in
    let here = quiet-entry (nat_eq done.agent a) (not (is_load done.access))
    (nat_eq (accessed_line done.access) line) (is_ended q done.clock first) (nat_lt done.clock c)
    (nat_eq done.clock c) (is_hit q a c) (le-ltb done.clock c (omega arith))
    (λ t. (or_parts (is_done_at a c done) (list_any (is_done_at a c) entries) (quiet t)).0) in
    let rest = none-stored q n a line c first entries l parts.1
    (λ t. (or_parts (is_done_at a c done) (list_any (is_done_at a c) entries) (quiet t)).1) in
    λ i. here i || rest i

counted-same : (n : ℕ) (p q : Past) (a c : ℕ) (done : Done) → GoesOn n p q → c ≤ n
    → is_counted p a c done ≡ is_counted q a c done
unfolding is_counted
counted-same n p q a c done h l =
    let hit = is_hit-alike n p q a c h l in λ i. nat_lt done.clock c || (nat_eq done.clock c && hit i)

below : (p : Past) (a c : ℕ) (done : Done) → is_counted p a c done ≡ true → done.clock ≤ c
unfolding is_counted
below p a c done e = counted-below done.clock c (is_hit p a c) e

-- whether an entry counts as a store since a grant
stored-test : (n : ℕ) (p q : Past) (a line c first : ℕ) (done : Done) → GoesOn n p q → c ≤ n
    → (is_store_on a line done && is_ended p done.clock first && is_counted p a c done)
    ≡ (is_store_on a line done && is_ended q done.clock first && is_counted q a c done)
stored-test n p q a line c first done h l =
    let counted = counted-same n p q a c done h l in
    grind (arith, below, ended-same)

stored-same : (n : ℕ) (p q : Past) (a line c first : ℕ) (h : GoesOn n p q) → c ≤ n → HitIsDone p a c h.entries
    → is_stored_since p a line c first ≡ is_stored_since q a line c first
unfolding is_stored_since
stored-same n p q a line c first h l quiet =
    let tests : (done : Done)
    → (is_store_on a line done && is_ended p done.clock first && is_counted p a c done)
    ≡ (is_store_on a line done && is_ended q done.clock first && is_counted q a c done) =
    λ done. stored-test n p q a line c first done h l in
    let test : Done → Bool = λ done. is_store_on a line done && is_ended q done.clock first && is_counted q a c done in
    (λ i. list_any (λ done. tests done i) p.log)
    ∙ sym (ap (list_any test) h.more_log
    ∙ list_any-append test p.log h.entries
    ∙ ap (λ b. list_any test p.log || b)
    (none-stored q n a line c first h.entries l h.at_end (λ t. quiet (is_hit-alike n p q a c h l ∙ t)))
    ∙ or-false (list_any test p.log))

pub is_dirty-alike : (n : ℕ) (p q : Past) (a line c : ℕ) (h : GoesOn n p q) → c ≤ n → HitIsDone p a c h.entries
    → is_dirty p a line c ≡ is_dirty q a line c
unfolding is_dirty
is_dirty-alike n p q a line c h l quiet =
    let exclusive = is_exclusive-same n p q a line c (going-alike n p q h) l in
    let latest = latest_grant-same n p q a line c (going-alike n p q h) l in
    let stored : (first : ℕ) → is_stored_since p a line c first ≡ is_stored_since q a line c first =
    λ first. stored-same n p q a line c first h l quiet in
    λ i. exclusive i && is_some_and (latest i) (λ grant. grant.owns || stored grant.first i)

-- below n nothing that comes is at the clock
pub done_below : (n : ℕ) (p : Past) (a c : ℕ) (entries : List Done) → c < n
    → list_all (λ done. nat_le n done.clock) entries ≡ true → HitIsDone p a c entries
unfolding is_done_at
done_below n p a c [] l e t = refl
done_below n p a c (done ∷ entries) l e t =
    let parts = and_parts (nat_le n done.clock) (list_all (λ d. nat_le n d.clock) entries) e in
    grind (arith, done_below n p a c entries l parts.1 t)
  where
    differs : (k c : ℕ) → c < k → nat_eq k c ≡ false
    differs k c m = by (nat_eq k c) refl
      where
        by : (b : Bool) → nat_eq k c ≡ b → nat_eq k c ≡ false
        by true e = absurd (let same = eqb-true k c e in omega arith)
        by false e = e

pub below_le : (c n : ℕ) → c < n → c ≤ n
below_le c n l = omega arith

-- nor at n, where the past goes on behind the hits there
pub done_after : (n : ℕ) (p q : Past) (a c : ℕ) (h : GoesOnAfterHits n p q) → c ≤ n → HitIsDone p a c h.goes_on.entries
done_after n p q a c h l =
    elim (cases_lt c n) [
      | inl m ↦ done_below n p a c h.goes_on.entries m h.goes_on.at_end
      | inr m ↦ let same : n ≡ c = omega arith in subst (λ t. HitIsDone p a t h.goes_on.entries) same (h.hits_done a)
    ]
