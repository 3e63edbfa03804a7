-- What a clock stores into a line: the stores of its entries on the line, in their order.
use Rattle.fsb_tied.proofs.Words
use Words.{◌≡◌, ℕ, true, false, ◌⊎◌, ◌+◌, not, nat_eq, List, [], ◌∷◌, ◌++◌, map, Option, Some, None, refl, sym, ap, ◌∙◌}
use Words.{inl, inr, append_assoc, arith, cases_Bool, eqb-true, filter-append, filter, list_all, Done, Link, Event}
use Words.{stored, Ends, Bytes, MemoryLine, owns, run, stored_by_all, ended_requests, is_some_and, is_hit, Past}
use Words.{is_load, Awaited, awaited_at, EndsInOrder, does_end_on, access_event, awaited_events, awaiting_stores}
use Words.{begins_on, cancels_on, responds_on, snoops_on, change_of, changes_of, end_events, ends_on, entries_on}
use Words.{events_of_ends, hits_on, is_of_other_line, others_on, events_before_snoop, chain_below, links_left}
use Words.{stores_of}
use Rattle.fsb_tied.proofs.StoredBytes.{accesses-store, begins-still, cancels-still, is_still, response-storeless}
use Rattle.fsb_tied.proofs.StoredBytes.{snoops-still, stored-append, storeless}

-- the entries of n on the line that are no hits
abbrev pub arrivals_on : Past → ℕ → ℕ → List Done
arrivals_on p line n = filter (λ done. not (is_hit p done.agent n)) (entries_on p line n)

-- the entries of n on the line that are hits
abbrev pub hit_entries_on : Past → ℕ → ℕ → List Done
hit_entries_on p line n = filter (λ done. is_hit p done.agent n) (entries_on p line n)

-- the stores of n on the line are made in the order of the log: hits first; and where an end is awaited on the line all
-- others are its agent's, and there are none unless its link, the oldest, owns
pub record StoresInOrder (p : Past) (line n : ℕ) : Type 0 where
  pub hits_first : hit_entries_on p line n ++ arrivals_on p line n ≡ entries_on p line n
  pub awaited : (q : ℕ) (awaited : Awaited) → ended_requests p n ≡ q ∷ [] → awaited_at p n q ≡ Some awaited
      → awaited.line ≡ line → (filter (is_of_other_line p line n) (entries_on p line n) ≡ [])
      × (awaiting_stores p line n awaited.agent ≡ stores_of (arrivals_on p line n))
  pub owned : (q : ℕ) (awaited : Awaited) (link : Link) (links : List Link) → ended_requests p n ≡ q ∷ []
      → awaited_at p n q ≡ Some awaited → awaited.line ≡ line → chain_below p line n ≡ link ∷ links
      → (owns link ≡ true) ⊎ (stores_of (arrivals_on p line n) ≡ [])
  pub others : does_end_on p line n ≡ false
      → filter (is_of_other_line p line n) (entries_on p line n) ≡ arrivals_on p line n

pub changes-append : (xs ys : List Done) (bytes : Bytes)
    → changes_of (xs ++ ys) bytes ≡ changes_of ys (changes_of xs bytes)
unfolding changes_of
changes-append [] ys bytes = refl
changes-append (x ∷ xs) ys bytes = changes-append xs ys (change_of x bytes)

-- the hits of n
pub hits-store : (x : MemoryLine) (p : Past) (line n : ℕ) (bytes : Bytes)
    → stored_by_all x (hits_on p line n) bytes ≡ changes_of (stores_of (hit_entries_on p line n)) bytes
unfolding hits_on
hits-store x p line n bytes = accesses-store x (hit_entries_on p line n) bytes

-- an end on the line
end-stores : (x : MemoryLine) (stores : List Done) (link : Link) (links : List Link) (bytes : Bytes)
    → x.chain ≡ link ∷ links
    → (owns link ≡ true) ⊎ (stores ≡ []) → stored_by_all x (Ends (changes_of stores) ∷ []) bytes
    ≡ changes_of stores bytes
unfolding stored
end-stores x stores link links bytes e (inl o) = rw (e, o) refl
end-stores x stores link links bytes e (inr none) = elim (cases_Bool (owns link)) [
  | inl o ↦ rw (e, o) refl
  | inr o ↦ rw (e, o, none) (unfold changes_of in refl)
]

-- where no end is awaited on the line
no-end-stores : (x : MemoryLine) (p : Past) (line n : ℕ) (bytes : Bytes) → StoresInOrder p line n
    → does_end_on p line n ≡ false
    → ends_on p line n ≡ [] → stored_by_all x (ends_on p line n ++ others_on p line n) bytes
    ≡ changes_of (stores_of (arrivals_on p line n)) bytes
unfolding others_on
no-end-stores x p line n bytes order none nothing =
    ap (λ es. stored_by_all x (es ++ map access_event
    (filter (is_of_other_line p line n) (entries_on p line n))) bytes) nothing
    ∙ ap (λ entries. stored_by_all x (map access_event entries) bytes) (order.others none)
    ∙ accesses-store x (arrivals_on p line n) bytes

-- where one is
one-end-stores : (x : MemoryLine) (p : Past) (line n q : ℕ) (awaited : Awaited) (more : List Link) (bytes : Bytes)
    → EndsInOrder p line n
    → StoresInOrder p line n → x.chain ≡ chain_below p line n ++ more → ended_requests p n ≡ q ∷ []
    → awaited_at p n q ≡ Some awaited
    → awaited.line ≡ line
    → stored_by_all x ((Ends (changes_of (awaiting_stores p line n awaited.agent)) ∷ []) ++ others_on p line n) bytes
    ≡ changes_of (stores_of (arrivals_on p line n)) bytes
unfolding others_on
one-end-stores x p line n q awaited more bytes ends order chain ended at here =
    let oldest = ends.oldest q awaited ended at here in
    let entries = order.awaited q awaited ended at here in
    let link : Link = oldest.0 in
    let links : List Link = links_left p line (n + 1) n in
    let chained : x.chain ≡ link ∷ (links ++ more) = chain ∙ ap (λ ls. ls ++ more) oldest.1 in
    let owned = order.owned q awaited link links ended at here oldest.1 in
    ap (λ ds. stored_by_all x (Ends (changes_of
    (awaiting_stores p line n awaited.agent)) ∷ map access_event ds) bytes) entries.0
    ∙ ap (λ stores. stored_by_all x (Ends (changes_of stores) ∷ []) bytes) entries.1
    ∙ end-stores x (stores_of (arrivals_on p line n)) link (links ++ more) bytes chained owned

pub ends-store : (x : MemoryLine) (p : Past) (line n : ℕ) (more : List Link) (bytes : Bytes) → EndsInOrder p line n
    → StoresInOrder p line n
    → x.chain ≡ chain_below p line n ++ more
    → stored_by_all x (ends_on p line n ++ others_on p line n) bytes
    ≡ changes_of (stores_of (arrivals_on p line n)) bytes
unfolding ends_on end_events awaited_events does_end_on is_some_and events_of_ends
ends-store x p line n more bytes ends order chain = by-ends (ended_requests p n) refl
  where
    by-line : (q : ℕ) (awaited : Awaited) → ended_requests p n ≡ q ∷ [] → awaited_at p n q ≡ Some awaited
        → stored_by_all x (events_of_ends p line n (ended_requests p n) ++ others_on p line n) bytes
        ≡ changes_of (stores_of (arrivals_on p line n)) bytes
    by-line q awaited e f = elim (cases_Bool (nat_eq awaited.line line)) [
      | inl here ↦ rw (e, f, here) (one-end-stores x p line n q awaited more bytes ends order chain e f
          (eqb-true awaited.line line here))
      | inr there ↦ no-end-stores x p line n bytes order (rw (e, f, there) refl) (rw (e, f, there) refl)
    ]

    by-awaited : (q : ℕ) (o : Option Awaited) → ended_requests p n ≡ q ∷ [] → awaited_at p n q ≡ o
        → stored_by_all x (events_of_ends p line n (ended_requests p n) ++ others_on p line n) bytes
        ≡ changes_of (stores_of (arrivals_on p line n)) bytes
    by-awaited q None e f = no-end-stores x p line n bytes order (rw (e, f) refl) (rw (e, f) refl)
    by-awaited q (Some awaited) e f = by-line q awaited e f

    by-ends : (qs : List ℕ) → ended_requests p n ≡ qs
        → stored_by_all x (events_of_ends p line n (ended_requests p n) ++ others_on p line n) bytes
        ≡ changes_of (stores_of (arrivals_on p line n)) bytes
    by-ends [] e = no-end-stores x p line n bytes order (rw e refl) (rw e refl)
    by-ends (q ∷ []) e = by-awaited q (awaited_at p n q) e refl
    by-ends (q ∷ r ∷ qs) e = absurd (ends.few q r qs e)

pub all_both : (es fs : List Event) → list_all is_still es ≡ true → list_all is_still fs ≡ true
    → list_all is_still (es ++ fs) ≡ true
all_both [] fs h k = k
all_both (e ∷ es) fs h k = grind (arith, all_both es fs)

pub lists-are : (a b c d e : List Event) → (a ++ b ++ c ++ d) ++ e ≡ a ++ (b ++ (c ++ (d ++ e)))
lists-are a b c d e = append_assoc (a ++ b ++ c) d e ∙ append_assoc (a ++ b) c (d ++ e)
    ∙ append_assoc a b (c ++ (d ++ e))

-- the events of n make the stores of the entries of n on the line, where the chain before its end begins with that of
-- the run
pub clock-stores : (x : MemoryLine) (p : Past) (line n : ℕ) (more : List Link) (bytes : Bytes) → EndsInOrder p line n
    → StoresInOrder p line n → (run x (events_before_snoop p line n ++ snoops_on p line n)).chain
    ≡ chain_below p line n ++ more
    → stored_by_all x ((events_before_snoop p line n ++ snoops_on p line n) ++
    (ends_on p line n ++ others_on p line n)) bytes
    ≡ changes_of (stores_of (entries_on p line n)) bytes
unfolding events_before_snoop
clock-stores x p line n more bytes ends order chain =
    let first : List Event = events_before_snoop p line n ++ snoops_on p line n in
    let split = stored-append x first (ends_on p line n ++ others_on p line n) bytes in
    let last = ends-store (run x first) p line n more (stored_by_all x first bytes) ends order chain in
    let hits = before-stores x p line n bytes in
    let whole : stores_of (hit_entries_on p line n) ++ stores_of (arrivals_on p line n)
    ≡ stores_of (entries_on p line n) =
    sym (filter-append (λ (done : Done). not (is_load done.access)) (hit_entries_on p line n) (arrivals_on p line n))
    ∙ ap stores_of order.hits_first in
    split ∙ last ∙ ap (changes_of (stores_of (arrivals_on p line n))) hits
    ∙ sym (changes-append (stores_of (hit_entries_on p line n)) (stores_of (arrivals_on p line n)) bytes)
    ∙ ap (λ entries. changes_of entries bytes) whole
  where
    quiet : (x : MemoryLine) (p : Past) (line n : ℕ) (bytes : Bytes)
        → stored_by_all x (begins_on p line n ++ (cancels_on p line n ++ snoops_on p line n)) bytes ≡ bytes
    quiet x p line n bytes = storeless x (begins_on p line n ++ (cancels_on p line n ++ snoops_on p line n)) bytes
        (all_both (begins_on p line n) (cancels_on p line n ++ snoops_on p line n) (begins-still p line n)
        (all_both (cancels_on p line n) (snoops_on p line n) (cancels-still p line n) (snoops-still p line n)))

    before-stores : (x : MemoryLine) (p : Past) (line n : ℕ) (bytes : Bytes)
        → stored_by_all x (events_before_snoop p line n ++ snoops_on p line n) bytes
        ≡ changes_of (stores_of (hit_entries_on p line n)) bytes
    before-stores x p line n bytes =
        let y = run x (responds_on p line n) in
        let rest : List Event = begins_on p line n ++ (cancels_on p line n ++ snoops_on p line n) in
        ap (λ es. stored_by_all x es bytes) (lists-are (responds_on p line n) (hits_on p line n) (begins_on p line n)
        (cancels_on p line n) (snoops_on p line n))
        ∙ stored-append x (responds_on p line n) (hits_on p line n ++ rest) bytes
        ∙ ap (stored_by_all y (hits_on p line n ++ rest)) (response-storeless x p line n bytes)
        ∙ stored-append y (hits_on p line n) rest bytes
        ∙ quiet (run y (hits_on p line n)) p line n (stored_by_all y (hits_on p line n) bytes)
        ∙ hits-store y p line n bytes
