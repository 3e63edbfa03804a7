-- What is said of a clock, in the words of the events of a line, is told by the past up to it.
use Rattle.fsb_coherent.proofs.Words
use Words.{ℕ, zero, suc, ◌+◌, ◌<◌, ◌≤◌, ◌≡◌, ◌&&◌, nat_eq, List, [], ◌∷◌, take, slice_get, None, refl, ap, arith}
use Words.{filter, option_and_then, first_where-found, first_where-same, Done, accessed_line, GoesOn, begun_at}
use Words.{holds_line, snooped_at, is_dirty, is_hit, Past, entries_to, past_to, below_le, done_below, holds_line-same}
use Words.{is_dirty-alike, is_hit-alike, want_of-alike, awaited_at, awaited_by, purpose_of, purpose_wanted}
use Words.{snoop_end_below, entries_on}
use Rattle.fsb_coherent.proofs.QuietClocks.{slice_get-take}

-- the past goes on from the one up to n
abbrev pub GoesOnAt : Past → ℕ → Type 0
GoesOnAt p n = GoesOn (n + 1) (past_to p n) p

-- an agent's hit, its want and where it is dirty at n are told by the past up to n
pub hit-to : (p : Past) (n : ℕ) → GoesOnAt p n → (a : ℕ) → is_hit (past_to p n) a n ≡ is_hit p a n
hit-to p n h a = is_hit-alike (n + 1) (past_to p n) p a n h (omega arith)

pub purpose-to : (p : Past) (n : ℕ) → GoesOnAt p n → (a : ℕ) → purpose_wanted (past_to p n) a n ≡ purpose_wanted p a n
unfolding purpose_wanted
purpose-to p n h a =
    let l : n < n + 1 = omega arith in
    let done = done_below (n + 1) (past_to p n) a n h.entries l h.at_end in
    ap (option_and_then (λ request. purpose_of request.kind))
    (want_of-alike (n + 1) (past_to p n) p a n h (below_le n (n + 1) l) done)

pub dirty-to : (p : Past) (n : ℕ) → GoesOnAt p n → (a line : ℕ) → is_dirty (past_to p n) a line n ≡ is_dirty p a line n
dirty-to p n h a line =
    let l : n < n + 1 = omega arith in
    let done = done_below (n + 1) (past_to p n) a n h.entries l h.at_end in
    is_dirty-alike (n + 1) (past_to p n) p a line n h (below_le n (n + 1) l) done

pub holds-to : (p : Past) (n : ℕ) → GoesOnAt p n → (a line : ℕ)
    → holds_line (past_to p n) a line n ≡ holds_line p a line n
holds-to p n h a line = grind (arith, holds_line-same)

pub snooped-below : (p : Past) (n t : ℕ) → t < n + 1 → snooped_at (past_to p n) t ≡ snooped_at p t
unfolding snooped_at past_to
snooped-below p n t l = ap (option_and_then (λ moment. moment.snooped)) (slice_get-take (n + 1) p.moments t l)

pub begun-below : (p : Past) (n t : ℕ) → t < n + 1 → begun_at (past_to p n) t ≡ begun_at p t
unfolding begun_at past_to
begun-below p n t l = grind (arith, slice_get-take)

slice_get-behind : {X : Type 0} (n : ℕ) (xs : List X) (k : ℕ) → n ≤ k → slice_get (take n xs) k ≡ None
slice_get-behind zero xs k l = refl
slice_get-behind (suc n) [] k l = refl
slice_get-behind (suc n) (x ∷ xs) zero l = absurd (omega arith)
slice_get-behind (suc n) (x ∷ xs) (suc k) l = slice_get-behind n xs k (omega arith)

pub begun-behind : (p : Past) (n t : ℕ) → n + 1 ≤ t → begun_at (past_to p n) t ≡ None
unfolding begun_at past_to
begun-behind p n t l = grind (arith, slice_get-behind)

-- the snoop end of a request, and the end that it awaits
snoop_end-to : (p : Past) (n q : ℕ) → snoop_end_below (past_to p n) (n + 1) q ≡ snoop_end_below p (n + 1) q
unfolding snoop_end_below
snoop_end-to p n q = grind (arith, snooped-below, first_where-same, first_where-found)

pub awaited-to : (p : Past) (n q : ℕ) → awaited_at (past_to p n) n q ≡ awaited_at p n q
unfolding awaited_at
awaited-to p n q = ap (option_and_then awaited_by) (snoop_end-to p n q)

-- the entries of the clock
entries-in : (n line : ℕ) (log : List Done)
    → filter (λ done. nat_eq done.clock n && nat_eq (accessed_line done.access) line) (entries_to n log)
    ≡ filter (λ done. nat_eq done.clock n && nat_eq (accessed_line done.access) line) log
unfolding entries_to
entries-in n line [] = refl
entries-in n line (done ∷ log) = grind (arith, entries-in n line log)

pub entries-to : (p : Past) (line n : ℕ) → entries_on (past_to p n) line n ≡ entries_on p line n
unfolding entries_on past_to
entries-to p line n = entries-in n line p.log
