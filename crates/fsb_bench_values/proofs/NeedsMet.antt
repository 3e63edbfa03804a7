-- The needs of an item that a line completes when it comes: each is the line that comes, owned where that is needed,
-- or a line of another cache set that serves.
use Rattle.fsb_bench_values.proofs.Words
use Words.{ℕ, ◌≡◌, Bool, true, false, ◌&&◌, ◌||◌, not, List, [], ◌∷◌, map, refl, arith, ◌==◌, list_all, list_any}
use Words.{and_from, and_parts, accessed_line, Access, Item, is_apart, is_lawful_item, is_lock_apart, Need, locked_need}
use Words.{needs_after, needs_of, AgentView, is_served_by, are_met_with, is_brought_by, is_there_by}

-- the need is met by the line that comes, or by a line of another set
abbrev pub is_met_on : AgentView → ℕ → ℕ → Bool → Need → Bool
is_met_on w cache line owns need =
    ((need.line == line) && (owns || not need.alone))
    || (not (need.line == line) && (is_served_by w need && is_apart cache line need.line))

-- one of a locked item's accesses is to the line that comes, which is owned
brought-access : (g : Access → Bool) (line : ℕ) (owns : Bool) (group accesses : List Access)
    → list_any (is_brought_by line owns) (map (locked_need [] group) accesses) ≡ true → list_all g accesses ≡ true
    → (access : Access) × (accessed_line access ≡ line) × (owns ≡ true) × (g access ≡ true)
unfolding locked_need
brought-access g line owns group [] any all = absurd (let no : ⊥ = cc in no)
brought-access g line owns group (access ∷ accesses) any all =
    let parts = and_parts (g access) (list_all g accesses) all in
    grind (arith, brought-access g line owns group accesses)
  where
    owned : (b : Bool) → (b || false) ≡ true → b ≡ true
    owned true e = refl
    owned false e = e

-- each need of a locked item
locked-met : (w : AgentView) (cache line : ℕ) (group accesses : List Access)
    → list_all (is_there_by w line) (map (locked_need [] group) accesses) ≡ true
    → list_all (λ other. is_apart cache line (accessed_line other)) accesses ≡ true
    → list_all (is_met_on w cache line true) (map (locked_need [] group) accesses) ≡ true
unfolding locked_need
locked-met w cache line group [] there apart = refl
locked-met w cache line group (access ∷ accesses) there apart =
    let need : Need = locked_need [] group access in
    grind (arith, locked-met w cache line group accesses)
  where
    by : (need : Need) (b : Bool) → (need.line == line) ≡ b → is_there_by w line need ≡ true
        → is_apart cache line need.line ≡ true → is_met_on w cache line true need ≡ true
    by need true e t a = rw e refl
    by need false e t a = rw e (and_from (is_served_by w need) (is_apart cache line need.line) (rw e at t) a)

pub needs-met : (w : AgentView) (cache line : ℕ) (owns : Bool) (item : Item) → is_lawful_item cache item ≡ true
    → are_met_with w line owns (needs_of item) ≡ true → list_all (is_met_on w cache line owns) (needs_of item) ≡ true
unfolding needs_of needs_after is_lock_apart
needs-met w cache line owns item h1 h2 = grind (arith, brought-access, locked-met)
