-- The lines that items name.
use Rattle.std.proofs.Common.{◌≡◌, ◌<◌, ℕ, ◌+◌, Bool, true, false, ◌||◌, List, [], ◌∷◌, ◌++◌, map, take, length, get_or}
use Rattle.std.proofs.Common.{refl, sym, ap, ◌∙◌, add-one}
use Rattle.std.proofs.Math.Seq.{take-suc}
use Rattle.std.proofs.lemmas.List.Folds.{list_any-append}
use Rattle.std.specs.List.{list_any}
use Rattle.std.specs.Prelude.{nat_eq}
use Rattle.fsb_access.specs.Access.{accessed_line}
use Rattle.fsb_access.specs.declared.access.Access.{Access}
use Rattle.fsb_access.specs.declared.item.Item.{Item}
use Rattle.fsb_access.specs.declared.item.Item.TheVariants.{One, Locked, Idle}
use Rattle.fsb_timely.specs.Kept.{is_named_in}
use Rattle.fsb_bench_view.specs.FirstBench.{is_named_line}
use Rattle.fsb_timely.specs.Scripts.{Need, locked_need, needs_after, needs_of, plain_need}

or_false : (b : Bool) → (b || false) ≡ b
or_false true = refl
or_false false = refl

pub named-one : (line : ℕ) (access : Access) → is_named_in line (One access) ≡ nat_eq (accessed_line access) line
unfolding is_named_in needs_of needs_after plain_need
named-one line access = or_false (nat_eq (accessed_line access) line)

pub or_true : (b : Bool) → (b || true) ≡ true
or_true true = refl
or_true false = refl

named-accesses : (line : ℕ) (group accesses : List Access)
    → list_any (λ (need : Need). nat_eq need.line line) (map (locked_need [] group) accesses)
    ≡ list_any (λ access. nat_eq (accessed_line access) line) accesses
unfolding locked_need
named-accesses line group [] = refl
named-accesses line group (access ∷ accesses) =
    ap (λ b. nat_eq (accessed_line access) line || b) (named-accesses line group accesses)

pub named-group : (line : ℕ) (group : List Access)
    → is_named_in line (Locked group) ≡ list_any (λ access. nat_eq (accessed_line access) line) group
unfolding is_named_in needs_of needs_after locked_need
named-group line group = named-accesses line group group

pub named-idle : (line clocks : ℕ) → is_named_in line (Idle clocks) ≡ false
unfolding is_named_in needs_of needs_after
named-idle line clocks = refl

-- one item more names its lines too
pub items-more : (line : ℕ) (items : List Item) (i : ℕ) (item : Item) → i < length items → item ≡ get_or items i item
    → list_any (is_named_in line) (take (i + 1) items)
    ≡ (list_any (is_named_in line) (take i items) || is_named_in line item)
items-more line items i item within at =
    ap (λ n. list_any (is_named_in line) (take n items)) (add-one i)
    ∙ ap (list_any (is_named_in line)) (take-suc items i item within ∙ ap (λ x. take i items ++ x ∷ []) (sym at))
    ∙ list_any-append (is_named_in line) (take i items) (item ∷ [])
    ∙ ap (λ b. list_any (is_named_in line) (take i items) || b) (or_false (is_named_in line item))

-- one access more is to its line too
pub accesses-more : (line : ℕ) (accesses : List Access) (i : ℕ) (access : Access) → i < length accesses
    → access ≡ get_or accesses i access
    → list_any (λ access. nat_eq (accessed_line access) line) (take (i + 1) accesses)
    ≡ (list_any (λ access. nat_eq (accessed_line access) line) (take i accesses) || nat_eq (accessed_line access) line)
accesses-more line accesses i access within at =
    let is_to : Access → Bool = λ access. nat_eq (accessed_line access) line in
    ap (λ n. list_any is_to (take n accesses)) (add-one i)
    ∙ ap (list_any is_to) (take-suc accesses i access within ∙ ap (λ x. take i accesses ++ x ∷ []) (sym at))
    ∙ list_any-append is_to (take i accesses) (access ∷ [])
    ∙ ap (λ b. list_any is_to (take i accesses) || b) (or_false (is_to access))

-- one script more names its lines too
pub scripts-more : (line : ℕ) (scripts : List (List Item)) (i : ℕ) (script : List Item) → i < length scripts
    → script ≡ get_or scripts i script
    → is_named_line (take (i + 1) scripts) line
    ≡ (is_named_line (take i scripts) line || list_any (is_named_in line) script)
scripts-more line scripts i script within at =
    let names : List Item → Bool = λ items. list_any (is_named_in line) items in
    ap (λ n. list_any names (take n scripts)) (add-one i)
    ∙ ap (list_any names) (take-suc scripts i script within ∙ ap (λ x. take i scripts ++ x ∷ []) (sym at))
    ∙ list_any-append names (take i scripts) (script ∷ [])
    ∙ ap (λ b. list_any names (take i scripts) || b) (or_false (names script))

-- a line that is added to a list is in it too
pub lines-more : (line added : ℕ) (lines : List ℕ)
    → list_any (λ other. nat_eq other line) (lines ++ added ∷ [])
    ≡ (list_any (λ other. nat_eq other line) lines || nat_eq added line)
lines-more line added lines =
    let is : ℕ → Bool = λ other. nat_eq other line in
    list_any-append is lines (added ∷ []) ∙ ap (λ b. list_any is lines || b) (or_false (is added))

-- the lines of each kind of item
pub ruleset named_lines = (named-one, named-group, named-idle)
