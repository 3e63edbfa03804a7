-- Which scope of a dump is the bus.
use Rattle.std.specs.Prelude.{ℕ, Bool, true, false, nat_eq, nat_lt, not, ◌&&◌, ◌||◌, List, [], ◌∷◌, Option, Some, None, is_some, if◌then◌else◌}
use Rattle.std.specs.List.{find, filter, list_any, list_all}
use Rattle.scope_pick.specs.declared.wires.Named.{Named}
use Rattle.scope_pick.specs.Places.{is_line_needed, is_multi_bit}

-- the numbers of the lines
abbrev pub lines : List ℕ
lines =
    0 ∷ 1 ∷ 2 ∷ 3 ∷ 4 ∷ 5 ∷ 6 ∷ 7 ∷ 8 ∷ 9 ∷ 10
    ∷ 11 ∷ 12 ∷ 13 ∷ 14 ∷ 15 ∷ 16 ∷ 17 ∷ 18 ∷ 19 ∷ 20 ∷ 21 ∷ []

-- the variable stands in the scope and is named like the line
unfoldable pub is_for : ℕ → ℕ → Named → Bool
is_for scope line e = nat_eq e.scope scope && nat_eq e.line line

-- the first variable of the scope with the line's own name
unfoldable pub exact_in : List Named → ℕ → ℕ → Option Named
exact_in ns scope line = find (λ e. is_for scope line e && e.exact) ns

-- the first with any of its names
unfoldable pub like_in : List Named → ℕ → ℕ → Option Named
like_in ns scope line = find (is_for scope line) ns

-- of several names for one line in a scope the exact one wins
unfoldable pub first_in : List Named → ℕ → ℕ → Option Named
first_in ns scope line =
    elim (exact_in ns scope line) [ Some e ↦ Some e | None ↦ like_in ns scope line ]

-- another wire of the scope has as good a name for the line
unfoldable pub is_rival : Named → Named → Bool
is_rival c e = is_for c.scope c.line e && (not c.exact || e.exact) && not (nat_eq e.wire c.wire)

-- the scope has wires that are as good as one another for the line
unfoldable pub is_ambiguous : List Named → ℕ → ℕ → Bool
is_ambiguous ns scope line =
    elim (first_in ns scope line) [ None ↦ false | Some c ↦ list_any (is_rival c) ns ]

-- the line as it is found in the scope
unfoldable pub found_in : List Named → ℕ → ℕ → Option Named
found_in ns scope line = if is_ambiguous ns scope line then None else first_in ns scope line

-- settled lines are those that the user named or left out
unfoldable pub is_listed : List ℕ → ℕ → Bool
is_listed settled line = list_any (λ n. nat_eq n line) settled

-- the user settled the line, or the scope has one best wire for it,
-- or it isn't needed and nothing is named like it
unfoldable pub is_settled : List Named → List ℕ → ℕ → ℕ → Bool
is_settled ns settled scope line =
    is_listed settled line
    || (not (is_ambiguous ns scope line)
    && (not (is_line_needed line) || is_some (first_in ns scope line)))

-- every line is settled in the scope
unfoldable pub is_whole : List Named → List ℕ → ℕ → Bool
is_whole ns settled scope = list_all (is_settled ns settled scope) lines

-- the variable is the first of its scope that is named like a line
unfoldable pub is_head : List Named → Named → Bool
is_head ns e =
    elim (find (λ f. nat_eq f.scope e.scope) ns) [ None ↦ false | Some f ↦ nat_eq f.index e.index ]

-- the scope whose first variable this is has every needed line, and none that is ambiguous
unfoldable pub qualifies : List Named → List ℕ → Named → Bool
qualifies ns settled e = is_head ns e && is_whole ns settled e.scope

-- the scopes that qualify, each by its first variable
unfoldable pub qualified : List Named → List ℕ → List Named
qualified ns settled = filter (qualifies ns settled) ns

-- the line stands in the scope if it stands in the other; where it has one bit, on the same wire.
-- Some tools give one net one code in all scopes, and some do so for single bits alone
unfoldable pub has_same : Option Named → Option Named → Bool
has_same None theirs = not (is_some theirs)
has_same (Some e) None = true
has_same (Some e) (Some f) = is_multi_bit e.line || nat_eq e.wire f.wire

-- the two are a word of one wire, if both stand there
unfoldable pub may_be_one_word : Option Named → Option Named → Bool
may_be_one_word None theirs = true
may_be_one_word (Some e) None = true
may_be_one_word (Some e) (Some f) = not (is_multi_bit e.line) || nat_eq e.wire f.wire

-- the two are a word of two wires, if both stand there
unfoldable pub may_be_two_words : Option Named → Option Named → Bool
may_be_two_words None theirs = true
may_be_two_words (Some e) None = true
may_be_two_words (Some e) (Some f) = not (is_multi_bit e.line) || not (nat_eq e.wire f.wire)

-- every line of the other scope stands in this one
abbrev pub has_lines_of : List Named → List ℕ → ℕ → ℕ → Bool
has_lines_of ns settled scope other =
    list_all
    (λ n. is_listed settled n || has_same (found_in ns scope n) (found_in ns other n))
    lines

-- the words that stand in both have the same codes
abbrev pub shares_words : List Named → List ℕ → ℕ → ℕ → Bool
shares_words ns settled scope other =
    list_all
    (λ n. is_listed settled n || may_be_one_word (found_in ns scope n) (found_in ns other n))
    lines

-- none of them has the same code
abbrev pub shares_no_word : List Named → List ℕ → ℕ → ℕ → Bool
shares_no_word ns settled scope other =
    list_all
    (λ n. is_listed settled n || may_be_two_words (found_in ns scope n) (found_in ns other n))
    lines

-- every line of the other scope stands in this one, single bits with the same codes,
-- and words all with the same codes or all with others: the two are one bus,
-- and this one has at least its lines; settled lines are taken from neither
unfoldable pub is_same_bus : List Named → List ℕ → ℕ → ℕ → Bool
is_same_bus ns settled scope other =
    has_lines_of ns settled scope other
    && (shares_words ns settled scope other || shares_no_word ns settled scope other)

-- the scope has the lines of all of these
unfoldable pub is_fullest : List Named → List ℕ → List Named → Named → Bool
is_fullest ns settled others e = list_all (λ f. is_same_bus ns settled e.scope f.scope) others

-- the one scope that is judged: of those that qualify the one that has all lines of the others
unfoldable pub picked : List Named → List ℕ → Option Named
picked ns settled =
    find (is_fullest ns settled (qualified ns settled)) (qualified ns settled)

-- the first scope lies in the other: that one has its lines, and more, or stands before it
unfoldable pub lies_in : List Named → List ℕ → Named → Named → Bool
lies_in ns settled e f =
    is_same_bus ns settled f.scope e.scope
    && (not (is_same_bus ns settled e.scope f.scope) || nat_lt f.index e.index)

-- the scope lies in none of these
unfoldable pub stands_alone : List Named → List ℕ → List Named → Named → Bool
stands_alone ns settled others e = not (list_any (lies_in ns settled e) others)

-- the buses of a dump: of the scopes that qualify those that lie in no other
unfoldable pub buses : List Named → List ℕ → List Named
buses ns settled = filter (stands_alone ns settled (qualified ns settled)) (qualified ns settled)

-- the line isn't needed, or it is settled
unfoldable pub is_free : List ℕ → ℕ → Bool
is_free settled line = not (is_line_needed line) || is_listed settled line

-- a scope is needed: a needed line is not settled. Where all are, nothing is taken from a scope that nobody named
unfoldable pub is_scope_needed : List ℕ → Bool
is_scope_needed settled = not (list_all (is_free settled) lines)
