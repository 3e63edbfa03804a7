-- What is listed where the wires are not picked, each by the index of a declaration.
use Rattle.std.specs.Prelude.{ℕ, Bool, nat_eq, nat_le, nat_lt, not, ◌&&◌, ◌||◌, count_by, map, List, [], ◌∷◌, Option, Some, None, is_some, slice_get, if◌then◌else◌}
use Rattle.std.specs.List.{filter, filter_map, list_all, enumerate_from}
use Rattle.scope_pick.specs.declared.variable.Variable.{Variable}
use Rattle.scope_pick.specs.declared.wires.Named.{Named}
use Rattle.scope_pick.specs.Places.{is_line_needed}
use Rattle.scope_pick.specs.Splits.{after_last}
use Rattle.scope_pick.specs.Scopes.{lines, found_in, is_listed, is_head, qualified, stands_alone}
use Rattle.scope_wiring.specs.declared.cause.Cause.{Cause}
use Rattle.scope_wiring.specs.declared.cause.Cause.TheVariants as causes
use Rattle.scope_wiring.specs.declared.home.Home.{Home}
use Rattle.scope_wiring.specs.declared.meaning.Meaning.{Meaning}
use Rattle.scope_wiring.specs.declared.meaning.Meaning.TheVariants.{Nothing, Several, Lacking, Whole, Bits, Word, WordBits}
use Rattle.scope_wiring.specs.declared.text.LineOption.{LineOption}
use Rattle.scope_wiring.specs.Meanings.{meaning_of}
use Rattle.scope_wiring.specs.NamedWords.{is_name_or_bit}
use Rattle.scope_wiring.specs.Texts.{before_bits}

-- the numbers of the scopes of these
abbrev pub scopes_of : List Named → List ℕ
scopes_of ns = map (λ (e : Named). e.scope) ns

-- the scopes with a variable that is named like a line, each by the first such
unfoldable pub heads : List Named → List Named
heads ns = filter (is_head ns) ns

-- a needed line that is to be found in the scope, and is found
unfoldable pub is_found : List Named → List ℕ → ℕ → ℕ → Bool
is_found ns settled scope line =
    nat_lt line 22 && is_line_needed line && not (is_listed settled line) && is_some (found_in ns scope line)

-- how many of them there are
unfoldable pub found_count : List Named → List ℕ → ℕ → ℕ
found_count ns settled scope = count_by (is_found ns settled scope) lines

-- none of these counts is greater
unfoldable pub is_greatest : List ℕ → ℕ → Bool
is_greatest counts count = list_all (λ c. nat_le c count) counts

-- how many needed lines each of these scopes has
unfoldable pub found_counts : List Named → List ℕ → List Named → List ℕ
found_counts ns settled hs = map (λ (e : Named). found_count ns settled e.scope) hs

-- the scopes with the most needed lines
unfoldable pub best_among : List Named → List ℕ → List Named → List Named
best_among ns settled hs =
    filter (λ (e : Named). is_greatest (found_counts ns settled hs) (found_count ns settled e.scope)) hs

-- the scopes that qualify and lie in no other
unfoldable pub buses_among : List Named → List ℕ → List Named → List Named
buses_among ns settled scopes = filter (stands_alone ns settled scopes) scopes

-- the variable has the name, or the name before its bits, perhaps with an index behind it
unfoldable pub is_alike : List ℕ → Variable → Bool
is_alike name v = is_name_or_bit name v.name.items || is_name_or_bit (before_bits name) v.name.items

-- the index, if the variable is one of them
unfoldable pub alike_at : List ℕ → ℕ → Variable → Option ℕ
alike_at name i v = if is_alike name v then Some i else None

-- the variables that have the name that ends the text, in any scope
unfoldable pub alike : List Variable → List ℕ → List ℕ
alike vs text = filter_map (λ p. alike_at (after_last 46 text) p.0 p.1) (enumerate_from 0 vs)

-- the variable that is meant, or of a word that lacks bits all that the text may mean
unfoldable pub indices_meant : List Variable → List ℕ → Meaning → List ℕ
indices_meant vs text Nothing = []
indices_meant vs text Several = []
indices_meant vs text Lacking = alike vs text
indices_meant vs text (Whole i) = i ∷ []
indices_meant vs text (Bits i range) = i ∷ []
indices_meant vs text (Word range) = []
indices_meant vs text (WordBits range) = []

-- the variables that the option may mean
unfoldable pub alike_option : List Variable → Option LineOption → List ℕ
alike_option vs None = []
alike_option vs (Some o) = alike vs o.target.items

-- the variables that it means
unfoldable pub meant_by : List Variable → Home → Option LineOption → List ℕ
meant_by vs home None = []
meant_by vs home (Some o) =
    indices_meant vs o.target.items (meaning_of vs home o.line o.target.items)

-- what is listed with a cause
unfoldable pub candidates : List Variable → List LineOption → List Named → List ℕ → Home → Cause → List ℕ
candidates vs os ns settled home (causes.Needed line) = []
candidates vs os ns settled home (causes.Twice line) = []
candidates vs os ns settled home causes.NoScope = scopes_of (heads ns)
candidates vs os ns settled home (causes.NotWhole scope) = scope ∷ []
candidates vs os ns settled home causes.NoneWhole = scopes_of (best_among ns settled (heads ns))
candidates vs os ns settled home causes.Several =
    scopes_of (buses_among ns settled (qualified ns settled))
candidates vs os ns settled home (causes.NoVariable k) = alike_option vs (slice_get os k)
candidates vs os ns settled home (causes.SeveralVariables k) = alike_option vs (slice_get os k)
candidates vs os ns settled home (causes.CannotBe k) = meant_by vs home (slice_get os k)
candidates vs os ns settled home (causes.LacksBits k) = meant_by vs home (slice_get os k)
