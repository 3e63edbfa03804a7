-- Other ways to read a rejected dump, and lines by their names.
use Rattle.std.specs.Prelude.{ℕ, List, map, codes, [], ◌∷◌}
use Rattle.serde_json.specs.Data.{Data, null, array, object, string, no_members, put}
use Rattle.serde_json.specs.View.{items_of}
use Rattle.reason_facts.specs.Values.{count, with_count}
use Rattle.scope_tries.specs.declared.hint.Further.{Further}
use Rattle.scope_tries.specs.declared.hint.Further.TheVariants as furthers

-- how much further a dump gets: the word for the verdict, and the first broken clock, or null
abbrev pub further_word : Further → List ℕ
further_word furthers.Accepted = codes "accepted"
further_word (furthers.Broken clock) = codes "rejected"

abbrev pub further_clock : Further → Data
further_clock furthers.Accepted = null
further_clock (furthers.Broken clock) = count clock
