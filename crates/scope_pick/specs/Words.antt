-- The bits of words that are declared bit by bit, by their words.
use Rattle.std.specs.Prelude.{◌≡◌, ℕ, Bool, List, [], Option, Some, None, IfSome}
use Rattle.std.specs.List.{filter}
use Rattle.std.specs.Ordering.{nat_cmp, bool_cmp, ordering_then}
use Rattle.std.specs.BTreeMap.{BTreeMap, get}
use Rattle.std.specs.declared.alloc.Global.{Global}
use Rattle.std.specs.declared.cmp.Ordering.{Ordering}
use Rattle.std.specs.declared.vec.Vec.{Vec}
use Rattle.scope_pick.specs.declared.split.Bit.{Bit}
use Rattle.scope_pick.specs.Splits.{is_of_word, base_of}

-- a word: its scope, its line, and whether its name is the line's own
abbrev pub WordKey : Type 0
WordKey = ℕ × ℕ × Bool

-- the word that a bit belongs to
abbrev pub word_key : Bit → WordKey
word_key b = (b.scope, b.line, b.exact)

-- the order of words
abbrev pub key_cmp : WordKey → WordKey → Ordering
key_cmp x y = ordering_then (ordering_then (nat_cmp x.0 y.0) (nat_cmp x.1 y.1)) (bool_cmp x.2 y.2)

-- the items of a list that may be there
abbrev pub items_kept : Option (Vec Bit Global) → List Bit
items_kept None = []
items_kept (Some word) = word.items

-- what is kept of the bit's word
abbrev pub word_at : BTreeMap WordKey (Vec Bit Global) → Bit → List Bit
word_at words b = items_kept (get key_cmp words (word_key b))

-- each word's bits are kept, in the order of the header
abbrev pub AreWords : BTreeMap WordKey (Vec Bit Global) → List Bit → Type 0
AreWords words bs = (b : Bit) → word_at words b ≡ filter (is_of_word b) bs

-- what is kept of the number of its lowest bit, which it may lack
abbrev pub base_at : BTreeMap WordKey (Option ℕ) → Bit → Option (Option ℕ)
base_at bases b = get key_cmp bases (word_key b)

-- what is kept is the number of the word's lowest bit
abbrev pub AreBases : BTreeMap WordKey (Option ℕ) → List Bit → Type 0
AreBases bases bs = (b : Bit) → IfSome (base_at bases b) (λ base. base ≡ base_of bs b)
