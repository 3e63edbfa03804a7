-- The sections of a header, whatever they declare, up to the `$end` of its `$enddefinitions`.
use Rattle.std.specs.Prelude.{Bool, true, false, if◌then◌else◌, List, [], ◌∷◌}
use Rattle.vcd_grammar.specs.Tokens.{Token, is_long}
use Rattle.vcd_grammar.specs.Words.{HeaderWord, Declares, Finishes, Ends, Opens, Bare, header_word, is_end}

-- where the next token stands
pub data Heading : Type 0 where
  -- between the sections
  Between : Heading
  -- in one of them
  Inside : Heading
  -- behind `$enddefinitions`, before its `$end`
  Ending : Heading
  -- behind that `$end`
  Over : Heading

-- behind a word between the sections
abbrev pub behind_word : HeaderWord → Heading
behind_word Declares = Inside
behind_word Finishes = Ending
behind_word Ends = Between
behind_word Opens = Inside
behind_word Bare = Between

-- behind a token; one that is too long opens no section
abbrev pub behind_token : Heading → Token → Heading
behind_token Between t = if is_long t.word then Between else behind_word (header_word t.word)
behind_token Inside t = if is_end t.word then Between else Inside
behind_token Ending t = if is_end t.word then Over else Ending
behind_token Over t = Over

-- behind some tokens
abbrev pub heading_behind : Heading → List Token → Heading
heading_behind h [] = h
heading_behind h (t ∷ ts) = heading_behind (behind_token h t) ts

abbrev pub is_over : Heading → Bool
is_over Between = false
is_over Inside = false
is_over Ending = false
is_over Over = true

-- among these tokens, the first of a text, the `$enddefinitions` has its `$end`, whether or not a fault is among them
abbrev pub is_header_over : List Token → Bool
is_header_over tokens = is_over (heading_behind Between tokens)
