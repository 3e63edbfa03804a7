-- What a cutter has read, what bytes make of it, and the tokens that count in them.
use Rattle.std.specs.Prelude.{◌≡◌, ℕ, ◌+◌, ◌-◌, ◌≤◌, ◌==◌, Bool, not, count_by, List, [], ◌∷◌, ◌++◌, length, take, min, Option, Some, None}
use Rattle.vcd_grammar.specs.Tokens.{Token, is_white, longest, ended_at, tokens_from, open_run_from}
use Rattle.vcd_cut.specs.declared.cut.CutToken.{CutToken}
use Rattle.vcd_cut.specs.declared.cut.Source.{Source}
use Rattle.vcd_cut.specs.declared.cut.Source.TheVariants as sources
use Rattle.vcd_cut.specs.declared.cutter.Cutter.{Cutter}

-- a byte that is no white space
abbrev pub is_dark : ℕ → Bool
is_dark b = not (is_white b)

-- a line feed
abbrev pub is_break : ℕ → Bool
is_break b = b == 10

-- how many bytes were read, how many of them are line feeds, and the run that stands open
pub record Cutting : Type 0 where
  pub at : ℕ
  pub breaks : ℕ
  pub run : List ℕ

-- what a cutter has read
abbrev pub cutting : Cutter → Cutting
cutting c = record { at = c.at; breaks = c.breaks; run = c.run.bytes.items }

-- what bytes make of it
abbrev pub after_cut : Cutting → List ℕ → Cutting
after_cut c bytes = record {
  at = c.at + length bytes;
  breaks = c.breaks + count_by is_break bytes;
  run = open_run_from c.run bytes;
}

-- the tokens that count in bytes
abbrev pub tokens_cut : Cutting → List ℕ → List Token
tokens_cut c bytes = tokens_from c.at c.run bytes

-- the token that the open run is, where it ends here
abbrev pub ended_cut : Cutting → List Token
ended_cut c = ended_at c.at c.run

-- the tokens that count where white space follows these bytes
abbrev pub counted_cut : Cutting → List ℕ → List Token
counted_cut c bytes = tokens_cut c bytes ++ ended_cut (after_cut c bytes)

-- a run with the first of some bytes, up to one more than a token may have
abbrev pub taken_by : List ℕ → List ℕ → List ℕ
taken_by run bs = run ++ take (longest + 1 - length run) bs

-- the word that lies there, after some bytes were given and another word was kept
abbrev pub word_at : List ℕ → Source → List ℕ → List ℕ
word_at kept (sources.Given len) bytes = take len bytes
word_at kept sources.Kept bytes = kept

-- the same, of a cutter
abbrev pub word_of : Cutter → Source → List ℕ → List ℕ
word_of c source bytes = word_at c.done.bytes.items source bytes

-- the token that was cut off some bytes, where one was
abbrev pub tokens_told : List ℕ → Option CutToken → List ℕ → List Token
tokens_told kept None bytes = []
tokens_told kept (Some t) bytes = record { place = t.place; word = word_at kept t.source bytes } ∷ []

-- the same, by a cutter
abbrev pub tokens_in : Cutter → Option CutToken → List ℕ → List Token
tokens_in c token bytes = tokens_told c.done.bytes.items token bytes

-- a word that lies in the given bytes has no more bytes
abbrev pub FitsIn : Source → ℕ → Type 0
FitsIn (sources.Given len) most = len ≤ most
FitsIn sources.Kept most = Unit {0}

-- the bytes are as many as the run and the line feeds ask for
pub record Sound (c : Cutting) : Type 0 where
  pub run : min (length c.run) longest ≤ c.at
  pub breaks : c.breaks ≤ c.at

-- a token begins with the run that stands open, which is not too long, and on its text line
pub record Begins (c : Cutting) (t : CutToken) : Type 0 where
  pub short : length c.run ≤ longest
  pub place : t.place ≡ c.at - length c.run
  pub line : t.line ≡ 1 + c.breaks
