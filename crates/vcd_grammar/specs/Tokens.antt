-- The tokens of a text: its longest runs of bytes that are no white space.
use Rattle.std.specs.Prelude.{ℕ, ◌+◌, ◌-◌, Bool, ◌&&◌, ◌||◌, ◌==◌, nat_lt, nat_le, if◌then◌else◌, List, [], ◌∷◌, ◌++◌, length}

-- a token and the place of its first byte; of one that is too long these are its first 70,001 bytes
pub record Token : Type 0 where
  pub place : ℕ
  pub word : List ℕ

-- a byte that divides tokens: 9 to 13, or a space
abbrev pub is_white : ℕ → Bool
is_white b = (nat_le 9 b && nat_le b 13) || (b == 32)

-- the most bytes that a token has that is not too long
abbrev pub longest : ℕ
longest = 70000

-- the word is too long for a token
abbrev pub is_long : List ℕ → Bool
is_long word = nat_lt longest (length word)

-- the token that a run is whose end is the place `at`: none where the run is empty, or where it is too long and so has
-- counted already
unfoldable pub ended_at : ℕ → List ℕ → List Token
ended_at at run =
    if (length run == 0) || is_long run then []
    else record { place = at - length run; word = run } ∷ []

-- the token that a run is once the byte b at the place `at` has made it too long
unfoldable pub grown_at : ℕ → List ℕ → ℕ → List Token
grown_at at run b =
    if length run == longest then record { place = at - longest; word = run ++ b ∷ [] } ∷ [] else []

-- the token that counts with the byte b at the place `at`, behind a run that stands open: a token counts at the white
-- space behind it, or at its byte 70,001
abbrev pub counted : ℕ → List ℕ → ℕ → List Token
counted at run b = if is_white b then ended_at at run else grown_at at run b

-- the run that stands open behind a byte; of one that is too long no more is kept
abbrev pub run_behind : List ℕ → ℕ → List ℕ
run_behind run b = if is_white b then [] else (if is_long run then run else run ++ b ∷ [])

-- the tokens that count in bytes from the place `at` on, behind an open run
abbrev pub tokens_from : ℕ → List ℕ → List ℕ → List Token
tokens_from at run [] = []
tokens_from at run (b ∷ bs) = counted at run b ++ tokens_from (at + 1) (run_behind run b) bs

-- the run that stands open behind bytes
abbrev pub open_run_from : List ℕ → List ℕ → List ℕ
open_run_from run [] = run
open_run_from run (b ∷ bs) = open_run_from (run_behind run b) bs

-- the run that stands open at the end of some bytes
abbrev pub open_run : List ℕ → List ℕ
open_run fed = open_run_from [] fed

-- the tokens that count in some first bytes of a text, however the text goes on
abbrev pub tokens_so_far : List ℕ → List Token
tokens_so_far fed = tokens_from 0 [] fed

-- the tokens of a whole text
abbrev pub tokens_of : List ℕ → List Token
tokens_of text = tokens_so_far text ++ ended_at (length text) (open_run text)
