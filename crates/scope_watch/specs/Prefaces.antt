-- The text before the first `$` of a dump, which is read past.
use Rattle.std.specs.Prelude.{◌≡◌, ◌≤◌, ℕ, Bool, true, false, ◌&&◌, ◌==◌, nat_le, if◌then◌else◌, List, [], ◌∷◌, ◌++◌, length}
use Rattle.vcd_grammar.specs.Tokens.{is_white}
use Rattle.scope_watch.specs.declared.preface.PrefaceReader.{PrefaceReader}

-- the bytes before the first `$` that begins a word; with the first byte a word may begin, or not
abbrev pub preface_from : Bool → List ℕ → List ℕ
preface_from starts [] = []
preface_from starts (b ∷ bs) = if starts && (b == 36) then [] else b ∷ preface_from (is_white b) bs

-- the bytes of a text before the first `$` that begins a word
abbrev pub preface_of : List ℕ → List ℕ
preface_of text = preface_from true text

-- so many bytes without such a `$` are no dump
abbrev pub preface_limit : ℕ
preface_limit = 1048576

-- no `$` begins a word among the first 2^20 bytes of the text, which has as many
abbrev pub is_no_dump : List ℕ → Bool
is_no_dump text = nat_le preface_limit (length (preface_of text))

-- a reader has read the preface of these first bytes of a text, up to its `$` where that has come
pub record HasRead (p : PrefaceReader) (fed : List ℕ) : Type 0 where
  pub over : p.is_over ≡ true → (more : List ℕ) → preface_of (fed ++ more) ≡ preface_of fed
  pub goes_on : p.is_over ≡ false → (more : List ℕ) → preface_of (fed ++ more) ≡ fed ++ preface_from p.starts more
  pub count : p.count ≡ length (preface_of fed)
  pub few : p.count ≤ length fed
