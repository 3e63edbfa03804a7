-- Texts in pieces, each of which ends its last token: the tokens of a piece, and what they do, wherever the piece
-- stands.
use Rattle.std.proofs.Common.{◌≡◌, ℕ, suc, ◌+◌, ◌-◌, ◌<◌, ◌≤◌, Bool, true, false, not, List, [], ◌∷◌, ◌++◌, length}
use Rattle.std.proofs.Common.{length-append, append_assoc, append-nil, refl, sym, ap, ◌∙◌, arith}
use Rattle.std.proofs.Math.Path.{ap₂}
use Rattle.std.specs.Prelude.{◌==◌}
use Rattle.std.specs.List.{list_all}
use Rattle.std.proofs.lemmas.Bool.{ne_eqb, le-ltb}
use Rattle.vcd_grammar.proofs.Interface.{open-append, tokens-append, behind-append, events_in-append}
use Rattle.vcd_grammar.specs.Tokens.{is_white, is_long, longest, ended_at, grown_at, tokens_from, open_run_from}
use Rattle.vcd_grammar.specs.Blocks.{BlockEvent}
use Rattle.vcd_grammar.specs.Judging.{Known, turn, behind, events_in}

-- ---- texts one behind the other

-- ---- what a piece does

-- wherever the text stands, it ends its last token; it leads from what is known before it to what is known behind
-- it, and
-- these events happen
pub record Does (text : List ℕ) (before now : Known) (events : List BlockEvent) : Type 0 where
  pub closes : open_run_from [] text ≡ []
  pub known : (at : ℕ) → behind before (tokens_from at [] text) ≡ now
  pub happens : (at : ℕ) → events_in before (tokens_from at [] text) ≡ events

pub does-nothing : (k : Known) → Does [] k k []
does-nothing k = record { closes = refl; known = λ at. refl; happens = λ at. refl }

-- the tokens behind a piece are those of the rest by itself
pub tokens_behind : (at : ℕ) (a b : List ℕ) → open_run_from [] a ≡ []
    → tokens_from at [] (a ++ b) ≡ tokens_from at [] a ++ tokens_from (at + length a) [] b
tokens_behind at a b closes = tokens-append at [] a b
    ∙ ap (λ run. tokens_from at [] a ++ tokens_from (at + length a) run b) closes

pub does-both : (a b : List ℕ) (k l m : Known) (e f : List BlockEvent) → Does a k l e → Does b l m f
    → Does (a ++ b) k m (e ++ f)
does-both a b k l m e f p q = record {
  closes = open-append [] a b ∙ ap (λ run. open_run_from run b) p.closes ∙ q.closes;
  known = λ at.
      ap (behind k) (tokens_behind at a b p.closes)
      ∙ behind-append k (tokens_from at [] a) (tokens_from (at + length a) [] b)
      ∙ ap (λ x. behind x (tokens_from (at + length a) [] b)) (p.known at)
      ∙ q.known (at + length a);
  happens = λ at.
      ap (events_in k) (tokens_behind at a b p.closes)
      ∙ events_in-append k (tokens_from at [] a) (tokens_from (at + length a) [] b)
      ∙ ap₂ (λ es fs. es ++ fs) (p.happens at)
      (ap (λ x. events_in x (tokens_from (at + length a) [] b)) (p.known at) ∙ q.happens (at + length a));
}

-- ---- a token

-- no byte of it divides tokens
abbrev pub is_plain : List ℕ → Bool
is_plain word = list_all (λ b. not (is_white b)) word

-- what is written as one token: plain bytes, at least one and not too many
pub record Word (word : List ℕ) : Type 0 where
  pub some : 1 ≤ length word
  pub few : length word ≤ 100
  pub plain : is_plain word ≡ true

is_plain-first : (b : ℕ) (bs : List ℕ) → is_plain (b ∷ bs) ≡ true → is_white b ≡ false
is_plain-first b bs plain = by (is_white b) refl
  where
    by : (t : Bool) → is_white b ≡ t → t ≡ false
    by false e = refl
    by true e = let h : is_plain (b ∷ bs) ≡ false = rw e refl in cc

is_plain-rest : (b : ℕ) (bs : List ℕ) → is_plain (b ∷ bs) ≡ true → is_plain bs ≡ true
is_plain-rest b bs plain = let h : is_plain (b ∷ bs) ≡ is_plain bs = rw (is_plain-first b bs plain) refl in
    sym h ∙ plain

not_grown : (at : ℕ) (run : List ℕ) (b : ℕ) → length run < longest → grown_at at run b ≡ []
unfolding grown_at
not_grown at run b few = rw (ne_eqb (length run) longest (λ e. omega arith)) refl

pub tokens_of_word : (at : ℕ) (run word : List ℕ) (b : ℕ) → is_plain word ≡ true → is_white b ≡ true
    → length run + length word ≤ longest →
    tokens_from at run (word ++ b ∷ []) ≡ ended_at (at + length word) (run ++ word)
tokens_of_word at run [] b plain white few =
    let here : at ≡ at + 0 = omega arith in
    rw white (append-nil (ended_at at run) ∙ ap₂ (λ n r. ended_at n r) here (sym (append-nil run)))
tokens_of_word at run (x ∷ word) b plain white few =
    let here : is_white x ≡ false = is_plain-first x word plain in
    let fits : is_long run ≡ false = le-ltb longest (length run) (omega arith) in
    let place : (at + 1) + length word ≡ at + suc (length word) = omega arith in
    let more : length (run ++ x ∷ []) + length word ≤ longest = omega (arith, length-append run (x ∷ [])) in
    rw here (rw (not_grown at run x (omega arith)) (rw fits
    (tokens_of_word (at + 1) (run ++ x ∷ []) word b (is_plain-rest x word plain) white more
    ∙ ap₂ (λ n r. ended_at n r) place (append_assoc run (x ∷ []) word))))

pub open_of_word : (run word : List ℕ) (b : ℕ) → is_white b ≡ true → open_run_from run (word ++ b ∷ []) ≡ []
open_of_word run word b white = open-append run word (b ∷ []) ∙ rw white refl

-- a word and the white space behind it are one token
pub one_token : (at : ℕ) (word : List ℕ) (b : ℕ) → Word word → is_white b ≡ true →
    tokens_from at [] (word ++ b ∷ []) ≡ record { place = at; word = word } ∷ []
unfolding ended_at
one_token at word b w white =
    let some : (length word == 0) ≡ false = ne_eqb (length word) 0 (λ e. omega (arith, w.some)) in
    let fits : is_long word ≡ false = le-ltb longest (length word) (omega (arith, w.few)) in
    let place : (at + length word) - length word ≡ at = omega arith in
    tokens_of_word at [] word b w.plain white (omega (arith, w.few)) ∙ rw (some, fits) (rw place refl)

-- what a token does, it does as a piece
pub does-token : (word : List ℕ) (b : ℕ) (k now : Known) (events : List BlockEvent) → Word word → is_white b ≡ true →
    ((at : ℕ) → turn k (record { place = at; word = word }) ≡ record { known = now; events = events })
    → Does (word ++ b ∷ []) k now events
does-token word b k now events w white turns = record {
  closes = open_of_word [] word b white;
  known = λ at. ap (behind k) (one_token at word b w white) ∙ ap (λ t. t.known) (turns at);
  happens = λ at. ap (events_in k) (one_token at word b w white)
      ∙ append-nil (turn k (record { place = at; word = word })).events ∙ ap (λ t. t.events) (turns at);
}

-- two tokens, and what they do together
pub does-tokens : (word : List ℕ) (a : ℕ) (code : List ℕ) (b : ℕ) (k now : Known) (events : List BlockEvent)
    → Word word → is_white a ≡ true → Word code → is_white b ≡ true →
    ((at next : ℕ) → behind k (record { place = at; word = word } ∷ record { place = next; word = code } ∷ []) ≡ now) →
    ((at next : ℕ)
    → events_in k (record { place = at; word = word } ∷ record { place = next; word = code } ∷ []) ≡ events) →
    Does ((word ++ a ∷ []) ++ (code ++ b ∷ [])) k now events
does-tokens word a code b k now events w white c blank known happens = record {
  closes = open-append [] (word ++ a ∷ []) (code ++ b ∷ [])
      ∙ ap (λ run. open_run_from run (code ++ b ∷ [])) (open_of_word [] word a white) ∙ open_of_word [] code b blank;
  known = λ at. ap (behind k) (both at) ∙ known at (at + length (word ++ a ∷ []));
  happens = λ at. ap (events_in k) (both at) ∙ happens at (at + length (word ++ a ∷ []));
}
  where
    both : (at : ℕ) → tokens_from at [] ((word ++ a ∷ []) ++ (code ++ b ∷ [])) ≡ record {
      place = at;
      word = word;
    } ∷ record { place = at + length (word ++ a ∷ []); word = code } ∷ []
    both at =
        tokens_behind at (word ++ a ∷ []) (code ++ b ∷ []) (open_of_word [] word a white)
        ∙ ap₂ (λ x y. x ++ y) (one_token at word a w white) (one_token (at + length (word ++ a ∷ [])) code b c blank)
