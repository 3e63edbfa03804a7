-- Bytes behind bytes, tokens behind tokens, and events behind events.
use Rattle.std.proofs.Common.{◌≡◌, ℕ, ◌+◌, ◌-◌, ◌<◌, List, [], ◌∷◌, ◌++◌, length, take, refl, sym, ap, ◌∙◌, arith}
use Rattle.std.proofs.Common.{append_assoc, suc}
use Rattle.vcd_grammar.specs.Tokens.{Token, counted, run_behind, tokens_from, open_run_from}
use Rattle.vcd_grammar.specs.Judging.{Known, turn, behind, events_in}
use Rattle.vcd_grammar.specs.Blocks.{Block, BlockEvent, Later, Changed, blocks_from, ended}

-- the run that stands open behind bytes and then others
pub open-append : (run xs ys : List ℕ) → open_run_from run (xs ++ ys) ≡ open_run_from (open_run_from run xs) ys
open-append run [] ys = refl
open-append run (x ∷ xs) ys = open-append (run_behind run x) xs ys

-- the tokens that count in bytes and then others
pub tokens-append : (at : ℕ) (run xs ys : List ℕ)
    → tokens_from at run (xs ++ ys) ≡ tokens_from at run xs ++ tokens_from (at + length xs) (open_run_from run xs) ys
tokens-append at run [] ys = ap (λ n. tokens_from n run ys) (omega arith)
tokens-append at run (x ∷ xs) ys =
    let next : at + 1 + length xs ≡ at + length (x ∷ xs) = omega arith in
    ap (λ ts. counted at run x ++ ts) (tokens-append (at + 1) (run_behind run x) xs ys
    ∙ ap (λ n. tokens_from (at + 1) (run_behind run x) xs
    ++ tokens_from n (open_run_from (run_behind run x) xs) ys) next)
    ∙ sym (append_assoc (counted at run x) (tokens_from (at + 1) (run_behind run x) xs)
    (tokens_from (at + length (x ∷ xs)) (open_run_from (run_behind run x) xs) ys))

-- what is known behind tokens and then others
pub behind-append : (k : Known) (ts us : List Token) → behind k (ts ++ us) ≡ behind (behind k ts) us
behind-append k [] us = refl
behind-append k (t ∷ ts) us = behind-append (turn k t).known ts us

-- what happens in tokens and then others
pub events_in-append : (k : Known) (ts us : List Token)
    → events_in k (ts ++ us) ≡ events_in k ts ++ events_in (behind k ts) us
events_in-append k [] us = refl
events_in-append k (t ∷ ts) us =
    ap (λ es. (turn k t).events ++ es) (events_in-append (turn k t).known ts us)
    ∙ sym (append_assoc (turn k t).events (events_in (turn k t).known ts) (events_in (behind (turn k t).known ts) us))

-- there is a last block
pub blocks_some : (block : Block) (es : List BlockEvent) → 0 < length (blocks_from block es)
blocks_some block [] = omega arith
blocks_some block (Later ∷ es) = omega (arith, blocks_some [] es)
blocks_some block (Changed change ∷ es) = blocks_some (block ++ change ∷ []) es

-- a block before others is ended
pub ended-cons : (block : Block) (blocks : List Block) → 0 < length blocks
    → ended (block ∷ blocks) ≡ block ∷ ended blocks
ended-cons block blocks some =
    let n : length (block ∷ blocks) - 1 ≡ suc (length blocks - 1) = omega (arith, some) in
    ap (λ k. take k (block ∷ blocks)) n
