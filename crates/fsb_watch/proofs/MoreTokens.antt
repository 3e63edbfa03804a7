-- More bytes of a text: its tokens, its first fault, and the samples that are decided.
use Rattle.std.proofs.Common.{◌≡◌, ◌≤◌, ◌+◌, ◌++◌, ◌∷◌, [], ℕ, List, true, length, is_some, refl, sym, ap, ◌∙◌, arith}
use Rattle.std.proofs.lemmas.List.{append_assoc, append-nil, length-append}
use Rattle.fsb_signal.specs.declared.sample.Sample.{Sample}
use Rattle.vcd_grammar.proofs.Interface.{tokens-append, blocks_some, ended-cons, behind-append, events_in-append}
use Rattle.vcd_grammar.specs.Tokens.{Token, tokens_from, tokens_so_far, open_run}
use Rattle.vcd_grammar.specs.Blocks.{Block, BlockEvent, Later, Changed, blocks_from, blocks_of, ended}
use Rattle.vcd_grammar.specs.Judging.{Known, nothing, TokenTurn, goes_to, mode_behind, turn, behind, events_in}
use Rattle.vcd_grammar.specs.Values.{at_first, samples_in, values_behind, sample_of_block, Values}

-- ---- tokens of appended bytes

tokens_so_far-grown : (fed more : List ℕ)
    → tokens_so_far (fed ++ more) ≡ tokens_so_far fed ++ tokens_from (length fed) (open_run fed) more
tokens_so_far-grown fed more =
    let e : 0 + length fed ≡ length fed = omega arith in
    rw e at (tokens-append 0 [] fed more)

pub tokens_so_far-append : (fed more : List ℕ)
    → (ts : List Token) × (tokens_so_far (fed ++ more) ≡ tokens_so_far fed ++ ts)
tokens_so_far-append fed more = (tokens_from (length fed) (open_run fed) more, tokens_so_far-grown fed more)

-- ---- what is known behind appended tokens, and what happens in them

-- behind a fault only the header goes on, and nothing happens any more
turn-refused : (k : Known) (t : Token) → is_some k.fault ≡ true → turn k t ≡ goes_to k (mode_behind k.mode t)
unfolding turn
turn-refused k t e = rw e refl

still-refused : (k : Known) (t : Token) → is_some k.fault ≡ true → is_some (turn k t).known.fault ≡ true
still-refused k t e = ap (λ (x : TokenTurn). is_some x.known.fault) (turn-refused k t e) ∙ e

behind-refused : (k : Known) (ts : List Token) → is_some k.fault ≡ true → (behind k ts).fault ≡ k.fault
behind-refused k [] e = refl
behind-refused k (t ∷ ts) e = behind-refused (turn k t).known ts (still-refused k t e)
    ∙ ap (λ (x : TokenTurn). x.known.fault) (turn-refused k t e)

events_in-refused : (k : Known) (ts : List Token) → is_some k.fault ≡ true → events_in k ts ≡ []
events_in-refused k [] e = refl
events_in-refused k (t ∷ ts) e =
    ap (λ (x : TokenTurn). x.events ++ events_in (turn k t).known ts) (turn-refused k t e)
    ∙ events_in-refused (turn k t).known ts (still-refused k t e)

-- ---- samples of appended events

-- the blocks that a greater time has ended stay the first ones
abbrev ended_from : Block → List BlockEvent → List Block
ended_from block [] = []
ended_from block (Later ∷ events) = block ∷ ended_from [] events
ended_from block (Changed change ∷ events) = ended_from (block ++ change ∷ []) events

ended-from : (block : Block) (es : List BlockEvent) → ended (blocks_from block es) ≡ ended_from block es
ended-from block [] = refl
ended-from block (Later ∷ es) =
    ended-cons block (blocks_from [] es) (blocks_some [] es) ∙ ap (λ bs. block ∷ bs) (ended-from [] es)
ended-from block (Changed c ∷ es) = ended-from (block ++ c ∷ []) es

-- the block that stands open behind events
abbrev open_block : Block → List BlockEvent → Block
open_block block [] = block
open_block block (Later ∷ es) = open_block [] es
open_block block (Changed c ∷ es) = open_block (block ++ c ∷ []) es

ended_from-append : (block : Block) (es fs : List BlockEvent)
    → ended_from block (es ++ fs) ≡ ended_from block es ++ ended_from (open_block block es) fs
ended_from-append block [] fs = refl
ended_from-append block (Later ∷ es) fs = ap (λ bs. block ∷ bs) (ended_from-append [] es fs)
ended_from-append block (Changed c ∷ es) fs = ended_from-append (block ++ c ∷ []) es fs

samples_in-append : (before : Values) (bs cs : List Block)
    → (ss : List Sample) × (samples_in before (bs ++ cs) ≡ samples_in before bs ++ ss)
samples_in-append before [] cs = (samples_in before cs, refl)
samples_in-append before (b ∷ bs) cs =
    let h = samples_in-append (values_behind before b) bs cs in (
      h.0,
      ap (λ ss. sample_of_block before b ++ ss) h.1
          ∙ sym (append_assoc (sample_of_block before b) (samples_in (values_behind before b) bs) h.0),
    )

-- the samples that are decided stay the first ones
decided-append : (es fs : List BlockEvent)
    → (ss : List Sample)
    × (samples_in at_first (ended (blocks_of (es ++ fs))) ≡ samples_in at_first (ended (blocks_of es)) ++ ss)
decided-append es fs =
    let h = samples_in-append at_first (ended_from [] es) (ended_from (open_block [] es) fs) in (
      h.0,
      ap (λ bs. samples_in at_first bs) (ended-from [] (es ++ fs) ∙ ended_from-append [] es fs) ∙ h.1
          ∙ ap (λ bs. samples_in at_first bs ++ h.0) (sym (ended-from [] es)),
    )

abbrev pub decided : List Token → List Sample
decided ts = samples_in at_first (ended (blocks_of (events_in nothing ts)))

tokens-decided : (ts us : List Token) → (ss : List Sample) × (decided (ts ++ us) ≡ decided ts ++ ss)
tokens-decided ts us =
    let h = decided-append (events_in nothing ts) (events_in (behind nothing ts) us) in
    (h.0, ap (λ es. samples_in at_first (ended (blocks_of es))) (events_in-append nothing ts us) ∙ h.1)

-- no fewer samples are decided by more tokens
pub no_fewer : (ts us : List Token) → length (decided ts) ≤ length (decided (ts ++ us))
no_fewer ts us =
    let h = tokens-decided ts us in
    let e : length (decided (ts ++ us)) ≡ length (decided ts) + length h.0 =
    ap (λ ss. length ss) h.1 ∙ length-append (decided ts) h.0 in
    omega arith

-- behind a fault no more are decided
pub no_more : (ts us : List Token) → is_some (behind nothing ts).fault ≡ true → decided (ts ++ us) ≡ decided ts
no_more ts us e =
    ap (λ es. samples_in at_first (ended (blocks_of es)))
    (events_in-append nothing ts us
    ∙ ap (λ es. events_in nothing ts ++ es) (events_in-refused (behind nothing ts) us e)
    ∙ append-nil (events_in nothing ts))

-- the fault stays
pub fault-stays : (ts us : List Token) → is_some (behind nothing ts).fault ≡ true
    → (behind nothing (ts ++ us)).fault ≡ (behind nothing ts).fault
fault-stays ts us e = ap (λ (k : Known). k.fault) (behind-append nothing ts us) ∙ behind-refused (behind nothing ts) us e
