-- The text of some samples reads back.
use Rattle.std.proofs.Common.{◌≡◌, ℕ, suc, ◌^◌, ◌≤◌, Bool, List, [], ◌∷◌, ◌++◌, length, refl, sym, ap, ◌∙◌}
use Rattle.std.proofs.Common.{arith, append-nil, Option, Some, None, All}
use Rattle.std.proofs.Math.Path.{ap₂}
use Rattle.fsb_signal.specs.declared.sample.Sample.{Sample}
use Rattle.vcd_grammar.specs.Tokens.{ended_at, tokens_from, open_run_from, tokens_of}
use Rattle.vcd_grammar.specs.Digits.{extended}
use Rattle.vcd_grammar.specs.Blocks.{Block, BlockEvent, blocks_of, blocks_from}
use Rattle.vcd_grammar.specs.Values.{at_first, values_behind, samples_in}
use Rattle.vcd_grammar.specs.Judging.{Known, nothing, behind, events_in, marks_of_lines}
use Rattle.vcd_grammar.specs.Reading.{or_cut, first_fault, marks_of, samples_of, Reads}
use Rattle.vcd_laws.proofs.Pieces.{Does, does-both}
use Rattle.vcd_laws.proofs.Known.{sets, changed}
use Rattle.scope_write.specs.Text.{is_written, shown_header, shown_clocks, shown_dump}
use Rattle.scope_write.specs.Samples.{IsSilent, Has64Lines, AreShown, marks_there}
use Rattle.scope_write.proofs.Entries.{numbers_below, shown, declared-is}
use Rattle.scope_write.proofs.Declaring.{unknown_below, does-header}
use Rattle.scope_write.proofs.Lines.{by_number, initial, fall, values-unknown, behind-fall, first-carried}
use Rattle.scope_write.proofs.Clocks.{clock_events, Lead, lead-clocks, blocks-changed, AreWhole, clock-blocks}
use Rattle.scope_write.proofs.Clocks.{samples-clocks}

-- ---- a text that ends its last token, from its first byte on

tokens-whole : (text : List ℕ) → open_run_from [] text ≡ [] → tokens_of text ≡ tokens_from 0 [] text
unfolding ended_at
tokens-whole text closes =
    ap (λ run. tokens_from 0 [] text ++ ended_at (length text) run) closes ∙ append-nil (tokens_from 0 [] text)

known-whole : (text : List ℕ) (k : Known) (events : List BlockEvent) → Does text nothing k events
    → behind nothing (tokens_of text) ≡ k
known-whole text k events does = ap (behind nothing) (tokens-whole text does.closes) ∙ does.known 0

fault-whole : (there : List Bool) (text : List ℕ) (time : Option ℕ) (events : List BlockEvent)
    → Does text nothing (shown there time) events → first_fault text ≡ None
unfolding first_fault
fault-whole there text time events does =
    ap (λ k. or_cut k.fault k.mode (length text)) (known-whole text (shown there time) events does)

-- ---- the marks

marks-declared : (there : List Bool) → marks_of_lines (numbers_below there 22) ≡ marks_there there
unfolding is_written
marks-declared there =
    ap₂ (λ a r. record { ap = a; rp = r }) (declared-is there 22 20 (omega arith)) (declared-is there 22 21 (omega arith))

marks-whole : (there : List Bool) (text : List ℕ) (time : Option ℕ) (events : List BlockEvent)
    → Does text nothing (shown there time) events → marks_there there ≡ marks_of text
unfolding marks_of
marks-whole there text time events does =
    sym (ap (λ k. marks_of_lines k.lines) (known-whole text (shown there time) events does) ∙ marks-declared there)

-- ---- the samples

samples-whole : (there : List Bool) (text : List ℕ) (time : Option ℕ) (events : List BlockEvent)
    → Does text nothing (shown there time) (changed (unknown_below there 22) ++ events)
    → samples_of text ≡ samples_in at_first (blocks_from (unknown_below there 22) events)
unfolding samples_of
samples-whole there text time events does =
    ap (λ ts. samples_in at_first (blocks_of (events_in nothing ts))) (tokens-whole text does.closes)
    ∙ ap (λ es. samples_in at_first (blocks_of es)) (does.happens 0)
    ∙ ap (samples_in at_first) (blocks-changed [] (unknown_below there 22) events)

-- the clock does not rise from an unknown value
first-falls : (there : List Bool) (block : Block) (blocks : List Block)
    → samples_in (by_number (initial there)) (block ∷ blocks)
    ≡ samples_in (values_behind (by_number (initial there)) block) blocks
unfolding extended is_written
first-falls there block blocks = refl

samples-all : (there : List Bool) (w : List Sample) → AreWhole there w
    → samples_in at_first (blocks_from (unknown_below there 22) (clock_events there None w)) ≡ w
unfolding extended
samples-all there [] all = refl
samples-all there (now ∷ w) all =
    ap (samples_in at_first) (clock-blocks there (unknown_below there 22) None now w)
    ∙ ap (λ values. samples_in values (fall there None now ∷ blocks_from (sets 0 (49 ∷ []) ∷ [])
    (clock_events there (Some now) w)))
    (values-unknown there)
    ∙ first-falls there (fall there None now) (blocks_from (sets 0 (49 ∷ []) ∷ []) (clock_events there (Some now) w))
    ∙ ap (λ values. samples_in values (blocks_from (sets 0 (49 ∷ []) ∷ []) (clock_events there (Some now) w)))
    (behind-fall there None now (initial there) (first-carried there now))
    ∙ samples-clocks there now w all.0 all.1

-- ---- the whole

are_whole : (there : List Bool) (w : List Sample) → All (IsSilent there) w → All Has64Lines w → AreWhole there w
are_whole there [] silent within = tt
are_whole there (s ∷ w) silent within = (
  record { silent = silent 0 s (omega arith); within = within 0 s (omega arith) },
  are_whole there w (λ k d h. silent (suc k) d (omega (arith, h))) (λ k d h. within (suc k) d (omega (arith, h))),
)

lead-all : (there : List Bool) (w : List Sample) → length w ≤ 10 ^ 18 → Lead there (shown_clocks there 0 None w) None
    (clock_events there None w)
lead-all there w few = lead-clocks there 0 None None w tt (omega (arith, few))

-- the text of samples says these samples, and has the marks of the lines that are there
pub reads-back : (there : List Bool) (w : List Sample) → AreShown there w
    → Reads (shown_dump there w) (marks_there there) w
unfolding shown_dump
reads-back there w h =
    let lead = lead-all there w h.few in
    let does = does-both (shown_header there) (shown_clocks there 0 None w) _ _ _ _ _ (does-header there) lead.does in (
      fault-whole there _ lead.time _ does,
      marks-whole there _ lead.time _ does,
      sym (samples-whole there _ lead.time (clock_events there None w) does
          ∙ samples-all there w (are_whole there w h.silent h.within)),
    )
