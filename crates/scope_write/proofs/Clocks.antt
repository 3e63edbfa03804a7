-- The texts of the clocks, one after another: what they do, and the samples of their blocks.
use Rattle.std.proofs.Common.{◌≡◌, ℕ, ◌+◌, ◌*◌, ◌^◌, ◌<◌, ◌≤◌, Bool, true, List, [], ◌∷◌, ◌++◌, length, refl, sym, ap, ◌∙◌}
use Rattle.std.proofs.Common.{arith, append_assoc, append-nil, codes, decimal, inl, inr, subst, Option, Some}
use Rattle.std.proofs.Math.Path.{ap₂}
use Rattle.fsb_signal.specs.declared.sample.Sample.{Sample}
use Rattle.fsb_signal.specs.DumpText.{texts_from}
use Rattle.vcd_grammar.specs.Digits.{extended}
use Rattle.vcd_grammar.specs.Blocks.{Change, BlockEvent, Block, Later, Changed, blocks_from}
use Rattle.vcd_grammar.specs.Values.{samples_in}
use Rattle.vcd_laws.proofs.Pieces.{Does, does-nothing, does-both}
use Rattle.vcd_laws.proofs.Known.{sets, changed}
use Rattle.vcd_laws.proofs.Lines.{changes_of}
use Rattle.scope_write.specs.Text.{is_written, shown_change, shown_clock, shown_clocks}
use Rattle.scope_write.specs.Samples.{IsSilent, Has64Lines}
use Rattle.scope_write.proofs.Entries.{shown}
use Rattle.scope_write.proofs.Stamps.{IsAfter, does-stamp}
use Rattle.scope_write.proofs.Changes.{IsShown, an_entry, does-scalar}
use Rattle.scope_write.proofs.Lines.{line_of, lines_of, fall, change_if, does-changes, behind-fall}
use Rattle.scope_write.proofs.Lines.{later-carried}
use Rattle.scope_write.proofs.SampleBack.{shown-back}

-- ---- edges

-- the clock is written
clock_written : (there : List Bool) → is_written there 0 ≡ true
unfolding is_written
clock_written there = refl

-- a later time, at which the clock gets a digit
abbrev edge_text : ℕ → ℕ → List ℕ
edge_text time digit = 35 ∷ decimal time ++ 10 ∷ digit ∷ 33 ∷ 10 ∷ []

does-edge : (there : List Bool) (last : Option ℕ) (time digit : ℕ) → IsAfter last time → time < 2 ^ 64 → IsShown digit →
    Does (edge_text time digit) (shown there last) (shown there (Some time))
    (Later ∷ changed (sets 0 (digit ∷ []) ∷ []))
does-edge there last time digit later h d =
    subst (λ text. Does text (shown there last) (shown there (Some time)) (Later ∷ changed (sets 0 (digit ∷ []) ∷ [])))
    (append_assoc (35 ∷ decimal time) (10 ∷ []) (digit ∷ 33 ∷ 10 ∷ []))
    (does-both _ _ _ _ _ _ _ (does-stamp there last time later h)
    (does-scalar there 0 digit (Some time) (an_entry there 0 (omega arith) (clock_written there)) d))

-- ---- a clock

-- the changes of its lines
abbrev changes_at : List Bool → Option Sample → Sample → List Change
changes_at there before now = changes_of (change_if there before now) 21

-- what happens at a clock
abbrev clock_happens : List Bool → Option Sample → Sample → List BlockEvent
clock_happens there before now =
    (Later ∷ changed (sets 0 (48 ∷ []) ∷ [])) ++ (changed (changes_at there before now)
    ++ (Later ∷ changed (sets 0 (49 ∷ []) ∷ [])))

-- the events of the clocks of some samples
abbrev pub clock_events : List Bool → Option Sample → List Sample → List BlockEvent
clock_events there before [] = []
clock_events there before (now ∷ w) = clock_happens there before now ++ clock_events there (Some now) w

-- the same pieces, grouped by edges and in a row
in_a_row : (e t h d r : List ℕ) → e ++ (t ++ ((h ++ d) ++ r)) ≡ e ++ t ++ h ++ d ++ r
in_a_row e t h d r = simp append_assoc refl

does-clock : (there : List Bool) (clock : ℕ) (last : Option ℕ) (before : Option Sample) (now : Sample)
    → IsAfter last (10 * clock) → clock ≤ 10 ^ 18 →
    Does (shown_clock there clock before now) (shown there last) (shown there (Some (10 * clock + 5)))
    (clock_happens there before now)
unfolding shown_clock
does-clock there clock last before now next few =
    subst (λ text. Does text (shown there last) (shown there (Some (10 * clock + 5))) (clock_happens there before now))
    (in_a_row (edge_text (10 * clock) 48) (texts_from (shown_change there before now) 1 21) (codes "#")
    (decimal (10 * clock + 5)) (codes "\n1!\n"))
    (does-both (edge_text (10 * clock) 48) _ _ _ _ _ _
    (does-edge there last (10 * clock) 48 next (omega (arith, few)) (inl refl))
    (does-both (texts_from (shown_change there before now) 1 21) (edge_text (10 * clock + 5) 49) _ _ _ _ _
    (does-changes there before now (Some (10 * clock)) 21 (omega arith))
    (does-edge there (Some (10 * clock)) (10 * clock + 5) 49 (omega arith) (omega (arith, few)) (inr (inl refl)))))

-- ---- clocks

-- texts of clocks lead to some time
pub record Lead (there : List Bool) (text : List ℕ) (last : Option ℕ) (events : List BlockEvent) : Type 0 where
  pub time : Option ℕ
  pub does : Does text (shown there last) (shown there time) events

pub lead-clocks : (there : List Bool) (clock : ℕ) (last : Option ℕ) (before : Option Sample) (w : List Sample)
    → IsAfter last (10 * clock) → clock + length w ≤ 10 ^ 18 →
    Lead there (shown_clocks there clock before w) last (clock_events there before w)
unfolding shown_clocks
lead-clocks there clock last before [] next few = record { time = last; does = does-nothing (shown there last) }
lead-clocks there clock last before (now ∷ w) next few =
    let rest = lead-clocks there (clock + 1) (Some (10 * clock + 5)) (Some now) w (omega arith) (omega (arith, few)) in
    record {
      time = rest.time;
      does = does-both _ _ _ _ _ _ _ (does-clock there clock last before now next (omega (arith, few))) rest.does;
    }

-- ---- the samples

-- changes go into the block that stands open
pub blocks-changed : (block : Block) (changes : List Change) (events : List BlockEvent)
    → blocks_from block (changed changes ++ events) ≡ blocks_from (block ++ changes) events
blocks-changed block [] events = ap (λ b. blocks_from b events) (sym (append-nil block))
blocks-changed block (c ∷ changes) events = blocks-changed (block ++ c ∷ []) changes events
    ∙ ap (λ b. blocks_from b events) (append_assoc block (c ∷ []) changes)

-- a sample that the text holds whole
pub record IsWhole (there : List Bool) (s : Sample) : Type 0 where
  pub silent : IsSilent there s
  pub within : Has64Lines s

-- each of the samples is one
abbrev pub AreWhole : List Bool → List Sample → Type 0
AreWhole there [] = Unit {0}
AreWhole there (s ∷ w) = IsWhole there s × AreWhole there w

-- the blocks of a clock, behind one that stands open
pub clock-blocks : (there : List Bool) (block : Block) (before : Option Sample) (now : Sample) (w : List Sample) →
    blocks_from block (clock_events there before (now ∷ w))
    ≡ block ∷ fall there before now ∷ blocks_from (sets 0 (49 ∷ []) ∷ []) (clock_events there (Some now) w)
clock-blocks there block before now w =
    ap (λ es. block ∷ blocks_from (sets 0 (48 ∷ []) ∷ []) es)
    (append_assoc (changed (changes_at there before now)) (Later ∷ Changed (sets 0 (49 ∷ [])) ∷ [])
    (clock_events there (Some now) w))
    ∙ ap (λ blocks. block ∷ blocks)
    (blocks-changed (sets 0 (48 ∷ []) ∷ []) (changes_at there before now)
    (Later ∷ Changed (sets 0 (49 ∷ [])) ∷ clock_events there (Some now) w))

-- where the block of a rising edge stands open, its sample and those of the further clocks follow
pub samples-clocks : (there : List Bool) (before : Sample) (w : List Sample) → IsWhole there before → AreWhole there w →
    samples_in (lines_of there 48 before) (blocks_from (sets 0 (49 ∷ []) ∷ []) (clock_events there (Some before) w))
    ≡ before ∷ w
unfolding extended
samples-clocks there before [] whole all = ap (λ s. s ∷ []) (shown-back there 48 before whole.silent whole.within)
samples-clocks there before (now ∷ w) whole all =
    ap (samples_in (lines_of there 48 before)) (clock-blocks there (sets 0 (49 ∷ []) ∷ []) (Some before) now w)
    ∙ ap₂ (λ s rest. s ∷ rest) (shown-back there 48 before whole.silent whole.within)
    (ap (λ values. samples_in values (blocks_from (sets 0 (49 ∷ []) ∷ []) (clock_events there (Some now) w)))
    (behind-fall there (Some before) now (line_of there 49 before) (later-carried there 49 before now))
    ∙ samples-clocks there now w all.0 all.1)
