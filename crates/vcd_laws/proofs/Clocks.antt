-- The texts of the clocks, one after another: what they do, and the samples of their blocks.
use Rattle.std.proofs.Common.{◌≡◌, ℕ, ◌+◌, ◌*◌, ◌^◌, ◌<◌, ◌≤◌, true, List, [], ◌∷◌, ◌++◌, length, refl, sym, ap, ◌∙◌}
use Rattle.std.proofs.Common.{arith, append_assoc, append-nil, codes, decimal, ◌⊎◌, inl, inr, subst}
use Rattle.std.proofs.Math.Path.{ap₂}
use Rattle.std.proofs.lemmas.Bool.{ne_eqb}
use Rattle.fsb_signal.specs.declared.sample.Sample.{Sample}
use Rattle.fsb_signal.specs.Samples.{is_known}
use Rattle.fsb_signal.specs.DumpText.{texts_from, change_text, clock_text, clocks_text}
use Rattle.vcd_grammar.specs.Digits.{extended}
use Rattle.vcd_grammar.specs.Blocks.{Change, BlockEvent, Block, Later, Changed, blocks_from}
use Rattle.vcd_grammar.specs.Values.{samples_in}
use Rattle.vcd_laws.proofs.Pieces.{Does, does-nothing, does-both}
use Rattle.vcd_laws.proofs.Known.{Profile, One, Two, number_of_profile, entries, last_entry, written, listed, sets}
use Rattle.vcd_laws.proofs.Known.{changed}
use Rattle.vcd_laws.proofs.Times.{does-stamp}
use Rattle.vcd_laws.proofs.Changes.{does-scalar}
use Rattle.vcd_laws.proofs.Lines.{IsIn, digits_at, changes_of, set_where, does-changes, behind-changes}
use Rattle.vcd_laws.proofs.SampleBack.{sample-back}

-- ---- edges

some_entries : (p : Profile) → 0 < entries p
some_entries One = omega arith
some_entries Two = omega arith

-- the clock gets a digit
abbrev pub clock_to : ℕ → Change
clock_to digit = sets 0 (digit ∷ [])

-- a later time, at which the clock gets a digit
abbrev edge_text : ℕ → ℕ → List ℕ
edge_text time digit = 35 ∷ decimal time ++ 10 ∷ digit ∷ 33 ∷ 10 ∷ []

does-edge : (p : Profile) (last time digit : ℕ) → last < time → time < 2 ^ 64 → (digit ≡ 48) ⊎ (digit ≡ 49) →
    Does (edge_text time digit) (written p last) (written p time) (Later ∷ changed (clock_to digit ∷ []))
does-edge p last time digit later h d =
    subst (λ text. Does text (written p last) (written p time) (Later ∷ changed (clock_to digit ∷ [])))
    (append_assoc (35 ∷ decimal time) (10 ∷ []) (digit ∷ 33 ∷ 10 ∷ []))
    (does-both _ _ _ _ _ _ _ (does-stamp p last time later h)
    (does-scalar p 0 digit time (listed p 0 (some_entries p)) d))

-- a rising edge behind a text
pub does-rising : (p : Profile) (text : List ℕ) (last now time : ℕ) (events : List BlockEvent)
    → Does text (written p last) (written p now) events → now < time → time < 2 ^ 64 →
    Does (text ++ codes "#" ++ decimal time ++ codes "\n1!\n") (written p last) (written p time)
    (events ++ Later ∷ changed (clock_to 49 ∷ []))
does-rising p text last now time events does later h =
    subst (λ t. Does t (written p last) (written p time) (events ++ Later ∷ changed (clock_to 49 ∷ [])))
    (sym (append_assoc text (35 ∷ decimal time) (codes "\n1!\n")) ∙ ap (λ t. t ++ codes "\n1!\n")
    (sym (append_assoc text (35 ∷ []) (decimal time))))
    (does-both _ _ _ _ _ _ _ does (does-edge p now time 49 later h (inr refl)))

-- ---- a clock

-- the changes of a falling edge
abbrev fall : Profile → Sample → Sample → List Change
fall p before now = clock_to 48 ∷ changes_of (set_where before now) (last_entry p)

-- the events of the clocks of some samples, behind a sample
abbrev pub clock_events : Profile → Sample → List Sample → List BlockEvent
clock_events p before [] = []
clock_events p before (now ∷ w) = Later ∷ changed (fall p before now)
    ++ (Later ∷ Changed (clock_to 49) ∷ clock_events p now w)

does-falling : (p : Profile) (last time : ℕ) (before now : Sample) → last < time → time < 2 ^ 64 →
    Does (codes "#" ++ decimal time ++ codes "\n0!\n" ++ texts_from (change_text before now) 1 (last_entry p))
    (written p last) (written p time) (Later ∷ changed (fall p before now))
does-falling p last time before now later h =
    does-both _ _ _ _ _ _ _ (does-edge p last time 48 later h (inl refl)) (does-changes p time before now)

does-clock : (p : Profile) (clock last : ℕ) (before now : Sample) → 10 * clock ≡ last + 5 → 1 ≤ clock → clock ≤ 200000 →
    Does (clock_text (number_of_profile p) clock before now) (written p last) (written p (10 * clock + 5))
    (Later ∷ changed (fall p before now) ++ Later ∷ changed (clock_to 49 ∷ []))
unfolding clock_text
does-clock p clock last before now at some few =
    rw (ne_eqb clock 0 (λ e. omega arith))
    (does-rising p _ _ _ _ _ (does-falling p last (10 * clock) before now (omega arith) (omega arith))
    (omega arith) (omega arith))

-- ---- clocks

-- texts of clocks lead to some time
pub record Lead (p : Profile) (text : List ℕ) (last : ℕ) (events : List BlockEvent) : Type 0 where
  pub time : ℕ
  pub does : Does text (written p last) (written p time) events

pub lead-clocks : (p : Profile) (clock last : ℕ) (before : Sample) (w : List Sample) → 10 * clock ≡ last + 5
    → 1 ≤ clock → clock + length w ≤ 200001 →
    Lead p (clocks_text (number_of_profile p) clock before w) last (clock_events p before w)
unfolding clocks_text
lead-clocks p clock last before [] at some few = record { time = last; does = does-nothing (written p last) }
lead-clocks p clock last before (now ∷ w) at some few =
    let rest = lead-clocks p (clock + 1) (10 * clock + 5) now w (omega arith) (omega arith) (omega (arith, few)) in
    record {
      time = rest.time;
      does = subst (λ events. Does
          (clock_text (number_of_profile p) clock before now ++ clocks_text (number_of_profile p) (clock + 1)
          now w) (written p last) (written p rest.time) events)
          (append_assoc (Later ∷ changed (fall p before now)) (Later ∷ Changed (clock_to 49) ∷ [])
          (clock_events p now w))
          (does-both _ _ _ _ _ _ _ (does-clock p clock last before now at some (omega (arith, few))) rest.does);
    }

-- ---- the samples

-- changes go into the block that stands open
pub blocks-changed : (block : Block) (changes : List Change) (events : List BlockEvent)
    → blocks_from block (changed changes ++ events) ≡ blocks_from (block ++ changes) events
blocks-changed block [] events = ap (λ b. blocks_from b events) (sym (append-nil block))
blocks-changed block (c ∷ changes) events = blocks-changed (block ++ c ∷ []) changes events
    ∙ ap (λ b. blocks_from b events) (append_assoc block (c ∷ []) changes)

-- a sample that a dump in the profile holds whole
pub record IsWhole (p : Profile) (s : Sample) : Type 0 where
  pub known : is_known s ≡ true
  pub parity : IsIn p s
  pub fits : s.dbus.bits < 2 ^ 64

-- each of the samples is one
abbrev pub AreWhole : Profile → List Sample → Type 0
AreWhole p [] = Unit {0}
AreWhole p (s ∷ w) = IsWhole p s × AreWhole p w

-- where the block of a rising edge stands open, its sample and those of the further clocks follow
pub samples-clocks : (p : Profile) (before : Sample) (w : List Sample) → IsWhole p before → AreWhole p w →
    samples_in (digits_at 48 before) (blocks_from (clock_to 49 ∷ []) (clock_events p before w)) ≡ before ∷ w
unfolding extended
samples-clocks p before [] known all = ap (λ s. s ∷ []) (sample-back 48 before known.known known.fits)
samples-clocks p before (now ∷ w) known all =
    ap (λ blocks. samples_in (digits_at 48 before) ((clock_to 49 ∷ []) ∷ blocks))
    (blocks-changed [] (fall p before now) (Later ∷ Changed (clock_to 49) ∷ clock_events p now w))
    ∙ ap₂ (λ s rest. s ∷ rest) (sample-back 48 before known.known known.fits)
    (ap (λ values. samples_in values (blocks_from (clock_to 49 ∷ []) (clock_events p now w)))
    (behind-changes p 48 49 before now known.parity all.0.parity)
    ∙ samples-clocks p now w all.0 all.1)
