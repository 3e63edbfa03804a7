-- A whole written dump: it has no fault, its marks are those of its profile, and its samples those that it was
-- written of.
use Rattle.std.proofs.Common.{◌≡◌, ℕ, suc, ◌+◌, ◌^◌, ◌<◌, ◌≤◌, true, List, [], ◌∷◌, ◌++◌, length, drop, None, ◌⊎◌, inl}
use Rattle.std.proofs.Common.{inr, refl, sym, ap, ◌∙◌, arith, append_assoc, append-nil, codes, subst}
use Rattle.std.proofs.lemmas.Bool.{and_parts}
use Rattle.std.proofs.Math.Path.{ap₂}
use Rattle.std.specs.Prelude.{All}
use Rattle.std.specs.List.{list_all}
use Rattle.fsb_signal.specs.declared.sample.Sample.{Sample}
use Rattle.fsb_signal.specs.Samples.{is_known_trace, idle}
use Rattle.fsb_signal.specs.Parity.{has_no_parity, marks_in}
use Rattle.fsb_signal.specs.DumpText.{texts_from, sample_value_text, header_text, clock_text, clocks_text, dump_text}
use Rattle.vcd_grammar.proofs.Interface.{open-append, behind-append, events_in-append}
use Rattle.vcd_grammar.specs.Tokens.{ended_at, tokens_from, open_run_from, tokens_of}
use Rattle.vcd_grammar.specs.Digits.{extended}
use Rattle.vcd_grammar.specs.Words.{value_word, is_read_past}
use Rattle.vcd_grammar.specs.Blocks.{Block, BlockEvent, Later, Changed, blocks_of, blocks_from}
use Rattle.vcd_grammar.specs.Values.{Values, at_first, values_behind, samples_in}
use Rattle.vcd_grammar.specs.Judging.{marks_of_lines, nothing, turn, behind, events_in}
use Rattle.vcd_grammar.specs.Reading.{or_cut, first_fault, marks_of, samples_of, Reads}
use Rattle.vcd_laws.proofs.Pieces.{Does, does-nothing, does-both, does-token, tokens_behind}
use Rattle.vcd_laws.proofs.Known.{Profile, One, Two, number_of_profile, entries, last_entry, numbers, written}
use Rattle.vcd_laws.proofs.Known.{fixed_text, unknown_lines, fixed-closes, fixed-known, fixed-happens, changed}
use Rattle.vcd_laws.proofs.Lines.{IsIn, tail_of, mixed, digits_at, changes_of, set_to, does-values, behind-values}
use Rattle.vcd_laws.specs.Written.{IsWritten}
use Rattle.vcd_laws.proofs.Clocks.{clock_to, does-rising, Lead, lead-clocks, clock_events, blocks-changed, IsWhole}
use Rattle.vcd_laws.proofs.Clocks.{AreWhole, samples-clocks}

-- ---- behind the fixed part of the header

-- the tokens of a text that begins with the fixed part
tokens-whole : (p : Profile) (rest : List ℕ) → open_run_from [] rest ≡ []
    → tokens_of (fixed_text p ++ rest) ≡ tokens_from 0 [] (fixed_text p)
    ++ tokens_from (0 + length (fixed_text p)) [] rest
unfolding ended_at
tokens-whole p rest closes =
    ap (λ run. tokens_from 0 [] (fixed_text p ++ rest) ++ ended_at (length (fixed_text p ++ rest)) run)
    (open-append [] (fixed_text p) rest ∙ ap (λ run. open_run_from run rest) (fixed-closes p) ∙ closes)
    ∙ append-nil (tokens_from 0 [] (fixed_text p ++ rest))
    ∙ tokens_behind 0 (fixed_text p) rest (fixed-closes p)

known-whole : (p : Profile) (rest : List ℕ) (time : ℕ) (events : List BlockEvent)
    → Does rest (written p 0) (written p time) events
    → behind nothing (tokens_of (fixed_text p ++ rest)) ≡ written p time
known-whole p rest time events does =
    ap (behind nothing) (tokens-whole p rest does.closes)
    ∙ behind-append nothing (tokens_from 0 [] (fixed_text p)) (tokens_from (0 + length (fixed_text p)) [] rest)
    ∙ ap (λ k. behind k (tokens_from (0 + length (fixed_text p)) [] rest)) (fixed-known p)
    ∙ does.known (0 + length (fixed_text p))

fault-whole : (p : Profile) (rest : List ℕ) (time : ℕ) (events : List BlockEvent)
    → Does rest (written p 0) (written p time) events → first_fault (fixed_text p ++ rest) ≡ None
unfolding first_fault
fault-whole p rest time events does =
    ap (λ k. or_cut k.fault k.mode (length (fixed_text p ++ rest))) (known-whole p rest time events does)

happens-whole : (p : Profile) (rest : List ℕ) (time : ℕ) (events : List BlockEvent)
    → Does rest (written p 0) (written p time) events →
    events_in nothing (tokens_of (fixed_text p ++ rest)) ≡ changed (unknown_lines p)
    ++ Later ∷ changed (clock_to 48 ∷ []) ++ events
happens-whole p rest time events does =
    ap (events_in nothing) (tokens-whole p rest does.closes)
    ∙ events_in-append nothing (tokens_from 0 [] (fixed_text p)) (tokens_from (0 + length (fixed_text p)) [] rest)
    ∙ ap₂ (λ a b. a ++ b) (fixed-happens p)
    (ap (λ k. events_in k (tokens_from (0 + length (fixed_text p)) [] rest)) (fixed-known p)
    ∙ does.happens (0 + length (fixed_text p)))

-- each line is unknown
abbrev all_unknown : Profile → Values
all_unknown p = values_behind at_first (unknown_lines p)

-- the clock does not rise before it has a value
unknown-first : (p : Profile) (events : List BlockEvent) →
    samples_in at_first
    (blocks_of ((changed (unknown_lines p) ++ Later ∷ changed (clock_to 48 ∷ [])) ++ events))
    ≡ samples_in (all_unknown p) (blocks_from (clock_to 48 ∷ []) events)
unfolding extended
unknown-first One events = refl
unknown-first Two events = refl

unknown-rises : (p : Profile) (block : Block) (blocks : List Block)
    → samples_in (all_unknown p) (block ∷ blocks) ≡ samples_in (values_behind (all_unknown p) block) blocks
unfolding extended
unknown-rises One block blocks = refl
unknown-rises Two block blocks = refl

-- the samples of a text that begins with the fixed part and goes on with changes
samples-whole : (p : Profile) (rest : List ℕ) (time : ℕ) (first : Sample) (events : List BlockEvent)
    → Does rest (written p 0) (written p time) (changed (changes_of (set_to first) (last_entry p)) ++ events) →
    samples_of (fixed_text p ++ rest) ≡ samples_in (all_unknown p)
    (blocks_from (clock_to 48 ∷ changes_of (set_to first) (last_entry p)) events)
unfolding samples_of extended
samples-whole p rest time first events does =
    ap (λ es. samples_in at_first (blocks_of es)) (happens-whole p rest time _ does)
    ∙ unknown-first p (changed (changes_of (set_to first) (last_entry p)) ++ events)
    ∙ ap (samples_in (all_unknown p))
    (blocks-changed (clock_to 48 ∷ []) (changes_of (set_to first) (last_entry p)) events)

-- ---- the values of the header, and its end

does-end : (p : Profile) → Does (codes "$end\n") (written p 0) (written p 0) []
unfolding turn value_word is_read_past
does-end p = does-token (codes "$end") 10 (written p 0) (written p 0) []
    (record { some = omega arith; few = omega arith; plain = refl }) refl (λ at. refl)

-- the values of a first sample, and the end of their section
abbrev values_text : Profile → Sample → List ℕ
values_text p first = texts_from (sample_value_text first) 1 (last_entry p) ++ codes "$end\n"

does-values-end : (p : Profile) (first : Sample)
    → Does (values_text p first) (written p 0) (written p 0) (changed (changes_of (set_to first) (last_entry p)) ++ [])
does-values-end p first = does-both _ _ _ _ _ _ _ (does-values p 0 first) (does-end p)

does-header : (p : Profile) (first : Sample)
    → Does (values_text p first) (written p 0) (written p 0) (changed (changes_of (set_to first) (last_entry p)))
does-header p first =
    subst (λ events. Does (values_text p first) (written p 0) (written p 0) events)
    (append-nil (changed (changes_of (set_to first) (last_entry p))))
    (does-values-end p first)

header-is : (p : Profile) (first : Sample)
    → header_text (number_of_profile p) first ≡ fixed_text p ++ values_text p first
unfolding header_text
header-is p first = append_assoc (fixed_text p) (texts_from (sample_value_text first) 1 (last_entry p)) (codes "$end\n")

-- ---- the marks

marks_of_numbers : (p : Profile) → marks_of_lines (numbers p) ≡ marks_in (number_of_profile p)
marks_of_numbers One = refl
marks_of_numbers Two = refl

marks-whole : (p : Profile) (rest : List ℕ) (time : ℕ) (events : List BlockEvent)
    → Does rest (written p 0) (written p time) events →
    marks_in (number_of_profile p) ≡ marks_of (fixed_text p ++ rest)
unfolding marks_of
marks-whole p rest time events does =
    sym (ap (λ k. marks_of_lines k.lines) (known-whole p rest time events does) ∙ marks_of_numbers p)

-- ---- a dump of no samples

dump_none-is : (p : Profile) → dump_text (number_of_profile p) [] ≡ fixed_text p ++ values_text p idle
unfolding dump_text
dump_none-is p = header-is p idle

reads-none : (p : Profile) → Reads (dump_text (number_of_profile p) []) (marks_in (number_of_profile p)) []
unfolding extended
reads-none p = (
  ap first_fault (dump_none-is p) ∙ fault-whole p (values_text p idle) 0 _ (does-header p idle),
  marks-whole p (values_text p idle) 0 _ (does-header p idle) ∙ sym (ap marks_of (dump_none-is p)),
  sym (ap samples_of (dump_none-is p) ∙ samples-whole p (values_text p idle) 0 idle [] (does-values-end p idle)
      ∙ unknown-rises p (clock_to 48 ∷ changes_of (set_to idle) (last_entry p)) []),
)

-- ---- a dump of samples

lead-all : (p : Profile) (first : Sample) (w : List Sample) → length w ≤ 199999 →
    Lead p (values_text p first ++ clocks_text (number_of_profile p) 0 first (first ∷ w)) 0
    (changed (changes_of (set_to first) (last_entry p)) ++ (Later ∷ Changed (clock_to 49) ∷ clock_events p first w))
unfolding clocks_text clock_text
lead-all p first w few =
    let rest = lead-clocks p 1 5 first w (omega arith) (omega arith) (omega (arith, few)) in
    record {
      time = rest.time;
      does = does-both _ _ _ _ _ _ _ (does-header p first)
          (does-both _ _ _ _ _ _ _ (does-rising p [] 0 0 5 [] (does-nothing (written p 0)) (omega arith)
          (omega arith)) rest.does);
    }

dump-is : (p : Profile) (first : Sample) (w : List Sample) →
    dump_text (number_of_profile p) (first ∷ w)
    ≡ fixed_text p ++ (values_text p first ++ clocks_text (number_of_profile p) 0 first (first ∷ w))
unfolding dump_text
dump-is p first w =
    let clocks = clocks_text (number_of_profile p) 0 first (first ∷ w) in
    ap (λ text. text ++ clocks) (header-is p first) ∙ append_assoc (fixed_text p) (values_text p first) clocks

-- past the lines of the profile no line was declared
unknown_tail : (p : Profile) → drop (entries p) (all_unknown p) ≡ tail_of p
unfolding extended
unknown_tail One = refl
unknown_tail Two = refl

unknown_length : (p : Profile) → length (all_unknown p) ≡ 22
unknown_length One = refl
unknown_length Two = refl

-- the clock is the first line
unknown_clock : (p : Profile)
    → values_behind (all_unknown p) (clock_to 48 ∷ []) ≡ mixed (digits_at 48 idle) (all_unknown p) 1
unfolding extended
unknown_clock One = refl
unknown_clock Two = refl

first-values : (p : Profile) (first : Sample) → IsIn p first →
    values_behind (all_unknown p) (clock_to 48 ∷ changes_of (set_to first) (last_entry p)) ≡ digits_at 48 first
first-values p first h =
    ap (λ v. values_behind v (changes_of (set_to first) (last_entry p))) (unknown_clock p)
    ∙ behind-values p 48 first (all_unknown p) (unknown_length p) h (unknown_tail p)

-- the samples of the blocks behind the header's
samples-all : (p : Profile) (first : Sample) (w : List Sample) → IsWhole p first → AreWhole p w →
    samples_in (all_unknown p)
    (blocks_from (clock_to 48 ∷ changes_of (set_to first) (last_entry p))
    (Later ∷ Changed (clock_to 49) ∷ clock_events p first w)) ≡ first ∷ w
unfolding extended
samples-all p first w known all =
    unknown-rises p (clock_to 48 ∷ changes_of (set_to first) (last_entry p))
    (blocks_from (clock_to 49 ∷ []) (clock_events p first w)) ∙
    ap (λ values. samples_in values (blocks_from (clock_to 49 ∷ []) (clock_events p first w)))
    (first-values p first known.parity)
    ∙ samples-clocks p first w known all

reads-some : (p : Profile) (first : Sample) (w : List Sample) → IsWhole p first → AreWhole p w → length w ≤ 199999 →
    Reads (dump_text (number_of_profile p) (first ∷ w)) (marks_in (number_of_profile p)) (first ∷ w)
reads-some p first w known all few =
    let lead = lead-all p first w few in (
      ap first_fault (dump-is p first w) ∙ fault-whole p _ lead.time _ lead.does,
      marks-whole p _ lead.time _ lead.does ∙ sym (ap marks_of (dump-is p first w)),
      sym (ap samples_of (dump-is p first w) ∙ samples-whole p _ lead.time first _ lead.does
          ∙ samples-all p first w known all),
    )

-- ---- any dump

-- the samples are of a dump in the profile
abbrev AreIn : Profile → List Sample → Type 0
AreIn One w = list_all has_no_parity w ≡ true
AreIn Two w = Unit {0}

in_parts : (p : Profile) (s : Sample) (w : List Sample) → AreIn p (s ∷ w) → IsIn p s × AreIn p w
in_parts One s w h = and_parts _ _ h
in_parts Two s w h = (tt, tt)

are_whole : (p : Profile) (w : List Sample) → is_known_trace w ≡ true → AreIn p w
    → All (λ s. s.dbus.bits < 2 ^ 64) w → AreWhole p w
are_whole p [] known parity fit = tt
are_whole p (s ∷ w) known parity fit = (
  record { known = (and_parts _ _ known).0; parity = (in_parts p s w parity).0; fits = fit 0 s (omega arith) },
  are_whole p w (and_parts _ _ known).1 (in_parts p s w parity).1 (λ k d within. fit (suc k) d (omega (arith, within))),
)

reads-in : (p : Profile) (w : List Sample) → AreWhole p w → length w ≤ 200000
    → Reads (dump_text (number_of_profile p) w) (marks_in (number_of_profile p)) w
reads-in p [] all few = reads-none p
reads-in p (first ∷ w) all few = reads-some p first w all.0 all.1 (omega (arith, few))

-- a written dump has the marks of its profile, and says the trace that it was written of
pub reads-back : (profile : ℕ) (w : List Sample) → IsWritten profile w
    → Reads (dump_text profile w) (marks_in profile) w
reads-back profile w h = by h.profile
  where
    by : (profile ≡ 1) ⊎ (profile ≡ 2) → Reads (dump_text profile w) (marks_in profile) w
    by (inl one) = subst (λ n. Reads (dump_text n w) (marks_in n) w) (sym one)
        (reads-in One w (are_whole One w h.known (h.parity one) h.within) h.few)
    by (inr two) = subst (λ n. Reads (dump_text n w) (marks_in n) w) (sym two)
        (reads-in Two w (are_whole Two w h.known tt h.within) h.few)
