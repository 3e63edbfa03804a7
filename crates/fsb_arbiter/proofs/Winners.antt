-- The winner by a set of lines is the definition's winner by the lines of a clock.
use Rattle.std.proofs.Common.{ℕ, ◌≡◌, true, false, Option, Some, None, refl, sym, ap, ◌∙◌, inl, inr}
use Rattle.std.specs.List.{slice_get}
use Rattle.std.specs.Option.{option_map}
use Rattle.std.proofs.lemmas.Bool.{cases_Bool}
use Rattle.fsb_count.proofs.Interface.{first_where-same}
use Rattle.fsb_signal.specs.declared.lines.Lines.{Lines}
use Rattle.fsb_signal.specs.declared.lines.TheConstants.Lines.{BPRI, LOCK}
use Rattle.fsb_signal.specs.declared.sample.Sample.{Sample}
use Rattle.fsb_signal.specs.Samples.{line_at}
use Rattle.fsb_trace.specs.declared.who.Who.{Who}
use Rattle.fsb_trace.specs.declared.who.Who.TheVariants.{Symmetric, Priority}
use Rattle.fsb_trace.specs.At.{Trace}
use Rattle.fsb_trace.specs.Winner.{Requesters, bus_request_of, request_line_of, agent_in_order, first_in_order}
use Rattle.fsb_trace.specs.Winner.{asks_in_order, first_asking, last_if_asking, winner_by}
use Rattle.fsb_trace.proofs.Interface.{winner_by-locked, winner_by-priority, winner_by-symmetric}
use Rattle.fsb_arbiter.specs.Order.{is_in, asks_among, first_among, last_if_among, winner_among}

-- a line of a clock
pub line_at-is : (w : Trace) (d : ℕ) (s : Sample) (line : Lines) → slice_get w d ≡ Some s
    → line_at line w d ≡ is_in s.lines line
unfolding line_at
line_at-is w d s line e = rw e refl

pub first_asking-is : (w : Trace) (d first : ℕ) (s : Sample) → slice_get w d ≡ Some s
    → first_asking w d first ≡ first_among s.lines first
unfolding first_asking first_among asks_in_order asks_among
first_asking-is w d first s e =
    ap (option_map (agent_in_order first)) (first_where-same (asks_in_order w d first) (asks_among s.lines first) 4
    (record { same = λ n l. line_at-is w d s (bus_request_of (agent_in_order first n)) e }))

pub last_if_asking-is : (w : Trace) (d : ℕ) (s : Sample) (last : Option Who) → slice_get w d ≡ Some s
    → last_if_asking w d last ≡ last_if_among s.lines last
unfolding last_if_asking last_if_among
last_if_asking-is w d s None e = refl
last_if_asking-is w d s (Some who) e = rw (line_at-is w d s (request_line_of who) e) refl

-- the winner, by which lines are asserted
among_lock : (lines : Lines) (last : Option Who) (symmetric : Option ℕ) → is_in lines LOCK ≡ true
    → winner_among lines last symmetric ≡ last_if_among lines last
unfolding winner_among
among_lock lines last symmetric t = rw (t, winner_among) refl

among_priority : (lines : Lines) (last : Option Who) (symmetric : Option ℕ) → is_in lines LOCK ≡ false
    → is_in lines BPRI ≡ true → winner_among lines last symmetric ≡ Some Priority
unfolding winner_among
among_priority lines last symmetric f t = rw (f, t, winner_among) refl

among_order : (lines : Lines) (last : Option Who) (symmetric : Option ℕ) → is_in lines LOCK ≡ false
    → is_in lines BPRI ≡ false → winner_among lines last symmetric
    ≡ option_map Symmetric (first_among lines (first_in_order symmetric))
unfolding winner_among
among_order lines last symmetric f g = rw (f, g, winner_among) refl

-- the winner by the lines of clock d
pub winner_by-is : (w : Trace) (d : ℕ) (s : Sample) (turns : Requesters) → slice_get w d ≡ Some s
    → winner_by w d turns ≡ winner_among s.lines turns.0 turns.1
winner_by-is w d s turns e =
    let lock : line_at LOCK w d ≡ is_in s.lines LOCK = line_at-is w d s LOCK e in
    let bpri : line_at BPRI w d ≡ is_in s.lines BPRI = line_at-is w d s BPRI e in
    elim (cases_Bool (is_in s.lines LOCK)) [
      | inl t ↦
          winner_by-locked w d turns (lock ∙ t) ∙ last_if_asking-is w d s turns.0 e
          ∙ sym (among_lock s.lines turns.0 turns.1 t)
      | inr f ↦
          elim (cases_Bool (is_in s.lines BPRI)) [
            | inl u ↦ winner_by-priority w d turns (lock ∙ f) (bpri ∙ u)
                ∙ sym (among_priority s.lines turns.0 turns.1 f u)
            | inr g ↦
                winner_by-symmetric w d turns (lock ∙ f) (bpri ∙ g)
                ∙ ap (option_map Symmetric) (first_asking-is w d (first_in_order turns.1) s e)
                ∙ sym (among_order s.lines turns.0 turns.1 f g)
          ]
    ]
