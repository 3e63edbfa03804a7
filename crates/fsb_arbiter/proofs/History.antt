-- What an arbiter keeps of a history, and what it says of the next winner.
use Rattle.std.proofs.Common.{ℕ, ◌+◌, ◌-◌, ◌<◌, ◌≤◌, ◌≡◌, Bool, true, false, cond, Option, Some, None, [], ◌∷◌, ◌++◌}
use Rattle.std.proofs.Common.{length, nat_le, refl, sym, ap, ◌∙◌, inl, inr, arith}
use Rattle.std.specs.List.{slice_get}
use Rattle.std.specs.Option.{option_map}
use Rattle.std.proofs.lemmas.Bool.{cases_lt, le-leb, lt-leb, lt-ltb, le-ltb}
use Rattle.std.proofs.lemmas.List.{length_push}
use Rattle.std.proofs.lemmas.Option.{slice_get_cases, none-some}
use Rattle.fsb_count.proofs.Interface.{slice_get-end}
use Rattle.fsb_signal.proofs.Interface.{slice_get-before}
use Rattle.fsb_signal.specs.declared.lines.Lines.{Lines}
use Rattle.fsb_signal.specs.declared.lines.TheConstants.Lines.{ADS}
use Rattle.fsb_signal.specs.declared.sample.Sample.{Sample}
use Rattle.fsb_signal.specs.Samples.{line_at}
use Rattle.fsb_trace.specs.declared.who.Who.{Who}
use Rattle.fsb_trace.specs.At.{Trace}
use Rattle.fsb_trace.specs.Agree.{AgreeTo}
use Rattle.fsb_trace.specs.Winner.{Requesters, winner_after, winner_at, requesters_before, then_begun, symmetric_after}
use Rattle.fsb_trace.specs.Winner.{last_agent, last_symmetric}
use Rattle.fsb_trace.proofs.Interface.{requesters_before-agree, winner_after-agree, requesters_before-begun}
use Rattle.fsb_trace.proofs.Interface.{requesters_before-kept, winner_after-low, winner_after-high}
use Rattle.fsb_arbiter.specs.declared.arbiter.Arbiter.{Arbiter}
use Rattle.fsb_arbiter.specs.Order.{is_in, winner_among}
use Rattle.fsb_arbiter.specs.Arbiter.{lines_back, Stands}
use Rattle.fsb_arbiter.proofs.Winners.{line_at-is, winner_by-is}

-- a history, and the same with one more sample
pub agree_to : (h : Trace) (s : Sample) → AgreeTo (length h) h (h ++ s ∷ [])
agree_to h s = record {
  left = omega arith;
  right = rw length_push (omega arith);
  same = λ c l. sym (slice_get-before h (s ∷ []) c l);
}

-- the lines of a clock that is there
lines_parts : (lines : Lines) (o : Option Sample) → option_map (λ s. s.lines) o ≡ Some lines
    → (s : Sample) × (o ≡ Some s) × (s.lines ≡ lines)
lines_parts lines None e = absurd (let no : ⊥ = cc in no)
lines_parts lines (Some s) e = (s, refl, cc)

back_cases : (h : Trace) (d : ℕ) (b : Bool) → nat_le d (length h) ≡ b
    → lines_back h d ≡ cond b (option_map (λ s. s.lines) (slice_get h (length h - d))) None
unfolding lines_back
back_cases h d b e = rw e refl

pub lines_back-there : (h : Trace) (d : ℕ) → d ≤ length h
    → lines_back h d ≡ option_map (λ s. s.lines) (slice_get h (length h - d))
lines_back-there h d l = back_cases h d true (le-leb d (length h) l)

pub lines_back-before : (h : Trace) (d : ℕ) → length h < d → lines_back h d ≡ None
lines_back-before h d l = back_cases h d false (lt-leb d (length h) l)

none_parts : (o : Option Sample) → option_map (λ s. s.lines) o ≡ None → o ≡ None
none_parts None e = refl
none_parts (Some s) e = absurd (let no : ⊥ = cc in no)

none_back : (h : Trace) → 2 ≤ length h → lines_back h 2 ≡ None → ⊥
none_back h l e =
    let gone : slice_get h (length h - 2) ≡ None =
    none_parts (slice_get h (length h - 2)) (sym (lines_back-there h 2 l) ∙ e) in
    elim ((slice_get_cases h (length h - 2)).1) [
      | inl there ↦ none-some there.0 (sym gone ∙ there.2)
      | inr past ↦ (let low : length h ≤ length h - 2 = past.0 in omega arith)
    ]

-- the winner of the next clock
winner_by_lines : (h : Trace) (lines : Lines) (turns : Requesters) → 2 ≤ length h → lines_back h 2 ≡ Some lines
    → winner_after h (length h) turns ≡ winner_among lines turns.0 turns.1
winner_by_lines h lines turns l e =
    let p = lines_parts lines (slice_get h (length h - 2)) (sym (lines_back-there h 2 l) ∙ e) in
    winner_after-high h (length h) turns (le-ltb (length h) 2 l) ∙ winner_by-is h (length h - 2) p.0 turns p.1
    ∙ ap (λ x. winner_among x turns.0 turns.1) p.2

pub winner-some : (arbiter : Arbiter) (h : Trace) (lines : Lines) → Stands arbiter h
    → arbiter.older ≡ Some lines → winner_among lines arbiter.last arbiter.symmetric ≡ winner_at h (length h)
unfolding winner_at last_agent last_symmetric
winner-some arbiter h lines s e =
    elim (cases_lt (length h) 2) [
      | inl low ↦ absurd (let no : None ≡ Some lines = sym (lines_back-before h 2 low) ∙ sym s.older ∙ e in cc)
      | inr high ↦
          ap (λ x. winner_among lines x arbiter.symmetric) s.last
          ∙ ap (winner_among lines (last_agent h (length h))) s.symmetric
          ∙ sym (winner_by_lines h lines (requesters_before h (length h)) high (sym s.older ∙ e))
    ]

pub winner-none : (arbiter : Arbiter) (h : Trace) → Stands arbiter h → arbiter.older ≡ None
    → None ≡ winner_at h (length h)
unfolding winner_at
winner-none arbiter h s e =
    elim (cases_lt (length h) 2) [
      | inl low ↦ sym (winner_after-low h (length h) (requesters_before h (length h)) (lt-ltb (length h) 2 low))
      | inr high ↦ absurd (none_back h high (sym s.older ∙ e))
    ]

-- one more sample
newest_back : (h : Trace) (s : Sample) → lines_back (h ++ s ∷ []) 1 ≡ Some s.lines
newest_back h s =
    let more : length (h ++ s ∷ []) ≡ length h + 1 = length_push h s in
    let place : length (h ++ s ∷ []) - 1 ≡ length h = omega arith in
    lines_back-there (h ++ s ∷ []) 1 (omega arith)
    ∙ ap (λ k. option_map (λ x. x.lines) (slice_get (h ++ s ∷ []) k)) place
    ∙ ap (option_map (λ x. x.lines)) (slice_get-end h s)

older_back : (h : Trace) (s : Sample) → lines_back (h ++ s ∷ []) 2 ≡ lines_back h 1
older_back h s =
    let more : length (h ++ s ∷ []) ≡ length h + 1 = length_push h s in
    elim (cases_lt (length h) 1) [
      | inl low ↦ lines_back-before (h ++ s ∷ []) 2 (omega arith) ∙ sym (lines_back-before h 1 low)
      | inr high ↦
          let place : length (h ++ s ∷ []) - 2 ≡ length h - 1 = omega arith in
          lines_back-there (h ++ s ∷ []) 2 (omega arith)
          ∙ ap (λ k. option_map (λ x. x.lines) (slice_get (h ++ s ∷ []) k)) place
          ∙ ap (option_map (λ x. x.lines)) (slice_get-before h (s ∷ []) (length h - 1) (omega arith))
          ∙ sym (lines_back-there h 1 high)
    ]

-- which agents began requests, with one more sample
turns-begun : (h : Trace) (s : Sample) → is_in s.lines ADS ≡ true
    → requesters_before (h ++ s ∷ []) (length (h ++ s ∷ []))
    ≡ then_begun (requesters_before h (length h)) (winner_at h (length h))
unfolding winner_at
turns-begun h s t =
    let n : ℕ = length h in
    let v : Trace = h ++ s ∷ [] in
    let ads : line_at ADS v n ≡ true = line_at-is v n s ADS (slice_get-end h s) ∙ t in
    let old : requesters_before h n ≡ requesters_before v n =
    requesters_before-agree n h v n (agree_to h s) (omega arith) in
    let won : winner_after h n (requesters_before h n) ≡ winner_after v n (requesters_before h n) =
    winner_after-agree n h v n (requesters_before h n) (agree_to h s) (omega arith) in
    ap (requesters_before v) (length_push h s) ∙ requesters_before-begun v n ads
    ∙ ap (λ turns. then_begun turns (winner_after v n turns)) (sym old)
    ∙ ap (then_begun (requesters_before h n)) (sym won)

turns-kept : (h : Trace) (s : Sample) → is_in s.lines ADS ≡ false
    → requesters_before (h ++ s ∷ []) (length (h ++ s ∷ [])) ≡ requesters_before h (length h)
turns-kept h s f =
    let n : ℕ = length h in
    let v : Trace = h ++ s ∷ [] in
    let ads : line_at ADS v n ≡ false = line_at-is v n s ADS (slice_get-end h s) ∙ f in
    ap (requesters_before v) (length_push h s) ∙ requesters_before-kept v n ads
    ∙ sym (requesters_before-agree n h v n (agree_to h s) (omega arith))

-- the arbiter after one more sample
pub stands-begun : (old new : Arbiter) (h : Trace) (s : Sample) (w : Option Who) → Stands old h
    → w ≡ winner_at h (length h) → is_in s.lines ADS ≡ true → new.older ≡ old.newer → new.newer ≡ Some s.lines
    → new.last ≡ w → new.symmetric ≡ symmetric_after old.symmetric w → Stands new (h ++ s ∷ [])
unfolding last_agent last_symmetric then_begun
stands-begun old new h s w k won t older newer last symmetric = record {
  older = older ∙ k.newer ∙ sym (older_back h s);
  newer = newer ∙ sym (newest_back h s);
  last = last ∙ won ∙ sym (ap (λ x. x.0) (turns-begun h s t));
  symmetric = symmetric ∙ ap (λ x. symmetric_after x w) k.symmetric
      ∙ ap (symmetric_after (last_symmetric h (length h))) won ∙ sym (ap (λ x. x.1) (turns-begun h s t));
}

pub stands-kept : (old new : Arbiter) (h : Trace) (s : Sample) → Stands old h → is_in s.lines ADS ≡ false
    → new.older ≡ old.newer → new.newer ≡ Some s.lines → new.last ≡ old.last → new.symmetric ≡ old.symmetric
    → Stands new (h ++ s ∷ [])
unfolding last_agent last_symmetric
stands-kept old new h s k f older newer last symmetric = record {
  older = older ∙ k.newer ∙ sym (older_back h s);
  newer = newer ∙ sym (newest_back h s);
  last = last ∙ k.last ∙ sym (ap (λ x. x.0) (turns-kept h s f));
  symmetric = symmetric ∙ k.symmetric ∙ sym (ap (λ x. x.1) (turns-kept h s f));
}
