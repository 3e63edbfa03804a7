-- Tokens of the header decide no sample.
use Rattle.std.proofs.Common.{◌≡◌, ℕ, Bool, true, false, not, ◌||◌, ◌&&◌, ◌==◌, is_some, List, [], Option, Some, None}
use Rattle.std.proofs.Common.{if◌then◌else◌, refl, sym, ap, ◌∙◌}
use Rattle.vcd_grammar.specs.Tokens.{Token, is_long}
use Rattle.vcd_grammar.specs.Words.{is_end, is_code_word}
use Rattle.vcd_grammar.specs.Judging.{Known, TokenTurn, Draft, Mode, Variable, Closing, turn, turn_in, stays, goes_to}
use Rattle.vcd_grammar.specs.Judging.{fails, declared, undeclared, mode_behind, closed, missing_from, other_declared, line_declared, named}
use Rattle.vcd_grammar.specs.Judging.{with_width, is_declared, drafted, closed_with}
use Rattle.fsb_signal.specs.Table.{table}
use Rattle.fsb_signal.specs.DumpText.{width_of}
use Rattle.fsb_signal.specs.declared.sample.Sample.{Sample}
use Rattle.vcd_grammar.specs.declared.fault.VcdCause.TheVariants.{Width, Header, Token as TokenCause}
use Rattle.vcd_read.specs.Taking.{Taken, decided_of, pushed}

-- a choice of two turns that decide no sample decides none
both : (s : Taken) (b : Bool) (t u : TokenTurn) → decided_of s t ≡ [] → decided_of s u ≡ []
    → decided_of s (if b then t else u) ≡ []
both s true t u h k = h
both s false t u h k = k

quiet_named : (s : Taken) (k : Known) (d : Draft) (width : ℕ) (line : Option ℕ)
    → decided_of s (named k d width line) ≡ []
quiet_named s k d width None = refl
quiet_named s k d width (Some number) =
    both s (not d.is_line || is_declared k.lines number) (other_declared k d.code)
    (if width == width_of number then line_declared k d.code number else undeclared k d Width) refl
    (both s (width == width_of number) (line_declared k d.code number) (undeclared k d Width) refl refl)

quiet_width : (s : Taken) (k : Known) (d : Draft) (width : Option ℕ) → decided_of s (with_width k d width) ≡ []
quiet_width s k d None = refl
quiet_width s k d (Some width) = both s ((d.count == 4) && is_code_word d.code) (named k d width d.line)
    (undeclared k d Header) (quiet_named s k d width d.line) refl

-- a token of a declaration
quiet_variable : (s : Taken) (k : Known) (d : Draft) (t : Token) → decided_of s (turn_in (Variable d) k t) ≡ []
unfolding declared
quiet_variable s k d t =
    both s (is_long t.word) (fails k t.place TokenCause)
    (if is_end t.word then declared k d else goes_to k (Variable (drafted d t.word))) refl
    (both s (is_end t.word) (declared k d) (goes_to k (Variable (drafted d t.word))) (quiet_width s k d d.width) refl)

quiet_closed : (s : Taken) (k : Known) (place : ℕ) (line : Option ℕ) → decided_of s (closed_with k place line) ≡ []
quiet_closed s k place None = refl
quiet_closed s k place (Some number) = refl

-- a token before the end of the header
quiet_closing : (s : Taken) (k : Known) (place : ℕ) (t : Token) → decided_of s (turn_in (Closing place) k t) ≡ []
unfolding closed
quiet_closing s k place t = both s (is_end t.word) (closed k place) (stays k)
    (quiet_closed s k place (missing_from k.lines 0 table)) refl

-- where a token decides no sample, none is appended
silent : (s : Taken) (mode : Mode) (t : Token) (limit decided : ℕ) (to : List Sample)
    → is_some s.known.fault ≡ false → s.known.mode ≡ mode → decided_of s (turn_in mode s.known t) ≡ []
    → to ≡ pushed limit decided to (decided_of s (turn s.known t))
unfolding turn
silent s mode t limit decided to live at quiet =
    let open_turn : turn s.known t ≡ turn_in mode s.known t =
    ap (λ b. if b then goes_to s.known (mode_behind s.known.mode t) else turn_in s.known.mode s.known t) live ∙ ap (λ m. turn_in m s.known t) at in
    sym (ap (pushed limit decided to) (ap (decided_of s) open_turn ∙ quiet))

pub silent_variable : (s : Taken) (d : Draft) (t : Token) (limit decided : ℕ) (to : List Sample)
    → is_some s.known.fault ≡ false → s.known.mode ≡ Variable d
    → to ≡ pushed limit decided to (decided_of s (turn s.known t))
silent_variable s d t limit decided to live at =
    silent s (Variable d) t limit decided to live at (quiet_variable s s.known d t)

pub silent_closing : (s : Taken) (place : ℕ) (t : Token) (limit decided : ℕ) (to : List Sample)
    → is_some s.known.fault ≡ false → s.known.mode ≡ Closing place
    → to ≡ pushed limit decided to (decided_of s (turn s.known t))
silent_closing s place t limit decided to live at =
    silent s (Closing place) t limit decided to live at (quiet_closing s s.known place t)
