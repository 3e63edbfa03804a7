-- The marks are known from the `$end` of the `$enddefinitions` on, whether or not there is a fault.
use Rattle.std.proofs.Common.{◌≡◌, ℕ, Bool, true, false, not, ◌&&◌, ◌||◌, ◌==◌, is_some, List, [], ◌∷◌, Option, Some, None}
use Rattle.std.proofs.Common.{if◌then◌else◌, codes, subst, refl, sym, ap, ◌∙◌}
use Rattle.std.specs.Cmp.Lexicographic.{same_text}
use Rattle.fsb_signal.specs.DumpText.{width_of}
use Rattle.fsb_signal.specs.Table.{table}
use Rattle.vcd_grammar.specs.declared.fault.VcdCause.TheVariants as causes
use Rattle.vcd_grammar.specs.Tokens.{Token, is_long, tokens_so_far, tokens_of}
use Rattle.vcd_grammar.specs.Words.{HeaderWord, Declares, Finishes, Ends, Opens, Bare, header_word, ValueWord, value_word}
use Rattle.vcd_grammar.specs.Words.{Stamp, Scalar, Vector, Foreign, Mark, Section, Wrong, is_end, is_code_word}
use Rattle.vcd_grammar.specs.Codes.{lines_of}
use Rattle.vcd_grammar.specs.Heading.{Heading, Between, Inside, Ending, Over, behind_word, behind_token, heading_behind}
use Rattle.vcd_grammar.specs.Heading.{is_over, is_header_over}
use Rattle.vcd_grammar.specs.Judging.{Draft, Mode, Header, Variable, Skipped, Closing, Values, Pending, Beside, Passed}
use Rattle.vcd_grammar.specs.Judging.{Known, nothing, TokenTurn, stays, goes_to, fails, unless_long, drafted}
use Rattle.vcd_grammar.specs.Judging.{is_declared, other_declared, line_declared, undeclared, named, with_width, declared}
use Rattle.vcd_grammar.specs.Judging.{missing_from, closed_with, closed, header_turn, value_turn, vector_turn, beside_turn}
use Rattle.vcd_grammar.specs.Judging.{turn_in, mode_behind_word, mode_behind, turn, behind, is_past_header, known_marks}
use Rattle.vcd_grammar.specs.Reading.{marks_so_far, marks_at_end}
use Rattle.vcd_grammar.proofs.MarkFacts.{past-in}

-- where a mode stands in the header
abbrev heading_of : Mode → Heading
heading_of Header = Between
heading_of (Variable d) = Inside
heading_of Skipped = Inside
heading_of (Closing place) = Ending
heading_of Values = Over
heading_of (Pending from digits) = Over
heading_of Beside = Over
heading_of Passed = Over

abbrev heading : TokenTurn → Heading
heading t = heading_of t.known.mode

both : (b : Bool) (x y : TokenTurn) (h j : Heading) → heading x ≡ h → heading y ≡ j
    → heading (if b then x else y) ≡ (if b then h else j)
both true x y h j e f = e
both false x y h j e f = f

same : (b : Bool) (x y : TokenTurn) (h : Heading) → heading x ≡ h → heading y ≡ h → heading (if b then x else y) ≡ h
same true x y h e f = e
same false x y h e f = f

named-heading : (k : Known) (d : Draft) (width : ℕ) (line : Option ℕ) → heading (named k d width line) ≡ Between
named-heading k d width None = refl
named-heading k d width (Some number) =
    let lined = if width == width_of number then line_declared k d.code number else undeclared k d causes.Width in
    same (not d.is_line || is_declared k.lines number) (other_declared k d.code) lined Between refl
    (same (width == width_of number) (line_declared k d.code number) (undeclared k d causes.Width) Between refl refl)

width-heading : (k : Known) (d : Draft) (width : Option ℕ) → heading (with_width k d width) ≡ Between
width-heading k d None = refl
width-heading k d (Some width) = same ((d.count == 4) && is_code_word d.code) (named k d width d.line)
    (undeclared k d causes.Header) Between (named-heading k d width d.line) refl

closed-heading : (k : Known) (place : ℕ) (number : Option ℕ) → heading (closed_with k place number) ≡ Over
closed-heading k place None = refl
closed-heading k place (Some number) = refl

word-heading : (k : Known) (place : ℕ) (w : HeaderWord) → k.mode ≡ Header
    → heading (header_turn k place w) ≡ behind_word w
word-heading k place Declares e = refl
word-heading k place Finishes e = refl
word-heading k place Ends e = ap heading_of e
word-heading k place Opens e = refl
word-heading k place Bare e = ap heading_of e

over : (m : Mode) → is_past_header m ≡ true → heading_of m ≡ Over
over Header h = cc h
over (Variable d) h = cc h
over Skipped h = cc h
over (Closing place) h = cc h
over Values h = refl
over (Pending from digits) h = refl
over Beside h = refl
over Passed h = refl

past : (m : Mode) (k : Known) (t : Token) → k.mode ≡ m → is_past_header m ≡ true → heading (turn_in m k t) ≡ Over
past m k t e h = over (turn_in m k t).known.mode (past-in m k t h (ap is_past_header e ∙ h)).over

-- the `$end` of a section is not too long
end_short : (word : List ℕ) → is_end word ≡ true → is_long word ≡ false
end_short word h = subst (λ w. is_long w ≡ false) (same_text (codes "$end") word (sym h)) refl

in-heading : (m : Mode) (k : Known) (t : Token) → k.mode ≡ m → heading (turn_in m k t) ≡ behind_token (heading_of m) t
unfolding declared closed
in-heading Header k t e =
    both (is_long t.word) (fails k t.place causes.Token) (header_turn k t.place (header_word t.word)) Between
    (behind_word (header_word t.word)) (ap heading_of e) (word-heading k t.place (header_word t.word) e)
in-heading (Variable d) k t e = by (is_long t.word) (is_end t.word) refl refl
  where
    by : (l n : Bool) → is_long t.word ≡ l → is_end t.word ≡ n
        → heading (turn_in (Variable d) k t) ≡ behind_token Inside t
    by true true l-is n-is = let short = end_short t.word n-is in cc (sym l-is ∙ short)
    by true false l-is n-is = rw (l-is, n-is) (ap heading_of e)
    by false true l-is n-is = rw (l-is, n-is) (width-heading k d d.width)
    by false false l-is n-is = rw (l-is, n-is) refl
in-heading Skipped k t e = both (is_end t.word) (goes_to k Header) (stays k) Between Inside refl (ap heading_of e)
in-heading (Closing place) k t e = both (is_end t.word) (closed k place) (stays k) Over Ending
    (closed-heading k place (missing_from k.lines 0 table)) (ap heading_of e)
in-heading Values k t e = past Values k t e refl
in-heading (Pending from digits) k t e = past (Pending from digits) k t e refl
in-heading Beside k t e = past Beside k t e refl
in-heading Passed k t e = past Passed k t e refl

follows-word : (place : ℕ) (w : HeaderWord) → heading_of (mode_behind_word place w) ≡ behind_word w
follows-word place Declares = refl
follows-word place Finishes = refl
follows-word place Ends = refl
follows-word place Opens = refl
follows-word place Bare = refl

either : (b : Bool) (m n : Mode) (h j : Heading) → heading_of m ≡ h → heading_of n ≡ j
    → heading_of (if b then m else n) ≡ (if b then h else j)
either true m n h j e f = e
either false m n h j e f = f

-- behind a fault
follows : (m : Mode) (t : Token) → heading_of (mode_behind m t) ≡ behind_token (heading_of m) t
follows Header t = either (is_long t.word) Header (mode_behind_word t.place (header_word t.word)) Between
    (behind_word (header_word t.word)) refl (follows-word t.place (header_word t.word))
follows (Variable d) t = either (is_end t.word) Header (Variable d) Between Inside refl refl
follows Skipped t = either (is_end t.word) Header Skipped Between Inside refl refl
follows (Closing place) t = either (is_end t.word) Values (Closing place) Over Ending refl refl
follows Values t = refl
follows (Pending from digits) t = refl
follows Beside t = refl
follows Passed t = refl

turn-heading : (k : Known) (t : Token) → heading (turn k t) ≡ behind_token (heading_of k.mode) t
unfolding turn
turn-heading k t =
    same (is_some k.fault) (goes_to k (mode_behind k.mode t)) (turn_in k.mode k t) (behind_token (heading_of k.mode) t)
    (follows k.mode t) (in-heading k.mode k t refl)

behind-heading : (k : Known) (ts : List Token)
    → heading_of (behind k ts).mode ≡ heading_behind (heading_of k.mode) ts
behind-heading k [] = refl
behind-heading k (t ∷ ts) = behind-heading (turn k t).known ts
    ∙ ap (λ h. heading_behind h ts) (turn-heading k t)

marks-over : (k : Known) → is_some (known_marks k) ≡ is_over (heading_of k.mode)
marks-over k = by k.mode refl
  where
    by : (m : Mode) → k.mode ≡ m → is_some (known_marks k) ≡ is_over (heading_of k.mode)
    by Header e = rw e refl
    by (Variable d) e = rw e refl
    by Skipped e = rw e refl
    by (Closing place) e = rw e refl
    by Values e = rw e refl
    by (Pending from digits) e = rw e refl
    by Beside e = rw e refl
    by Passed e = rw e refl

-- the marks are known exactly where the header is over
pub marks-are-known : (fed : List ℕ) → is_some (marks_so_far fed) ≡ is_header_over (tokens_so_far fed)
unfolding marks_so_far
marks-are-known fed = marks-over (behind nothing (tokens_so_far fed))
    ∙ ap is_over (behind-heading nothing (tokens_so_far fed))

pub marks-at-end-known : (text : List ℕ) → is_some (marks_at_end text) ≡ is_header_over (tokens_of text)
unfolding marks_at_end
marks-at-end-known text = marks-over (behind nothing (tokens_of text)) ∙ ap is_over (behind-heading nothing (tokens_of text))
