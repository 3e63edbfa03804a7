-- Once the header is over, the marks are known and stay; before that no time has come, so no block has ended.
use Rattle.std.proofs.Common.{◌≡◌, ℕ, Bool, true, false, List, [], ◌∷◌, ◌++◌, length, Option, Some, None, refl, sym, ap}
use Rattle.std.proofs.Common.{◌∙◌, arith}
use Rattle.std.specs.Prelude.{◌&&◌, ◌||◌, ◌==◌, not, nat_lt, is_some, if◌then◌else◌}
use Rattle.std.specs.List.{list_all}
use Rattle.fsb_signal.specs.declared.marks.Marks.{Marks}
use Rattle.fsb_signal.specs.DumpText.{width_of}
use Rattle.fsb_signal.specs.Table.{table}
use Rattle.vcd_grammar.specs.declared.fault.VcdCause.{VcdCause}
use Rattle.vcd_grammar.specs.declared.fault.VcdCause.TheVariants as causes
use Rattle.vcd_grammar.specs.Tokens.{Token, is_long, tokens_from, tokens_so_far, open_run, ended_at}
use Rattle.vcd_grammar.specs.Words.{HeaderWord, Declares, Finishes, Ends, Opens, Bare, header_word, ValueWord, Stamp}
use Rattle.vcd_grammar.specs.Words.{Scalar, Vector, Foreign, Mark, Section, Wrong, value_word, is_end, is_code_word}
use Rattle.vcd_grammar.specs.Codes.{lines_of}
use Rattle.vcd_grammar.specs.Blocks.{Block, BlockEvent, Later, Changed, blocks_from, ended}
use Rattle.vcd_grammar.specs.Values.{at_first, samples_in}
use Rattle.vcd_grammar.specs.Judging.{Draft, Mode, Header, Variable, Skipped, Closing, Values, Pending, Beside, Passed}
use Rattle.vcd_grammar.specs.Judging.{Known, nothing, TokenTurn, stays, goes_to, fails, unless_long, drafted}
use Rattle.vcd_grammar.specs.Judging.{is_declared, other_declared, line_declared, undeclared, named, with_width, declared}
use Rattle.vcd_grammar.specs.Judging.{missing_from, closed_with, closed, header_turn, later, stamped, scalar_turn}
use Rattle.vcd_grammar.specs.Judging.{value_turn, is_too_wide, vector_turn, beside_turn, turn_in, mode_behind, turn, behind}
use Rattle.vcd_grammar.specs.Judging.{events_in, is_past_header, marks_of_lines, known_marks}
use Rattle.vcd_grammar.specs.Reading.{marks_of, marks_so_far, marks_at_end, samples_so_far}
use Rattle.vcd_grammar.proofs.Append.{tokens-append, behind-append}

-- ---- behind the header

-- the header is over, and the lines are those that were declared before
pub record Past (k l : Known) : Type 0 where
  pub over : is_past_header l.mode ≡ true
  pub lines : l.lines ≡ k.lines

past-if : (k : Known) (b : Bool) (x y : TokenTurn) → Past k x.known → Past k y.known → Past k (if b then x else y).known
past-if k true x y p q = p
past-if k false x y p q = q

past-fails : (k : Known) (place : ℕ) (cause : VcdCause) → is_past_header k.mode ≡ true
    → Past k (fails k place cause).known
past-fails k place cause h = record { over = h; lines = refl }

past-stays : (k : Known) → is_past_header k.mode ≡ true → Past k k
past-stays k h = record { over = h; lines = refl }

past-goes : (k : Known) (m : Mode) → is_past_header m ≡ true → Past k (goes_to k m).known
past-goes k m h = record { over = h; lines = refl }

past-stamped : (k : Known) (place time : ℕ) (last : Option ℕ) → is_past_header k.mode ≡ true
    → Past k (stamped k place time last).known
past-stamped k place time None h = record { over = h; lines = refl }
past-stamped k place time (Some last) h =
    past-if k (nat_lt time last) (fails k place causes.TimeBack) (if nat_lt last time then later k time else stays k)
    (past-fails k place causes.TimeBack h)
    (past-if k (nat_lt last time) (later k time) (stays k) (record { over = h; lines = refl }) (past-stays k h))

past-scalar : (k : Known) (place digit : ℕ) (lines : Option (List ℕ)) → is_past_header k.mode ≡ true
    → Past k (scalar_turn k place digit lines).known
past-scalar k place digit None h = past-fails k place causes.Code h
past-scalar k place digit (Some lines) h = past-stays k h

past-value : (k : Known) (place : ℕ) (w : ValueWord) → is_past_header k.mode ≡ true
    → Past k (value_turn k place w).known
past-value k place (Stamp time) h = past-stamped k place time k.time h
past-value k place (Scalar digit code) h = past-scalar k place digit (lines_of k.codes code) h
past-value k place (Vector digits) h = past-goes k (Pending place digits) refl
past-value k place Foreign h = past-goes k Beside refl
past-value k place Mark h = past-stays k h
past-value k place Section h = past-goes k Passed refl
past-value k place Wrong h = past-fails k place causes.Token h

past-vector : (k : Known) (place from : ℕ) (digits : List ℕ) (lines : Option (List ℕ))
    → is_past_header k.mode ≡ true → Past k (vector_turn k place from digits lines).known
past-vector k place from digits None h = past-fails k place causes.Code h
past-vector k place from digits (Some lines) h = by (is_too_wide digits lines)
  where
    by : (b : Bool)
        → Past k (if b then fails k from causes.Width else record {
          known = record k { mode = Values };
          events = Changed (record { lines = lines; digits = digits }) ∷ [];
        }).known
    by true = past-fails k from causes.Width h
    by false = record { over = refl; lines = refl }

past-beside : (k : Known) (place : ℕ) (lines : Option (List ℕ)) → is_past_header k.mode ≡ true
    → Past k (beside_turn k place lines).known
past-beside k place None h = past-fails k place causes.Code h
past-beside k place (Some lines) h = past-goes k Values refl

past-long : (k : Known) (t : Token) (x : TokenTurn) → is_past_header k.mode ≡ true → Past k x.known
    → Past k (unless_long k t x).known
past-long k t x h p = past-if k (is_long t.word) (fails k t.place causes.Token) x
    (past-fails k t.place causes.Token h) p

pub past-in : (m : Mode) (k : Known) (t : Token) → is_past_header m ≡ true → is_past_header k.mode ≡ true
    → Past k (turn_in m k t).known
past-in Header k t m h = cc m
past-in (Variable d) k t m h = cc m
past-in Skipped k t m h = cc m
past-in (Closing place) k t m h = cc m
past-in Values k t m h = past-long k t (value_turn k t.place (value_word t.word)) h
    (past-value k t.place (value_word t.word) h)
past-in (Pending from digits) k t m h =
    past-long k t (vector_turn k t.place from digits (lines_of k.codes t.word)) h
    (past-vector k t.place from digits (lines_of k.codes t.word) h)
past-in Beside k t m h = past-long k t (beside_turn k t.place (lines_of k.codes t.word)) h
    (past-beside k t.place (lines_of k.codes t.word) h)
past-in Passed k t m h = past-if k (is_end t.word) (goes_to k Values) (stays k) (past-goes k Values refl)
    (past-stays k h)

past-follows : (m : Mode) (t : Token) → is_past_header m ≡ true → is_past_header (mode_behind m t) ≡ true
past-follows Header t h = cc h
past-follows (Variable d) t h = cc h
past-follows Skipped t h = cc h
past-follows (Closing place) t h = cc h
past-follows Values t h = refl
past-follows (Pending from digits) t h = refl
past-follows Beside t h = refl
past-follows Passed t h = refl

past-turn : (k : Known) (t : Token) → is_past_header k.mode ≡ true → Past k (turn k t).known
unfolding turn
past-turn k t h = past-if k (is_some k.fault) (goes_to k (mode_behind k.mode t)) (turn_in k.mode k t)
    (past-goes k (mode_behind k.mode t) (past-follows k.mode t h)) (past-in k.mode k t h h)

pub past-behind : (k : Known) (ts : List Token) → is_past_header k.mode ≡ true → Past k (behind k ts)
past-behind k [] h = past-stays k h
past-behind k (t ∷ ts) h =
    let p = past-turn k t h in
    let q = past-behind (turn k t).known ts p.over in
    record { over = q.over; lines = q.lines ∙ p.lines }

-- ---- the marks stay

-- the marks are known: the header is over, and they are those of its lines
pub marks_known : (k : Known) (m : Marks) → known_marks k ≡ Some m
    → (is_past_header k.mode ≡ true) × (marks_of_lines k.lines ≡ m)
marks_known k m h = by (is_past_header k.mode) refl
  where
    by : (b : Bool) → is_past_header k.mode ≡ b → (is_past_header k.mode ≡ true) × (marks_of_lines k.lines ≡ m)
    by true e = let s : Some (marks_of_lines k.lines) ≡ Some m = rw e refl ∙ h in (e, cc s)
    by false e = let s : None ≡ Some m = rw e refl ∙ h in cc s

pub marks_stay : (k : Known) (ts : List Token) (m : Marks) → known_marks k ≡ Some m → known_marks (behind k ts) ≡ Some m
marks_stay k ts m h =
    let known = marks_known k m h in
    let p = past-behind k ts known.0 in
    rw (p.over, p.lines, known.1) refl

-- the tokens of a longer text
tokens_longer : (fed more : List ℕ)
    → tokens_so_far (fed ++ more) ≡ tokens_so_far fed ++ tokens_from (length fed) (open_run fed) more
tokens_longer fed more = tokens-append 0 [] fed more
    ∙ ap (λ n. tokens_so_far fed ++ tokens_from n (open_run fed) more) (omega arith)

pub marks-longer : (fed more : List ℕ) (m : Marks) → marks_so_far fed ≡ Some m → marks_so_far (fed ++ more) ≡ Some m
unfolding marks_so_far
marks-longer fed more m h =
    rw (
      tokens_longer fed more,
      behind-append nothing (tokens_so_far fed)
          (tokens_from (length fed) (open_run fed) more),
    )
    (marks_stay (behind nothing (tokens_so_far fed)) (tokens_from (length fed) (open_run fed) more) m h)

pub marks-whole : (fed more : List ℕ) (m : Marks) → marks_so_far fed ≡ Some m → marks_of (fed ++ more) ≡ m
unfolding marks_so_far marks_of
marks-whole fed more m h =
    let text = fed ++ more in
    let last = ended_at (length text) (open_run text) in
    let known = marks_known (behind nothing (tokens_so_far text)) m (marks-longer fed more m h) in
    rw (
      behind-append nothing (tokens_so_far text) last,
      (past-behind (behind nothing (tokens_so_far text)) last known.0).lines,
    ) known.1

-- the last token of a text changes none
pub marks-ended : (text : List ℕ) (m : Marks) → marks_so_far text ≡ Some m → marks_at_end text ≡ Some m
unfolding marks_so_far marks_at_end
marks-ended text m h =
    let last = ended_at (length text) (open_run text) in
    rw (behind-append nothing (tokens_so_far text) last) (marks_stay (behind nothing (tokens_so_far text)) last m h)

-- ---- before the end of the header

-- what happens is no time
abbrev is_change : BlockEvent → Bool
is_change Later = false
is_change (Changed change) = true

-- no time comes
abbrev Calm : List BlockEvent → Type 0
Calm events = list_all is_change events ≡ true

calm-if : (b : Bool) (x y : TokenTurn) → Calm x.events → Calm y.events → Calm (if b then x else y).events
calm-if true x y p q = p
calm-if false x y p q = q

calm-named : (k : Known) (d : Draft) (width : ℕ) (line : Option ℕ) → Calm (named k d width line).events
calm-named k d width None = refl
calm-named k d width (Some number) =
    let lined = if width == width_of number then line_declared k d.code number else undeclared k d causes.Width in
    calm-if (not d.is_line || is_declared k.lines number) (other_declared k d.code) lined refl
    (calm-if (width == width_of number) (line_declared k d.code number) (undeclared k d causes.Width) refl refl)

calm-width : (k : Known) (d : Draft) (width : Option ℕ) → Calm (with_width k d width).events
calm-width k d None = refl
calm-width k d (Some width) = calm-if ((d.count == 4) && is_code_word d.code) (named k d width d.line)
    (undeclared k d causes.Header) (calm-named k d width d.line) refl

calm-declared : (k : Known) (d : Draft) → Calm (declared k d).events
unfolding declared
calm-declared k d = calm-width k d d.width

calm-closed : (k : Known) (place : ℕ) (number : Option ℕ) → Calm (closed_with k place number).events
calm-closed k place None = refl
calm-closed k place (Some number) = refl

calm-header : (k : Known) (place : ℕ) (w : HeaderWord) → Calm (header_turn k place w).events
calm-header k place Declares = refl
calm-header k place Finishes = refl
calm-header k place Ends = refl
calm-header k place Opens = refl
calm-header k place Bare = refl

calm-long : (k : Known) (t : Token) (x : TokenTurn) → Calm x.events → Calm (unless_long k t x).events
calm-long k t x p = calm-if (is_long t.word) (fails k t.place causes.Token) x refl p

calm-in : (m : Mode) (k : Known) (t : Token) → is_past_header m ≡ false → Calm (turn_in m k t).events
unfolding closed
calm-in Header k t m = calm-long k t (header_turn k t.place (header_word t.word))
    (calm-header k t.place (header_word t.word))
calm-in (Variable d) k t m =
    calm-long k t (if is_end t.word then declared k d else goes_to k (Variable (drafted d t.word)))
    (calm-if (is_end t.word) (declared k d) (goes_to k (Variable (drafted d t.word))) (calm-declared k d) refl)
calm-in Skipped k t m = calm-if (is_end t.word) (goes_to k Header) (stays k) refl refl
calm-in (Closing place) k t m = calm-if (is_end t.word) (closed k place) (stays k)
    (calm-closed k place (missing_from k.lines 0 table)) refl
calm-in Values k t m = cc m
calm-in (Pending from digits) k t m = cc m
calm-in Beside k t m = cc m
calm-in Passed k t m = cc m

calm-turn : (k : Known) (t : Token) → is_past_header k.mode ≡ false → Calm (turn k t).events
unfolding turn
calm-turn k t h = calm-if (is_some k.fault) (goes_to k (mode_behind k.mode t)) (turn_in k.mode k t) refl
    (calm-in k.mode k t h)

calm-append : (a b : List BlockEvent) → Calm a → Calm b → Calm (a ++ b)
calm-append [] b p q = q
calm-append (Later ∷ a) b p q = cc p
calm-append (Changed change ∷ a) b p q = calm-append a b p q

calm-first : (k : Known) (t : Token) (ts : List Token) → is_past_header (behind k (t ∷ ts)).mode ≡ false
    → Calm (events_in (turn k t).known ts) → Calm (events_in k (t ∷ ts))
calm-first k t ts h rest = by (is_past_header k.mode) refl
  where
    by : (b : Bool) → is_past_header k.mode ≡ b → Calm (events_in k (t ∷ ts))
    by true e = let over = (past-behind k (t ∷ ts) e).over in cc (sym h ∙ over)
    by false e = calm-append (turn k t).events (events_in (turn k t).known ts) (calm-turn k t e) rest

-- where the header is not over behind tokens, it was not before
calm-behind : (k : Known) (ts : List Token) → is_past_header (behind k ts).mode ≡ false → Calm (events_in k ts)
calm-behind k [] h = refl
calm-behind k (t ∷ ts) h = calm-first k t ts h (calm-behind (turn k t).known ts h)

-- no block ends
none_ended : (block : Block) (events : List BlockEvent) → Calm events → ended (blocks_from block events) ≡ []
none_ended block [] h = refl
none_ended block (Later ∷ events) h = cc h
none_ended block (Changed change ∷ events) h = none_ended (block ++ change ∷ []) events h

unmarked : (k : Known) → known_marks k ≡ None → is_past_header k.mode ≡ false
unmarked k h = by (is_past_header k.mode) refl
  where
    by : (b : Bool) → is_past_header k.mode ≡ b → b ≡ false
    by true e = let s : Some (marks_of_lines k.lines) ≡ None = rw e refl ∙ h in cc s
    by false e = refl

pub marks-first : (fed : List ℕ) → marks_so_far fed ≡ None → samples_so_far fed ≡ []
unfolding marks_so_far samples_so_far
marks-first fed h = ap (samples_in at_first)
    (none_ended [] (events_in nothing (tokens_so_far fed))
    (calm-behind nothing (tokens_so_far fed) (unmarked (behind nothing (tokens_so_far fed)) h)))
