-- How many events, tokens and samples there are at most.
use Rattle.std.proofs.Common.{◌≡◌, ℕ, ◌+◌, ◌-◌, ◌≤◌, Bool, true, false, not, ◌&&◌, ◌||◌, ◌==◌, List, [], ◌∷◌, ◌++◌}
use Rattle.std.proofs.Common.{length, min, nat_lt, cond, if◌then◌else◌, Option, Some, None, is_some, refl, ◌∙◌, arith}
use Rattle.std.proofs.Common.{length-append}
use Rattle.std.proofs.lemmas.Bool.{eqb-true, eqb-false}
use Rattle.fsb_signal.specs.Table.{table}
use Rattle.fsb_signal.specs.DumpText.{width_of}
use Rattle.vcd_grammar.specs.declared.fault.VcdCause.TheVariants as causes
use Rattle.vcd_grammar.specs.Tokens.{Token, is_white, longest, is_long, ended_at, grown_at, counted, run_behind}
use Rattle.vcd_grammar.specs.Tokens.{tokens_from, open_run_from}
use Rattle.vcd_grammar.specs.Words.{HeaderWord, Declares, Finishes, Ends, Opens, Bare, header_word, ValueWord, Stamp}
use Rattle.vcd_grammar.specs.Words.{Scalar, Vector, Foreign, Mark, Section, Wrong, value_word, is_end, is_code_word}
use Rattle.vcd_grammar.specs.Codes.{lines_of}
use Rattle.vcd_grammar.specs.Blocks.{BlockEvent, Later, Changed}
use Rattle.vcd_grammar.specs.Judging.{Known, TokenTurn, Draft, Mode, Header, Variable, Skipped, Closing, Values}
use Rattle.vcd_grammar.specs.Judging.{Pending, Beside, Passed, turn, turn_in, stays, goes_to, fails, later, unless_long}
use Rattle.vcd_grammar.specs.Judging.{header_turn, declared, closed, closed_with, missing_from, other_declared}
use Rattle.vcd_grammar.specs.Judging.{line_declared, named, with_width, undeclared, mode_behind, is_declared, drafted, stamped, scalar_turn}
use Rattle.vcd_grammar.specs.Judging.{value_turn, is_too_wide, vector_turn, beside_turn}
use Rattle.vcd_read.specs.Lines.{OpenLines, rises, after_event, decided_by, after_events, decided_in}
use Rattle.vcd_read.specs.Taking.{Taken, decided_of, take_token, take_tokens, samples_in_tokens}
use Rattle.vcd_read.specs.Scanning.{Reading, after_bytes, Fits}

-- a turn has one event at most
record One (t : TokenTurn) : Type 0 where
  at_most : length t.events ≤ 1

either : (b : Bool) (t u : TokenTurn) → One t → One u → One (if b then t else u)
either true t u h k = h
either false t u h k = k

one_stays : (k : Known) → One (stays k)
one_stays k = record { at_most = omega arith }

one_goes : (k : Known) (mode : Mode) → One (goes_to k mode)
one_goes k mode = record { at_most = omega arith }

one_header : (k : Known) (place : ℕ) (w : HeaderWord) → One (header_turn k place w)
one_header k place Declares = record { at_most = omega arith }
one_header k place Finishes = record { at_most = omega arith }
one_header k place Ends = record { at_most = omega arith }
one_header k place Opens = record { at_most = omega arith }
one_header k place Bare = record { at_most = omega arith }

one_named : (k : Known) (d : Draft) (width : ℕ) (line : Option ℕ) → One (named k d width line)
one_named k d width None = record { at_most = omega arith }
one_named k d width (Some number) =
    either (not d.is_line || is_declared k.lines number) (other_declared k d.code)
    (if width == width_of number then line_declared k d.code number else undeclared k d causes.Width)
    (record { at_most = omega arith })
    (either (width == width_of number) (line_declared k d.code number) (undeclared k d causes.Width)
    (record { at_most = omega arith }) (record { at_most = omega arith }))

one_width : (k : Known) (d : Draft) (width : Option ℕ) → One (with_width k d width)
one_width k d None = record { at_most = omega arith }
one_width k d (Some width) = either ((d.count == 4) && is_code_word d.code) (named k d width d.line)
    (undeclared k d causes.Header) (one_named k d width d.line) (record { at_most = omega arith })

one_closed : (k : Known) (place : ℕ) (line : Option ℕ) → One (closed_with k place line)
one_closed k place None = record { at_most = omega arith }
one_closed k place (Some number) = record { at_most = omega arith }

one_later : (k : Known) (time : ℕ) → One (later k time)
one_later k time = record { at_most = omega arith }

one_stamped : (k : Known) (place time : ℕ) (last : Option ℕ) → One (stamped k place time last)
one_stamped k place time None = one_later k time
one_stamped k place time (Some last) =
    either (nat_lt time last) (fails k place causes.TimeBack)
    (if nat_lt last time then later k time else stays k) (record { at_most = omega arith })
    (either (nat_lt last time) (later k time) (stays k) (one_later k time) (one_stays k))

one_scalar : (k : Known) (place digit : ℕ) (lines : Option (List ℕ)) → One (scalar_turn k place digit lines)
one_scalar k place digit None = record { at_most = omega arith }
one_scalar k place digit (Some lines) = record { at_most = omega arith }

one_value : (k : Known) (place : ℕ) (w : ValueWord) → One (value_turn k place w)
one_value k place (Stamp time) = one_stamped k place time k.time
one_value k place (Scalar digit code) = one_scalar k place digit (lines_of k.codes code)
one_value k place (Vector digits) = record { at_most = omega arith }
one_value k place Foreign = record { at_most = omega arith }
one_value k place Mark = record { at_most = omega arith }
one_value k place Section = record { at_most = omega arith }
one_value k place Wrong = record { at_most = omega arith }

one_vector : (k : Known) (place from : ℕ) (digits : List ℕ) (lines : Option (List ℕ))
    → One (vector_turn k place from digits lines)
one_vector k place from digits None = record { at_most = omega arith }
one_vector k place from digits (Some lines) =
    either (is_too_wide digits lines) (fails k from causes.Width)
    (record {
      known = record k { mode = Values };
      events = Changed (record { lines = lines; digits = digits }) ∷ [];
    }) (record { at_most = omega arith })
    (record { at_most = omega arith })

one_beside : (k : Known) (place : ℕ) (lines : Option (List ℕ)) → One (beside_turn k place lines)
one_beside k place None = record { at_most = omega arith }
one_beside k place (Some lines) = record { at_most = omega arith }

unless : (k : Known) (t : Token) (u : TokenTurn) → One u → One (unless_long k t u)
unless k t u h = either (is_long t.word) (fails k t.place causes.Token) u (record { at_most = omega arith }) h

one_in : (mode : Mode) (k : Known) (t : Token) → One (turn_in mode k t)
unfolding declared closed
one_in Header k t = unless k t (header_turn k t.place (header_word t.word)) (one_header k t.place (header_word t.word))
one_in (Variable d) k t =
    unless k t (if is_end t.word then declared k d else goes_to k (Variable (drafted d t.word)))
    (either (is_end t.word) (declared k d) (goes_to k (Variable (drafted d t.word))) (one_width k d d.width)
    (one_goes k (Variable (drafted d t.word))))
one_in Skipped k t = either (is_end t.word) (goes_to k Header) (stays k) (one_goes k Header) (one_stays k)
one_in (Closing place) k t = either (is_end t.word) (closed k place) (stays k)
    (one_closed k place (missing_from k.lines 0 table)) (one_stays k)
one_in Values k t = unless k t (value_turn k t.place (value_word t.word)) (one_value k t.place (value_word t.word))
one_in (Pending from digits) k t = unless k t (vector_turn k t.place from digits (lines_of k.codes t.word))
    (one_vector k t.place from digits (lines_of k.codes t.word))
one_in Beside k t = unless k t (beside_turn k t.place (lines_of k.codes t.word))
    (one_beside k t.place (lines_of k.codes t.word))
one_in Passed k t = either (is_end t.word) (goes_to k Values) (stays k) (one_goes k Values) (one_stays k)

one_turn : (k : Known) (t : Token) → One (turn k t)
unfolding turn
one_turn k t = either (is_some k.fault) (goes_to k (mode_behind k.mode t)) (turn_in k.mode k t)
    (record { at_most = omega arith }) (one_in k.mode k t)

-- each event decides one sample at most
event_most : (l : OpenLines) (e : BlockEvent) → (after_event l e).decided ≤ l.decided + 1
event_most l Later = by (rises l)
  where
    by : (b : Bool) → (if b then l.decided + 1 else l.decided) ≤ l.decided + 1
    by true = omega arith
    by false = omega arith
event_most l (Changed change) = omega arith

events_most : (l : OpenLines) (es : List BlockEvent) → (after_events l es).decided ≤ l.decided + length es
events_most l [] = omega arith
events_most l (e ∷ es) = let h = event_most l e in let k = events_most (after_event l e) es in omega (arith, h, k)

-- so does each token
pub token_most : (s : Taken) (t : Token) → (take_token s t).lines.decided ≤ s.lines.decided + 1
token_most s t = let h = events_most s.lines (turn s.known t).events in let k = (one_turn s.known t).at_most in
    omega (arith, h, k)

tokens_most : (s : Taken) (ts : List Token) → (take_tokens s ts).lines.decided ≤ s.lines.decided + length ts
tokens_most s [] = omega arith
tokens_most s (t ∷ ts) = let h = token_most s t in let k = tokens_most (take_token s t) ts in omega (arith, h, k)

-- samples are counted
event_count : (l : OpenLines) (e : BlockEvent) → (after_event l e).decided ≡ l.decided + length (decided_by l e)
event_count l Later = by (rises l)
  where
    by : (b : Bool)
        → (if b then l.decided + 1 else l.decided) ≡ l.decided + length (if b then l.block.sample_before ∷ [] else [])
    by true = refl
    by false = omega arith
event_count l (Changed change) = omega arith

events_count : (l : OpenLines) (es : List BlockEvent)
    → (after_events l es).decided ≡ l.decided + length (decided_in l es)
events_count l [] = omega arith
events_count l (e ∷ es) =
    events_count (after_event l e) es
    ∙ omega (arith, event_count l e, length-append (decided_by l e) (decided_in (after_event l e) es))

pub tokens_count : (s : Taken) (ts : List Token)
    → (take_tokens s ts).lines.decided ≡ s.lines.decided + length (samples_in_tokens s ts)
tokens_count s [] = omega arith
tokens_count s (t ∷ ts) =
    tokens_count (take_token s t) ts
    ∙ omega (
      arith,
      events_count s.lines (turn s.known t).events,
      length-append (decided_of s (turn s.known t)) (samples_in_tokens (take_token s t) ts),
    )

-- a run that ends was a byte at least
ended_most : (at : ℕ) (run : List ℕ) → length (ended_at at run) ≤ min (length run) longest
unfolding ended_at
ended_most at run = by ((length run == 0) || is_long run) refl
  where
    token : List Token
    token = record { place = at - length run; word = run } ∷ []

    some : (a b : Bool) → (a || b) ≡ false → a ≡ false
    some true b h = cc
    some false b h = refl

    by : (b : Bool) → ((length run == 0) || is_long run) ≡ b → length (cond b [] token) ≤ min (length run) longest
    by true h = omega arith
    by false h = let n = eqb-false (length run) 0 (some (length run == 0) (is_long run) h) in
        let one : 1 ≤ length run = omega (arith, n) in omega (arith, one)

-- a byte
byte_most : (at : ℕ) (run : List ℕ) (b : ℕ)
    → length (counted at run b) + min (length (run_behind run b)) longest ≤ min (length run) longest + 1
unfolding grown_at
byte_most at run b = by (is_white b) refl
  where
    grown : List Token
    grown = record { place = at - longest; word = run ++ b ∷ [] } ∷ []

    dark : (t u : Bool) → (length run == longest) ≡ t → is_long run ≡ u
        → length (cond t grown []) + min (length (cond u run (run ++ b ∷ []))) longest ≤ min (length run) longest + 1
    dark true u h k = let full = eqb-true (length run) longest h in by_long u k full
      where
        by_long : (u : Bool) → is_long run ≡ u → length run ≡ longest
            → 1 + min (length (cond u run (run ++ b ∷ []))) longest ≤ min (length run) longest + 1
        by_long true k full = omega (arith, full)
        by_long false k full = omega (arith, full, length-append run (b ∷ []))
    dark false true h k = omega arith
    dark false false h k = omega (arith, length-append run (b ∷ []))

    by : (w : Bool) → is_white b ≡ w
        → length (counted at run b) + min (length (run_behind run b)) longest ≤ min (length run) longest + 1
    by true h = rw h (let m = ended_most at run in omega (arith, m))
    by false h = rw h (dark (length run == longest) (is_long run) refl refl)

-- bytes
bytes_most : (at : ℕ) (run bs : List ℕ)
    → length (tokens_from at run bs) + min (length (open_run_from run bs)) longest ≤ min (length run) longest
    + length bs
bytes_most at run [] = omega arith
bytes_most at run (b ∷ bs) =
    let h = byte_most at run b in
    let k = bytes_most (at + 1) (run_behind run b) bs in
    omega (arith, h, k, length-append (counted at run b) (tokens_from (at + 1) (run_behind run b) bs))

-- bytes leave room for what they decide
pub fits_after : (r : Reading) (bs : List ℕ) → Fits r → Fits (after_bytes r bs)
fits_after r bs f = record {
  few =
      let h = tokens_most r.taken (tokens_from r.at r.run bs) in
      let k = bytes_most r.at r.run bs in
      let few = f.few in
      omega (arith, h, k, few);
}
