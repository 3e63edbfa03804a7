-- What the header says: the declarations of the entries that are written, each in its place.
use Rattle.std.proofs.Common.{◌≡◌, ℕ, zero, suc, ◌+◌, ◌<◌, Bool, true, false, List, [], ◌∷◌, ◌++◌, map}
use Rattle.std.proofs.Common.{None, refl, sym, ap, ◌∙◌, arith, append-nil, codes, subst}
use Rattle.std.specs.Prelude.{if◌then◌else◌}
use Rattle.std.specs.Fmt.{digits}
use Rattle.fsb_signal.specs.Table.{signal_number}
use Rattle.fsb_signal.specs.DumpText.{dump_code_of, texts_from, declaration_text, range_text}
use Rattle.vcd_grammar.specs.Tokens.{tokens_from, open_run_from, ended_at, grown_at}
use Rattle.vcd_grammar.specs.Digits.{number_up_to}
use Rattle.vcd_grammar.specs.Words.{header_word, is_foreign_type}
use Rattle.vcd_grammar.specs.Codes.{Code, with_code}
use Rattle.vcd_grammar.specs.Blocks.{Change, Changed}
use Rattle.vcd_grammar.specs.Judging.{Known, Header, nothing, turn, drafted, declared, closed, behind, events_in, is_declared}
use Rattle.vcd_laws.proofs.Pieces.{Does, does-nothing, does-both}
use Rattle.vcd_laws.proofs.Known.{sets, changed, next, none}
use Rattle.scope_write.specs.Text.{is_written, shown_declaration, shown_header}
use Rattle.scope_write.proofs.Entries.{entry_if, numbers_below, own_code, heading, shown, not_declared, code-behind}
use Rattle.scope_write.proofs.Entries.{none_missing}

-- ---- a declaration

-- what is known in a header with these lines and codes
abbrev in_header : List ℕ → List Code → Known
in_header lines codes = record { fault = None; mode = Header; lines = lines; codes = codes; time = None }

-- wherever the declaration of an entry stands that was not declared, it ends its last token
abbrev Closes : ℕ → Type 0
Closes n = open_run_from [] (declaration_text n) ≡ []

-- it declares the entry
abbrev Tells : ℕ → Type 0
Tells n =
    (lines : List ℕ) (known : List Code) → is_declared lines n ≡ false → (at : ℕ) →
    behind (in_header lines known) (tokens_from at [] (declaration_text n))
    ≡ in_header (lines ++ n ∷ []) (with_code known (dump_code_of n ∷ []) (n ∷ []))

-- the line is unknown from there on
abbrev Makes : ℕ → Type 0
Makes n =
    (lines : List ℕ) (known : List Code) → is_declared lines n ≡ false → (at : ℕ) →
    events_in (in_header lines known) (tokens_from at [] (declaration_text n)) ≡ Changed (sets n (120 ∷ [])) ∷ []

closes : (n : ℕ) → n < 22 → Closes n
unfolding digits declaration_text range_text
closes =
    next _ 21 (refl)
    (next _ 20 (refl)
    (next _ 19 (refl)
    (next _ 18 (refl)
    (next _ 17 (refl)
    (next _ 16 (refl)
    (next _ 15 (refl)
    (next _ 14 (refl)
    (next _ 13 (refl)
    (next _ 12 (refl)
    (next _ 11 (refl)
    (next _ 10 (refl)
    (next _ 9 (refl)
    (next _ 8 (refl)
    (next _ 7 (refl)
    (next _ 6 (refl)
    (next _ 5 (refl)
    (next _ 4 (refl)
    (next _ 3 (refl)
    (next _ 2 (refl)
    (next _ 1 (refl)
    (next _ 0 (refl) (none _))))))))))))))))))))))

tells : (n : ℕ) → n < 22 → Tells n
unfolding digits declaration_text range_text ended_at grown_at number_up_to header_word is_foreign_type signal_number turn
    drafted declared
tells =
    next _ 21 (λ lines known e at. rw e refl)
    (next _ 20 (λ lines known e at. rw e refl)
    (next _ 19 (λ lines known e at. rw e refl)
    (next _ 18 (λ lines known e at. rw e refl)
    (next _ 17 (λ lines known e at. rw e refl)
    (next _ 16 (λ lines known e at. rw e refl)
    (next _ 15 (λ lines known e at. rw e refl)
    (next _ 14 (λ lines known e at. rw e refl)
    (next _ 13 (λ lines known e at. rw e refl)
    (next _ 12 (λ lines known e at. rw e refl)
    (next _ 11 (λ lines known e at. rw e refl)
    (next _ 10 (λ lines known e at. rw e refl)
    (next _ 9 (λ lines known e at. rw e refl)
    (next _ 8 (λ lines known e at. rw e refl)
    (next _ 7 (λ lines known e at. rw e refl)
    (next _ 6 (λ lines known e at. rw e refl)
    (next _ 5 (λ lines known e at. rw e refl)
    (next _ 4 (λ lines known e at. rw e refl)
    (next _ 3 (λ lines known e at. rw e refl)
    (next _ 2 (λ lines known e at. rw e refl)
    (next _ 1 (λ lines known e at. rw e refl)
    (next _ 0 (λ lines known e at. rw e refl) (none _))))))))))))))))))))))

makes : (n : ℕ) → n < 22 → Makes n
unfolding digits declaration_text range_text ended_at grown_at number_up_to header_word is_foreign_type signal_number turn
    drafted declared
makes =
    next _ 21 (λ lines known e at. rw e refl)
    (next _ 20 (λ lines known e at. rw e refl)
    (next _ 19 (λ lines known e at. rw e refl)
    (next _ 18 (λ lines known e at. rw e refl)
    (next _ 17 (λ lines known e at. rw e refl)
    (next _ 16 (λ lines known e at. rw e refl)
    (next _ 15 (λ lines known e at. rw e refl)
    (next _ 14 (λ lines known e at. rw e refl)
    (next _ 13 (λ lines known e at. rw e refl)
    (next _ 12 (λ lines known e at. rw e refl)
    (next _ 11 (λ lines known e at. rw e refl)
    (next _ 10 (λ lines known e at. rw e refl)
    (next _ 9 (λ lines known e at. rw e refl)
    (next _ 8 (λ lines known e at. rw e refl)
    (next _ 7 (λ lines known e at. rw e refl)
    (next _ 6 (λ lines known e at. rw e refl)
    (next _ 5 (λ lines known e at. rw e refl)
    (next _ 4 (λ lines known e at. rw e refl)
    (next _ 3 (λ lines known e at. rw e refl)
    (next _ 2 (λ lines known e at. rw e refl)
    (next _ 1 (λ lines known e at. rw e refl)
    (next _ 0 (λ lines known e at. rw e refl) (none _))))))))))))))))))))))

-- ---- the declarations of the entries that are written

-- a written entry is unknown once it was declared
abbrev pub unknown_if : List Bool → ℕ → List Change
unknown_if there n = if is_written there n then sets n (120 ∷ []) ∷ [] else []

-- those of the entries below a number
unfoldable pub unknown_below : List Bool → ℕ → List Change
unknown_below there zero = []
unknown_below there (suc n) = unknown_below there n ++ unknown_if there n

changed-append : (a b : List Change) → changed (a ++ b) ≡ changed a ++ changed b
changed-append [] b = refl
changed-append (c ∷ a) b = ap (λ es. Changed c ∷ es) (changed-append a b)

-- the declaration of one entry
does-declaration : (there : List Bool) (n : ℕ) → n < 22
    → Does (shown_declaration there n) (heading there n) (heading there (suc n)) (changed (unknown_if there n))
unfolding shown_declaration numbers_below
does-declaration there n h = by (is_written there n)
  where
    lines : List ℕ
    lines = numbers_below there n

    free : is_declared lines n ≡ false
    free = not_declared there n n (omega arith)

    by : (w : Bool) → Does (if w then declaration_text n else []) (in_header lines (map own_code lines))
        (in_header (lines ++ entry_if w n) (map own_code (lines ++ entry_if w n)))
        (changed (if w then sets n (120 ∷ []) ∷ [] else []))
    by true = record {
      closes = closes n h;
      known = λ at. tells n h lines (map own_code lines) free at
          ∙ ap (in_header (lines ++ n ∷ [])) (code-behind lines n free);
      happens = λ at. makes n h lines (map own_code lines) free at;
    }
    by false = subst (λ ns. Does [] (in_header lines (map own_code lines)) (in_header ns (map own_code ns)) [])
        (sym (append-nil lines)) (does-nothing (in_header lines (map own_code lines)))

does-declarations : (there : List Bool) (n : ℕ) → n < 23
    → Does (texts_from (shown_declaration there) 0 n) (heading there 0) (heading there n) (changed (unknown_below there n))
unfolding texts_from unknown_below
does-declarations there zero h = does-nothing (heading there 0)
does-declarations there (suc n) h =
    let here : 0 + n ≡ n = omega arith in
    rw here (rw (changed-append (unknown_below there n) (unknown_if there n))
    (does-both _ _ _ _ _ _ _ (does-declarations there n (omega (arith, h))) (does-declaration there n (omega (arith, h)))))

-- ---- what stands around them

before_text : List ℕ
before_text = codes "$version p6scope 1 $end\n$timescale 1 ns $end\n$scope module fsb $end\n"

behind_text : List ℕ
behind_text = codes "$upscope $end\n$enddefinitions $end\n"

does-before : (there : List Bool) → Does before_text nothing (heading there 0) []
unfolding before_text numbers_below ended_at grown_at header_word turn
does-before there = record { closes = refl; known = λ at. refl; happens = λ at. refl }

does-behind : (there : List Bool) → Does behind_text (heading there 22) (shown there None) []
unfolding behind_text ended_at grown_at header_word turn closed
does-behind there = record {
  closes = refl;
  known = λ at. rw (behind, none_missing there) refl;
  happens = λ at. rw (events_in, none_missing there) refl;
}

-- the header: behind it each entry that is written is unknown
pub does-header : (there : List Bool)
    → Does (shown_header there) nothing (shown there None) (changed (unknown_below there 22))
unfolding shown_header before_text behind_text
does-header there =
    subst (λ es. Does (shown_header there) nothing (shown there None) es) (append-nil (changed (unknown_below there 22)))
    (does-both _ _ _ _ _ _ _ (does-before there)
    (does-both _ _ _ _ _ _ _ (does-declarations there 22 (omega arith)) (does-behind there)))
