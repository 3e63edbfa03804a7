-- Tokens of bytes without white space.
use Rattle.std.proofs.Common.{◌≡◌, ℕ, ◌+◌, ◌-◌, ◌<◌, ◌≤◌, Bool, true, false, ◌==◌, List, [], ◌∷◌, ◌++◌, length, take}
use Rattle.std.proofs.Common.{refl, sym, ap, ◌∙◌, arith, append_assoc, suc}
use Rattle.std.specs.List.{list_all}
use Rattle.std.proofs.lemmas.Bool.{and_parts, not-true, ne_eqb, eq-eqb, lt-ltb, le-ltb, eqb-true, eqb-false}
use Rattle.std.proofs.lemmas.List.{append-nil, length_push}
use Rattle.vcd_grammar.specs.Tokens.{is_white, longest, is_long, grown_at, counted, run_behind, tokens_from}
use Rattle.vcd_grammar.specs.Tokens.{open_run_from}
use Rattle.vcd_cut.specs.Cutting.{is_dark, taken_by}

-- the first of some bytes, and the others
pub dark_first : (b : ℕ) (bs : List ℕ) → list_all is_dark (b ∷ bs) ≡ true → is_white b ≡ false
dark_first b bs h = not-true (is_white b) (and_parts (is_dark b) (list_all is_dark bs) h).0

pub dark_rest : (b : ℕ) (bs : List ℕ) → list_all is_dark (b ∷ bs) ≡ true → list_all is_dark bs ≡ true
dark_rest b bs h = (and_parts (is_dark b) (list_all is_dark bs) h).1

-- a byte that is not the one past the longest counts nothing
none_counted : (at : ℕ) (run : List ℕ) (b : ℕ) → is_white b ≡ false → (length run == longest) ≡ false
    → counted at run b ≡ []
unfolding grown_at
none_counted at run b dark other = rw (dark, other) refl

-- the byte past the longest counts
full_counts : (at : ℕ) (run : List ℕ) (b : ℕ) → is_white b ≡ false → length run ≡ longest
    → counted at run b ≡ record { place = at - length run; word = run ++ b ∷ [] } ∷ []
unfolding grown_at
full_counts at run b dark full = rw (dark, eq-eqb (length run) longest full, full) refl

-- the run behind a byte
grows : (run : List ℕ) (b : ℕ) → is_white b ≡ false → is_long run ≡ false → run_behind run b ≡ run ++ b ∷ []
grows run b dark short = rw (dark, short) refl

stays_long : (run : List ℕ) (b : ℕ) → is_white b ≡ false → is_long run ≡ true → run_behind run b ≡ run
stays_long run b dark long = rw (dark, long) refl

-- a run that is too long stays so, and nothing counts
pub long_tokens : (at : ℕ) (run bs : List ℕ) → list_all is_dark bs ≡ true → longest < length run
    → tokens_from at run bs ≡ []
long_tokens at run [] dark long = refl
long_tokens at run (b ∷ bs) dark long =
    let w = dark_first b bs dark in
    let e = stays_long run b w (lt-ltb longest (length run) long) in
    rw (none_counted at run b w (ne_eqb (length run) longest (λ q. omega (arith, q, long))), e)
    (long_tokens (at + 1) run bs (dark_rest b bs dark) long)

pub long_open : (run bs : List ℕ) → list_all is_dark bs ≡ true → longest < length run → open_run_from run bs ≡ run
long_open run [] dark long = refl
long_open run (b ∷ bs) dark long =
    rw (stays_long run b (dark_first b bs dark) (lt-ltb longest (length run) long))
    (long_open run bs (dark_rest b bs dark) long)

-- a byte more behind a run
-- a run that does not become too long takes the bytes, and nothing counts
pub short_tokens : (at : ℕ) (run bs : List ℕ) → list_all is_dark bs ≡ true → length run + length bs ≤ longest
    → tokens_from at run bs ≡ []
short_tokens at run [] dark short = refl
short_tokens at run (b ∷ bs) dark short =
    let w = dark_first b bs dark in
    let e = grows run b w (le-ltb longest (length run) (omega (arith, short))) in
    rw (none_counted at run b w (ne_eqb (length run) longest (λ q. omega (arith, q, short))), e)
    (short_tokens (at + 1) (run ++ b ∷ []) bs (dark_rest b bs dark) (omega (arith, short, length_push run b)))

pub short_open : (run bs : List ℕ) → list_all is_dark bs ≡ true → length run + length bs ≤ longest
    → open_run_from run bs ≡ run ++ bs
short_open run [] dark short = sym (append-nil run)
short_open run (b ∷ bs) dark short =
    rw (grows run b (dark_first b bs dark) (le-ltb longest (length run) (omega (arith, short))))
    (short_open (run ++ b ∷ []) bs (dark_rest b bs dark) (omega (arith, short, length_push run b))
    ∙ append_assoc run (b ∷ []) bs)

-- the run once it takes its byte 70,001
last_byte : (run : List ℕ) (b : ℕ) (bs : List ℕ) → length run ≡ longest → taken_by run (b ∷ bs) ≡ run ++ b ∷ []
last_byte run b bs h = let one : longest + 1 - length run ≡ 1 = omega (arith, h) in ap (λ n. run ++ take n (b ∷ bs)) one

-- the run takes one byte more
next_byte : (run : List ℕ) (b : ℕ) (bs : List ℕ) → length run < longest
    → taken_by (run ++ b ∷ []) bs ≡ taken_by run (b ∷ bs)
next_byte run b bs h =
    let more : longest + 1 - length run ≡ suc (longest + 1 - length (run ++ b ∷ [])) =
    omega (arith, h, length_push run b) in
    append_assoc run (b ∷ []) (take (longest + 1 - length (run ++ b ∷ [])) bs)
    ∙ sym (ap (λ n. run ++ take n (b ∷ bs)) more)

-- a run that becomes too long counts once
pub over_open : (run bs : List ℕ) → list_all is_dark bs ≡ true → length run ≤ longest
    → longest < length run + length bs → open_run_from run bs ≡ taken_by run bs
over_open run [] dark short over = absurd (omega (arith, short, over))
over_open run (b ∷ bs) dark short over =
    by (length run == longest) refl (λ less. over_open (run ++ b ∷ []) bs (dark_rest b bs dark)
    (omega (arith, less, length_push run b)) (omega (arith, over, length_push run b)))
  where
    w : is_white b ≡ false
    w = dark_first b bs dark

    e : run_behind run b ≡ run ++ b ∷ []
    e = grows run b w (le-ltb longest (length run) short)

    by : (t : Bool) → (length run == longest) ≡ t
        → (length run < longest → open_run_from (run ++ b ∷ []) bs ≡ taken_by (run ++ b ∷ []) bs)
        → open_run_from run (b ∷ bs) ≡ taken_by run (b ∷ bs)
    by true t rest =
        let full = eqb-true (length run) longest t in
        rw e (long_open (run ++ b ∷ []) bs (dark_rest b bs dark) (omega (arith, full, length_push run b))
        ∙ sym (last_byte run b bs full))
    by false t rest =
        let less : length run < longest = omega (arith, short, eqb-false (length run) longest t) in
        rw e (rest less ∙ next_byte run b bs less)

pub over_tokens : (at : ℕ) (run bs : List ℕ) → list_all is_dark bs ≡ true → length run ≤ longest
    → longest < length run + length bs → length run ≤ at
    → tokens_from at run bs ≡ record { place = at - length run; word = taken_by run bs } ∷ []
over_tokens at run [] dark short over within = absurd (omega (arith, short, over))
over_tokens at run (b ∷ bs) dark short over within =
    by (length run == longest) refl
    (λ less. over_tokens (at + 1) (run ++ b ∷ []) bs (dark_rest b bs dark)
    (omega (arith, less, length_push run b)) (omega (arith, over, length_push run b))
    (omega (arith, within, length_push run b)))
  where
    w : is_white b ≡ false
    w = dark_first b bs dark

    e : run_behind run b ≡ run ++ b ∷ []
    e = grows run b w (le-ltb longest (length run) short)

    full_counted : length run ≡ longest
        → counted at run b ≡ record { place = at - length run; word = run ++ b ∷ [] } ∷ []
    full_counted = full_counts at run b w

    by : (t : Bool) → (length run == longest) ≡ t
        → (length run < longest
        → tokens_from (at + 1) (run ++ b ∷ []) bs ≡ record {
          place = at + 1 - length (run ++ b ∷ []);
          word = taken_by (run ++ b ∷ []) bs;
        } ∷ [])
        → tokens_from at run (b ∷ bs) ≡ record { place = at - length run; word = taken_by run (b ∷ bs) } ∷ []
    by true t rest =
        let full = eqb-true (length run) longest t in
        rw (
          e,
          full_counted full,
          long_tokens (at + 1) (run ++ b ∷ []) bs (dark_rest b bs dark)
              (omega (arith, full, length_push run b)),
          last_byte run b bs full,
        ) refl
    by false t rest =
        let less : length run < longest = omega (arith, short, eqb-false (length run) longest t) in
        let place : at + 1 - length (run ++ b ∷ []) ≡ at - length run = omega (arith, length_push run b, within) in
        rw (e, none_counted at run b w t) (rest less
        ∙ (λ i. record { place = place i; word = next_byte run b bs less i } ∷ []))
