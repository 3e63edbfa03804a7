-- What bytes make of a cutter, and the tokens that count in them.
use Rattle.std.proofs.Common.{◌≡◌, ℕ, ◌+◌, ◌-◌, ◌<◌, ◌≤◌, Bool, true, false, ◌||◌, ◌==◌, nat_lt, cond, List, [], ◌∷◌}
use Rattle.std.proofs.Common.{◌++◌, length, take, Option, Some, None, refl, sym, ap, subst, ◌∙◌, arith, length-append}
use Rattle.std.specs.List.{list_all, count_by}
use Rattle.std.specs.Prelude.{IfSome}
use Rattle.std.proofs.lemmas.Bool.{false≢true, ne_eqb, eq-eqb, lt-ltb, le-ltb, ltb-true, ltb-false}
use Rattle.std.proofs.lemmas.List.{append-nil, length_push, length-take, take_all, take-take}
use Rattle.std.proofs.lemmas.List.Sums.{sum_by-cons, sum_by-append}
use Rattle.vcd_grammar.specs.Tokens.{Token, is_white, longest, ended_at, tokens_from, open_run_from}
use Rattle.vcd_grammar.proofs.Interface.{tokens-append, open-append}
use Rattle.vcd_cut.specs.declared.cut.CutToken.{CutToken}
use Rattle.vcd_cut.specs.declared.cut.Source.{Source}
use Rattle.vcd_cut.specs.declared.cut.Source.TheVariants as sources
use Rattle.vcd_cut.specs.Cutting.{is_dark, is_break, Cutting, after_cut, tokens_cut, counted_cut, taken_by}
use Rattle.vcd_cut.specs.Cutting.{word_at, tokens_told, FitsIn, Begins}
use Rattle.vcd_cut.proofs.TokenRuns.{dark_first, dark_rest, long_tokens, long_open, short_tokens, short_open}
use Rattle.vcd_cut.proofs.TokenRuns.{over_tokens, over_open}

-- ---- line feeds

not_break : (b : ℕ) → is_white b ≡ false → (b == 10) ≡ false
not_break b w = ne_eqb b 10 (λ e. false≢true (sym (subst (λ n. is_white n ≡ false) e w)))

-- bytes without white space have none
pub dark_breaks : (bs : List ℕ) → list_all is_dark bs ≡ true → count_by is_break bs ≡ 0
dark_breaks [] dark = refl
dark_breaks (b ∷ bs) dark =
    sum_by-cons (λ x. cond (is_break x) 1 0) b bs
    ∙ (λ i. cond (not_break b (dark_first b bs dark) i) 1 0 + dark_breaks bs (dark_rest b bs dark) i)

pub breaks-append : (xs ys : List ℕ) → count_by is_break (xs ++ ys) ≡ count_by is_break xs + count_by is_break ys
breaks-append xs ys = sum_by-append (λ x. cond (is_break x) 1 0) xs ys

-- ---- the token of a run that ends

pub ended_some : (at : ℕ) (run : List ℕ) → 0 < length run → length run ≤ longest
    → ended_at at run ≡ record { place = at - length run; word = run } ∷ []
unfolding ended_at
ended_some at run some short =
    rw (ne_eqb (length run) 0 (λ e. omega (arith, e, some)), le-ltb longest (length run) short) refl

pub ended_empty : (at : ℕ) (run : List ℕ) → length run ≡ 0 → ended_at at run ≡ []
unfolding ended_at
ended_empty at run none = rw (eq-eqb (length run) 0 none) refl

pub ended_long : (at : ℕ) (run : List ℕ) → longest < length run → ended_at at run ≡ []
unfolding ended_at
ended_long at run long = rw (lt-ltb longest (length run) long) (either (length run == 0))
  where
    either : (b : Bool) → cond {A = List Token} (b || true) [] (record { place = at - length run; word = run } ∷ []) ≡ []
    either true = refl
    either false = refl

pub no_run : (run : List ℕ) → length run ≡ 0 → run ≡ []
no_run [] h = refl
no_run (b ∷ run) h = absurd (omega (arith, h))

-- ---- bytes without white space

pub short_cut : (c : Cutting) (bs : List ℕ) → list_all is_dark bs ≡ true → length c.run + length bs ≤ longest
    → record { at = c.at + length bs; breaks = c.breaks; run = c.run ++ bs } ≡ after_cut c bs
short_cut c bs dark short =
    let e : c.breaks ≡ c.breaks + count_by is_break bs = omega (arith, dark_breaks bs dark) in
    let o : c.run ++ bs ≡ open_run_from c.run bs = sym (short_open c.run bs dark short) in
    λ i. record { at = c.at + length bs; breaks = e i; run = o i }

pub long_cut : (c : Cutting) (bs : List ℕ) → list_all is_dark bs ≡ true → longest < length c.run
    → record { at = c.at + length bs; breaks = c.breaks; run = c.run } ≡ after_cut c bs
long_cut c bs dark long =
    let e : c.breaks ≡ c.breaks + count_by is_break bs = omega (arith, dark_breaks bs dark) in
    let o : c.run ≡ open_run_from c.run bs = sym (long_open c.run bs dark long) in
    λ i. record { at = c.at + length bs; breaks = e i; run = o i }

pub over_cut : (c : Cutting) (bs run : List ℕ) → list_all is_dark bs ≡ true → length c.run ≤ longest
    → longest < length c.run + length bs → run ≡ taken_by c.run bs
    → record { at = c.at + length bs; breaks = c.breaks; run = run } ≡ after_cut c bs
over_cut c bs run dark short over is =
    let e : c.breaks ≡ c.breaks + count_by is_break bs = omega (arith, dark_breaks bs dark) in
    let o : run ≡ open_run_from c.run bs = is ∙ sym (over_open c.run bs dark short over) in
    λ i. record { at = c.at + length bs; breaks = e i; run = o i }

-- ---- white space after them

length_taken : (run bs : List ℕ) → length run ≤ longest → longest < length run + length bs
    → longest < length (taken_by run bs)
length_taken run bs short over =
    omega (arith, length-append run (take (longest + 1 - length run) bs), length-take (longest + 1 - length run) bs)

short_counted : (c : Cutting) (bs : List ℕ) → list_all is_dark bs ≡ true → length c.run + length bs ≤ longest
    → 0 < length c.run + length bs
    → counted_cut c bs ≡ record { place = c.at - length c.run; word = c.run ++ bs } ∷ []
short_counted c bs dark short some =
    let n = length-append c.run bs in
    let t : tokens_cut c bs ≡ [] = short_tokens c.at c.run bs dark short in
    let o : open_run_from c.run bs ≡ c.run ++ bs = short_open c.run bs dark short in
    let p : c.at + length bs - length (c.run ++ bs) ≡ c.at - length c.run = omega (arith, n) in
    (λ i. t i ++ ended_at (c.at + length bs) (o i))
    ∙ ended_some (c.at + length bs) (c.run ++ bs) (omega (arith, n, some)) (omega (arith, n, short))
    ∙ (λ i. record { place = p i; word = c.run ++ bs } ∷ [])

over_counted : (c : Cutting) (bs : List ℕ) → list_all is_dark bs ≡ true → length c.run ≤ longest
    → longest < length c.run + length bs → length c.run ≤ c.at
    → counted_cut c bs ≡ record { place = c.at - length c.run; word = taken_by c.run bs } ∷ []
over_counted c bs dark short over within =
    let t : tokens_cut c bs ≡ record { place = c.at - length c.run; word = taken_by c.run bs } ∷ [] =
    over_tokens c.at c.run bs dark short over within in
    let o : open_run_from c.run bs ≡ taken_by c.run bs = over_open c.run bs dark short over in
    (λ i. t i ++ ended_at (c.at + length bs) (o i))
    ∙ ap (λ ts. record { place = c.at - length c.run; word = taken_by c.run bs } ∷ ts)
    (ended_long (c.at + length bs) (taken_by c.run bs) (length_taken c.run bs short over))

pub joined_counted : (c : Cutting) (bs : List ℕ) → list_all is_dark bs ≡ true → length c.run ≤ longest
    → 0 < length c.run + length bs → length c.run ≤ c.at
    → counted_cut c bs ≡ record { place = c.at - length c.run; word = taken_by c.run bs } ∷ []
joined_counted c bs dark short some within = by (nat_lt longest (length c.run + length bs)) refl
  where
    by : (b : Bool) → nat_lt longest (length c.run + length bs) ≡ b
        → counted_cut c bs ≡ record { place = c.at - length c.run; word = taken_by c.run bs } ∷ []
    by true h = over_counted c bs dark short (ltb-true longest (length c.run + length bs) h) within
    by false h =
        let few = ltb-false longest (length c.run + length bs) h in
        let all : take (longest + 1 - length c.run) bs ≡ bs =
        take_all (longest + 1 - length c.run) bs (omega (arith, few)) in
        short_counted c bs dark (omega (arith, few)) some
        ∙ (λ i. record { place = c.at - length c.run; word = c.run ++ sym all i } ∷ [])

pub whole_counted : (c : Cutting) (bs : List ℕ) → length c.run ≡ 0 → list_all is_dark bs ≡ true → 0 < length bs
    → length bs ≤ longest → counted_cut c bs ≡ record { place = c.at; word = bs } ∷ []
whole_counted c bs none dark some short =
    let p : c.at - length c.run ≡ c.at = omega (arith, none) in
    short_counted c bs dark (omega (arith, none, short)) (omega (arith, none, some))
    ∙ (λ i. record { place = p i; word = no_run c.run none i ++ bs } ∷ [])

pub empty_counted : (c : Cutting) (bs : List ℕ) → length c.run ≡ 0 → length bs ≡ 0 → counted_cut c bs ≡ []
empty_counted c [] none h = ended_empty (c.at + 0) c.run none
empty_counted c (b ∷ bs) none h = absurd (omega (arith, h))

pub long_counted : (c : Cutting) (bs : List ℕ) → list_all is_dark bs ≡ true → longest < length c.run
    → counted_cut c bs ≡ []
long_counted c bs dark long =
    let t : tokens_cut c bs ≡ [] = long_tokens c.at c.run bs dark long in
    let o : open_run_from c.run bs ≡ c.run = long_open c.run bs dark long in
    (λ i. t i ++ ended_at (c.at + length bs) (o i)) ∙ ended_long (c.at + length bs) c.run long

white_tokens : (at : ℕ) (run : List ℕ) (w : ℕ) → is_white w ≡ true → tokens_from at run (w ∷ []) ≡ ended_at at run
white_tokens at run w white = rw white (append-nil (ended_at at run))

white_open : (run : List ℕ) (w : ℕ) → is_white w ≡ true → open_run_from run (w ∷ []) ≡ []
white_open run w white = rw white refl

pub white_counted : (c : Cutting) (bs : List ℕ) (w : ℕ) → is_white w ≡ true
    → tokens_cut c (bs ++ w ∷ []) ≡ counted_cut c bs
white_counted c bs w white =
    tokens-append c.at c.run bs (w ∷ [])
    ∙ ap (λ ts. tokens_cut c bs ++ ts) (white_tokens (c.at + length bs) (open_run_from c.run bs) w white)

pub white_cut : (c new : Cutting) (bs : List ℕ) (w : ℕ) → is_white w ≡ true → list_all is_dark bs ≡ true
    → new.at ≡ c.at + (length bs + 1) → new.breaks ≡ c.breaks + cond (w == 10) 1 0 → length new.run ≡ 0
    → new ≡ after_cut c (bs ++ w ∷ [])
white_cut c new bs w white dark at breaks none =
    let a : new.at ≡ c.at + length (bs ++ w ∷ []) = omega (arith, at, length_push bs w) in
    let one : count_by is_break (w ∷ []) ≡ cond (w == 10) 1 0 = omega arith in
    let b : new.breaks ≡ c.breaks + count_by is_break (bs ++ w ∷ []) =
    omega (arith, breaks, one, dark_breaks bs dark, breaks-append bs (w ∷ [])) in
    let o : new.run ≡ open_run_from c.run (bs ++ w ∷ []) = no_run new.run none
    ∙ sym (open-append c.run bs (w ∷ []) ∙ white_open (open_run_from c.run bs) w white) in
    λ i. record { at = a i; breaks = b i; run = o i }

-- ---- what is told

-- a token whose word was kept
pub kept_told : (c : Cutting) (kept : List ℕ) (t : CutToken) (bs : List ℕ) (ts : List Token) (w : List ℕ)
    → ts ≡ record { place = c.at - length c.run; word = w } ∷ [] → Begins c t → t.source ≡ sources.Kept
    → kept ≡ w → ts ≡ tokens_told kept (Some t) bs
kept_told c kept t bs ts w h b e is =
    let word : w ≡ word_at kept t.source bs = sym is ∙ sym (ap (λ s. word_at kept s bs) e) in
    h ∙ (λ i. record { place = sym b.place i; word = word i } ∷ [])

pub kept_fits : (source : Source) (n : ℕ) → source ≡ sources.Kept → FitsIn source n
kept_fits source n e = subst (λ s. FitsIn s n) (sym e) tt

pub kept_fits_if : (token : Option CutToken) (n : ℕ) → IfSome token (λ t. t.source ≡ sources.Kept)
    → IfSome token (λ t. FitsIn t.source n)
kept_fits_if None n h = tt
kept_fits_if (Some t) n h = kept_fits t.source n h

-- a word that lies in the first bytes lies in all of them
word_more : (kept : List ℕ) (source : Source) (bs : List ℕ) (len : ℕ) → FitsIn source (length (take len bs))
    → word_at kept source (take len bs) ≡ word_at kept source bs
word_more kept (sources.Given n) bs len h = take-take n len bs (omega (arith, h, length-take len bs))
word_more kept sources.Kept bs len h = refl

pub told_more : (kept : List ℕ) (token : Option CutToken) (bs : List ℕ) (len : ℕ)
    → IfSome token (λ t. FitsIn t.source (length (take len bs)))
    → tokens_told kept token (take len bs) ≡ tokens_told kept token bs
told_more kept None bs len h = refl
told_more kept (Some t) bs len h =
    λ i. record { place = t.place; word = word_more kept t.source bs len h i } ∷ []
