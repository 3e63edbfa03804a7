-- Readings of bytes one after another, and the samples that were appended.
use Rattle.std.proofs.Common.{◌≡◌, ℕ, ◌+◌, ◌-◌, ◌<◌, ◌≤◌, Bool, true, false, ◌||◌, ◌==◌, List, [], ◌∷◌, ◌++◌, length}
use Rattle.std.proofs.Common.{take, nat_lt, cond, if◌then◌else◌, refl, sym, ap, ◌∙◌, subst, arith, append_assoc}
use Rattle.std.proofs.Common.{length-append, suc, zero, Option}
use Rattle.std.specs.List.{list_all}
use Rattle.std.proofs.lemmas.Bool.{ltb-true, ltb-false, lt-ltb, le-ltb, ne_eqb, eq-eqb}
use Rattle.std.proofs.lemmas.List.{append-nil}
use Rattle.fsb_signal.specs.declared.sample.Sample.{Sample}
use Rattle.vcd_grammar.specs.Tokens.{Token, is_white, longest, ended_at, tokens_from, open_run_from}
use Rattle.vcd_grammar.specs.Judging.{turn}
use Rattle.vcd_grammar.specs.declared.fault.VcdFault.{VcdFault}
use Rattle.vcd_read.specs.Lines.{OpenLines}
use Rattle.vcd_read.specs.Taking.{Taken, decided_of, take_token, take_tokens, samples_in_tokens, pushed}
use Rattle.vcd_read.specs.Scanning.{Reading, after_bytes, samples_in_bytes, decided_in_reading, is_dark, ended_taken}
use Rattle.vcd_read.specs.Scanning.{ended_samples, end_fault, open_samples, Fits, Part}
use Rattle.vcd_grammar.proofs.Interface.{tokens-append, open-append}
use Rattle.vcd_read.proofs.TokenRuns.{long_tokens, long_open, short_tokens, short_open, over_tokens, over_open}
use Rattle.vcd_read.proofs.TokenRuns.{taken_by}
use Rattle.vcd_read.proofs.Counts.{tokens_count, fits_after}

-- tokens behind tokens
pub take_tokens-append : (s : Taken) (ts us : List Token) → take_tokens s (ts ++ us) ≡ take_tokens (take_tokens s ts) us
take_tokens-append s [] us = refl
take_tokens-append s (t ∷ ts) us = take_tokens-append (take_token s t) ts us

pub samples_in_tokens-append : (s : Taken) (ts us : List Token)
    → samples_in_tokens s (ts ++ us) ≡ samples_in_tokens s ts ++ samples_in_tokens (take_tokens s ts) us
samples_in_tokens-append s [] us = refl
samples_in_tokens-append s (t ∷ ts) us =
    ap (λ w. decided_of s (turn s.known t) ++ w) (samples_in_tokens-append (take_token s t) ts us)
    ∙ sym (append_assoc (decided_of s (turn s.known t)) (samples_in_tokens (take_token s t) ts)
    (samples_in_tokens (take_tokens (take_token s t) ts) us))

-- bytes behind bytes
pub after-append : (r : Reading) (xs ys : List ℕ) → after_bytes r (xs ++ ys) ≡ after_bytes (after_bytes r xs) ys
after-append r xs ys =
    let at : r.at + length (xs ++ ys) ≡ r.at + length xs + length ys = omega (arith, length-append xs ys) in
    let tokens : take_tokens r.taken (tokens_from r.at r.run (xs ++ ys))
    ≡ take_tokens (take_tokens r.taken (tokens_from r.at r.run xs))
    (tokens_from (r.at + length xs) (open_run_from r.run xs) ys) =
    ap (take_tokens r.taken) (tokens-append r.at r.run xs ys)
    ∙ take_tokens-append r.taken (tokens_from r.at r.run xs)
    (tokens_from (r.at + length xs) (open_run_from r.run xs) ys) in
    let open_run : open_run_from r.run (xs ++ ys) ≡ open_run_from (open_run_from r.run xs) ys =
    open-append r.run xs ys in
    λ i. record { taken = tokens i; at = at i; run = open_run i }

pub samples-append : (r : Reading) (xs ys : List ℕ)
    → samples_in_bytes r (xs ++ ys) ≡ samples_in_bytes r xs ++ samples_in_bytes (after_bytes r xs) ys
samples-append r xs ys =
    ap (samples_in_tokens r.taken) (tokens-append r.at r.run xs ys)
    ∙ samples_in_tokens-append r.taken (tokens_from r.at r.run xs)
    (tokens_from (r.at + length xs) (open_run_from r.run xs) ys)

-- samples behind samples
pub pushed-append : (limit decided : ℕ) (old xs ys : List Sample)
    → pushed limit decided old (xs ++ ys) ≡ pushed limit (decided + length xs) (pushed limit decided old xs) ys
pushed-append limit decided old [] ys = ap (λ d. pushed limit d old ys) (omega arith)
pushed-append limit decided old (x ∷ xs) ys =
    let kept = if nat_lt decided limit then old ++ x ∷ [] else old in
    pushed-append limit (decided + 1) kept xs ys
    ∙ ap (λ d. pushed limit d (pushed limit (decided + 1) kept xs) ys) (omega arith)

take_nothing : (n : ℕ) → take {A = Sample} n [] ≡ []
take_nothing zero = refl
take_nothing (suc n) = refl

-- the samples that are kept are the first up to the limit
pub pushed-is : (limit decided : ℕ) (old xs : List Sample)
    → pushed limit decided old xs ≡ old ++ take (limit - decided) xs
pushed-is limit decided old [] = sym (ap (λ w. old ++ w) (take_nothing (limit - decided)) ∙ append-nil old)
pushed-is limit decided old (x ∷ xs) =
    by (nat_lt decided limit) refl (pushed-is limit (decided + 1) (old ++ x ∷ []) xs)
    (pushed-is limit (decided + 1) old xs)
  where
    by : (b : Bool) → nat_lt decided limit ≡ b
        → pushed limit (decided + 1) (old ++ x ∷ []) xs ≡ (old ++ x ∷ []) ++ take (limit - (decided + 1)) xs
        → pushed limit (decided + 1) old xs ≡ old ++ take (limit - (decided + 1)) xs
        → pushed limit decided old (x ∷ xs) ≡ old ++ take (limit - decided) (x ∷ xs)
    by true h more rest =
        let n : limit - decided ≡ suc (limit - (decided + 1)) = omega (arith, ltb-true decided limit h) in
        rw h (more ∙ append_assoc old (x ∷ []) (take (limit - (decided + 1)) xs)
        ∙ sym (ap (λ k. old ++ take k (x ∷ xs)) n))
    by false h more rest =
        let n : limit - decided ≡ 0 = omega (arith, ltb-false decided limit h) in
        let m : limit - (decided + 1) ≡ 0 = omega (arith, ltb-false decided limit h) in
        rw h (rest ∙ ap (λ k. old ++ take k xs) m ∙ sym (ap (λ k. old ++ take k (x ∷ xs)) n))

-- the token of a run
abbrev pub token_of : ℕ → List ℕ → Token
token_of place word = record { place = place; word = word }

-- bytes that a run takes without becoming too long
pub short_bytes : (r : Reading) (bs : List ℕ) → list_all is_dark bs ≡ true → length r.run + length bs ≤ longest
    → after_bytes r bs ≡ record { taken = r.taken; at = r.at + length bs; run = r.run ++ bs }
short_bytes r bs dark short = λ i. record {
  taken = take_tokens r.taken (short_tokens r.at r.run bs dark short i);
  at = r.at + length bs;
  run = short_open r.run bs dark short i;
}

pub short_samples : (r : Reading) (bs : List ℕ) → list_all is_dark bs ≡ true
    → length r.run + length bs ≤ longest → samples_in_bytes r bs ≡ []
short_samples r bs dark short = ap (samples_in_tokens r.taken) (short_tokens r.at r.run bs dark short)

-- bytes behind a run that is too long
pub long_bytes : (r : Reading) (bs : List ℕ) → list_all is_dark bs ≡ true → longest < length r.run
    → after_bytes r bs ≡ record { taken = r.taken; at = r.at + length bs; run = r.run }
long_bytes r bs dark long = λ i. record {
  taken = take_tokens r.taken (long_tokens r.at r.run bs dark long i);
  at = r.at + length bs;
  run = long_open r.run bs dark long i;
}

pub long_samples : (r : Reading) (bs : List ℕ) → list_all is_dark bs ≡ true → longest < length r.run
    → samples_in_bytes r bs ≡ []
long_samples r bs dark long = ap (samples_in_tokens r.taken) (long_tokens r.at r.run bs dark long)

-- bytes that make a run too long
pub over_bytes : (r : Reading) (bs : List ℕ) → list_all is_dark bs ≡ true → length r.run ≤ longest
    → longest < length r.run + length bs → length r.run ≤ r.at
    → after_bytes r bs ≡ record {
      taken =
          take_token r.taken (token_of (r.at - length r.run) (taken_by r.run bs));
      at = r.at + length bs;
      run = taken_by r.run bs;
    }
over_bytes r bs dark short over within = λ i. record {
  taken = take_tokens r.taken (over_tokens r.at r.run bs dark short over within i);
  at = r.at + length bs;
  run = over_open r.run bs dark short over i;
}

pub over_samples : (r : Reading) (bs : List ℕ) → list_all is_dark bs ≡ true → length r.run ≤ longest
    → longest < length r.run + length bs → length r.run ≤ r.at
    → samples_in_bytes r bs ≡ decided_of r.taken
    (turn r.taken.known (token_of (r.at - length r.run) (taken_by r.run bs)))
over_samples r bs dark short over within =
    ap (samples_in_tokens r.taken) (over_tokens r.at r.run bs dark short over within) ∙ append-nil _

-- a byte of white space
white_tokens : (at : ℕ) (run : List ℕ) (w : ℕ) → is_white w ≡ true → tokens_from at run (w ∷ []) ≡ ended_at at run
white_tokens at run w white = rw white (append-nil (ended_at at run))

white_open : (run : List ℕ) (w : ℕ) → is_white w ≡ true → open_run_from run (w ∷ []) ≡ []
white_open run w white = rw white refl

pub white_bytes : (r : Reading) (w : ℕ) → is_white w ≡ true
    → after_bytes r (w ∷ []) ≡ record { taken = take_tokens r.taken (ended_at r.at r.run); at = r.at + 1; run = [] }
white_bytes r w white = λ i. record {
  taken = take_tokens r.taken (white_tokens r.at r.run w white i);
  at = r.at + 1;
  run = white_open r.run w white i;
}

pub white_samples : (r : Reading) (w : ℕ) → is_white w ≡ true
    → samples_in_bytes r (w ∷ []) ≡ samples_in_tokens r.taken (ended_at r.at r.run)
white_samples r w white = ap (samples_in_tokens r.taken) (white_tokens r.at r.run w white)

-- the token of a run that ends
pub ended_some : (at : ℕ) (run : List ℕ) → 0 < length run → length run ≤ longest
    → ended_at at run ≡ token_of (at - length run) run ∷ []
unfolding ended_at
ended_some at run some short =
    rw (ne_eqb (length run) 0 (λ e. omega (arith, e, some)), le-ltb longest (length run) short) refl

pub ended_empty : (at : ℕ) (run : List ℕ) → length run ≡ 0 → ended_at at run ≡ []
unfolding ended_at
ended_empty at run none = rw (eq-eqb (length run) 0 none) refl

pub ended_long : (at : ℕ) (run : List ℕ) → longest < length run → ended_at at run ≡ []
unfolding ended_at
ended_long at run long = rw (lt-ltb longest (length run) long) (either (length run == 0))
  where
    either : (b : Bool) → cond (b || true) [] (token_of (at - length run) run ∷ []) ≡ []
    either true = refl
    either false = refl

-- a first part of some samples is one of these and more
pub part_more : (limit decided : ℕ) (xs ys old new : List Sample) → Part limit decided xs old new
    → Part limit decided (xs ++ ys) old new
part_more limit decided xs ys old new p = record {
  first = p.first;
  rest = p.rest ++ ys;
  split = sym (append_assoc p.first p.rest ys) ∙ ap (λ w. w ++ ys) p.split;
  appended = p.appended;
}

-- nothing is a first part
pub part_none : (limit decided : ℕ) (xs old new : List Sample) → new ≡ old → Part limit decided xs old new
part_none limit decided xs old new h = record { first = []; rest = xs; split = refl; appended = h }

-- a first part behind samples that were all appended
pub part_behind : (limit decided : ℕ) (xs ys old mid new : List Sample) → mid ≡ pushed limit decided old xs
    → Part limit (decided + length xs) ys mid new → Part limit decided (xs ++ ys) old new
part_behind limit decided xs ys old mid new h p = record {
  first = xs ++ p.first;
  rest = p.rest;
  split = append_assoc xs p.first p.rest ∙ ap (λ w. xs ++ w) p.split;
  appended = p.appended ∙ ap (λ w. pushed limit (decided + length xs) w p.first) h
      ∙ sym (pushed-append limit decided old xs p.first);
}

-- a run that ends in no token
pub none_taken : (r : Reading) → ended_at r.at r.run ≡ []
    → r ≡ record r { taken = take_tokens r.taken (ended_at r.at r.run) }
none_taken r h = λ i. record { taken = take_tokens r.taken (sym h i); at = r.at; run = r.run }

pub none_sampled : (r : Reading) (limit : ℕ) (to : List Sample) → ended_at r.at r.run ≡ []
    → to ≡ pushed limit (decided_in_reading r) to (samples_in_tokens r.taken (ended_at r.at r.run))
none_sampled r limit to h = ap (λ ts. pushed limit (decided_in_reading r) to (samples_in_tokens r.taken ts)) (sym h)

-- a run that ends in a token
pub one_taken : (r : Reading) (now : Taken) (place : ℕ) (word : List ℕ) → place ≡ r.at - length r.run
    → word ≡ r.run → ended_at r.at r.run ≡ token_of (r.at - length r.run) r.run ∷ []
    → now ≡ take_token r.taken (token_of place word)
    → record r { taken = now } ≡ record r { taken = take_tokens r.taken (ended_at r.at r.run) }
one_taken r now place word at is ended h =
    let one : now ≡ take_tokens r.taken (ended_at r.at r.run) = h
    ∙ (λ i. take_token r.taken (token_of (at i) (is i))) ∙ ap (take_tokens r.taken) (sym ended) in
    λ i. record { taken = one i; at = r.at; run = r.run }

pub one_sampled : (r : Reading) (new : List Sample) (place : ℕ) (word : List ℕ) (limit : ℕ) (to : List Sample)
    → place ≡ r.at - length r.run → word ≡ r.run → ended_at r.at r.run ≡ token_of (r.at - length r.run) r.run ∷ []
    → new ≡ pushed limit (decided_in_reading r) to (decided_of r.taken (turn r.taken.known (token_of place word)))
    → new ≡ pushed limit (decided_in_reading r) to (samples_in_tokens r.taken (ended_at r.at r.run))
one_sampled r new place word limit to at is ended h =
    let one : samples_in_tokens r.taken (ended_at r.at r.run)
    ≡ decided_of r.taken (turn r.taken.known (token_of (r.at - length r.run) r.run)) =
    ap (samples_in_tokens r.taken) ended ∙ append-nil _ in
    h ∙ (λ i. pushed limit (decided_in_reading r) to
    (decided_of r.taken (turn r.taken.known (token_of (at i) (is i)))))
    ∙ ap (pushed limit (decided_in_reading r) to) (sym one)

-- bytes that made a run too long, once its token was taken
pub over_taken : (r : Reading) (bs : List ℕ) (now : Taken) (place : ℕ) (word run : List ℕ)
    → list_all is_dark bs ≡ true → length r.run ≤ longest → longest < length r.run + length bs → length r.run ≤ r.at
    → place ≡ r.at - length r.run → word ≡ run → run ≡ taken_by r.run bs
    → now ≡ take_token r.taken (token_of place word)
    → record { taken = now; at = r.at + length bs; run = run } ≡ after_bytes r bs
over_taken r bs now place word run dark short over within at kept is h =
    let one : now ≡ take_token r.taken (token_of (r.at - length r.run) (taken_by r.run bs)) = h
    ∙ (λ i. take_token r.taken (token_of (at i) ((kept ∙ is) i))) in
    (λ i. record { taken = one i; at = r.at + length bs; run = is i }) ∙ sym (over_bytes r bs dark short over within)

pub over_sampled : (r : Reading) (bs : List ℕ) (new : List Sample) (place : ℕ) (word : List ℕ) (limit : ℕ)
    (to : List Sample) → list_all is_dark bs ≡ true → length r.run ≤ longest
    → longest < length r.run + length bs → length r.run ≤ r.at
    → place ≡ r.at - length r.run → word ≡ taken_by r.run bs
    → new ≡ pushed limit (decided_in_reading r) to (decided_of r.taken (turn r.taken.known (token_of place word)))
    → new ≡ pushed limit (decided_in_reading r) to (samples_in_bytes r bs)
over_sampled r bs new place word limit to dark short over within at is h =
    h ∙ (λ i. pushed limit (decided_in_reading r) to
    (decided_of r.taken (turn r.taken.known (token_of (at i) (is i)))))
    ∙ ap (pushed limit (decided_in_reading r) to) (sym (over_samples r bs dark short over within))

-- a reading that has no run
abbrev pub runless : Taken → ℕ → Reading
runless taken at = record { taken = taken; at = at; run = [] }

no_run : (run : List ℕ) → length run ≡ 0 → [] ≡ run
no_run [] h = refl
no_run (b ∷ run) h = absurd (omega (arith, h))

-- white space behind no run
empty_taken : (taken : Taken) (at w : ℕ) (bs : List ℕ) → length bs ≡ 0 → is_white w ≡ true
    → record { taken = taken; at = at + length bs + 1; run = [] } ≡ after_bytes (runless taken at) (bs ++ w ∷ [])
empty_taken taken at w [] h white =
    (λ i. record { taken = taken; at = at + 0 + 1; run = [] })
    ∙ (let n : at + 0 + 1 ≡ at + 1 = omega arith in λ i. record { taken = taken; at = n i; run = [] })
    ∙ (λ i. record { taken = take_tokens taken (sym (ended_empty at [] refl) i); at = at + 1; run = [] })
    ∙ sym (white_bytes (runless taken at) w white)
empty_taken taken at w (b ∷ bs) h white = absurd (omega (arith, h))

empty_sampled : (taken : Taken) (at w : ℕ) (bs : List ℕ) → length bs ≡ 0 → is_white w ≡ true
    → samples_in_bytes (runless taken at) (bs ++ w ∷ []) ≡ []
empty_sampled taken at w [] h white = white_samples (runless taken at) w white
    ∙ ap (samples_in_tokens taken) (ended_empty at [] refl)
empty_sampled taken at w (b ∷ bs) h white = absurd (omega (arith, h))

-- a token that stands whole, and white space behind it
whole_token : (at : ℕ) (bs : List ℕ) → 0 < length bs → length bs ≤ longest
    → ended_at (at + length bs) bs ≡ token_of at bs ∷ []
whole_token at bs some short = let n : at + length bs - length bs ≡ at = omega arith in
    ended_some (at + length bs) bs some short ∙ ap (λ m. token_of m bs ∷ []) n

within : (n m : ℕ) → n ≤ m → 0 + n ≤ m
within n m h = omega (arith, h)

whole_bytes : (taken : Taken) (at w : ℕ) (bs : List ℕ) → list_all is_dark bs ≡ true → 0 < length bs
    → length bs ≤ longest → is_white w ≡ true
    → after_bytes (runless taken at) (bs ++ w ∷ []) ≡ record {
      taken = take_token taken (token_of at bs);
      at = at + length bs + 1;
      run = [];
    }
whole_bytes taken at w bs dark some short white =
    after-append (runless taken at) bs (w ∷ [])
    ∙ ap (λ r. after_bytes r (w ∷ [])) (short_bytes (runless taken at) bs dark (within (length bs) longest short))
    ∙ white_bytes (record { taken = taken; at = at + length bs; run = bs }) w white
    ∙ (λ i. record { taken = take_tokens taken (whole_token at bs some short i); at = at + length bs + 1; run = [] })

whole_samples : (taken : Taken) (at w : ℕ) (bs : List ℕ) → list_all is_dark bs ≡ true → 0 < length bs
    → length bs ≤ longest → is_white w ≡ true
    → samples_in_bytes (runless taken at) (bs ++ w ∷ []) ≡ decided_of taken (turn taken.known (token_of at bs))
whole_samples taken at w bs dark some short white =
    samples-append (runless taken at) bs (w ∷ [])
    ∙ (λ i. short_samples (runless taken at) bs dark (within (length bs) longest short) i
    ++ samples_in_bytes (short_bytes (runless taken at) bs dark (within (length bs) longest short) i) (w ∷ []))
    ∙ white_samples (record { taken = taken; at = at + length bs; run = bs }) w white
    ∙ ap (samples_in_tokens taken) (whole_token at bs some short)
    ∙ append-nil _

-- the same, for a reading whose run is empty
pub blank_taken : (r : Reading) (w : ℕ) (bs : List ℕ) → length r.run ≡ 0 → length bs ≡ 0 → is_white w ≡ true
    → record { taken = r.taken; at = r.at + length bs + 1; run = r.run } ≡ after_bytes r (bs ++ w ∷ [])
blank_taken r w bs none h white =
    subst (λ run. record { taken = r.taken; at = r.at + length bs + 1; run = run }
    ≡ after_bytes (record { taken = r.taken; at = r.at; run = run }) (bs ++ w ∷ [])) (no_run r.run none)
    (empty_taken r.taken r.at w bs h white)

pub blank_sampled : (r : Reading) (w limit : ℕ) (bs : List ℕ) (to : List Sample) → length r.run ≡ 0
    → length bs ≡ 0 → is_white w ≡ true
    → to ≡ pushed limit (decided_in_reading r) to (samples_in_bytes r (bs ++ w ∷ []))
blank_sampled r w limit bs to none h white =
    subst (λ run. to ≡ pushed limit (decided_in_reading r) to
    (samples_in_bytes (record { taken = r.taken; at = r.at; run = run }) (bs ++ w ∷ []))) (no_run r.run none)
    (ap (pushed limit (decided_in_reading r) to) (sym (empty_sampled r.taken r.at w bs h white)))

pub whole_taken : (r : Reading) (now : Taken) (w : ℕ) (bs : List ℕ) → length r.run ≡ 0
    → list_all is_dark bs ≡ true → 0 < length bs → length bs ≤ longest → is_white w ≡ true
    → now ≡ take_token r.taken (token_of r.at bs)
    → record { taken = now; at = r.at + length bs + 1; run = r.run } ≡ after_bytes r (bs ++ w ∷ [])
whole_taken r now w bs none dark some short white h =
    subst (λ run. record { taken = now; at = r.at + length bs + 1; run = run }
    ≡ after_bytes (record { taken = r.taken; at = r.at; run = run }) (bs ++ w ∷ [])) (no_run r.run none)
    ((λ i. record { taken = h i; at = r.at + length bs + 1; run = [] })
    ∙ sym (whole_bytes r.taken r.at w bs dark some short white))

pub whole_sampled : (r : Reading) (w limit : ℕ) (bs : List ℕ) (to new : List Sample) → length r.run ≡ 0
    → list_all is_dark bs ≡ true → 0 < length bs → length bs ≤ longest → is_white w ≡ true
    → new ≡ pushed limit (decided_in_reading r) to (decided_of r.taken (turn r.taken.known (token_of r.at bs)))
    → new ≡ pushed limit (decided_in_reading r) to (samples_in_bytes r (bs ++ w ∷ []))
whole_sampled r w limit bs to new none dark some short white h =
    subst (λ run. new ≡ pushed limit (decided_in_reading r) to
    (samples_in_bytes (record { taken = r.taken; at = r.at; run = run }) (bs ++ w ∷ []))) (no_run r.run none)
    (h ∙ ap (pushed limit (decided_in_reading r) to) (sym (whole_samples r.taken r.at w bs dark some short white)))

-- what was read behind bytes that were read
pub behind_taken : (r mid new : Reading) (xs ys : List ℕ) → mid ≡ after_bytes r xs → new ≡ after_bytes mid ys
    → new ≡ after_bytes r (xs ++ ys)
behind_taken r mid new xs ys h k = k ∙ ap (λ m. after_bytes m ys) h ∙ sym (after-append r xs ys)

pub behind_decided : (r mid : Reading) (xs : List ℕ) → mid ≡ after_bytes r xs
    → decided_in_reading mid ≡ decided_in_reading r + length (samples_in_bytes r xs)
behind_decided r mid xs h = ap decided_in_reading h ∙ tokens_count r.taken (tokens_from r.at r.run xs)

pub behind_samples : (r mid : Reading) (xs ys : List ℕ) → mid ≡ after_bytes r xs
    → samples_in_bytes r (xs ++ ys) ≡ samples_in_bytes r xs ++ samples_in_bytes mid ys
behind_samples r mid xs ys h = samples-append r xs ys ∙ ap (λ m. samples_in_bytes r xs ++ samples_in_bytes m ys) (sym h)

pub behind_sampled : (r mid : Reading) (xs ys : List ℕ) (limit : ℕ) (old to new : List Sample) → mid ≡ after_bytes r xs
    → to ≡ pushed limit (decided_in_reading r) old (samples_in_bytes r xs)
    → new ≡ pushed limit (decided_in_reading mid) to (samples_in_bytes mid ys)
    → new ≡ pushed limit (decided_in_reading r) old (samples_in_bytes r (xs ++ ys))
behind_sampled r mid xs ys limit old to new h k l =
    l ∙ (λ i. pushed limit (behind_decided r mid xs h i) (k i) (samples_in_bytes mid ys))
    ∙ sym (pushed-append limit (decided_in_reading r) old (samples_in_bytes r xs) (samples_in_bytes mid ys))
    ∙ ap (pushed limit (decided_in_reading r) old) (sym (behind_samples r mid xs ys h))

pub behind_part : (r mid : Reading) (xs ys : List ℕ) (limit : ℕ) (old to new : List Sample) → mid ≡ after_bytes r xs
    → to ≡ pushed limit (decided_in_reading r) old (samples_in_bytes r xs)
    → Part limit (decided_in_reading mid) (samples_in_bytes mid ys) to new
    → Part limit (decided_in_reading r) (samples_in_bytes r (xs ++ ys)) old new
behind_part r mid xs ys limit old to new h k p =
    subst (λ w. Part limit (decided_in_reading r) w old new) (sym (behind_samples r mid xs ys h))
    (part_behind limit (decided_in_reading r) (samples_in_bytes r xs) (samples_in_bytes mid ys) old to new k
    (subst (λ n. Part limit n (samples_in_bytes mid ys) to new) (behind_decided r mid xs h) p))

pub behind_fits : (r mid : Reading) (xs : List ℕ) → mid ≡ after_bytes r xs → Fits r → Fits mid
behind_fits r mid xs h f = subst Fits (sym h) (fits_after r xs f)

-- the end of the text: the last token, and the block that stands open
pub ended_decided : (r : Reading) → (ended_taken r).lines.decided ≡ decided_in_reading r + length (ended_samples r)
ended_decided r = tokens_count r.taken (ended_at r.at r.run)

pub end_sampled : (r : Reading) (limit : ℕ) (fault : Option VcdFault) (lines : OpenLines)
    (old to new : List Sample) → fault ≡ end_fault r → lines ≡ (ended_taken r).lines
    → to ≡ pushed limit (decided_in_reading r) old (ended_samples r)
    → new ≡ pushed limit lines.decided to (open_samples fault lines)
    → new ≡ pushed limit (decided_in_reading r) old
    (ended_samples r ++ open_samples (end_fault r) (ended_taken r).lines)
end_sampled r limit fault lines old to new f l h k =
    let decided : lines.decided ≡ decided_in_reading r + length (ended_samples r) =
    ap (λ (m : OpenLines). m.decided) l ∙ ended_decided r in
    k ∙ (λ i. pushed limit (decided i) (h i) (open_samples (f i) (l i)))
    ∙ sym (pushed-append limit (decided_in_reading r) old (ended_samples r)
    (open_samples (end_fault r) (ended_taken r).lines))

pub end_part : (r : Reading) (limit : ℕ) (more : List Sample) (old to : List Sample)
    → to ≡ pushed limit (decided_in_reading r) old (ended_samples r)
    → Part limit (decided_in_reading r) (ended_samples r ++ more) old to
end_part r limit more old to h = record { first = ended_samples r; rest = more; split = refl; appended = h }
