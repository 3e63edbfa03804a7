-- A cutter that has read the first bytes of a text.
use Rattle.std.proofs.Common.{◌≡◌, ℕ, ◌+◌, ◌-◌, ◌≤◌, Bool, true, false, if◌then◌else◌, List, [], ◌∷◌, ◌++◌, length}
use Rattle.std.proofs.Common.{take, Option, Some, None, refl, sym, ap, subst, ◌∙◌, arith, length-append, append_assoc}
use Rattle.std.specs.List.{list_all, count_by}
use Rattle.std.specs.Prelude.{IfSome}
use Rattle.std.proofs.lemmas.Bool.{ltb-true, ltb-false, and_from}
use Rattle.std.proofs.lemmas.List.{append-nil, length_push, take_at, take-append-le}
use Rattle.std.proofs.lemmas.List.Folds.{list_all-append}
use Rattle.std.proofs.lemmas.List.Sums.{count_by-le-length}
use Rattle.vcd_grammar.specs.Tokens.{Token, is_white, longest, is_long, ended_at, run_behind, open_run_from, open_run}
use Rattle.vcd_grammar.specs.Tokens.{tokens_so_far, tokens_of, tokens_from}
use Rattle.vcd_grammar.proofs.Interface.{tokens-append, open-append}
use Rattle.vcd_way.specs.Pieces.{line_number}
use Rattle.vcd_cut.specs.declared.cut.CutToken.{CutToken}
use Rattle.vcd_cut.specs.declared.cutter.Cutter.{Cutter}
use Rattle.vcd_cut.specs.Cutting.{is_dark, is_break, Cutting, cutting, after_cut, tokens_cut, counted_cut, Sound, Begins}
use Rattle.vcd_cut.specs.Standing.{Stands, IsOnLine}
use Rattle.vcd_cut.proofs.Cutting.{dark_breaks, breaks-append}

-- ---- the run that stands open is the end of the text

record Tail (text run : List ℕ) : Type 0 where
  dark : list_all is_dark run ≡ true
  ends : length run ≤ longest → (before : List ℕ) × (text ≡ before ++ run)
  few : length run ≤ length text

dark_push : (run : List ℕ) (b : ℕ) → list_all is_dark run ≡ true → is_white b ≡ false
    → list_all is_dark (run ++ b ∷ []) ≡ true
dark_push run b dark w =
    list_all-append is_dark run (b ∷ []) ∙ and_from _ _ dark (rw w refl)

tail-next : (text run : List ℕ) (b : ℕ) → Tail text run → Tail (text ++ b ∷ []) (run_behind run b)
tail-next text run b t = by (is_white b) refl (is_long run) refl
  where
    by : (p : Bool) → is_white b ≡ p → (q : Bool) → is_long run ≡ q
        → Tail (text ++ b ∷ []) (if p then [] else (if q then run else run ++ b ∷ []))
    by true w q l = record {
      dark = refl;
      ends = λ short. (text ++ b ∷ [], sym (append-nil (text ++ b ∷ [])));
      few = omega arith;
    }
    by false w true l = record {
      dark = t.dark;
      ends = λ short. absurd (omega (arith, short, ltb-true longest (length run) l));
      few = omega (arith, t.few, length_push text b);
    }
    by false w false l = record {
      dark = dark_push run b t.dark w;
      ends = λ short.
          let e = t.ends (ltb-false longest (length run) l) in
          (e.0, ap (λ x. x ++ b ∷ []) e.1 ∙ append_assoc e.0 run (b ∷ []));
      few = omega (arith, t.few, length_push text b, length_push run b);
    }

tail-all : (text run bytes : List ℕ) → Tail text run → Tail (text ++ bytes) (open_run_from run bytes)
tail-all text run [] t = subst (λ x. Tail x run) (sym (append-nil text)) t
tail-all text run (b ∷ bytes) t =
    subst (λ x. Tail x (open_run_from (run_behind run b) bytes)) (append_assoc text (b ∷ []) bytes)
    (tail-all (text ++ b ∷ []) (run_behind run b) bytes (tail-next text run b t))

tail_of : (fed : List ℕ) → Tail fed (open_run fed)
tail_of fed = tail-all [] [] fed (record { dark = refl; ends = λ short. ([], refl); few = omega arith })

-- ---- what a cutter stands for

pub sound_stands : (k : Cutter) (fed : List ℕ) → Stands k fed → Sound (cutting k)
sound_stands k fed s = record {
  run = omega (arith, s.at, ap length s.run, (tail_of fed).few);
  breaks = omega (arith, s.at, s.breaks, count_by-le-length is_break fed);
}

pub cut_stands : (k l : Cutter) (fed bs : List ℕ) → Stands k fed → cutting l ≡ after_cut (cutting k) bs
    → Stands l (fed ++ bs)
cut_stands k l fed bs s e = record {
  at = ap (λ (c : Cutting). c.at) e ∙ omega (arith, s.at, length-append fed bs);
  breaks = ap (λ (c : Cutting). c.breaks) e ∙ omega (arith, s.breaks, breaks-append fed bs);
  run = ap (λ (c : Cutting). c.run) e ∙ ap (λ r. open_run_from r bs) s.run ∙ sym (open-append [] fed bs);
}

pub tokens_stand : (k : Cutter) (fed bs : List ℕ) (ts : List Token) → Stands k fed → tokens_cut (cutting k) bs ≡ ts
    → tokens_so_far (fed ++ bs) ≡ tokens_so_far fed ++ ts
tokens_stand k fed bs ts s e =
    let at : 0 + length fed ≡ k.at = omega (arith, s.at) in
    tokens-append 0 [] fed bs
    ∙ (λ i. tokens_so_far fed ++ tokens_from (at i) (sym s.run i) bs)
    ∙ ap (λ us. tokens_so_far fed ++ us) e

pub end_stands : (k : Cutter) (fed : List ℕ) (ts : List Token) → Stands k fed → counted_cut (cutting k) [] ≡ ts
    → tokens_of fed ≡ tokens_so_far fed ++ ts
end_stands k fed ts s e =
    let at : length fed ≡ k.at + 0 = omega (arith, s.at) in
    (λ i. tokens_so_far fed ++ ended_at (at i) (sym s.run i))
    ∙ ap (λ us. tokens_so_far fed ++ us) e

-- ---- the text line of a token

count_before : (fed before run : List ℕ) → fed ≡ before ++ run → list_all is_dark run ≡ true
    → count_by is_break (take (length fed - length run) fed) ≡ count_by is_break fed
count_before fed before run e dark =
    let n : length before ≡ length fed - length run = omega (arith, ap length e, length-append before run) in
    let first : take (length fed - length run) fed ≡ before =
    ap (take (length fed - length run)) e ∙ take_at before run (length fed - length run) n in
    let all : count_by is_break fed ≡ count_by is_break before + count_by is_break run =
    ap (count_by is_break) e ∙ breaks-append before run in
    ap (count_by is_break) first ∙ omega (arith, all, dark_breaks run dark)

pub line_stands : (k : Cutter) (fed xs : List ℕ) (t : CutToken) → Stands k fed → Begins (cutting k) t
    → t.line ≡ line_number (fed ++ xs) t.place
line_stands k fed xs t s b =
    let tail = tail_of fed in
    let short : length (open_run fed) ≤ longest = omega (arith, b.short, ap length s.run) in
    let e = tail.ends short in
    let place : t.place ≡ length fed - length (open_run fed) = omega (arith, b.place, s.at, ap length s.run) in
    let same : count_by is_break (take t.place (fed ++ xs)) ≡ count_by is_break fed =
    ap (count_by is_break) (take-append-le t.place fed xs (omega (arith, place))
    ∙ ap (λ n. take n fed) place)
    ∙ count_before fed e.0 (open_run fed) e.1 tail.dark in
    b.line ∙ omega (arith, same, s.breaks)

pub line_stands_if : (k : Cutter) (fed : List ℕ) (token : Option CutToken) → Stands k fed
    → IfSome token (λ t. Begins (cutting k) t)
    → IfSome token (λ t. IsOnLine fed t.place t.line)
line_stands_if k fed None s h = tt
line_stands_if k fed (Some t) s h = λ more. line_stands k fed more t s h
