-- Lists of fills of which no line has two.
use Rattle.std.proofs.Common.{ℕ, ◌<◌, ◌≤◌, ◌≡◌, ◌≢◌, None, List, [], ◌∷◌, ◌++◌, length, take, drop, get_or, refl, sym}
use Rattle.std.proofs.Common.{ap, ◌∙◌, inl, inr, arith}
use Rattle.std.specs.List.{refill}
use Rattle.std.proofs.lemmas.Bool.{cases_Bool}
use Rattle.std.proofs.lemmas.Grind.{common_steps}
use Rattle.std.proofs.lemmas.List.{append-nil, drop_all, get_or-map, length-map, take_all}
use Rattle.std.proofs.lemmas.List.Quantifiers.{all_pairs_push}
use Rattle.fsb_linebuf.specs.declared.entry.Fill.{Fill}
use Rattle.fsb_linebuf.specs.Buffers.{OneALine, fill_on, is_fill_on, promised_to, with_promise}

-- a line that has no fill is no fill's line
not_on : (line : ℕ) (fills : List Fill) → fill_on line fills ≡ None → (k : ℕ) (d : Fill) → k < length fills
    → (get_or fills k d).line ≢ line
not_on line [] e k d l = absurd (omega arith)
not_on line (f ∷ fs) e k d l = grind (arith, common_steps, not_on line fs)

-- a fill of such a line behind the others
pub one_a_line-push : (fills : List Fill) (fill : Fill) → OneALine fills → fill_on fill.line fills ≡ None
    → OneALine (fills ++ fill ∷ [])
one_a_line-push fills fill one e = all_pairs_push (λ x y. x.line ≢ y.line) fills fill one (not_on fill.line fills e)

-- a promise leaves the line of a fill
line_of-with_promise : (line to : ℕ) (fill : Fill) → (with_promise line to fill).line ≡ fill.line
line_of-with_promise line to fill =
    elim (cases_Bool (is_fill_on line fill)) [ inl on ↦ rw on refl | inr off ↦ rw off refl ]

-- and moves no fill to another line
pub one_a_line-promised : (line to : ℕ) (fills : List Fill) → OneALine fills → OneALine (promised_to line to fills)
one_a_line-promised line to fills one i j d l m same =
    let within : j < length fills = omega (arith, length-map {A = Fill} {B = Fill}) in
    let at_i : get_or (promised_to line to fills) i d ≡ with_promise line to (get_or fills i d) =
    get_or-map (with_promise line to) fills i d d (omega arith) in
    let at_j : get_or (promised_to line to fills) j d ≡ with_promise line to (get_or fills j d) =
    get_or-map (with_promise line to) fills j d d within in
    one i j d l within
    (sym (line_of-with_promise line to (get_or fills i d)) ∙ sym (ap (λ f. f.line) at_i) ∙ same
    ∙ ap (λ f. f.line) at_j ∙ line_of-with_promise line to (get_or fills j d))

-- a promise written to one fill after the other, to the end
pub promised-all : (line to n : ℕ) (fills items : List Fill)
    → items ≡ promised_to line to (take n fills) ++ drop n fills → length fills ≤ n
    → refill (length fills) fills items ≡ promised_to line to fills
promised-all line to n fills items e l =
    let all : items ≡ promised_to line to fills =
    e ∙ ap (λ r. promised_to line to (take n fills) ++ r) (drop_all n fills l)
    ∙ append-nil (promised_to line to (take n fills))
    ∙ ap (promised_to line to) (take_all n fills l) in
    let same : length items ≡ length fills = ap length all ∙ length-map fills (with_promise line to) in
    ap (λ r. take (length fills) (items ++ r)) (drop_all (length items) fills (omega arith))
    ∙ ap (take (length fills)) (append-nil items) ∙ take_all (length fills) items (omega arith) ∙ all
