-- One more word stands right behind the text so far.
use Rattle.std.proofs.Common.{◌≡◌, ◌∙◌, ◌<◌, ◌+◌, ◌++◌, ◌∷◌, [], ℕ, List, Vec, length, map, take, get_or, sym, ap, ap₂}
use Rattle.std.specs.List.{concat}
use Rattle.std.proofs.lemmas.List.{append-nil, map-append, take_more}
use Rattle.std.proofs.lemmas.List.Folds.{concat-append}
use Rattle.scope_time.specs.Scales.{text_of}
use Rattle.scope_time.proofs.scale.text_of.Goals as goal

text_more : {A : Type 0} (words : List (Vec ℕ A)) (i : ℕ) (w : Vec ℕ A) → i < length words → w ≡ get_or words i w
    → text_of (take (i + 1) words) ≡ text_of (take i words) ++ w.items
text_more words i w within is =
    ap (λ ws. text_of ws) (take_more words i w within)
    ∙ ap concat (map-append (λ v. v.items) (take i words) (get_or words i w ∷ []))
    ∙ concat-append (map (λ v. v.items) (take i words)) ((get_or words i w).items ∷ [])
    ∙ ap (λ xs. text_of (take i words) ++ xs) (append-nil (get_or words i w).items)
    ∙ ap (λ v. text_of (take i words) ++ v.items) (sym is)

pub loop-word-preserved : goal.loop-word-preserved
loop-word-preserved c =
    c.in_ok-extend_from_slice.ensures.items
    ∙ ap₂ (λ a b. a ++ b) c.loop-word.invariant c.deref.ensures.value
    ∙ sym (text_more c.args.words.now c.loop-word.word-index c.word-item.result c.loop-word-test.true c.word-item.is)
