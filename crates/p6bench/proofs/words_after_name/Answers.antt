use Rattle.std.proofs.Common.{◌≡◌, Option, Some, None, List, [], ◌∷◌, ◌++◌, map, drop, true, not, append-nil}
use Rattle.std.proofs.Common.{sym, ap, ◌∙◌}
use Rattle.std.proofs.lemmas.List.{nil_from_length}
use Rattle.std.specs.Iterator.{Yields}
use Rattle.std.specs.Option.{option_to_list, is_some}
use Rattle.std.specs.String.{string_bytes}
use Rattle.std.specs.Vec.Iter.{into_iter_items, into_iter_steps}
use Rattle.std.specs.declared.vec.IntoIter.{IntoIter}
use Rattle.p6bench.proofs.words_after_name.Goals as goal

-- what the iterator of a vector has given is a front of its items
taken_front : {X Z : Type 0} (s : IntoIter X Z) (xs : List X) (t : IntoIter X Z) → Yields into_iter_steps s xs t
    → into_iter_items s ≡ xs ++ into_iter_items t
taken_front s [] t y = ap into_iter_items y
taken_front s (x ∷ xs) t y = y.1.0 ∙ ap (λ ys. x ∷ ys) (taken_front y.0 xs t y.2)

-- past the first of the items
past_first : {X Y : Type 0} (f : X → Y) (all rest : List X) (first : Option X)
    → all ≡ option_to_list first ++ rest → is_some first ≡ true → drop 1 (map f all) ≡ map f rest
past_first f all rest None h some = absurd (cc)
past_first f all rest (Some x) h some = ap (λ xs. drop 1 (map f xs)) h

pub returns-clause-words : goal.returns-clause-words
returns-clause-words c =
    let it = c.into_iter-word-iterator.result in
    let left = c.loop-word.word-iterator in
    let front : it.rest.items ≡ c.loop-word.yielded ++ left.rest.items =
    taken_front it c.loop-word.yielded left c.loop-word.yielded_by in
    let none : left.rest.items ≡ [] = nil_from_length left.rest.items (sym left.rest.ok.0
    ∙ c.in-None.ensures.steps.0) in
    let came : it.rest.items ≡ c.loop-word.yielded = front ∙ ap (λ xs. c.loop-word.yielded ++ xs) none ∙ append-nil _ in
    let same : it.rest.items ≡ c.next.new.self.rest.items =
    ap into_iter_items c.into_iter-word-iterator.ensures.into_iter_gives in
    c.loop-word.invariant ∙ ap (map (λ word. string_bytes word)) (sym came ∙ same)
    ∙ sym (past_first (λ word. string_bytes word) c.args.args.rest.items c.next.new.self.rest.items
    c.next.result c.next.ensures.items (c.is_none.ensures ∙ ap not c.if-is_none.false))
