-- Arguments that have to be there, and verbs, one after another.
use Rattle.std.proofs.Common.{◌≡◌, ◌∙◌, ◌<◌, ◌≤◌, ◌+◌, ◌∷◌, ◌++◌, ℕ, [], List, map, length, take, take_all}
use Rattle.std.proofs.Common.{slice_index_or, Bor, ap, refl, sym}
use Rattle.std.proofs.lemmas.List.{map-append, take_more}
use Rattle.std.specs.List.{fold}
use Rattle.clap.specs.Simple.{App, Shape, with_subcommand}
use Rattle.clap.specs.Walk.{Text}
use Rattle.fsb_command.specs.Usage.{needed, verb_told}
use Rattle.fsb_command.specs.declared.usage.LookVerb.{LookVerb}

-- one more
pub needed_more : (ids : List (Bor Text)) (i : ℕ) (d : Bor Text) → i < length ids
    → map needed (map (λ s. s.now) (take i ids)) ++ needed (slice_index_or ids i d).now ∷ [] ≡ map needed
    (map (λ s. s.now) (take (i + 1) ids))
needed_more ids i d lt =
    sym (map-append needed (map (λ s. s.now) (take i ids)) ((slice_index_or ids i d).now ∷ []))
    ∙ ap (map needed) (sym (map-append (λ s. s.now) (take i ids) (slice_index_or ids i d ∷ []))
    ∙ ap (map (λ s. s.now)) (sym (take_more ids i d lt)))

-- all of them
pub needed_all : (ids : List (Bor Text)) (i : ℕ) → length ids ≤ i → map (λ s. s.now) (take i ids) ≡ map (λ s. s.now) ids
needed_all ids i past = ap (map (λ s. s.now)) (take_all i ids past)

-- one verb more that looks at a dump
pub looks_more : (a b : App) (looks : List LookVerb) (i : ℕ) (d : LookVerb)
    → b ≡ fold with_subcommand a (map verb_told (take i looks)) → i < length looks
    → with_subcommand b (verb_told (slice_index_or looks i d))
    ≡ fold with_subcommand a (map verb_told (take (i + 1) looks))
looks_more a b looks i d stood lt =
    ap (λ (s : App). with_subcommand s (verb_told (slice_index_or looks i d))) stood
    ∙ sym (fold_more a (map verb_told (take i looks)) (verb_told (slice_index_or looks i d)))
    ∙ ap (fold with_subcommand a) (sym (map-append verb_told (take i looks) (slice_index_or looks i d ∷ []))
    ∙ ap (map verb_told) (sym (take_more looks i d lt)))
  where
    fold_more : (a : App) (xs : List Shape) (x : Shape)
        → fold with_subcommand a (xs ++ x ∷ []) ≡ with_subcommand (fold with_subcommand a xs) x
    fold_more a [] x = refl
    fold_more a (y ∷ xs) x = fold_more (with_subcommand a y) xs x

-- all of them
pub looks_all : (a : App) (looks : List LookVerb) (i : ℕ) → length looks ≤ i
    → fold with_subcommand a (map verb_told (take i looks)) ≡ fold with_subcommand a (map verb_told looks)
looks_all a looks i past = ap (λ ls. fold with_subcommand a (map verb_told ls)) (take_all i looks past)
