-- The hints of one try more.
use Rattle.std.proofs.Common.{◌≡◌, ◌∙◌, ◌<◌, ◌+◌, ℕ, refl, Option, List, [], ◌∷◌, ◌++◌, length, take, get_or, sym, ap, append_assoc, append-nil}
use Rattle.std.proofs.lemmas.List.{take_more}
use Rattle.scope_tries.specs.declared.hint.Further.{Further}
use Rattle.scope_tries.specs.declared.hint.Hint.{Hint}
use Rattle.scope_tries.specs.declared.hint.Try.{Try}
use Rattle.scope_tries.specs.Tries.{AreHints, hint_of}

module _ (Comes : Try → Option Further → Type 0) (by : Try) (further : Option Further) (comes : Comes by further) where
  hints_more : (tries : List Try) (hints : List Hint) → AreHints Comes tries hints
      → AreHints Comes (tries ++ by ∷ []) (hints ++ hint_of by further)
  hints_more [] hints are =
      (further, [], comes, refl, ap (λ l. l ++ hint_of by further) are ∙ sym (append-nil _))
  hints_more (other ∷ tries) hints are = (
    are.0,
    are.1 ++ hint_of by further,
    are.2,
    hints_more tries are.1 are.3,
    ap (λ l. l ++ hint_of by further) are.4 ∙ append_assoc (hint_of other are.0) are.1 (hint_of by further),
  )

-- the hints of the first tries, and what comes of the next one
pub hints_next : (Comes : Try → Option Further → Type 0) (tries : List Try) (i : ℕ) (d : Try) (further : Option Further)
    (old new : List Hint)
    → i < length tries → AreHints Comes (take i tries) old → Comes (get_or tries i d) further
    → new ≡ old ++ hint_of (get_or tries i d) further
    → AreHints Comes (take (i + 1) tries) new
hints_next Comes tries i d further old new within are comes is =
    rw (take_more tries i d within, is) (hints_more Comes (get_or tries i d) further comes (take i tries) old are)
