-- What happens to the lines in two ways, and the events that are told of it.
use Rattle.std.proofs.Common.{◌≡◌, Bool, List, [], ◌∷◌, ◌++◌, Option, Some, refl, sym, ap, ◌∙◌}
use Rattle.vcd_grammar.specs.Values.{Values}
use Rattle.vcd_way.specs.Pieces.{Stamp, TapChange, Happening, Comes, Gets, Switches, pieces_from}
use Rattle.vcd_way.specs.Events.{Course, course_after, set_taps, values_after, sample_in_block, events_from}
use Rattle.vcd_way.specs.Strict.{strict_rules}
use Rattle.scope_both.specs.Usual.{usual_rules}

-- two changes do the same
abbrev pub SameChange : TapChange → TapChange → Type 0
SameChange c g = (v : Values) → set_taps v g.taps g.digits ≡ set_taps v c.taps c.digits

-- the same happens to the lines
abbrev pub Alike : List Happening → List Happening → Type 0
Alike [] [] = Unit {0}
Alike (Comes a ∷ es) (Comes b ∷ hs) = (b ≡ a) × Alike es hs
Alike (Gets c ∷ es) (Gets g ∷ hs) = SameChange c g × Alike es hs
Alike _ _ = ⊥

-- what happens, without what is told of holes
abbrev pub plain : List Happening → List Happening
plain [] = []
plain (Comes stamp ∷ hs) = Comes stamp ∷ plain hs
plain (Gets change ∷ hs) = Gets change ∷ plain hs
plain (Switches switch lines ∷ hs) = plain hs

pub plain-append : (hs js : List Happening) → plain (hs ++ js) ≡ plain hs ++ plain js
plain-append [] js = refl
plain-append (Comes stamp ∷ hs) js = ap (λ xs. Comes stamp ∷ xs) (plain-append hs js)
plain-append (Gets change ∷ hs) js = ap (λ xs. Gets change ∷ xs) (plain-append hs js)
plain-append (Switches switch lines ∷ hs) js = plain-append hs js

pub alike-append : (es fs hs js : List Happening) → Alike es hs → Alike fs js → Alike (es ++ fs) (hs ++ js)
alike-append [] fs [] js p q = q
alike-append [] fs (h ∷ hs) js p q = absurd p
alike-append (Comes a ∷ es) fs [] js p q = absurd p
alike-append (Comes a ∷ es) fs (Comes b ∷ hs) js p q = (p.0, alike-append es fs hs js p.1 q)
alike-append (Comes a ∷ es) fs (Gets g ∷ hs) js p q = absurd p
alike-append (Comes a ∷ es) fs (Switches switch lines ∷ hs) js p q = absurd p
alike-append (Gets c ∷ es) fs [] js p q = absurd p
alike-append (Gets c ∷ es) fs (Comes b ∷ hs) js p q = absurd p
alike-append (Gets c ∷ es) fs (Gets g ∷ hs) js p q = (p.0, alike-append es fs hs js p.1 q)
alike-append (Gets c ∷ es) fs (Switches switch lines ∷ hs) js p q = absurd p
alike-append (Switches switch lines ∷ es) fs hs js p q = absurd p

pub after-snoc : (v : Values) (b : List TapChange) (c : TapChange)
    → values_after v (b ++ c ∷ []) ≡ set_taps (values_after v b) c.taps c.digits
after-snoc v [] c = refl
after-snoc v (x ∷ b) c = after-snoc (set_taps v x.taps x.digits) b c

-- what is told of two open blocks that leave the same values, behind which the same happens
pub same-events : (early : Bool) (c : Course) (stamp : Option Stamp) (b d : List TapChange) (es hs : List Happening)
    → values_after c.values d ≡ values_after c.values b → Alike es hs
    → events_from (usual_rules early) c (pieces_from stamp d hs) ≡ events_from strict_rules c (pieces_from stamp b es)
same-events early c stamp b d [] [] o a = ap (λ v. sample_in_block strict_rules c stamp v ++ []) o
same-events early c stamp b d [] (h ∷ hs) o a = absurd a
same-events early c stamp b d (Comes x ∷ es) [] o a = absurd a
same-events early c stamp b d (Comes x ∷ es) (Comes y ∷ hs) o a =
    let after = values_after c.values b in
    let next = course_after c after in
    (λ i. sample_in_block strict_rules c stamp (o i)
    ++ events_from (usual_rules early) (course_after c (o i)) (pieces_from (Some (a.0 i)) [] hs))
    ∙ ap (λ us. sample_in_block strict_rules c stamp after ++ us)
    (same-events early next (Some x) [] [] es hs refl a.1)
same-events early c stamp b d (Comes x ∷ es) (Gets g ∷ hs) o a = absurd a
same-events early c stamp b d (Comes x ∷ es) (Switches switch lines ∷ hs) o a = absurd a
same-events early c stamp b d (Gets x ∷ es) [] o a = absurd a
same-events early c stamp b d (Gets x ∷ es) (Comes y ∷ hs) o a = absurd a
same-events early c stamp b d (Gets x ∷ es) (Gets y ∷ hs) o a =
    let standing = after-snoc c.values d y
    ∙ ap (λ v. set_taps v y.taps y.digits) o
    ∙ a.0 (values_after c.values b)
    ∙ sym (after-snoc c.values b x) in
    same-events early c stamp (b ++ x ∷ []) (d ++ y ∷ []) es hs standing a.1
same-events early c stamp b d (Gets x ∷ es) (Switches switch lines ∷ hs) o a = absurd a
same-events early c stamp b d (Switches switch lines ∷ es) hs o a = absurd a
