-- Tokens without a fault in the strict way do the same in the way of wires.
use Rattle.std.proofs.Common.{◌≡◌, ℕ, Bool, true, List, [], ◌∷◌, ◌++◌, map, Option, None, refl, sym, ap, subst, ◌∙◌}
use Rattle.vcd_grammar.specs.Tokens.{Token}
use Rattle.vcd_grammar.specs.Values.{at_first}
use Rattle.vcd_way.specs.Pieces.{Stamp, TapChange, Happening, pieces_from}
use Rattle.vcd_way.specs.Events.{whole, set_taps, values_after, course_at_first, events_from}
use Rattle.vcd_way.specs.Steps.{Spot, AtValues, unknown_from_here}
use Rattle.vcd_way.specs.Steps.{step, state_after, happenings_in, is_past_header_at}
use Rattle.vcd_way.specs.Strict.{StrictHeader, strict_rules, strict}
use Rattle.scope_both.specs.Usual.{usual_rules}
use Rattle.scope_both.proofs.Staying.{header-stays, none-before}
use Rattle.scope_both.proofs.Lines.{same-set, set-more}
use Rattle.scope_both.proofs.Changes.{Alike, plain, plain-append, alike-append, after-snoc, same-events}
use Rattle.scope_both.proofs.Codes.{Knows}
use Rattle.scope_both.proofs.Steps.{Strictly, Gathered, Lines, Taps, taking, Takes, is_sound, Behind, same-step}
use Rattle.scope_both.proofs.Heads.{Heads, Place, Outside, Inside, GoesOn, IsOver, On, Over, same-head}

-- ---- behind the header

record All (l : Lines) (t : Taps) (early : Bool) (s : Strictly) (g : Gathered) (ts : List Token) : Type 0 where
  ends : Behind l t (state_after strict s ts) (state_after (taking l t early) g ts)
  alike : Alike (happenings_in strict s ts) (plain (happenings_in (taking l t early) g ts))

all-values : (l : Lines) (t : Taps) (early : Bool) (s : Strictly) (g : Gathered) (ts : List Token) → Behind l t s g
    → (state_after strict s ts).fault ≡ None → All l t early s g ts
all-values l t early s g [] k h = record { ends = k; alike = tt }
all-values l t early s g (u ∷ ts) k h =
    let way = taking l t early in
    let y = step strict s u in
    let z = step way g u in
    let one = same-step l t early s g u k (none-before strict y.state ts h) in
    let rest = all-values l t early y.state z.state ts
    (record { even = one.even; spot = one.spot; sound = one.sound }) h in
    record {
      ends = rest.ends;
      alike = subst (λ x. Alike (y.happenings ++ happenings_in strict y.state ts) x)
          (sym (plain-append z.happenings (happenings_in way z.state ts)))
          (alike-append y.happenings (happenings_in strict y.state ts) (plain z.happenings)
          (plain (happenings_in way z.state ts)) one.alike rest.alike);
    }

-- ---- in the header

-- these lines get x
abbrev unknown_change : List ℕ → TapChange
unknown_change lines = record { taps = map whole lines; digits = 120 ∷ [] }

-- a block with these lines
abbrev block_with : List TapChange → List ℕ → List TapChange
block_with b [] = b
block_with b (n ∷ lines) = b ++ unknown_change (n ∷ lines) ∷ []

pieces-with : (stamp : Option Stamp) (b : List TapChange) (added : List ℕ) (es : List Happening)
    → pieces_from stamp b (unknown_from_here added ++ es) ≡ pieces_from stamp (block_with b added) es
pieces-with stamp b [] es = refl
pieces-with stamp b (n ∷ added) es = refl

-- a block that leaves these lines unknown, and no other
abbrev pub Leaves : List TapChange → List ℕ → Type 0
Leaves b lines = values_after at_first b ≡ set_taps at_first (map whole lines) (120 ∷ [])

leaves-with : (b : List TapChange) (lines added : List ℕ) → Leaves b lines → Leaves (block_with b added) (lines ++ added)
leaves-with b lines [] h = h ∙ sym (set-more at_first lines [] (120 ∷ []))
leaves-with b lines (n ∷ added) h =
    after-snoc at_first b (unknown_change (n ∷ added))
    ∙ ap (λ v. set_taps v (map whole (n ∷ added)) (120 ∷ [])) h
    ∙ sym (set-more at_first lines (n ∷ added) (120 ∷ []))

-- where lines are unknown in a block that stands open, and become so in another one
begun : (early : Bool) (b : List TapChange) (lines : List ℕ) (es hs : List Happening) → Leaves b lines → Alike es hs
    → events_from (usual_rules early) course_at_first (pieces_from None [] (unknown_from_here lines ++ hs))
    ≡ events_from strict_rules course_at_first (pieces_from None b es)
begun early b [] es hs o a = same-events early course_at_first None b [] es hs (sym o) a
begun early b (n ∷ lines) es hs o a =
    same-events early course_at_first None b (unknown_change (n ∷ lines) ∷ []) es hs (sym o) a

plain-unknown : (lines : List ℕ) → plain (unknown_from_here lines) ≡ unknown_from_here lines
plain-unknown [] = refl
plain-unknown (n ∷ lines) = refl

-- what is taken of all that is declared is what the strict way takes, where it knows the codes that are declared
abbrev pub TakesAll : Lines → Taps → Bool → Strictly → Gathered → List Token → Type 0
TakesAll l t early s g ts =
    Knows (state_after (taking l t early) g ts).header (state_after strict s ts).header
    → Takes l t (state_after (taking l t early) g ts).header (state_after strict s ts).header

-- the text may end behind these tokens, and they tell the same behind these blocks
pub record Told (l : Lines) (t : Taps) (early : Bool) (s : Strictly) (g : Gathered) (b : List TapChange) (ts : List Token) : Type 0 where
  pub none : (state_after (taking l t early) g ts).fault ≡ None
  pub spot : (state_after (taking l t early) g ts).spot ≡ AtValues
  pub events : events_from (usual_rules early) course_at_first
      (pieces_from None [] (plain (happenings_in (taking l t early) g ts)))
      ≡ events_from strict_rules course_at_first (pieces_from None b (happenings_in strict s ts))

not-between : (a b : Spot) → Place a b → a ≡ AtValues → ⊥
not-between a b (Outside p e f) h = let wrong = sym e ∙ h in cc wrong
not-between a b (Inside section e f) h = let wrong = sym e ∙ h in cc wrong

past-at : (spot : Spot) → spot ≡ AtValues → is_past_header_at spot ≡ true
past-at spot h = ap is_past_header_at h

-- what is taken stays so back to the end of the header
taken-there : (l : Lines) (t : Taps) (early : Bool) (s : Strictly) (g : Gathered) (ts : List Token) → s.spot ≡ AtValues
    → g.spot ≡ AtValues → Knows g.header s.header → TakesAll l t early s g ts → Takes l t g.header s.header
taken-there l t early s g ts e f k h =
    let way = taking l t early in
    let here = header-stays strict s ts (past-at s.spot e) in
    let there = header-stays way g ts (past-at g.spot f) in
    let knows : Knows (state_after way g ts).header (state_after strict s ts).header =
    subst (λ x. Knows x (state_after strict s ts).header) (sym there)
    (subst (λ x. Knows g.header x) (sym here) k) in
    subst (λ x. Takes l t g.header x) here
    (subst (λ x. Takes l t x (state_after strict s ts).header) there (h knows))

-- the last token of the header, and all behind it
told-over : (l : Lines) (t : Taps) (early : Bool) (s : Strictly) (g : Gathered) (b : List TapChange) (u : Token)
    (ts : List Token) → IsOver l s g (step strict s u) (step (taking l t early) g u)
    → (state_after strict s (u ∷ ts)).fault ≡ None → (state_after strict s (u ∷ ts)).spot ≡ AtValues
    → TakesAll l t early s g (u ∷ ts) → Leaves b s.header.lines → Told l t early s g b (u ∷ ts)
told-over l t early s g b u ts k h e takes o =
    let way = taking l t early in
    let y = step strict s u in
    let z = step way g u in
    let taken = taken-there l t early y.state z.state ts k.here k.there k.heads.knows takes in
    let rest = all-values l t early y.state z.state ts
    (record {
      even = record { fault = k.heads.fault; none = k.heads.none; time = k.heads.time; takes = taken };
      spot = k.there ∙ sym k.here;
      sound = ap is_sound k.here;
    }) h in
    let lines = l g.header in
    let same : set_taps at_first (map whole s.header.lines) (120 ∷ []) ≡ set_taps at_first (map whole lines) (120 ∷ []) =
    ap (λ (x : StrictHeader). set_taps at_first (map whole x.lines) (120 ∷ [])) (sym k.lines)
    ∙ sym (same-set (l z.state.header) y.state.header.lines (120 ∷ []) taken.lines at_first)
    ∙ ap (λ x. set_taps at_first (map whole (l x)) (120 ∷ [])) k.other in
    let happens : plain (happenings_in way g (u ∷ ts)) ≡ unknown_from_here lines ++ plain (happenings_in way z.state ts) =
    plain-append z.happenings (happenings_in way z.state ts)
    ∙ ap (λ x. plain x ++ plain (happenings_in way z.state ts)) k.happens
    ∙ ap (λ x. x ++ plain (happenings_in way z.state ts)) (plain-unknown lines) in
    record {
      none = rest.ends.even.none;
      spot = rest.ends.spot ∙ e;
      events = ap (λ x. events_from (usual_rules early) course_at_first (pieces_from None [] x)) happens
          ∙ begun early b lines (happenings_in strict y.state ts) (plain (happenings_in way z.state ts)) (o ∙ same)
          rest.alike
          ∙ sym (ap (λ x. events_from strict_rules course_at_first
          (pieces_from None b (x ++ happenings_in strict y.state ts))) k.quiet);
    }

-- a token behind which the header goes on
told-on : (l : Lines) (t : Taps) (early : Bool) (s : Strictly) (g : Gathered) (b : List TapChange) (u : Token)
    (ts : List Token) (k : GoesOn s (step strict s u) (step (taking l t early) g u))
    → Told l t early (step strict s u).state (step (taking l t early) g u).state (block_with b k.added) ts
    → Told l t early s g b (u ∷ ts)
told-on l t early s g b u ts k rest =
    let way = taking l t early in
    let y = step strict s u in
    let z = step way g u in
    record {
      none = rest.none;
      spot = rest.spot;
      events = ap (λ x. events_from (usual_rules early) course_at_first
          (pieces_from None [] (plain (x ++ happenings_in way z.state ts)))) k.quiet
          ∙ rest.events
          ∙ sym (ap (events_from strict_rules course_at_first)
          (ap (λ x. pieces_from None b (x ++ happenings_in strict y.state ts)) k.happens
          ∙ pieces-with None b k.added (happenings_in strict y.state ts)));
    }

pub all-told : (l : Lines) (t : Taps) (early : Bool) (s : Strictly) (g : Gathered) (b : List TapChange) (ts : List Token)
    → Heads s g → Place s.spot g.spot → (state_after strict s ts).fault ≡ None
    → (state_after strict s ts).spot ≡ AtValues → TakesAll l t early s g ts → Leaves b s.header.lines
    → Told l t early s g b ts
all-told l t early s g b [] k p h e takes o = absurd (not-between s.spot g.spot p e)
all-told l t early s g b (u ∷ ts) k p h e takes o =
    elim (same-head l t early s g u k p (none-before strict (step strict s u).state ts h)) [
      | On n ↦
          told-on l t early s g b u ts n
          (all-told l t early (step strict s u).state (step (taking l t early) g u).state (block_with b n.added) ts
          n.heads n.place h e takes
          (subst (λ x. Leaves (block_with b n.added) x) (sym n.lines) (leaves-with b s.header.lines n.added o)))
      | Over n ↦ told-over l t early s g b u ts n h e takes o
    ]
