-- Clocks of which none begins, or ends, later than one that stands behind it.
use Rattle.std.proofs.Common.{◌≡◌, ℕ, zero, suc, ◌+◌, ◌-◌, ◌<◌, ◌≤◌, max}
use Rattle.std.proofs.Common.{Bool, true, false, ◌&&◌, ◌||◌, List, [], ◌∷◌, ◌++◌, length}
use Rattle.std.proofs.Common.{take, drop, get_or, set, refl, sym, ap, ◌∙◌, arith, add-one, append-nil}
use Rattle.std.proofs.lemmas.Bool.Decides.{nat_tests}
use Rattle.std.proofs.lemmas.List.{take_more, take_all, drop_more, drop_all, length-take-le, get_or_default}
use Rattle.std.proofs.lemmas.List.Folds.{list_any_none, list_any_at}
use Rattle.std.proofs.lemmas.List.Sorted.{IsNonDecreasingBy-from_all_adjacent}
use Rattle.std.specs.Prelude.{nat_le}
use Rattle.std.specs.List.{list_any, AllAdjacentBelow}
use Rattle.std.specs.List.Sorted.{IsNonDecreasingBy, IsPartitionPoint}
use Rattle.fsb_hazard.specs.declared.found.Held.{Held}
use Rattle.fsb_hazard.specs.Found.{is_within, InOrder}
use Rattle.fsb_hazard.proofs.LoadedObjects.{set-middle, get_or-middle}

-- the latest end, of a number and of some clocks
abbrev pub latest : ℕ → List Held → ℕ
latest last [] = last
latest last (h ∷ hs) = latest (max last h.last) hs

-- each with the latest end so far, of a number and of those up to it
abbrev pub reached : ℕ → List Held → List Held
reached last [] = []
reached last (h ∷ hs) = record h { last = max last h.last } ∷ reached (max last h.last) hs

reached-append : (last : ℕ) (hs : List Held) (h : Held)
    → reached last (hs ++ h ∷ []) ≡ reached last hs ++ record h { last = max (latest last hs) h.last } ∷ []
reached-append last [] h = refl
reached-append last (x ∷ hs) h =
    ap (λ l. record x { last = max last x.last } ∷ l) (reached-append (max last x.last) hs h)

latest-append : (last : ℕ) (hs : List Held) (h : Held) → latest last (hs ++ h ∷ []) ≡ max (latest last hs) h.last
latest-append last [] h = refl
latest-append last (x ∷ hs) h = latest-append (max last x.last) hs h

length-reached : (last : ℕ) (hs : List Held) → length (reached last hs) ≡ length hs
length-reached last [] = refl
length-reached last (h ∷ hs) = ap suc (length-reached (max last h.last) hs)

-- how far the clocks were changed
pub record Reached (now old : List Held) (i last : ℕ) : Type 0 where
  pub changed : now ≡ reached 0 (take i old) ++ drop i old
  pub so_far : last ≡ latest 0 (take i old)

-- the clocks at a place get the latest end so far
pub reached-more : (now old : List Held) (i last value : ℕ) (d : Held) → i < length old → Reached now old i last
    → value ≡ max last (get_or now i d).last
    → Reached (set now i (record (get_or now i d) { last = value })) old (i + 1) value
reached-more now old i last value d within stands is =
    let here : Held = get_or old i d in
    let front : List Held = reached 0 (take i old) in
    let all : now ≡ front ++ here ∷ drop (i + 1) old =
    stands.changed ∙ ap (λ l. front ++ l) (drop_more old i d within) in
    let long : length front ≡ i =
    length-reached 0 (take i old) ∙ length-take-le i old (omega (arith, within)) in
    let same : get_or now i d ≡ here = get_or-middle now front (drop (i + 1) old) here d i all long in
    let value_is : value ≡ max (latest 0 (take i old)) here.last =
    is ∙ ap (λ h. max last h.last) same ∙ ap (λ n. max n here.last) stands.so_far in
    record {
      changed = ap (λ h. set now i (record h { last = value })) same
          ∙ set-middle now front (drop (i + 1) old) here (record here { last = value }) i all long
          ∙ ap (λ l. l ++ drop (i + 1) old)
          (ap (λ n. front ++ record here { last = n } ∷ []) value_is
          ∙ sym (reached-append 0 (take i old) here) ∙ ap (reached 0) (sym (take_more old i d within)));
      so_far = value_is ∙ sym (ap (latest 0) (take_more old i d within) ∙ latest-append 0 (take i old) here);
    }

-- all were changed
pub reached-all : (now old : List Held) (i last : ℕ) → length old ≤ i → Reached now old i last → now ≡ reached 0 old
reached-all now old i last past stands =
    stands.changed ∙ ap (λ l. reached 0 (take i old) ++ l) (drop_all i old past) ∙ append-nil (reached 0 (take i old))
    ∙ ap (reached 0) (take_all i old past)

first-reached : (last : ℕ) (hs : List Held) (k : ℕ) (d : Held)
    → (get_or (reached last hs) k d).first ≡ (get_or hs k d).first
first-reached last [] k d = refl
first-reached last (h ∷ hs) zero d = refl
first-reached last (h ∷ hs) (suc k) d = first-reached (max last h.last) hs k d

adjacent-reached : (last : ℕ) (hs : List Held) (k : ℕ) (d : Held) → suc k < length hs
    → (get_or (reached last hs) k d).last ≤ (get_or (reached last hs) (suc k) d).last
adjacent-reached last [] k d below = absurd (omega arith)
adjacent-reached last (h ∷ []) k d below = absurd (omega arith)
adjacent-reached last (h ∷ h' ∷ hs) zero d below = omega arith
adjacent-reached last (h ∷ h' ∷ hs) (suc k) d below =
    adjacent-reached (max last h.last) (h' ∷ hs) k d (omega (arith, below))

all_adjacent-reached : (hs : List Held)
    → AllAdjacentBelow (λ x y. x.last ≤ y.last) (reached 0 hs) (length (reached 0 hs))
all_adjacent-reached hs k d below =
    rw (add-one k) (adjacent-reached 0 hs k d (omega (arith, below, length-reached 0 hs)))

pub in_order-reached : (hs : List Held) → IsNonDecreasingBy (λ h. h.first) hs → InOrder (reached 0 hs)
in_order-reached hs rise = record {
  firsts = λ i j d before within. rw (first-reached 0 hs i d, first-reached 0 hs j d)
      (rise i j d before (rw (← length-reached 0 hs) within));
  lasts = IsNonDecreasingBy-from_all_adjacent (λ h. h.last) (reached 0 hs) (all_adjacent-reached hs);
}

-- the clock is from the first to the last
abbrev lies : ℕ → ℕ → ℕ → Bool
lies clock first last = nat_le first clock && nat_le clock last

lies_on : (clock first last first' last' : ℕ) → first ≤ first'
    → (lies clock first last || lies clock first' (max last last')) ≡ (lies clock first last || lies clock first' last')
lies_on clock first last first' last' before = grind (arith, nat_tests)

or_regroup : (a b b' c c' : Bool) → (a || b) ≡ (a || b') → (b || c) ≡ (b || c')
    → (a || (b || c)) ≡ (a || (b' || c'))
or_regroup true b b' c c' first rest = refl
or_regroup false b b' c c' first rest = rest ∙ ap (λ t. t || c') first

later : (h : Held) (hs : List Held) → IsNonDecreasingBy (λ x. x.first) (h ∷ hs)
    → (k : ℕ) (d : Held) → k < length hs → h.first ≤ (get_or hs k d).first
later h hs rise k d within = rise 0 (suc k) d (omega arith) (omega (arith, within))

rest : (h : Held) (hs : List Held) → IsNonDecreasingBy (λ x. x.first) (h ∷ hs)
    → IsNonDecreasingBy (λ x. x.first) hs
rest h hs rise i j d before within = rise (suc i) (suc j) d (omega (arith, before)) (omega (arith, within))

same_from : (clock first last : ℕ) (hs : List Held)
    → ((k : ℕ) (d : Held) → k < length hs → first ≤ (get_or hs k d).first)
    → IsNonDecreasingBy (λ h. h.first) hs
    → (lies clock first last || list_any (is_within clock) (reached last hs))
    ≡ (lies clock first last || list_any (is_within clock) hs)
same_from clock first last [] after rise = refl
same_from clock first last (h ∷ hs) after rise =
    let here : first ≤ h.first = after 0 h (omega arith) in
    or_regroup (lies clock first last) (lies clock h.first (max last h.last)) (lies clock h.first h.last)
    (list_any (is_within clock) (reached (max last h.last) hs)) (list_any (is_within clock) hs)
    (lies_on clock first last h.first h.last here)
    (same_from clock h.first (max last h.last) hs (later h hs rise) (rest h hs rise))

pub same-reached : (clock : ℕ) (hs : List Held) → IsNonDecreasingBy (λ h. h.first) hs
    → list_any (is_within clock) (reached 0 hs) ≡ list_any (is_within clock) hs
same-reached clock [] rise = refl
same-reached clock (h ∷ hs) rise =
    let alone : max 0 h.last ≡ h.last = omega arith in
    ap (λ n. lies clock h.first n || list_any (is_within clock) (reached n hs)) alone
    ∙ same_from clock h.first h.last hs (later h hs rise) (rest h hs rise)

-- the first have begun at the clock, and the others have not
abbrev pub HaveBegun : ℕ → List Held → ℕ → Type 0
HaveBegun clock held begun =
    IsPartitionPoint (λ h. nat_le h.first clock ≡ true) (λ h. nat_le h.first clock ≡ false) held begun

none_at : (first last top clock k begun : ℕ) → (k < begun → last ≤ top) → (k < begun → nat_le clock top ≡ false)
    → (begun ≤ k → nat_le first clock ≡ false) → (nat_le first clock && nat_le clock last) ≡ false
none_at first last top clock k begun below over not_yet = grind (arith, nat_tests)

pub none_held : (held : List Held) (clock begun : ℕ) → InOrder held → HaveBegun clock held begun
    → begun ≤ length held → ((d : Held) → 0 < begun → nat_le clock (get_or held (begun - 1) d).last ≡ false)
    → list_any (is_within clock) held ≡ false
none_held held clock begun order parted short over =
    list_any_none (is_within clock) held (λ k d within.
    none_at (get_or held k d).first (get_or held k d).last (get_or held (begun - 1) d).last clock k begun
    (λ early. order.lasts k (begun - 1) d (omega (arith, early)) (omega (arith, early, short)))
    (λ early. over d (omega (arith, early)))
    (λ late. parted.1 k d late within))

both : (a b : Bool) → a ≡ true → b ≡ true → (a && b) ≡ true
both true true first second = refl
both true false first second = absurd (cc)
both false b first second = absurd (cc)

pub some_held : (held : List Held) (clock begun : ℕ) (d : Held) → HaveBegun clock held begun
    → begun ≤ length held → 0 < begun → nat_le clock (get_or held (begun - 1) d).last ≡ true
    → list_any (is_within clock) held ≡ true
some_held held clock begun d parted short some under =
    list_any_at (is_within clock) held (begun - 1) d (omega (arith, short, some))
    (both _ _ (parted.0 (begun - 1) d (omega arith) (omega (arith, some))) under)

decided : (a b : Bool) → (a ≡ true → b ≡ true) → (a ≡ false → b ≡ false) → a ≡ b
decided true b under over = sym (under refl)
decided false b under over = sym (over refl)

-- the last of those that have begun decides
pub last_decides : (held : List Held) (clock begun : ℕ) (d : Held) → InOrder held → HaveBegun clock held begun
    → begun ≤ length held → 0 < begun
    → nat_le clock (get_or held (begun - 1) d).last ≡ list_any (is_within clock) held
last_decides held clock begun d order parted short some =
    decided (nat_le clock (get_or held (begun - 1) d).last) (list_any (is_within clock) held)
    (λ under. some_held held clock begun d parted short some under)
    (λ over. none_held held clock begun order parted short (λ other _.
    ap (λ h. nat_le clock h.last) (get_or_default held (begun - 1) other d (omega (arith, short, some))) ∙ over))
