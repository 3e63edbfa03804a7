-- What an agent wants for the plain items in front.
use Rattle.std.proofs.Common.{ℕ, zero, suc, ◌-◌, ◌<◌, ◌≡◌, true, false, Option, Some, None, List, [], ◌∷◌, ◌++◌, length}
use Rattle.std.proofs.Common.{take, drop, get_or, refl, sym, ap, ◌∙◌, arith}
use Rattle.std.specs.List.{find}
use Rattle.std.specs.Option.{option_map}
use Rattle.fsb_access.specs.declared.access.Access.{Access}
use Rattle.fsb_access.specs.declared.item.Item.{Item}
use Rattle.fsb_access.specs.declared.item.Item.TheVariants.{One, Locked, Idle}
use Rattle.fsb_access.specs.Access.{accessed_line}
use Rattle.fsb_timely.specs.Scripts.{Need, needs_after, needs_from, needs_of, plain_items, plain_need}
use Rattle.fsb_agent_view.specs.declared.want.Want.{Want}
use Rattle.fsb_agent_view.specs.AgentViews.{AgentView}
use Rattle.fsb_agent_view.specs.Wanting.{is_missing_by, want_for_by}
use Rattle.fsb_agent.proofs.Rests.{rest-is}

-- what it wants for the needs of these items, after items with these lines
abbrev pub want_after : AgentView → List ℕ → List Item → Option Want
want_after v earlier items = option_map (want_for_by v) (find (is_missing_by v) (needs_from earlier items))

-- the first of some items
abbrev pub IsFront : List Item → Item → Type 0
IsFront items item = (0 < length items) × (item ≡ get_or items 0 item)

front-cons : (x : Item) (xs : List Item) (item : Item) → item ≡ get_or (x ∷ xs) 0 item → x ≡ item
front-cons x xs item is = sym is

pub after-zero : (v : AgentView) (earlier : List ℕ) (n : ℕ) (items : List Item) → n ≡ 0
    → None ≡ want_after v earlier (plain_items n items)
unfolding plain_items needs_from
after-zero v earlier n items is = rw is refl

pub after-none : (v : AgentView) (earlier : List ℕ) (n : ℕ) (items : List Item) → length items ≡ 0
    → None ≡ want_after v earlier (plain_items n items)
unfolding plain_items needs_from
after-none v earlier zero items empty = refl
after-none v earlier (suc n) [] empty = refl
after-none v earlier (suc n) (item ∷ items) empty = absurd (omega arith)

pub after-locked : (v : AgentView) (earlier : List ℕ) (n : ℕ) (items : List Item) (item : Item)
    (group : List Access) → IsFront items item → item ≡ Locked group → None ≡ want_after v earlier (plain_items n items)
unfolding plain_items needs_from
after-locked v earlier zero items item group front is = refl
after-locked v earlier (suc n) [] item group front is = refl
after-locked v earlier (suc n) (x ∷ xs) item group front is = let at : x ≡ Locked group =
    front-cons x xs item front.1 ∙ is in rw at refl

pub after-idle : (v : AgentView) (earlier : List ℕ) (n : ℕ) (items : List Item) (item : Item) (clocks : ℕ)
    → IsFront items item → item ≡ Idle clocks → None ≡ want_after v earlier (plain_items n items)
unfolding plain_items needs_from
after-idle v earlier zero items item clocks front is = refl
after-idle v earlier (suc n) [] item clocks front is = refl
after-idle v earlier (suc n) (x ∷ xs) item clocks front is = let at : x ≡ Idle clocks =
    front-cons x xs item front.1 ∙ is in rw at refl

-- an access by itself in front
plain-front : (n : ℕ) (items : List Item) (item : Item) (access : Access) → 0 < n → IsFront items item
    → item ≡ One access → plain_items n items ≡ One access ∷ plain_items (n - 1)
    (take (length items - 1) (drop 1 items))
unfolding plain_items
plain-front zero items item access more front is = absurd (omega arith)
plain-front (suc n) [] item access more front is = absurd (let none = front.0 in omega arith)
plain-front (suc n) (x ∷ xs) item access more front is =
    let at : x ≡ One access = front-cons x xs item front.1 ∙ is in
    let less : suc n - 1 ≡ n = omega arith in
    rw (at, less) (ap (λ rest. One access ∷ plain_items n rest) (sym (rest-is (One access) xs)))

needs-cons : (earlier : List ℕ) (access : Access) (items : List Item)
    → needs_from earlier (One access ∷ items) ≡ plain_need earlier access ∷ needs_from
    (earlier ++ accessed_line access ∷ []) items
unfolding needs_from needs_after needs_of plain_need
needs-cons earlier access items = refl

pub after-missing : (v : AgentView) (earlier : List ℕ) (n : ℕ) (items : List Item) (item : Item)
    (access : Access) (need : Need) (want : Want) → 0 < n → IsFront items item → item ≡ One access
    → need ≡ plain_need earlier access → is_missing_by v need ≡ true → want ≡ want_for_by v need
    → Some want ≡ want_after v earlier (plain_items n items)
after-missing v earlier n items item access need want more front is needs missing wants =
    let at : is_missing_by v (plain_need earlier access) ≡ true = ap (is_missing_by v) (sym needs) ∙ missing in
    rw (
      plain-front n items item access more front is,
      needs-cons earlier access (plain_items (n - 1) (take (length items - 1) (drop 1 items))),
      at,
      wants,
      needs,
    ) refl

line_of : (earlier : List ℕ) (access : Access) → (plain_need earlier access).line ≡ accessed_line access
unfolding plain_need
line_of earlier access = refl

pub after-next : (v : AgentView) (earlier : List ℕ) (n : ℕ) (items : List Item) (item : Item) (access : Access)
    (need : Need) → 0 < n → IsFront items item → item ≡ One access → need ≡ plain_need earlier access
    → is_missing_by v need ≡ false
    → want_after v (earlier ++ need.line ∷ []) (plain_items (n - 1) (take (length items - 1) (drop 1 items)))
    ≡ want_after v earlier (plain_items n items)
after-next v earlier n items item access need more front is needs missing =
    let at : is_missing_by v (plain_need earlier access) ≡ false = ap (is_missing_by v) (sym needs) ∙ missing in
    let line : need.line ≡ accessed_line access = ap (λ need. need.line) needs ∙ line_of earlier access in
    rw (
      plain-front n items item access more front is,
      needs-cons earlier access (plain_items (n - 1) (take (length items - 1) (drop 1 items))),
      at,
      line,
    ) refl
