-- Outstanding requests: the one with a number, and the others.
use Rattle.std.proofs.Common.{ℕ, ◌+◌, ◌<◌, ◌≤◌, ◌≡◌, ◌≢◌, ◌%◌, Bool, true, false, cond, not, Option, Some, None, List}
use Rattle.std.proofs.Common.{[], ◌∷◌, ◌++◌, length, refl, sym, ap, ◌∙◌, inl, inr, arith}
use Rattle.std.specs.Prelude.{◌==◌, ◌&&◌, ◌||◌, if◌then◌else◌, is_some}
use Rattle.std.specs.Bool.{beq}
use Rattle.std.specs.List.{find, list_all}
use Rattle.std.proofs.lemmas.Bool.{cases_Bool, eq-eqb, ne_eqb, eqb-true}
use Rattle.std.proofs.lemmas.List.Folds.{list_all-append}
use Rattle.fsb_linebuf.specs.declared.entry.Fill.{Fill}
use Rattle.fsb_linebuf.specs.Buffers.{fill_on, fills_without, is_fill_on}
use Rattle.fsb_agent_view.specs.declared.want.OwnRequest.{OwnRequest}
use Rattle.fsb_agent_view.specs.OwnRequests.{is_numbered, request_numbered, requests_granted, requests_without}
use Rattle.fsb_agent_view.specs.OwnRequests.{with_grant}
use Rattle.fsb_agent_view.specs.Sound.{are_requests_apart, granted_count, is_apart_from}
use Rattle.fsb_agent_view.proofs.Interface.{both, both_left, both_right, length-without-found, list_all-found}
use Rattle.fsb_agent_view.proofs.Interface.{list_all-from, without_first-cons}
use Rattle.fsb_agent.proofs.Fills.{fill_on-without}

-- what is found passes
pub found-passes : {X : Type 0} (test : X → Bool) (xs : List X) (x : X) → find test xs ≡ Some x → test x ≡ true
found-passes test [] x found = absurd (let h : ⊥ = cc in h)
found-passes test (y ∷ ys) x found =
    elim (cases_Bool (test y)) [
      | inl on ↦ let same : Some y ≡ Some x = rw on at found in (let is : y ≡ x = cc in ap test (sym is) ∙ on)
      | inr off ↦ found-passes test ys x (rw off at found)
    ]

-- a request that is found has that number, and is found by it
pub found_number : (number : ℕ) (outs : List OwnRequest) (out : OwnRequest)
    → request_numbered number outs ≡ Some out → out.number ≡ number
found_number number outs out found = eqb-true out.number number (found-passes (is_numbered number) outs out found)

pub found_own : (number : ℕ) (outs : List OwnRequest) (out : OwnRequest)
    → request_numbered number outs ≡ Some out → request_numbered out.number outs ≡ Some out
found_own number outs out found = ap (λ n. request_numbered n outs) (found_number number outs out found) ∙ found

-- where none is found, none passes
pub none-passes : {X : Type 0} (test : X → Bool) (xs : List X) → find test xs ≡ None
    → list_all (λ x. not (test x)) xs ≡ true
none-passes test [] none = refl
none-passes test (x ∷ xs) none =
    elim (cases_Bool (test x)) [
      | inl on ↦ absurd (let never : Some x ≡ None = rw on at none in (let h : ⊥ = cc in h))
      | inr off ↦ rw off (none-passes test xs (rw off at none))
    ]

-- one of the requests is this one, and the others are apart from it
abbrev pub is_one_of : ℕ → OwnRequest → OwnRequest → Bool
is_one_of sets out other =
    if is_numbered out.number other then (other.request.line == out.request.line) && beq other.granted out.granted
    else not ((other.request.line % sets) == (out.request.line % sets))

apart_number : (sets : ℕ) (out other : OwnRequest) → is_apart_from sets out other ≡ true
    → is_numbered out.number other ≡ false
apart_number sets out other apart =
    ne_eqb other.number out.number
    (λ e. absurd (let never : false ≡ true = rw (eq-eqb out.number other.number (sym e))
    at (both_left (not (out.number == other.number)) _ apart) in (let h : ⊥ = cc in h)))

flipped : (a b : ℕ) → not (a == b) ≡ true → not (b == a) ≡ true
flipped a b h =
    rw (ne_eqb b a (λ e. absurd (let never : false ≡ true = rw (eq-eqb a b (sym e)) at h in
    (let x : ⊥ = cc in x)))) refl

same_bool : (b : Bool) → beq b b ≡ true
same_bool true = refl
same_bool false = refl

pub own_and_others : (sets : ℕ) (outs : List OwnRequest) (out : OwnRequest)
    → are_requests_apart sets outs ≡ true → request_numbered out.number outs ≡ Some out
    → list_all (is_one_of sets out) outs ≡ true
own_and_others sets [] out apart found = refl
own_and_others sets (o ∷ outs) out apart found =
    let o_apart = both_left (list_all (is_apart_from sets o) outs) (are_requests_apart sets outs) apart in
    let others = both_right (list_all (is_apart_from sets o) outs) (are_requests_apart sets outs) apart in
    elim (cases_Bool (is_numbered out.number o)) [
      | inl on ↦
          let same : Some o ≡ Some out = rw on at found in
          let is : o ≡ out = cc in
          both (is_one_of sets out o) _
          (rw on (both _ _ (eq-eqb o.request.line out.request.line (ap (λ x. x.request.line) is))
          (ap (λ x. beq x.granted out.granted) is ∙ same_bool out.granted)))
          (list_all-from (is_apart_from sets o) (is_one_of sets out) outs
          (λ other h. let at : is_apart_from sets out other ≡ true =
          ap (λ x. is_apart_from sets x other) (sym is) ∙ h in
          rw (apart_number sets out other at)
          (flipped (out.request.line % sets) (other.request.line % sets)
          (both_right (not (out.number == other.number)) _ at))) o_apart)
      | inr off ↦
          let rest : request_numbered out.number outs ≡ Some out = rw off at found in
          both (is_one_of sets out o) _
          (rw off (both_right (not (o.number == out.number)) _
          (list_all-found (is_apart_from sets o) (is_numbered out.number) outs out o_apart rest)))
          (own_and_others sets outs out others rest)
    ]

-- the others are apart from it
pub others_apart : (sets : ℕ) (outs : List OwnRequest) (out : OwnRequest) → are_requests_apart sets outs ≡ true
    → request_numbered out.number outs ≡ Some out
    → list_all (λ other. not ((other.request.line % sets) == (out.request.line % sets)))
    (requests_without out.number outs) ≡ true
others_apart sets [] out apart found = refl
others_apart sets (o ∷ outs) out apart found =
    let o_apart = both_left (list_all (is_apart_from sets o) outs) (are_requests_apart sets outs) apart in
    let others = both_right (list_all (is_apart_from sets o) outs) (are_requests_apart sets outs) apart in
    rw (without_first-cons (is_numbered out.number) o outs)
    (elim (cases_Bool (is_numbered out.number o)) [
      | inl on ↦
          let same : Some o ≡ Some out = rw on at found in
          let is : o ≡ out = cc in
          rw on (list_all-from (is_apart_from sets o)
          (λ other. not ((other.request.line % sets) == (out.request.line % sets))) outs
          (λ other h. let at : is_apart_from sets out other ≡ true =
          ap (λ x. is_apart_from sets x other) (sym is) ∙ h in
          flipped (out.request.line % sets) (other.request.line % sets)
          (both_right (not (out.number == other.number)) _ at)) o_apart)
      | inr off ↦
          let rest : request_numbered out.number outs ≡ Some out = rw off at found in
          rw off (both _ _
          (both_right (not (o.number == out.number)) _
          (list_all-found (is_apart_from sets o) (is_numbered out.number) outs out o_apart rest))
          (others_apart sets outs out others rest))
    ])

-- a grant leaves numbers and lines
pub apart-granted : (sets number : ℕ) (kept : Option (List ℕ)) (outs : List OwnRequest)
    → are_requests_apart sets outs ≡ true → are_requests_apart sets (requests_granted number kept outs) ≡ true
apart-granted sets number kept [] apart = refl
apart-granted sets number kept (o ∷ outs) apart =
    both _ _ (from_one o outs (both_left (list_all (is_apart_from sets o) outs) (are_requests_apart sets outs) apart))
    (apart-granted sets number kept outs
    (both_right (list_all (is_apart_from sets o) outs) (are_requests_apart sets outs) apart))
  where
    number-granted : (o : OwnRequest) → (with_grant number kept o).number ≡ o.number
    number-granted o = elim (cases_Bool (is_numbered number o)) [ inl on ↦ rw on refl | inr off ↦ rw off refl ]

    request-granted : (o : OwnRequest) → (with_grant number kept o).request ≡ o.request
    request-granted o = elim (cases_Bool (is_numbered number o)) [ inl on ↦ rw on refl | inr off ↦ rw off refl ]

    from_one : (o : OwnRequest) (outs : List OwnRequest) → list_all (is_apart_from sets o) outs ≡ true
        → list_all (is_apart_from sets (with_grant number kept o)) (requests_granted number kept outs) ≡ true
    from_one o [] apart = refl
    from_one o (later ∷ outs) apart =
        both _ _ (rw (number-granted o, request-granted o, number-granted later, request-granted later)
        (both_left (is_apart_from sets o later) _ apart))
        (from_one o outs (both_right (is_apart_from sets o later) _ apart))

-- and one more is granted
none_granted : (number : ℕ) (kept : Option (List ℕ)) (outs : List OwnRequest)
    → list_all (λ o. not (is_numbered number o)) outs ≡ true → requests_granted number kept outs ≡ outs
none_granted number kept [] none = refl
none_granted number kept (o ∷ outs) none =
    elim (cases_Bool (is_numbered number o)) [
      | inl on ↦ absurd (let never : false ≡ true = rw on at none in (let h : ⊥ = cc in h))
      | inr off ↦ rw off
          (ap (λ rest. o ∷ rest) (none_granted number kept outs (both_right (not (is_numbered number o)) _ none)))
    ]

pub granted_count-granted : (sets : ℕ) (kept : Option (List ℕ)) (outs : List OwnRequest) (out : OwnRequest)
    → are_requests_apart sets outs ≡ true → request_numbered out.number outs ≡ Some out → out.granted ≡ false
    → granted_count (requests_granted out.number kept outs) ≡ granted_count outs + 1
granted_count-granted sets kept [] out apart found new = absurd (let h : ⊥ = cc in h)
granted_count-granted sets kept (o ∷ outs) out apart found new =
    let o_apart = both_left (list_all (is_apart_from sets o) outs) (are_requests_apart sets outs) apart in
    let others = both_right (list_all (is_apart_from sets o) outs) (are_requests_apart sets outs) apart in
    elim (cases_Bool (is_numbered out.number o)) [
      | inl on ↦
          let same : Some o ≡ Some out = rw on at found in
          let is : o ≡ out = cc in
          let none : list_all (λ x. not (is_numbered out.number x)) outs ≡ true =
          list_all-from (is_apart_from sets o) (λ x. not (is_numbered out.number x)) outs
          (λ x h. ap not (apart_number sets out x (ap (λ y. is_apart_from sets y x) (sym is) ∙ h))) o_apart in
          let first : o.granted ≡ false = ap (λ y. y.granted) is ∙ new in
          rw (on, none_granted out.number kept outs none, first) (omega arith)
      | inr off ↦
          let rest : request_numbered out.number outs ≡ Some out = rw off at found in
          rw off (omega (arith, granted_count-granted sets kept outs out others rest new))
    ]

-- a new request behind the others
pub apart-push : (sets : ℕ) (outs : List OwnRequest) (out : OwnRequest) → are_requests_apart sets outs ≡ true
    → list_all (λ o. is_apart_from sets o out) outs ≡ true → are_requests_apart sets (outs ++ out ∷ []) ≡ true
apart-push sets [] out apart from = refl
apart-push sets (o ∷ outs) out apart from =
    both _ _
    (list_all-append (is_apart_from sets o) outs (out ∷ [])
    ∙ both _ _ (both_left (list_all (is_apart_from sets o) outs) (are_requests_apart sets outs) apart)
    (both (is_apart_from sets o out) true (both_left (is_apart_from sets o out) _ from) refl))
    (apart-push sets outs out
    (both_right (list_all (is_apart_from sets o) outs) (are_requests_apart sets outs) apart)
    (both_right (is_apart_from sets o out) _ from))

pub granted_count-push : (outs : List OwnRequest) (out : OwnRequest) → out.granted ≡ false
    → granted_count (outs ++ out ∷ []) ≡ granted_count outs
granted_count-push [] out new = rw new refl
granted_count-push (o ∷ outs) out new = ap (λ n. cond o.granted 1 0 + n) (granted_count-push outs out new)

pub granted_count-few : (outs : List OwnRequest) → granted_count outs ≤ length outs
granted_count-few [] = omega arith
granted_count-few (o ∷ outs) =
    elim (cases_Bool o.granted) [
      | inl on ↦ rw on (omega (arith, granted_count-few outs))
      | inr off ↦ rw off (omega (arith, granted_count-few outs))
    ]

-- fewer are granted than there are where one is not
pub granted_count-fewer : (number : ℕ) (outs : List OwnRequest) (out : OwnRequest)
    → request_numbered number outs ≡ Some out → out.granted ≡ false → granted_count outs < length outs
granted_count-fewer number [] out found new = absurd (let h : ⊥ = cc in h)
granted_count-fewer number (o ∷ outs) out found new =
    elim (cases_Bool (is_numbered number o)) [
      | inl on ↦
          let same : Some o ≡ Some out = rw on at found in
          let is : o ≡ out = cc in
          let first : o.granted ≡ false = ap (λ y. y.granted) is ∙ new in
          rw first (omega (arith, granted_count-few outs))
      | inr off ↦
          let rest = granted_count-fewer number outs out (rw off at found) new in
          elim (cases_Bool o.granted) [
            | inl is ↦ rw is (omega (arith, rest))
            | inr is_not ↦ rw is_not (omega (arith, rest))
          ]
    ]

-- each granted request has a fill, where there are as many: then no other line has one
pub no_fill : (sets : ℕ) (outs : List OwnRequest) (fills : List Fill) (line : ℕ)
    → are_requests_apart sets outs ≡ true
    → list_all (λ o. not o.granted || is_some (fill_on o.request.line fills)) outs ≡ true
    → list_all (λ o. not (o.request.line == line)) outs ≡ true → length fills ≤ granted_count outs
    → fill_on line fills ≡ None
no_fill sets [] [] line apart filled other few = refl
no_fill sets [] (f ∷ fills) line apart filled other few = absurd (omega arith)
no_fill sets (o ∷ outs) fills line apart filled other few =
    let o_apart = both_left (list_all (is_apart_from sets o) outs) (are_requests_apart sets outs) apart in
    let others = both_right (list_all (is_apart_from sets o) outs) (are_requests_apart sets outs) apart in
    let rest_filled = both_right (not o.granted || is_some (fill_on o.request.line fills)) _ filled in
    let rest_other = both_right (not (o.request.line == line)) _ other in
    elim (cases_Bool o.granted) [
      | inr not_yet ↦ no_fill sets outs fills line others rest_filled rest_other
          (let e : granted_count (o ∷ outs) ≡ granted_count outs = rw not_yet (omega arith) in omega (arith, e))
      | inl granted ↦
          let here : is_some (fill_on o.request.line fills) ≡ true =
          rw granted at (both_left (not o.granted || is_some (fill_on o.request.line fills)) _ filled) in
          let shorter : length (fills_without o.request.line fills) + 1 ≡ length fills =
          one_less o.request.line fills here in
          let e : granted_count (o ∷ outs) ≡ granted_count outs + 1 = rw granted (omega arith) in
          let still : list_all
          (λ x. not x.granted || is_some (fill_on x.request.line (fills_without o.request.line fills))) outs
          ≡ true =
          both_kept sets o fills outs o_apart rest_filled in
          let none = no_fill sets outs (fills_without o.request.line fills) line others still rest_other
          (omega (arith, shorter, e, few)) in
          let is_not : line ≢ o.request.line =
          λ same. absurd (let never : false ≡ true =
          rw (eq-eqb o.request.line line (sym same))
          at (both_left (not (o.request.line == line)) _ other) in (let h : ⊥ = cc in h)) in
          sym (fill_on-without line o.request.line fills is_not) ∙ none
    ]
  where
    one_less : (line : ℕ) (fills : List Fill) → is_some (fill_on line fills) ≡ true
        → length (fills_without line fills) + 1 ≡ length fills
    one_less line fills some = go (fill_on line fills) refl some
      where
        go : (found : Option Fill) → fill_on line fills ≡ found → is_some found ≡ true
            → length (fills_without line fills) + 1 ≡ length fills
        go None e never = absurd (let h : ⊥ = cc in h)
        go (Some fill) e is = length-without-found (is_fill_on line) fills fill e

    both_kept : (sets : ℕ) (o : OwnRequest) (fills : List Fill) (outs : List OwnRequest)
        → list_all (is_apart_from sets o) outs ≡ true
        → list_all (λ x. not x.granted || is_some (fill_on x.request.line fills)) outs ≡ true
        → list_all (λ x. not x.granted || is_some (fill_on x.request.line (fills_without o.request.line fills)))
        outs ≡ true
    both_kept sets o fills [] apart filled = refl
    both_kept sets o fills (x ∷ outs) apart filled =
        let at : not ((o.request.line % sets) == (x.request.line % sets)) ≡ true =
        both_right (not (o.number == x.number)) _ (both_left (is_apart_from sets o x) _ apart) in
        let is_not : x.request.line ≢ o.request.line =
        λ same. absurd (let never : false ≡ true =
        rw (eq-eqb (o.request.line % sets) (x.request.line % sets) (ap (λ l. l % sets) (sym same))) at at in
        (let h : ⊥ = cc in h)) in
        both _ _
        (rw (fill_on-without x.request.line o.request.line fills is_not)
        (both_left (not x.granted || is_some (fill_on x.request.line fills)) _ filled))
        (both_kept sets o fills outs (both_right (is_apart_from sets o x) _ apart)
        (both_right (not x.granted || is_some (fill_on x.request.line fills)) _ filled))
