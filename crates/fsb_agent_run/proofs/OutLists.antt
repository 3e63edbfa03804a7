-- The requests of a view, as its agent's run knows them: without one, and with one granted.
use Rattle.fsb_agent_run.proofs.Words
use Words.{ℕ, ◌≡◌, ◌≢◌, ◌⊎◌, true, false, not, List, [], ◌∷◌, map, Option, Some, is_some, nat_eq, refl, sym, ap, subst}
use Words.{◌∙◌, inl, inr, arith, filter, list_all, and_parts, both_ways, cases_Bool, eq-eqb, eqb-true}
use Words.{false_from_ne_true, ne_eqb, Owing, Past, want_of, OwnRequest, AgentView, is_numbered, request_numbered}
use Words.{requests_granted, requests_without, without_first-cons, are_owings_apart, is_owing_apart, HasRequestsOf}
use Words.{is_won_below, owing_by}
use Rattle.fsb_agent_run.proofs.Among.{Among, all-among, among-get, among-map, filter-all, found-among, get-among}
use Rattle.fsb_agent_run.proofs.Among.{map-among}

-- what is said of each request of a view
pub wanted-of : (p : Past) (a n : ℕ) (owings : List Owing) (v : AgentView) (out : OwnRequest)
    → HasRequestsOf p a n owings v
    → Among out v.outs → want_of p a out.number ≡ Some out.request
wanted-of p a n owings v out h k = let at = among-get out v.outs k in h.wanted at.0 out at.1

pub kept-of : (p : Past) (a n : ℕ) (owings : List Owing) (v : AgentView) (out : OwnRequest)
    → HasRequestsOf p a n owings v
    → Among out v.outs → is_some out.kept ≡ is_won_below p n out.number
kept-of p a n owings v out h k = let at = among-get out v.outs k in h.kept at.0 out at.1

pub requests-from : (p : Past) (a n : ℕ) (owings : List Owing) (v : AgentView) → map (owing_by a) v.outs ≡ owings
    → ((out : OwnRequest) → Among out v.outs → want_of p a out.number ≡ Some out.request)
    → ((out : OwnRequest) → Among out v.outs → is_some out.kept ≡ is_won_below p n out.number)
    → HasRequestsOf p a n owings v
requests-from p a n owings v owed wanted kept = grind (arith, get-among)

-- a request of the run is one of the view
pub out-there : (p : Past) (a n : ℕ) (owings : List Owing) (v : AgentView) (owing : Owing)
    → HasRequestsOf p a n owings v
    → Among owing owings → (out : OwnRequest) × Among out v.outs × (owing_by a out ≡ owing)
out-there p a n owings v owing h k = map-among (owing_by a) owing v.outs (subst (Among owing) (sym h.owed) k)

pub owing-there : (p : Past) (a n : ℕ) (owings : List Owing) (v : AgentView) (out : OwnRequest)
    → HasRequestsOf p a n owings v
    → Among out v.outs → Among (owing_by a out) owings
owing-there p a n owings v out h k = subst (Among (owing_by a out)) h.owed (among-map (owing_by a) out v.outs k)

-- requests that are apart have different numbers
numbers-apart : (p : Past) (a : ℕ) (x y : OwnRequest) → is_owing_apart p (owing_by a x) (owing_by a y) ≡ true
    → nat_eq x.number y.number ≡ false
unfolding is_owing_apart
numbers-apart p a x y t = false_from_ne_true (nat_eq x.number y.number) (λ e. let t' = rw e at t in cc)

-- without the one of a number
pub map-without : (p : Past) (a number : ℕ) (outs : List OwnRequest) → are_owings_apart p (map (owing_by a) outs) ≡ true
    → map (owing_by a) (requests_without number outs)
    ≡ filter (λ owing. not (nat_eq owing.claim.first number)) (map (owing_by a) outs)
unfolding are_owings_apart
map-without p a number [] h = refl
map-without p a number (out ∷ outs) h =
    let owings = map (owing_by a) outs in
    let parts = and_parts (list_all (is_owing_apart p (owing_by a out)) owings) (are_owings_apart p owings) h in
    rw (without_first-cons (is_numbered number) out outs)
    (elim (cases_Bool (nat_eq out.number number)) [
      | inl on ↦
          rw on
          (sym (filter-all (λ owing. not (nat_eq owing.claim.first number)) owings (λ owing k.
          let there = map-among (owing_by a) owing outs k in
          let apart = numbers-apart p a out there.0
          (subst (λ o. is_owing_apart p (owing_by a out) o ≡ true) (sym there.2)
          (all-among (is_owing_apart p (owing_by a out)) owing owings parts.0 k)) in
          let first : there.0.number ≡ owing.claim.first = ap (λ (o : Owing). o.claim.first) there.2 in
          ap not (ne_eqb owing.claim.first number (λ e.
          both_ways (nat_eq out.number there.0.number) apart
          (eq-eqb out.number there.0.number (eqb-true out.number number on ∙ sym e ∙ sym first)))))))
      | inr off ↦ rw off (ap (λ xs. owing_by a out ∷ xs) (map-without p a number outs parts.1))
    ])

pub among-without : (number : ℕ) (out : OwnRequest) (outs : List OwnRequest) → Among out (requests_without number outs)
    → Among out outs
among-without number out [] k = absurd k
among-without number out (x ∷ outs) k = grind (arith, among-without number out outs)

-- the one of a number
pub find-number : (p : Past) (a : ℕ) (out : OwnRequest) (outs : List OwnRequest)
    → are_owings_apart p (map (owing_by a) outs) ≡ true → Among out outs → request_numbered out.number outs ≡ Some out
unfolding are_owings_apart
find-number p a out [] h k = absurd k
find-number p a out (x ∷ outs) h (inl e) = grind arith
find-number p a out (x ∷ outs) h (inr k) =
    grind (arith, numbers-apart, all-among, among-map, find-number p a out outs)

pub numbered-among : (number : ℕ) (out : OwnRequest) (outs : List OwnRequest) → request_numbered number outs ≡ Some out
    → Among out outs × (out.number ≡ number)
numbered-among number out outs e =
    let k = found-among (is_numbered number) out outs e in (k.0, eqb-true out.number number k.1)

pub map-granted : (a number : ℕ) (kept : Option (List ℕ)) (outs : List OwnRequest)
    → map (owing_by a) (requests_granted number kept outs) ≡ map (owing_by a) outs
map-granted a number kept [] = refl
map-granted a number kept (out ∷ outs) = grind (arith, map-granted a number kept outs)

-- a request of the list with one granted: it is that one, and keeps what is given it, or another one as it was
pub record IsGrantedAs (number : ℕ) (kept : Option (List ℕ)) (out after : OwnRequest) : Type 0 where
  pub number_same : after.number ≡ out.number
  pub request_same : after.request ≡ out.request
  pub how : ((out.number ≡ number) × (after.kept ≡ kept)) ⊎ ((out.number ≢ number) × (after.kept ≡ out.kept))

pub among-granted : (number : ℕ) (kept : Option (List ℕ)) (after : OwnRequest) (outs : List OwnRequest)
    → Among after (requests_granted number kept outs)
    → (out : OwnRequest) × Among out outs × IsGrantedAs number kept out after
among-granted number kept after outs k = grind (arith, map-among)
