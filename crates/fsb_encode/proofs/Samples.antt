-- A lawful request for each row of REQ words, so that the table of words has those of lawful requests and no others.
use Rattle.std.proofs.Common.{◌≡◌, ℕ, ◌^◌, Bool, true, false, ◌&&◌, cond, nat_eq, List, [], ◌∷◌, map, Option, Some}
use Rattle.std.proofs.Common.{refl, sym, ap, ◌∙◌, subst, inl, inr, rules}
use Rattle.std.specs.Prelude.{is_some}
use Rattle.std.specs.List.{find, list_any, list_all}
use Rattle.std.proofs.lemmas.Bool.{and_parts, cases_Bool, eqb-true, or_cases}
use Rattle.fsb_encode.specs.declared.request.Kind.{Kind}
use Rattle.fsb_encode.specs.declared.request.Kind.TheVariants.{Reply, Invalidate, Read, WriteBack, Upgrade}
use Rattle.fsb_encode.specs.declared.request.Request.{Request}
use Rattle.fsb_encode.specs.Request.{are_lawful_fields, is_lawful_request, high_bit, clocks, row_of, pairs_of}
use Rattle.fsb_encode.specs.Decoded.{req_words, is_code, kind_of, IsCode, IsKind, IsCodedAs}
use Rattle.fsb_encode.proofs.CodedRequests.{kind_of-coded}
use Rattle.fsb_encode.proofs.DecodedSteps.{kind_of-code, is_some-option_map}

-- the request of this kind for a line, with nothing else
sample : Kind → ℕ → Request
sample kind line = record { kind = kind; line = line; chunk = 0; did = 0; den = false }

samples : List Request
samples =
    sample Reply 0 ∷ sample Invalidate 0 ∷ sample Invalidate (2 ^ 27) ∷ sample Read 0 ∷ sample Read (2 ^ 27)
    ∷ sample WriteBack 0 ∷ sample WriteBack (2 ^ 27) ∷ sample Upgrade 0 ∷ sample Upgrade (2 ^ 27) ∷ []

words_of : Request → ℕ × ℕ × Kind
words_of r = ((pairs_of r).0.req, (pairs_of r).1.req, r.kind)

req_words-samples : req_words ≡ map words_of samples
unfolding req_words samples sample words_of pairs_of row_of clocks high_bit
req_words-samples = refl

samples_lawful : list_all is_lawful_request samples ≡ true
unfolding samples sample is_lawful_request are_lawful_fields
samples_lawful = refl

code_among : (first : ℕ) (rs : List Request) → list_all is_lawful_request rs ≡ true
    → list_any (λ row. nat_eq row.0 first) (map words_of rs) ≡ true → IsCode first
unfolding words_of
code_among first [] lawful h = absurd (cc h)
code_among first (r ∷ rs) lawful h =
    let parts = and_parts (is_lawful_request r) (list_all is_lawful_request rs) lawful in
    elim (or_cases (nat_eq (pairs_of r).0.req first) (list_any (λ row. nat_eq row.0 first) (map words_of rs)) h) [
      | inl here ↦ record { request = r; lawful = search (rules, parts.0); first_req = eqb-true _ _ here }
      | inr later ↦ code_among first rs parts.1 later
    ]

kind_among : (first second : ℕ) (rs : List Request) → list_all is_lawful_request rs ≡ true
    → is_some (find (λ row. nat_eq row.0 first && nat_eq row.1 second) (map words_of rs)) ≡ true → IsKind first second
unfolding words_of
kind_among first second [] lawful h = absurd (cc h)
kind_among first second (r ∷ rs) lawful h =
    let parts = and_parts (is_lawful_request r) (list_all is_lawful_request rs) lawful in
    let here : Bool = nat_eq (pairs_of r).0.req first && nat_eq (pairs_of r).1.req second in
    let later : Option (ℕ × ℕ × Kind) = find (λ row. nat_eq row.0 first && nat_eq row.1 second) (map words_of rs) in
    elim (cases_Bool here) [
      | inl is_here ↦
          let both = and_parts _ _ is_here in
          record {
            request = r;
            lawful = search (rules, parts.0);
            first_req = eqb-true _ _ both.0;
            second_req = eqb-true _ _ both.1;
          }
      | inr not_here ↦
          kind_among first second rs parts.1 (subst (λ t. is_some (cond t (Some (words_of r)) later) ≡ true) not_here h)
    ]

-- a code is the first REQ word of some lawful request
pub code_from_test : (first : ℕ) → is_code first ≡ true → IsCode first
unfolding is_code
code_from_test first h =
    code_among first samples samples_lawful
    (subst (λ (rows : List (ℕ × ℕ × Kind)). list_any (λ row. nat_eq row.0 first) rows ≡ true) req_words-samples h)

-- and the REQ words of a kind are those of some lawful request
pub kind_from_test : (first second : ℕ) → is_some (kind_of first second) ≡ true → IsKind first second
unfolding kind_of
kind_from_test first second h =
    kind_among first second samples samples_lawful
    (subst (λ (rows : List (ℕ × ℕ × Kind)). is_some
    (find (λ row. nat_eq row.0 first && nat_eq row.1 second) rows) ≡ true) req_words-samples
    (sym (is_some-option_map _ _) ∙ h))

-- the other way round
pub test_from_kind : (first second : ℕ) → IsKind first second → is_some (kind_of first second) ≡ true
test_from_kind first second h =
    let pairs = pairs_of h.request in
    let coded : IsCodedAs h.request pairs.0 pairs.1 = record { lawful = h.lawful; clocks = refl } in
    let found = kind_of-coded h.request pairs.0 pairs.1 coded in
    subst (λ f. is_some (kind_of f second) ≡ true) h.first_req
    (subst (λ s. is_some (kind_of pairs.0.req s) ≡ true) h.second_req (ap is_some found))

pub test_from_code : (first : ℕ) → IsCode first → is_code first ≡ true
test_from_code first h =
    let pairs = pairs_of h.request in
    let kind : IsKind first pairs.1.req =
    record { request = h.request; lawful = h.lawful; first_req = h.first_req; second_req = refl } in
    kind_of-code first pairs.1.req (test_from_kind first pairs.1.req kind)
