-- What `decoded` means: a request exactly where two clocks are those of a lawful one, and each fault exactly.
use Rattle.std.proofs.Common.{◌≡◌, ◌↔◌, ℕ, true, false, Option, Some, None, Result, Ok, Err, refl, sym, ap, ◌∙◌, inl}
use Rattle.std.proofs.Common.{inr}
use Rattle.std.specs.Prelude.{is_some}
use Rattle.std.specs.Option.{option_and_then, ok_or}
use Rattle.std.specs.Result.{result_ok}
use Rattle.std.proofs.lemmas.Bool.{cases_Bool, both_ways, false_from_ne_true}
use Rattle.fsb_encode.specs.declared.request.Request.{Request}
use Rattle.fsb_encode.specs.declared.request.Pair.{Pair}
use Rattle.fsb_encode.specs.declared.decoding.DecodeFault.{DecodeFault}
use Rattle.fsb_encode.specs.declared.decoding.DecodeFault.TheVariants.{BadCode, BadLen, BadField}
use Rattle.fsb_encode.specs.Decoded.{is_code, kind_of, read_off, if_coded_as, request_of, decoded, IsCode, IsKind}
use Rattle.fsb_encode.specs.Decoded.{IsCodedAs}
use Rattle.fsb_encode.proofs.CodedRequests.{kind_of-coded, read_off-coded, test_from_coded, coded_from_request_of}
use Rattle.fsb_encode.proofs.CodedRequests.{request_of_coded}
use Rattle.fsb_encode.proofs.DecodedSteps.{kind_of-code, decoded-coded}
use Rattle.fsb_encode.proofs.Samples.{code_from_test, kind_from_test, test_from_code, test_from_kind}

-- the three ways to read two clocks
data Reading (a b : Pair) : Type 0 where
  no_code : is_code a.req ≡ false → is_some (kind_of a.req b.req) ≡ false → decoded a b ≡ Err (BadCode a.req)
      → Reading a b
  no_kind : is_code a.req ≡ true → is_some (kind_of a.req b.req) ≡ false → decoded a b ≡ Err (BadLen b.req)
      → Reading a b
  of_kind : is_code a.req ≡ true → is_some (kind_of a.req b.req) ≡ true
      → decoded a b ≡ ok_or (request_of a b) BadField → Reading a b

reading : (a b : Pair) → Reading a b
unfolding decoded
reading a b =
    elim (cases_Bool (is_code a.req)) [
      | inr code ↦
          let none : is_some (kind_of a.req b.req) ≡ false =
          false_from_ne_true (is_some (kind_of a.req b.req))
          (λ kind. both_ways (is_code a.req) code (kind_of-code a.req b.req kind)) in
          no_code code none (rw code refl)
      | inl code ↦ elim (cases_Bool (is_some (kind_of a.req b.req)))
          [ inl kind ↦ of_kind code kind (rw (code, kind) refl) | inr kind ↦ no_kind code kind (rw (code, kind) refl) ]
    ]

request_of-none : (a b : Pair) → is_some (kind_of a.req b.req) ≡ false → request_of a b ≡ None
unfolding request_of
request_of-none a b h =
    elim (kind_of a.req b.req) as (λ o. is_some o ≡ false
    → option_and_then (λ kind. if_coded_as (read_off kind a b) a b) o ≡ None)
    [ None ↦ λ _. refl | Some kind ↦ λ e. absurd (cc e) ] h

result_ok-ok_or : (o : Option Request) (fault : DecodeFault) → result_ok (ok_or o fault) ≡ o
result_ok-ok_or None fault = refl
result_ok-ok_or (Some r) fault = refl

-- the request of two clocks is in the answer
pub result_ok-decoded : (a b : Pair) → result_ok (decoded a b) ≡ request_of a b
result_ok-decoded a b =
    elim (reading a b) [
      | no_code code kind e ↦ rw (e, request_of-none a b kind) refl
      | no_kind code kind e ↦ rw (e, request_of-none a b kind) refl
      | of_kind code kind e ↦ rw (e, result_ok-ok_or (request_of a b) BadField) refl
    ]

-- a request exactly where it is lawful and these are its clocks
pub decoded-ok : (a b : Pair) (r : Request) → (decoded a b ≡ Ok r) ↔ IsCodedAs r a b
decoded-ok a b r = (
  λ e. coded_from_request_of r a b (sym (result_ok-decoded a b) ∙ ap result_ok e),
  λ coded. sym (decoded-coded a b r.kind r (kind_of-coded r a b coded) (sym (read_off-coded r a b coded))
      (test_from_coded r a b coded)),
)

-- what `ok_or` answers is no fault of a REQ word
ok_or_code : (o : Option Request) (v : ℕ) → ok_or o BadField ≡ Err (BadCode v) → ⊥
ok_or_code None v e = cc
ok_or_code (Some r) v e = cc

ok_or_len : (o : Option Request) (v : ℕ) → ok_or o BadField ≡ Err (BadLen v) → ⊥
ok_or_len None v e = cc
ok_or_len (Some r) v e = cc

ok_or_field : (o : Option Request) → ok_or o BadField ≡ Err BadField → o ≡ None
ok_or_field None e = refl
ok_or_field (Some r) e = absurd (cc e)

-- no code exactly where no lawful request has the first REQ word
pub decoded-bad_code : (a b : Pair) (v : ℕ) → (decoded a b ≡ Err (BadCode v)) ↔ ((v ≡ a.req) × ¬ IsCode a.req)
decoded-bad_code a b v =
    let R : Type 0 = Result Request DecodeFault in
    elim (reading a b) [
      | no_code code kind e ↦ (
        λ h. (cc, λ is. both_ways (is_code a.req) code (test_from_code a.req is)),
        λ h. e ∙ ap (λ n. let w : R = Err (BadCode n) in w) (sym h.0),
      )
      | no_kind code kind e ↦ (λ h. absurd (cc (e, h)), λ h. absurd (h.1 (code_from_test a.req code)))
      | of_kind code kind e ↦
          (λ h. absurd (ok_or_code (request_of a b) v (sym e ∙ h)), λ h. absurd (h.1 (code_from_test a.req code)))
    ]

-- no length exactly where some lawful request has the first REQ word, and none of these the second
pub decoded-bad_len : (a b : Pair) (v : ℕ)
    → (decoded a b ≡ Err (BadLen v)) ↔ ((v ≡ b.req) × IsCode a.req × ¬ IsKind a.req b.req)
decoded-bad_len a b v =
    let R : Type 0 = Result Request DecodeFault in
    elim (reading a b) [
      | no_code code kind e ↦
          (λ h. absurd (cc (e, h)), λ h. absurd (both_ways (is_code a.req) code (test_from_code a.req h.1)))
      | no_kind code kind e ↦ (
        λ h. (
          cc,
          code_from_test a.req code,
          λ is. both_ways (is_some (kind_of a.req b.req)) kind (test_from_kind a.req b.req is),
        ),
        λ h. e ∙ ap (λ n. let w : R = Err (BadLen n) in w) (sym h.0),
      )
      | of_kind code kind e ↦
          (λ h. absurd (ok_or_len (request_of a b) v (sym e ∙ h)), λ h. absurd (h.2 (kind_from_test a.req b.req kind)))
    ]

-- a bad field exactly where some lawful request has the REQ words, and none the two clocks
pub decoded-bad_field : (a b : Pair)
    → (decoded a b ≡ Err BadField) ↔ (IsKind a.req b.req × ((r : Request) → ¬ IsCodedAs r a b))
decoded-bad_field a b =
    elim (reading a b) [
      | no_code code kind e ↦ (
        λ h. absurd (cc (e, h)),
        λ h. absurd (both_ways (is_some (kind_of a.req b.req)) kind (test_from_kind a.req b.req h.0)),
      )
      | no_kind code kind e ↦ (
        λ h. absurd (cc (e, h)),
        λ h. absurd (both_ways (is_some (kind_of a.req b.req)) kind (test_from_kind a.req b.req h.0)),
      )
      | of_kind code kind e ↦ (
        λ h. (
          kind_from_test a.req b.req kind,
          λ r coded. none_is_some (request_of a b) r (ok_or_field (request_of a b) (sym e ∙ h))
              (request_of_coded r a b coded),
        ),
        λ h. e ∙ field_from_none (request_of a b) (λ r found. h.1 r (coded_from_request_of r a b found)),
      )
    ]
  where
    none_is_some : (o : Option Request) (r : Request) → o ≡ None → o ≡ Some r → ⊥
    none_is_some o r e f = cc

    field_from_none : (o : Option Request) → ((r : Request) → o ≡ Some r → ⊥) → ok_or o BadField ≡ Err BadField
    field_from_none None h = refl
    field_from_none (Some r) h = absurd (h r refl)

-- all that the answer to two clocks means
pub answer : (a b : Pair) (given : Result Request DecodeFault) → given ≡ decoded a b →
    record {
      value : given ≡ decoded a b;
      request : result_ok given ≡ request_of a b;
      ok : (r : Request) → (given ≡ Ok r) ↔ IsCodedAs r a b;
      bad_code : (v : ℕ) → (given ≡ Err (BadCode v)) ↔ ((v ≡ a.req) × ¬ IsCode a.req);
      bad_len : (v : ℕ) → (given ≡ Err (BadLen v)) ↔ ((v ≡ b.req) × IsCode a.req × ¬ IsKind a.req b.req);
      bad_field : (given ≡ Err BadField) ↔ (IsKind a.req b.req × ((r : Request) → ¬ IsCodedAs r a b));
    }
answer a b given e =
    record {
      value = e;
      request = ap result_ok e ∙ result_ok-decoded a b;
      ok = λ r. rw e (decoded-ok a b r);
      bad_code = λ v. rw e (decoded-bad_code a b v);
      bad_len = λ v. rw e (decoded-bad_len a b v);
      bad_field = rw e (decoded-bad_field a b);
    }
