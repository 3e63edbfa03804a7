-- What `decoded` is, by the steps in which two clocks are read.
use Rattle.std.proofs.Common.{◌≡◌, ℕ, Bool, true, false, ◌&&◌, ◌||◌, cond, List, [], ◌∷◌, Option, Some, None, Result}
use Rattle.std.proofs.Common.{Ok, Err, refl, sym, ap, ◌∙◌}
use Rattle.std.specs.Prelude.{is_some}
use Rattle.std.specs.List.{find, list_any}
use Rattle.std.specs.Option.{option_map, ok_or}
use Rattle.fsb_encode.specs.declared.request.Kind.{Kind}
use Rattle.fsb_encode.specs.declared.request.Request.{Request}
use Rattle.fsb_encode.specs.declared.request.Pair.{Pair}
use Rattle.fsb_encode.specs.declared.decoding.DecodeFault.{DecodeFault}
use Rattle.fsb_encode.specs.declared.decoding.DecodeFault.TheVariants.{BadCode, BadLen, BadField}
use Rattle.fsb_encode.specs.Decoded.{req_words, is_code, kind_of, read_off, is_coded_as, if_coded_as, request_of}
use Rattle.fsb_encode.specs.Decoded.{decoded}

-- what passes two tests is among what passes the first
find-any : {X : Type 0} (p q : X → Bool) (xs : List X) → is_some (find (λ x. p x && q x) xs) ≡ true
    → list_any p xs ≡ true
find-any p q [] h = h
find-any p q (x ∷ xs) h =
    elim (p x) as (λ b. is_some (cond (b && q x) (Some x) (find (λ y. p y && q y) xs)) ≡ true
    → (b || list_any p xs) ≡ true)
    [ true ↦ λ _. refl | false ↦ λ found. find-any p q xs found ] h

pub is_some-option_map : {X Y : Type 0} (f : X → Y) (o : Option X) → is_some (option_map f o) ≡ is_some o
is_some-option_map f None = refl
is_some-option_map f (Some x) = refl

-- the kind of two REQ words has the first of them as a code
pub kind_of-code : (first second : ℕ) → is_some (kind_of first second) ≡ true → is_code first ≡ true
unfolding kind_of is_code
kind_of-code first second h = find-any _ _ req_words (sym (is_some-option_map _ _) ∙ h)

-- two clocks whose REQ words are those of no kind
pub decoded-none : (a b : Pair) (fault : DecodeFault) → kind_of a.req b.req ≡ None
    → (is_code a.req ≡ false → fault ≡ BadCode a.req) → (is_code a.req ≡ true → fault ≡ BadLen b.req)
    → Err fault ≡ decoded a b
unfolding decoded
decoded-none a b fault none code len =
    let R : Type 0 = Result Request DecodeFault in
    let len_fault : R = Err (BadLen b.req) in
    let code_fault : R = Err (BadCode a.req) in
    let wanted : R = Err fault in
    rw none
    (elim (is_code a.req) as (λ t. (t ≡ false → fault ≡ BadCode a.req) → (t ≡ true → fault ≡ BadLen b.req)
    → wanted ≡ cond t len_fault code_fault)
    [ true ↦ λ _ l. ap (λ f. Err f) (l refl) | false ↦ λ k _. ap (λ f. Err f) (k refl) ] code len)

-- two clocks whose REQ words are those of a kind
pub decoded-some : (a b : Pair) (kind : Kind) → kind_of a.req b.req ≡ Some kind
    → decoded a b ≡ ok_or (if_coded_as (read_off kind a b) a b) BadField
unfolding decoded request_of
decoded-some a b kind found =
    let code : is_code a.req ≡ true = kind_of-code a.req b.req (ap is_some found) in
    rw (code, found) refl

-- they hold the request that is read off, where it stands on them
pub decoded-coded : (a b : Pair) (kind : Kind) (r : Request) → kind_of a.req b.req ≡ Some kind
    → r ≡ read_off kind a b → is_coded_as r a b ≡ true → Ok r ≡ decoded a b
unfolding if_coded_as
decoded-coded a b kind r found read coded = rw (decoded-some a b kind found, sym read, coded) refl

-- and none where it does not
pub decoded-uncoded : (a b : Pair) (kind : Kind) (r : Request) → kind_of a.req b.req ≡ Some kind
    → r ≡ read_off kind a b → is_coded_as r a b ≡ false → Err BadField ≡ decoded a b
unfolding if_coded_as
decoded-uncoded a b kind r found read uncoded = rw (decoded-some a b kind found, sym read, uncoded) refl
